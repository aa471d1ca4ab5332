-- Contents by rising numbers, put into a message one after the other.
use Rattle.std.proofs.Common.{◌≡◌, ◌≢◌, ℕ, pos, zero, suc, ◌<◌, ◌≤◌, List, [], ◌∷◌, ◌++◌, length, filter, flat_map, get_or, nat_eq, nat_lt, Bool, true, false, true≢false, cond, not, Some, ⊎_elim, refl, ap, ap₂, sym, subst, ◌∙◌, arith, eq-eqb, ne_eqb, lt-ltb, le-ltb, rules}
use Rattle.std.specs.List.{AllByRecursion}
use Rattle.std.specs.List.Sorted.{IsNonDecreasingBy, IsStableByKey, ties}
use Rattle.std.specs.Ordering.{is_lt, nat_cmp}
use Rattle.std.specs.Cmp.{nat_cmp_is}
use Rattle.std.specs.declared.cmp.Ordering.TheVariants.{Less, Equal, Greater}
use Rattle.std.proofs.lemmas.List.{append-nil}
use Rattle.std.proofs.lemmas.Bool.{cases_eq, eqb-true, ltb-true, ltb-false}
use Rattle.pg_schema.specs.declared.parts.field.TypeId.{TypeId}
use Rattle.pg_schema.specs.declared.parts.Parts.{Parts}
use Rattle.pg_schema.specs.Parts.{shape_of}
use Rattle.pg_schema.specs.Invariant.{IsSchema}
use Rattle.pg_schema.specs.Shape.{FieldShape, fields, field_at}
use Rattle.pg_dyn.specs.declared.message.Content.{Content}
use Rattle.pg_dyn.specs.declared.message.Content.TheVariants as contents
use Rattle.pg_dyn.specs.declared.message.Value.TheVariants as values
use Rattle.pg_dyn.specs.message.Message.{Part, is_of}
use Rattle.pg_dyn.specs.message.Kept.{Kept, type_of, ends}
use Rattle.pg_dyn.specs.message.KeptParts.{KeptItem, parts_of, unknown_of, of_number}
use Rattle.pg_dyn.specs.message.Seen.{content_seen, Rises}
use Rattle.pg_dyn.specs.fitting.Fits.{Fits}
use Rattle.pg_dyn.specs.message.Replacing.{with_parts, is_sibling_number, without_siblings}
use Rattle.pg_dyn.specs.fitting.ContentFits.{AreApart, NoneSiblings}
use Rattle.pg_dyn.specs.setting.ContentFaults.{PassTwice}
use Rattle.pg_dyn.specs.setting.Setting.{normalized, normalized_parts, IsWhole}
use Rattle.pg_dyn.specs.inner.Reported.{TakesContent}
use Rattle.pg_dyn.proofs.Lists.{each_both, each_weaker, filter-append', filter_alike, filter_all, filter_none, flat_map-append'}
use Rattle.pg_dyn.proofs.lemmas.message.KeptParts.{each_from_index}
use Rattle.pg_dyn.proofs.lemmas.reading.TypeFields.{rising}
use Rattle.pg_dyn.proofs.lemmas.setting.PutLaws.{no_self_sibling, siblings_back, normalized_number}
use Rattle.pg_dyn.proofs.lemmas.message.ReplacingLaws.{parts_of-kept_onto, unknown_of-kept_onto, type_of-with_parts, kept_whole}
use Rattle.pg_dyn.proofs.lemmas.reading.Standing.{StandsIn, all_in, passes_once}
use Rattle.pg_dyn.proofs.lemmas.setting.WithoutSiblings.{sibling_found}

-- A test after another.

module _ {A : Type 0} (t u : A → Bool) where
  filter_within : ((x : A) → t x ≡ true → u x ≡ true) → (xs : List A) → filter t (filter u xs) ≡ filter t xs
  filter_within h [] = refl
  filter_within h (x ∷ xs) = search (rules, filter_within h xs, true≢false)

  filter_apart : ((x : A) → t x ≡ true → u x ≡ false) → (xs : List A) → filter t (filter u xs) ≡ []
  filter_apart h [] = refl
  filter_apart h (x ∷ xs) = search (rules, filter_apart h xs, true≢false)

-- What is under each number, with other parts under one of them.

parts_with : (n : ℕ) (ps : List (Part KeptItem)) (m : Kept)
    → parts_of (with_parts n ps m) ≡ filter (λ (p : Part KeptItem). nat_lt p.number n) (parts_of m) ++ (ps ++ filter (λ (p : Part KeptItem). nat_lt n p.number) (parts_of m))
parts_with n ps m = search (rules, parts_of-kept_onto, append-nil)

unknown_with : (n : ℕ) (ps : List (Part KeptItem)) (m : Kept) → unknown_of (with_parts n ps m) ≡ unknown_of m
unknown_with n ps m = unknown_of-kept_onto (filter (λ (p : Part KeptItem). nat_lt p.number n) (parts_of m) ++ (ps ++ filter (λ (p : Part KeptItem). nat_lt n p.number) (parts_of m))) (ends (type_of m) (unknown_of m))

three : (t : Part KeptItem → Bool) (xs ys zs : List (Part KeptItem)) → filter t (xs ++ (ys ++ zs)) ≡ filter t xs ++ (filter t ys ++ filter t zs)
three t xs ys zs = filter-append' t xs (ys ++ zs) ∙ ap (λ qs. filter t xs ++ qs) (filter-append' t ys zs)

module _ (n : ℕ) (ps : List (Part KeptItem)) (own : AllByRecursion (λ (p : Part KeptItem). p.number ≡ n) ps) (m : Kept) where
  abbrev low : List (Part KeptItem)
  low = filter (λ (p : Part KeptItem). nat_lt p.number n) (parts_of m)

  abbrev high : List (Part KeptItem)
  high = filter (λ (p : Part KeptItem). nat_lt n p.number) (parts_of m)

  pub under_own : of_number n (with_parts n ps m) ≡ ps
  under_own =
      ap (filter (is_of n)) (parts_with n ps m) ∙ three (is_of n) low ps high
      ∙ ap₂ (λ xs ys. xs ++ ys) (filter_apart (is_of n) (λ (p : Part KeptItem). nat_lt p.number n) (λ p e. let same = eqb-true p.number n e in le-ltb p.number n (omega arith)) (parts_of m))
      (ap₂ (λ xs ys. xs ++ ys) (filter_all (is_of n) ps (each_weaker (λ (p : Part KeptItem). p.number ≡ n) (λ (p : Part KeptItem). is_of n p ≡ true) (λ p e. eq-eqb p.number n e) ps own))
      (filter_apart (is_of n) (λ (p : Part KeptItem). nat_lt n p.number) (λ p e. let same = eqb-true p.number n e in le-ltb n p.number (omega arith)) (parts_of m)))
      ∙ append-nil ps

  none_of : (j : ℕ) → j ≢ n → filter (is_of j) ps ≡ []
  none_of j apart = filter_none (is_of j) ps (each_weaker (λ (p : Part KeptItem). p.number ≡ n) (λ (p : Part KeptItem). is_of j p ≡ false) (λ p e. ne_eqb p.number j (λ k. apart (sym k ∙ e))) ps own)

  pub under_other : (j : ℕ) → j ≢ n → of_number j (with_parts n ps m) ≡ of_number j m
  under_other j apart =
      ap (filter (is_of j)) (parts_with n ps m) ∙ three (is_of j) low ps high ∙ ap (λ ys. filter (is_of j) low ++ (ys ++ filter (is_of j) high)) (none_of j apart)
      ∙ of (nat_lt j n) refl
    where
      below : j < n → filter (is_of j) low ++ filter (is_of j) high ≡ of_number j m
      below lt =
          ap₂ (λ xs ys. xs ++ ys) (filter_within (is_of j) (λ (p : Part KeptItem). nat_lt p.number n) (λ p e. let same = eqb-true p.number j e in lt-ltb p.number n (omega arith)) (parts_of m))
          (filter_apart (is_of j) (λ (p : Part KeptItem). nat_lt n p.number) (λ p e. let same = eqb-true p.number j e in le-ltb n p.number (omega arith)) (parts_of m))
          ∙ append-nil _

      above : n < j → filter (is_of j) low ++ filter (is_of j) high ≡ of_number j m
      above lt =
          ap₂ (λ xs ys. xs ++ ys) (filter_apart (is_of j) (λ (p : Part KeptItem). nat_lt p.number n) (λ p e. let same = eqb-true p.number j e in le-ltb p.number n (omega arith)) (parts_of m))
          (filter_within (is_of j) (λ (p : Part KeptItem). nat_lt n p.number) (λ p e. let same = eqb-true p.number j e in lt-ltb n p.number (omega arith)) (parts_of m))

      of : (b : Bool) → nat_lt j n ≡ b → filter (is_of j) low ++ filter (is_of j) high ≡ of_number j m
      of true e = below (ltb-true j n e)
      of false e = above (let le : n ≤ j = ltb-false j n e in omega (arith, apart))

-- One content more.

abbrev pub of_field : ℕ → ℕ × Content → Bool
of_field number c = nat_eq c.0 number

module _ (parts : Parts) (type : TypeId) where
  abbrev fs : List FieldShape
  fs = fields (shape_of parts) type

  abbrev under : ℕ → List (ℕ × Content) → List (Part KeptItem)
  under number cs = flat_map (normalized_parts fs) (filter (of_field number) cs)

  under_more : (number : ℕ) (xs : List (ℕ × Content)) (x : ℕ × Content) → under number (xs ++ x ∷ []) ≡ under number xs ++ under number (x ∷ [])
  under_more number xs x = ap (flat_map (normalized_parts fs)) (filter-append' (of_field number) xs (x ∷ [])) ∙ flat_map-append' (normalized_parts fs) (filter (of_field number) xs) (filter (of_field number) (x ∷ []))

  under_none : (number : ℕ) (xs : List (ℕ × Content)) → AllByRecursion (λ (c : ℕ × Content). c.0 < number) xs → under number xs ≡ []
  under_none number xs below = search (rules, arith, filter_none, each_weaker, ne_eqb)

  under_one : (n : ℕ) (c : Content) (f : FieldShape) → field_at fs n ≡ Some f → under n ((n, c) ∷ []) ≡ normalized f (content_seen n c)
  under_one n c f found = search (rules, eq-eqb, append-nil)

  under_apart : (j n : ℕ) (c : Content) → j ≢ n → under j ((n, c) ∷ []) ≡ []
  under_apart j n c apart = ap (λ b. flat_map (normalized_parts fs) (cond b ((n, c) ∷ []) [])) (ne_eqb n j (λ e. apart (sym e)))

  pub whole_more : (xs : List (ℕ × Content)) (n : ℕ) (c : Content) (f : FieldShape) (m new : Kept) → IsWhole (shape_of parts) type xs m → AllByRecursion (λ (x : ℕ × Content). x.0 < n) xs → field_at (fields (shape_of parts) type) n ≡ Some f
      → new ≡ with_parts n (normalized f (content_seen n c)) m → IsWhole (shape_of parts) type (xs ++ (n, c) ∷ []) new
  whole_more xs n c f m new whole below found is_new =
      let ps = normalized f (content_seen n c) in
      let own = normalized_number f n c in
      record {
        of_type = ap type_of is_new ∙ type_of-with_parts n ps m ∙ whole.of_type;
        contents = λ j. ⊎_elim
            (λ same. ap (of_number j) is_new ∙ ap (λ k. of_number k (with_parts n ps m)) same ∙ under_own n ps own m ∙ sym (under_one n c f found)
            ∙ ap (λ qs. qs ++ under n ((n, c) ∷ [])) (sym (under_none n xs below)) ∙ sym (under_more n xs (n, c)) ∙ ap (λ k. under k (xs ++ (n, c) ∷ [])) (sym same))
            (λ apart. ap (of_number j) is_new ∙ under_other n ps own m j apart ∙ whole.contents j ∙ sym (append-nil _) ∙ ap (λ qs. under j xs ++ qs) (sym (under_apart j n c apart)) ∙ sym (under_more j xs (n, c)))
            (cases_eq j n);
        no_unknown = ap unknown_of is_new ∙ unknown_with n ps m ∙ whole.no_unknown;
      }

  -- each part of the message is under a number of the contents
  whole_numbers : (Q : ℕ → Bool) (ys : List (ℕ × Content)) (m : Kept) → IsWhole (shape_of parts) type ys m → AllByRecursion (λ (y : ℕ × Content). Q y.0 ≡ true) ys → AllByRecursion (λ (p : Part KeptItem). Q p.number ≡ true) (parts_of m)
  whole_numbers Q ys m whole each = all_in (λ (p : Part KeptItem). Q p.number ≡ true) (parts_of m) (λ p there. of p there (Q p.number) refl)
    where
      of : (p : Part KeptItem) → StandsIn p (parts_of m) → (b : Bool) → Q p.number ≡ b → Q p.number ≡ true
      of p there true e = e
      of p there false e =
          let none : filter (of_field p.number) ys ≡ [] =
          filter_none (of_field p.number) ys (each_weaker (λ (y : ℕ × Content). Q y.0 ≡ true) (λ (y : ℕ × Content). of_field p.number y ≡ false) (λ y yes. ne_eqb y.0 p.number (λ same. true≢false (sym yes ∙ ap Q same ∙ e))) ys each) in
          let empty : of_number p.number m ≡ [] = whole.contents p.number ∙ ap (flat_map (normalized_parts (fields (shape_of parts) type))) none in
          let some : 0 < length (of_number p.number m) = passes_once (is_of p.number) p (parts_of m) there (eq-eqb p.number p.number refl) in
          absurd (omega (arith, some, ap length empty))

  without_same : (f : FieldShape) (m : Kept) → AllByRecursion (λ (p : Part KeptItem). not (is_sibling_number (fields (shape_of parts) type) f p.number) ≡ true) (parts_of m) → without_siblings (fields (shape_of parts) type) f m ≡ m
  without_same f m each = search (rules, filter_all, kept_whole)

  abbrev pub Takes : List (ℕ × Content) → Type 0
  Takes cs = AllByRecursion (TakesContent (shape_of parts) type) cs

  abbrev Stays : FieldShape → ℕ × Content → Type 0
  Stays f y = not (is_sibling_number (fields (shape_of parts) type) f y.0) ≡ true

  at_last : (a : ℕ) (ws zs : List (ℕ × Content)) (x : ℕ × Content) → AllByRecursion (λ (l : ℕ × Content). AreApart (fields (shape_of parts) type) a l.0) (ws ++ x ∷ zs) → AreApart (fields (shape_of parts) type) a x.0
  at_last a [] zs x k = k.0
  at_last a (w ∷ ws) zs x k = at_last a ws zs x k.1

  apart_before : (ys zs : List (ℕ × Content)) (x : ℕ × Content) → NoneSiblings (fields (shape_of parts) type) (ys ++ x ∷ zs) → AllByRecursion (λ (y : ℕ × Content). AreApart (fields (shape_of parts) type) y.0 x.0) ys
  apart_before [] zs x k = tt
  apart_before (y ∷ ys) zs x k = (at_last y.0 ys zs x k.0, apart_before ys zs x k.1)

  module _ (h : IsSchema parts) (n : ℕ) (f : FieldShape) (found : field_at (fields (shape_of parts) type) n ≡ Some f) where
    stays : (y : ℕ × Content) → TakesContent (shape_of parts) type y → AreApart (fields (shape_of parts) type) y.0 n → Stays f y
    stays y (g, taken) apart = ap not (sibling_found (fields (shape_of parts) type) f g y.0 (rising parts h type) taken.found ∙ siblings_back g f (apart g f taken.found found))

    each_last : (c : Content) (ys : List (ℕ × Content)) → AllByRecursion (Stays f) ys → AllByRecursion (Stays f) (ys ++ (n, c) ∷ [])
    each_last c [] k = (ap not (no_self_sibling parts h type f n found), tt)
    each_last c (y ∷ ys) k = (k.0, each_last c ys k.1)

    -- a content apart from those before is put in as into a message without siblings
    pub fill_fits : (xs rest : List (ℕ × Content)) (c : Content) (m new : Kept) → IsWhole (shape_of parts) type xs m → IsWhole (shape_of parts) type (xs ++ (n, c) ∷ []) new → Takes xs → NoneSiblings (fields (shape_of parts) type) (xs ++ (n, c) ∷ rest)
        → (Fits (shape_of parts) (without_siblings (fields (shape_of parts) type) f m) → Fits (shape_of parts) (without_siblings (fields (shape_of parts) type) f new)) → Fits (shape_of parts) m → Fits (shape_of parts) new
    fill_fits xs rest c m new whole whole_new takes apart put fits =
        let Q = λ (k : ℕ). not (is_sibling_number (fields (shape_of parts) type) f k) in
        let each =
        each_weaker (λ (y : ℕ × Content). TakesContent (shape_of parts) type y × AreApart (fields (shape_of parts) type) y.0 n) (Stays f) (λ y k. stays y k.0 k.1) xs
        (each_both (TakesContent (shape_of parts) type) (λ (y : ℕ × Content). AreApart (fields (shape_of parts) type) y.0 n) xs takes (apart_before xs rest (n, c) apart)) in
        let old_same = without_same f m (whole_numbers Q xs m whole each) in
        let new_same = without_same f new (whole_numbers Q (xs ++ (n, c) ∷ []) new whole_new (each_last c xs each)) in
        subst (Fits (shape_of parts)) new_same (put (subst (Fits (shape_of parts)) (sym old_same) fits))

-- Rows by rising numbers.

pub rises_before : (xs ys : List (ℕ × Content)) (x : ℕ × Content) → Rises (xs ++ x ∷ ys) → AllByRecursion (λ (y : ℕ × Content). y.0 < x.0) xs
rises_before [] ys x h = tt
rises_before (z ∷ xs) ys x h = (among xs h.0, rises_before xs ys x h.1)
  where
    among : (zs : List (ℕ × Content)) → AllByRecursion (λ (g : ℕ × Content). z.0 < g.0) (zs ++ x ∷ ys) → z.0 < x.0
    among [] k = k.0
    among (w ∷ zs) k = among zs k.1

pub fact_of_next : (P : ℕ × Content → Type 0) (xs ys : List (ℕ × Content)) (x : ℕ × Content) → AllByRecursion P (xs ++ x ∷ ys) → P x
fact_of_next P [] ys x h = h.0
fact_of_next P (z ∷ xs) ys x h = fact_of_next P xs ys x h.1

-- two neighbours that pass a test are two that do
pub pass_twice : (test : ℕ × Content → Bool) (xs : List (ℕ × Content)) (k : ℕ) (d e : ℕ × Content) → suc k < length xs → test (get_or xs k d) ≡ true → test (get_or xs (suc k) e) ≡ true → PassTwice test xs
pass_twice test [] k d e inside one two = absurd (omega arith)
pass_twice test (x ∷ []) k d e inside one two = absurd (omega arith)
pass_twice test (x ∷ y ∷ xs) zero d e inside one two = search (rules, arith)
pass_twice test (x ∷ y ∷ xs) (suc k) d e inside one two =
    search (rules, arith, pass_twice test (y ∷ xs) k d e)

-- numbers that don't fall rise, where no two neighbours are equal
pub rises_from : (gs : List (ℕ × Content)) → IsNonDecreasingBy (λ (c : ℕ × Content). c.0) gs → ((k : ℕ) (d : ℕ × Content) → suc k < length gs → (get_or gs k d).0 ≢ (get_or gs (suc k) d).0) → Rises gs
rises_from [] order apart = tt
rises_from (g ∷ gs) order apart = (
  each_from_index (λ (x : ℕ × Content). g.0 < x.0) gs
      (λ k d inside.
      let next : (get_or gs zero d).0 ≤ (get_or gs k d).0 = order (suc zero) (suc k) d (omega arith) (omega arith) in
      let first : g.0 ≤ (get_or gs zero d).0 = order zero (suc zero) d (omega arith) (omega arith) in
      let other : g.0 ≢ (get_or gs zero d).0 = apart zero d (omega arith) in
      over g.0 (get_or gs zero d).0 (get_or gs k d).0 first other next),
  rises_from gs (λ i j d le inside. order (suc i) (suc j) d (omega arith) (omega arith)) (λ k d inside. apart (suc k) d (omega arith)),
)
  where
    over : (a b c : ℕ) → a ≤ b → a ≢ b → b ≤ c → a < c
    over a b c le apart then = omega (arith, apart)

-- A stable sort by number keeps what is under each number.

less : (a b : ℕ) → a < b → is_lt (nat_cmp a b) ≡ true
less a b lt = ap is_lt (sym (nat_cmp_is a b Less lt))

not_less : (a b : ℕ) → b ≤ a → is_lt (nat_cmp a b) ≡ false
not_less a b le = ⊎_elim (λ same. ap is_lt (sym (nat_cmp_is a b Equal same))) (λ apart. ap is_lt (sym (nat_cmp_is a b Greater (let lt : b < a = omega (arith, apart) in lt)))) (cases_eq a b)

tied : (n : ℕ) (c d : Content) (y : ℕ) → ties (λ (a : ℕ × Content) (b : ℕ × Content). is_lt (nat_cmp a.0 b.0)) (n, c) (y, d) ≡ nat_eq y n
tied n c d y = search (rules, arith, cases_eq, not_less, eq-eqb, ne_eqb, ltb-true, less, ltb-false)

pub kept_under : (xs ys : List (ℕ × Content)) → IsStableByKey (λ (c : ℕ × Content). c.0) nat_cmp xs ys → (number : ℕ) → filter (of_field number) ys ≡ filter (of_field number) xs
kept_under xs ys stable number =
    let c = contents.One (values.Int (pos 0)) in
    let test = ties (λ (a : ℕ × Content) (b : ℕ × Content). is_lt (nat_cmp a.0 b.0)) (number, c) in
    let same : (x : ℕ × Content) → of_field number x ≡ test x = λ x. sym (tied number c x.1 x.0) in
    filter_alike (of_field number) test same ys ∙ stable (number, c) ∙ sym (filter_alike (of_field number) test same xs)
