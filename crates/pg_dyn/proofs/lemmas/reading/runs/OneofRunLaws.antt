-- The records of oneofs' members that count, noted one by one.
use Rattle.std.proofs.Common.{◌≡◌, ◌≢◌, ℕ, suc, ◌+◌, ◌<◌, ◌≤◌, List, [], ◌∷◌, ◌++◌, length, filter, Bool, true, false, true≢false, ◌&&◌, cond, nat_eq, Option, Some, None, refl, ap, ap₂, sym, ◌∙◌, arith, eq-eqb, ne_eqb, eqb-true, length-append, rules, ⊎_elim}
use Rattle.std.specs.Prelude.{nat_le}
use Rattle.std.specs.Ordering.{nat_cmp}
use Rattle.std.specs.BTreeMap.{get, is_at}
use Rattle.std.proofs.lemmas.Bool.{and_parts, and_from, cases_eq, le-leb, lt-leb, not-true}
use Rattle.std.proofs.Math.Bool.{and-false}
use Rattle.pg_schema.specs.Shape.{FieldShape, field_at}
use Rattle.pg_schema.specs.ShapeRules.{Rising}
use Rattle.pg_wire.specs.Records.{WireRecord}
use Rattle.pg_dyn.specs.declared.reading.oneof_runs.OneofRun.{OneofRun}
use Rattle.pg_dyn.specs.declared.reading.oneof_runs.OneofRuns.{OneofRuns}
use Rattle.pg_dyn.specs.reading.Content.{counted, is_sibling, same_oneof, takes}
use Rattle.pg_dyn.specs.reading.Gathering.{AreOneofRuns, counts_at, filter_at}
use Rattle.pg_dyn.specs.reading.ReadingOn.{clears}
use Rattle.pg_dyn.proofs.Lists.{each_weaker, filter-append', list_any_at, list_any_none}
use Rattle.pg_dyn.proofs.lemmas.reading.records.ReadsOn.{counted-append}
use Rattle.pg_dyn.proofs.lemmas.reading.records.Splitting.{each_found, takes_number}
use Rattle.pg_dyn.proofs.lemmas.fitting.NoSiblings.{no_sibling_behind}
use Rattle.pg_dyn.proofs.lemmas.laws.Flat.{sibling_apart}

-- Filters by index.

pub filter_at-append : {A : Type 0} (test : ℕ → A → Bool) (place end : ℕ) (xs : List A) (x : A) → place + length xs ≡ end
    → filter_at test place (xs ++ x ∷ []) ≡ filter_at test place xs ++ cond (test end x) (x ∷ []) []
filter_at-append test place end [] x e = let at : place ≡ end = omega (arith, e) in ap (λ p. cond (test p x) (x ∷ []) []) at
filter_at-append test place end (y ∷ xs) x e =
    search (rules, arith, filter_at-append test (suc place) end xs x)

pub filter_at_alike : {A : Type 0} (t u : ℕ → A → Bool) (place : ℕ) (xs : List A) → ((p : ℕ) (x : A) → p < place + length xs → t p x ≡ u p x)
    → filter_at t place xs ≡ filter_at u place xs
filter_at_alike t u place [] same = refl
filter_at_alike t u place (x ∷ xs) same =
    ap₂ (λ b ys. cond b (x ∷ ys) ys) (same place x (omega arith)) (filter_at_alike t u (suc place) xs (λ p y inside. same p y (omega (arith, inside))))

pub filter_at_none : {A : Type 0} (test : ℕ → A → Bool) (place : ℕ) (xs : List A) → ((p : ℕ) (x : A) → test p x ≡ false) → filter_at test place xs ≡ []
filter_at_none test place [] fails = refl
filter_at_none test place (x ∷ xs) fails = rw (fails place x) (filter_at_none test (suc place) xs fails)

-- Members of oneofs.

shared_is : (a : Option ℕ) (oneof : ℕ) → same_oneof a (Some oneof) ≡ true → a ≡ Some oneof
shared_is None oneof h = absurd (true≢false (sym h))
shared_is (Some x) oneof h = ap (λ n. Some n) (eqb-true x oneof h)

abbrev in_run : ℕ → ℕ → Option OneofRun → Bool
in_run number p None = false
in_run number p (Some s) = nat_eq s.number number && nat_le s.start p

module _ (oneof_runs : OneofRuns) (g : FieldShape) where
  counts_outside : g.oneof ≡ None → (p : ℕ) → counts_at oneof_runs g p ≡ true
  counts_outside is p = rw is

  counts_in : (oneof : ℕ) → g.oneof ≡ Some oneof → (got : Option OneofRun) → get nat_cmp oneof_runs.by_oneof oneof ≡ got → (p : ℕ)
      → counts_at oneof_runs g p ≡ in_run g.number p got
  counts_in oneof is None e p = rw (is, e)
  counts_in oneof is (Some s) e p = rw (is, e)

  counts_not : (oneof : ℕ) → g.oneof ≡ Some oneof → ((s : OneofRun) → get nat_cmp oneof_runs.by_oneof oneof ≡ Some s → s.number ≢ g.number) → (p : ℕ)
      → counts_at oneof_runs g p ≡ false
  counts_not oneof is apart p = search (rules, counts_in, ne_eqb)

-- One more record that a field takes.

pub record NextRuns (f : FieldShape) (place : ℕ) (old new : OneofRuns) : Type 0 where
  pub all : new.all_count ≡ true → old.all_count ≡ true
  pub begun : (oneof : ℕ) (s : OneofRun) → get nat_cmp new.by_oneof oneof ≡ Some s → s.start ≤ place
  pub own : counts_at new f place ≡ true
  pub others : (g : FieldShape) → is_sibling g f ≡ false → (p : ℕ) → p < place → counts_at new g p ≡ counts_at old g p
  pub siblings : (g : FieldShape) → is_sibling g f ≡ true → (p : ℕ) → counts_at new g p ≡ false
  pub before : new.all_count ≡ true → (g : FieldShape) → is_sibling g f ≡ true → (p : ℕ) → counts_at old g p ≡ false

module _ (fs : List FieldShape) (rising : Rising fs) (f : FieldShape) (found : field_at fs f.number ≡ Some f) (r : WireRecord) (taken : takes f r ≡ true) where
  -- a field that takes the record is f
  taker : (g : FieldShape) → field_at fs g.number ≡ Some g → takes g r ≡ true → g ≡ f
  taker g found_g takes_g = search (rules, eqb-true, takes_number)

  not_own : is_sibling f f ≡ true → ⊥
  not_own h = search (rules, true≢false, eq-eqb, not-true, and_parts)

  cleared : (g : FieldShape) → clears fs g r ≡ is_sibling g f
  cleared g = of (is_sibling g f) refl
    where
      no_sibling : is_sibling g f ≡ false → (x : FieldShape) → field_at fs x.number ≡ Some x → (b : Bool) → takes x r ≡ b → (is_sibling g x && takes x r) ≡ false
      no_sibling e x at true t = let same = taker x at t in rw (same, e)
      no_sibling e x at false t = rw t (and-false (is_sibling g x))

      of : (b : Bool) → is_sibling g f ≡ b → clears fs g r ≡ b
      of true e = list_any_at (λ x. is_sibling g x && takes x r) fs f.number f found (rw (e, taken))
      of false e =
          list_any_none (λ x. is_sibling g x && takes x r) fs
          (each_weaker (λ x. field_at fs x.number ≡ Some x) (λ x. (is_sibling g x && takes x r) ≡ false) (λ x at. no_sibling e x at (takes x r) refl) fs
          (each_found fs rising))

  module _ (rs : List WireRecord) (old new : OneofRuns) (h : AreOneofRuns fs rs old) (n : NextRuns f (length rs) old new) where
    none_counts : (oneof_runs : OneofRuns) (g : FieldShape) (xs : List WireRecord) → ((p : ℕ) → counts_at oneof_runs g p ≡ false)
        → filter_at (λ p x. takes g x && counts_at oneof_runs g p) 0 xs ≡ []
    none_counts oneof_runs g xs fails = search (rules, filter_at_none, and-false)

    last : (g : FieldShape) → field_at fs g.number ≡ Some g → (b : Bool) → takes g r ≡ b → b ≡ (b && counts_at new g (length rs))
    last g found_g true t = sym (ap (λ x. counts_at new x (length rs)) (taker g found_g t) ∙ n.own)
    last g found_g false t = refl

    kept : (g : FieldShape) → is_sibling g f ≡ false → counted fs g (rs ++ r ∷ []) ≡ counted fs g rs ++ cond (takes g r) (r ∷ []) []
    kept g e = counted-append fs g rs r ∙ rw (cleared g ∙ e)

    lost : (g : FieldShape) → is_sibling g f ≡ true → counted fs g (rs ++ r ∷ []) ≡ []
    lost g e = counted-append fs g rs r ∙ rw (cleared g ∙ e)

    which : (g : FieldShape) → field_at fs g.number ≡ Some g → (b : Bool) → is_sibling g f ≡ b
        → counted fs g (rs ++ r ∷ []) ≡ filter_at (λ p x. takes g x && counts_at new g p) 0 (rs ++ r ∷ [])
    which g found_g true e = lost g e ∙ sym (none_counts new g (rs ++ r ∷ []) (n.siblings g e))
    which g found_g false e =
        kept g e
        ∙ ap₂ (λ xs b. xs ++ cond b (r ∷ []) [])
        (h.which g found_g ∙ filter_at_alike (λ p x. takes g x && counts_at old g p) (λ p x. takes g x && counts_at new g p) 0 rs
        (λ p x inside. ap (λ b. takes g x && b) (sym (n.others g e p (omega (arith, inside))))))
        (last g found_g (takes g r) refl)
        ∙ sym (filter_at-append (λ p x. takes g x && counts_at new g p) 0 (length rs) rs r (omega arith))

    all : new.all_count ≡ true → (g : FieldShape) → field_at fs g.number ≡ Some g → (b : Bool) → is_sibling g f ≡ b
        → counted fs g (rs ++ r ∷ []) ≡ filter (takes g) (rs ++ r ∷ [])
    all every g found_g true e =
        lost g e
        ∙ ap₂ (λ xs b. xs ++ cond b (r ∷ []) [])
        (sym (none_counts old g rs (n.before every g e)) ∙ sym (h.which g found_g) ∙ h.all (n.all every) g found_g) (sym (apart (takes g r) refl))
        ∙ sym (filter-append' (takes g) rs (r ∷ []))
      where
        apart : (b : Bool) → takes g r ≡ b → b ≡ false
        apart true t = absurd (not_own (ap (λ x. is_sibling x f) (sym (taker g found_g t)) ∙ e))
        apart false t = refl
    all every g found_g false e = search (rules, kept, filter-append')

    pub noted : AreOneofRuns fs (rs ++ r ∷ []) new
    noted = search (rules, arith, which, length-append, all)

-- What the next oneof_runs are.

sibling_shares : (f g : FieldShape) (oneof : ℕ) → f.oneof ≡ Some oneof → is_sibling g f ≡ true → g.oneof ≡ Some oneof
sibling_shares f g oneof is h = search (rules, shared_is, and_parts)

own_number : (f g : FieldShape) (oneof : ℕ) → f.oneof ≡ Some oneof → g.oneof ≡ Some oneof → is_sibling g f ≡ false → g.number ≡ f.number
own_number f g oneof in_f in_g apart =
    search (rules, true≢false, and_from, eq-eqb, ne_eqb, cases_eq)

module _ (f : FieldShape) (place : ℕ) (old : OneofRuns) (begun : (oneof : ℕ) (s : OneofRun) → get nat_cmp old.by_oneof oneof ≡ Some s → s.start ≤ place) where
  pub in_none : f.oneof ≡ None → NextRuns f place old old
  in_none is = search (rules, all, counts_outside, true≢false, no_sibling_behind)

  module _ (oneof : ℕ) (is : f.oneof ≡ Some oneof) where
    pub goes_on : (s : OneofRun) → get nat_cmp old.by_oneof oneof ≡ Some s → s.number ≡ f.number → NextRuns f place old old
    goes_on s here own =
        search (
          rules,
          counts_in,
          sibling_shares,
          ne_eqb,
          sibling_apart,
          all,
          and_from,
          eq-eqb,
          le-leb,
        )

    module _ (new : OneofRuns) (s : OneofRun) (number : s.number ≡ f.number) (start : s.start ≡ place) (here : get nat_cmp new.by_oneof oneof ≡ Some s)
        (away : (q : ℕ) → q ≢ oneof → get nat_cmp new.by_oneof q ≡ get nat_cmp old.by_oneof q)
        (was : (t : OneofRun) → get nat_cmp old.by_oneof oneof ≡ Some t → t.number ≢ f.number)
        (all : new.all_count ≡ true → (old.all_count ≡ true) × (get nat_cmp old.by_oneof oneof ≡ None)) where
      others : (g : FieldShape) → is_sibling g f ≡ false → (p : ℕ) → p < place → (o : Option ℕ) → g.oneof ≡ o → counts_at new g p ≡ counts_at old g p
      others g apart p inside o in_g =
          grind (
            arith,
            counts_outside,
            own_number,
            counts_in,
            lt-leb,
            and-false,
            counts_not,
            cases_eq,
          )

      pub begins : NextRuns f place old new
      begins = record {
        all = λ h. (all h).0;
        begun = λ q t got.
            ⊎_elim (λ same. let e : ◌≡◌ {A = Option OneofRun} (Some t) (Some s) = sym got ∙ ap (get nat_cmp new.by_oneof) same ∙ here in
            let is_s : t ≡ s = cc in omega (arith, start, ap (λ (x : OneofRun). x.start) is_s))
            (λ other. begun q t (sym (away q other) ∙ got)) (cases_eq q oneof);
        own = counts_in new f oneof is (Some s) here place
            ∙ and_from (nat_eq s.number f.number) (nat_le s.start place) (eq-eqb s.number f.number number) (le-leb s.start place (omega (arith, start)));
        others = λ g apart p inside. others g apart p inside g.oneof refl;
        siblings = λ g sibling p. counts_in new g oneof (sibling_shares f g oneof is sibling) (Some s) here p
            ∙ ap (λ b. b && nat_le s.start p) (ne_eqb s.number g.number (λ e. sibling_apart g f sibling (sym e ∙ number)));
        before = λ every g sibling p. counts_in old g oneof (sibling_shares f g oneof is sibling) None ((all every).1) p;
      }

-- what a map has under another number
pub not_at : (oneof q : ℕ) → q ≢ oneof → is_at (nat_cmp oneof) q ≡ false
not_at oneof q apart = search (rules, ne_eqb)
