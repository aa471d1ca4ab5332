-- Records that are read field by field: what is read so far, one field more, and the message that all of them are.
use Rattle.std.proofs.Common.{◌≡◌, ◌≢◌, ℕ, ◌<◌, ◌≤◌, List, [], ◌∷◌, ◌++◌, length, map, filter, Bool, true, false, cond, ◌&&◌, nat_eq, Option, Some, None, option_and_then, refl, ap, ap₂, sym, subst, ◌∙◌, arith, ⊎_elim, ne_eqb, eq-eqb, eqb-true, append-nil, rules}
use Rattle.std.specs.List.{AllByRecursion, list_any}
use Rattle.std.proofs.lemmas.Bool.{or_right, or_left, cases_eq}
use Rattle.pg_schema.specs.declared.parts.field.TypeId.{TypeId}
use Rattle.pg_schema.specs.Shape.{Shape, FieldShape, fields, field_at}
use Rattle.pg_schema.specs.ShapeRules.{Rising}
use Rattle.pg_wire.specs.Records.{WireRecord}
use Rattle.pg_dyn.specs.declared.message_ref.ContentRef.{ContentRef}
use Rattle.pg_dyn.specs.reading.ByFields.{AllCount, HoldsOf}
use Rattle.pg_dyn.specs.reading.Content.{content, is_accepted, is_sibling, is_unknown, takes}
use Rattle.pg_dyn.specs.fitting.ContentFits.{AreApart, NoneSiblings}
use Rattle.pg_dyn.specs.reading.Decoding.{all_readable, dec, field_parts, read_part, read_records}
use Rattle.pg_dyn.specs.fitting.Fits.{Fits}
use Rattle.pg_dyn.specs.message.KeptParts.{KeptItem}
use Rattle.pg_dyn.specs.message.Kept.{ends, message_of}
use Rattle.pg_dyn.specs.message.Message.{Part, is_of, message_from, parts, place_of}
use Rattle.pg_dyn.specs.reading.Optional.{after_last_of, all_some}
use Rattle.pg_dyn.specs.message.Seen.{Rises}
use Rattle.pg_dyn.specs.message_ref.Borrowed.{HasKeys, IsFilled, content_seen, fields_onto}
use Rattle.pg_dyn.specs.reading.Steps.{HeldFits, Taken, part_of, parts_held}
use Rattle.pg_dyn.proofs.lemmas.laws.Flat.{is_sibling_sym}
use Rattle.pg_dyn.proofs.lemmas.reading.gathered.GoodRecords.{known_is, same_found}
use Rattle.pg_dyn.proofs.lemmas.message_ref.BorrowedParts.{content_number}
use Rattle.pg_dyn.proofs.Lists.{each-append, each_weaker, filter-append', filter_all, filter_none, flat_map-append', list_any_at}
use Rattle.pg_dyn.proofs.lemmas.reading.records.RecordsRead.{assembled}
use Rattle.pg_dyn.proofs.lemmas.fitting.PartsToFits.{HoldsParts, contents_whole, fits_of_contents}
use Rattle.pg_dyn.proofs.lemmas.laws.Order.{NeverFalls, never_falls, of_each, of_each_is, places-parts}
use Rattle.pg_dyn.proofs.lemmas.reading.records.ReadSplits.{parts-message_from}
use Rattle.pg_dyn.proofs.lemmas.message.ReplacingLaws.{filter-part_item, kept_all, kept_none, message_of-kept_from}
use Rattle.pg_dyn.specs.message_ref.Borrowed.{all_seen}
use Rattle.pg_dyn.proofs.lemmas.reading.records.Splitting.{each_found, found_number, takes_number}

-- Of records of which all count, the members of a oneof have those of one member at most.

module _ {A : Type 0} (keep test : A → Bool) where
  kept_later : (xs : List A) → length (filter keep (after_last_of test xs)) ≤ length (filter keep xs)
  kept_later [] = omega arith
  kept_later (x ∷ xs) = search (rules, arith, kept_later xs)

  -- where the last that passes is further on and all are kept, the first isn't
  kept_on : (x : A) (xs : List A) → list_any test (x ∷ xs) ≡ true → filter keep (after_last_of test (x ∷ xs)) ≡ filter keep (x ∷ xs)
      → (keep x ≡ false) × (filter keep (after_last_of test xs) ≡ filter keep xs)
  kept_on x xs any h = of (keep x) refl (sym (ap (λ b. filter keep (cond b (after_last_of test xs) (x ∷ xs))) any) ∙ h)
    where
      of : (b : Bool) → keep x ≡ b → filter keep (after_last_of test xs) ≡ cond b (x ∷ filter keep xs) (filter keep xs)
          → (keep x ≡ false) × (filter keep (after_last_of test xs) ≡ filter keep xs)
      of true e k = absurd (let most = kept_later xs in omega (arith, ap length k))
      of false e k = (e, k)

  any_kept : ((x : A) → keep x ≡ true → test x ≡ true) → (xs : List A) → filter keep xs ≢ [] → list_any test xs ≡ true
  any_kept passes [] h = absurd (h refl)
  any_kept passes (x ∷ xs) h = search (rules, any_kept passes xs, or_left, or_right)

never_both : {A : Type 0} (keep other test tried : A → Bool) → ((x : A) → other x ≡ true → test x ≡ true) → ((x : A) → keep x ≡ true → tried x ≡ true)
    → (xs : List A)
    → filter keep (after_last_of test xs) ≡ filter keep xs → filter other (after_last_of tried xs) ≡ filter other xs → filter keep xs ≢ []
    → filter other xs ≢ [] → ⊥
never_both keep other test tried p q [] h k a b = a refl
never_both keep other test tried p q (x ∷ xs) h k a b =
    let one = kept_on keep test x xs (any_kept other test p (x ∷ xs) b) h in
    let two = kept_on other tried x xs (any_kept keep tried q (x ∷ xs) a) k in
    never_both keep other test tried p q xs one.1 two.1
    (λ none. a (ap (λ d. cond d (x ∷ filter keep xs) (filter keep xs)) one.0 ∙ none))
    (λ none. b (ap (λ d. cond d (x ∷ filter other xs) (filter other xs)) two.0 ∙ none))

sibling_absent : (fs : List FieldShape) (rs : List WireRecord) → AllCount fs rs → (f g : FieldShape) → field_at fs f.number ≡ Some f
    → field_at fs g.number ≡ Some g
    → filter (takes f) rs ≢ [] → filter (takes g) rs ≢ [] → is_sibling f g ≡ false
sibling_absent fs rs all f g found_f found_g some_f some_g =
    search (rules, list_any_at, never_both, is_sibling_sym)

-- What a content keeps.

own_held : (n : ℕ) (held : Option ContentRef) → filter (is_of n) (parts_held n held) ≡ parts_held n held
own_held n None = refl
own_held n (Some c) = kept_all (λ k. nat_eq k n) n (content_seen n c) (content_number n c) (eq-eqb n n refl)

other_held : (n m : ℕ) (held : Option ContentRef) → n ≢ m → filter (is_of m) (parts_held n held) ≡ []
other_held n m None apart = refl
other_held n m (Some c) apart = kept_none (λ k. nat_eq k m) n (content_seen n c) (content_number n c) (ne_eqb n m apart)

-- the content of a field, where it has one, by its number
abbrev pub with_held : ℕ → Option ContentRef → List (ℕ × ContentRef)
with_held n None = []
with_held n (Some c) = (n, c) ∷ []

seen_held : (n : ℕ) (held : Option ContentRef) → all_seen (with_held n held) ≡ parts_held n held
seen_held n None = refl
seen_held n (Some c) = append-nil (content_seen n c)

none_seen : (n : ℕ) (cs : List (ℕ × ContentRef)) → AllByRecursion (λ (c : ℕ × ContentRef). c.0 < n) cs → filter (is_of n) (all_seen cs) ≡ []
none_seen n [] h = refl
none_seen n (c ∷ cs) h =
    filter-append' (is_of n) (content_seen c.0 c.1) (all_seen cs)
    ∙ ap₂ (λ xs ys. xs ++ ys) (kept_none (λ k. nat_eq k n) c.0 (content_seen c.0 c.1) (content_number c.0 c.1) (ne_eqb c.0 n (λ e. absurd (omega (arith, h.0))))) (none_seen n cs h.1)

-- a content at the end, with the greatest number
rises_end : (n : ℕ) (held : Option ContentRef) (cs : List (ℕ × ContentRef)) → AllByRecursion (λ (c : ℕ × ContentRef). c.0 < n) cs → Rises cs
    → Rises (cs ++ with_held n held)
rises_end n None [] below h = tt
rises_end n (Some c) [] below h = (tt, tt)
rises_end n held (c ∷ cs) below h = search (rules, each-append, rises_end n held cs below.1 h.1)

-- the first that a filter keeps
first_kept : {A : Type 0} (P : A → Type 0) (test : A → Bool) (xs : List A) → AllByRecursion P xs → filter test xs ≢ [] → (x : A) × P x × (test x ≡ true)
first_kept P test [] h some = absurd (some refl)
first_kept {A} P test (x ∷ xs) h some = search (rules, first_kept P test xs h.1)

append_none : {A : Type 0} (xs ys : List A) → xs ++ ys ≡ [] → xs ≡ []
append_none [] ys h = refl
append_none (x ∷ xs) ys h = absurd (cc)

not_taken : (g : FieldShape) (r : WireRecord) → r.number ≢ g.number → takes g r ≡ false
not_taken g r apart = ap (λ b. b && is_accepted g r) (ne_eqb r.number g.number apart)

-- what a field's records say, which all count, is these parts
abbrev pub Say : Shape → FieldShape → List WireRecord → List (Part KeptItem) → Type 0
Say shape f rs ps = option_and_then (λ xs. all_some (map (read_part (dec shape) f.element) xs)) (content f rs) ≡ Some (map part_of ps)

module _ (shape : Shape) (type : TypeId) where
  -- a content of a field that takes some of the records
  pub record IsBacked (rs : List WireRecord) (c : ℕ × ContentRef) : Type 0 where
    pub holds : HoldsParts content_seen shape type c
    pub some : filter (takes holds.field) rs ≢ []

  -- The contents are what the records say.
  pub record ReadSoFar (rs : List WireRecord) (cs : List (ℕ × ContentRef)) : Type 0 where
    pub each : (f : FieldShape) → field_at (fields shape type) f.number ≡ Some f → Say shape f (filter (takes f) rs) (filter (is_of f.number) (all_seen cs))
    pub backed : AllByRecursion (IsBacked rs) cs
    pub rises : Rises cs
    pub filled : AllByRecursion (λ (c : ℕ × ContentRef). IsFilled c.1) cs
    pub keys : AllByRecursion (λ (c : ℕ × ContentRef). HasKeys c.1) cs

  -- The records of one field more, whose number is above those of all before.
  module _ (rs more : List WireRecord) (cs : List (ℕ × ContentRef)) (was : ReadSoFar rs cs) (f : FieldShape)
      (found : field_at (fields shape type) f.number ≡ Some f)
      (below : AllByRecursion (λ (r : WireRecord). r.number < f.number) rs) (own : AllByRecursion (λ r. takes f r ≡ true) more) (some : more ≢ [])
      (held : Option ContentRef) (holds : HoldsOf shape f more held) (fits : HeldFits shape f held) where
    lower : AllByRecursion (λ (c : ℕ × ContentRef). c.0 < f.number) cs
    lower = each_weaker (IsBacked rs) (λ (c : ℕ × ContentRef). c.0 < f.number) one cs was.backed
      where
        one : (c : ℕ × ContentRef) → IsBacked rs c → c.0 < f.number
        one c k =
            let (r, low, taken) = first_kept (λ (r : WireRecord). r.number < f.number) (takes k.holds.field) rs below k.some in
            omega (
              arith,
              low,
              eqb-true r.number k.holds.field.number (takes_number k.holds.field r taken),
              found_number (fields shape type) c.0 k.holds.field k.holds.found,
            )

    own_rows : filter (takes f) (rs ++ more) ≡ more
    own_rows =
        filter-append' (takes f) rs more
        ∙ ap₂ (λ xs ys. xs ++ ys) (filter_none (takes f) rs
        (each_weaker (λ (r : WireRecord). r.number < f.number) (λ r. takes f r ≡ false) (λ r low. not_taken f r (λ e. absurd (omega arith))) rs below))
        (filter_all (takes f) more own)

    other_rows : (g : FieldShape) → g.number ≢ f.number → filter (takes g) (rs ++ more) ≡ filter (takes g) rs
    other_rows g apart =
        filter-append' (takes g) rs more
        ∙ ap (λ ys. filter (takes g) rs ++ ys) (filter_none (takes g) more (each_weaker (λ r. takes f r ≡ true) (λ r. takes g r ≡ false)
        (λ r taken. not_taken g r (λ e. apart (sym e ∙ eqb-true r.number f.number (takes_number f r taken)))) more own))
        ∙ append-nil (filter (takes g) rs)

    seen_of : (n : ℕ) → filter (is_of n) (all_seen
        (cs ++ with_held f.number held)) ≡ filter (is_of n) (all_seen cs) ++ filter (is_of n) (parts_held f.number held)
    seen_of n = search (rules, flat_map-append', seen_held, filter-append')

    each_next : (g : FieldShape) → field_at (fields shape type) g.number ≡ Some g
        → Say shape g (filter (takes g) (rs ++ more)) (filter (is_of g.number) (all_seen (cs ++ with_held f.number held)))
    each_next g there =
        ⊎_elim (λ same.
        let is : g ≡ f = same_found g f (sym there ∙ ap (field_at (fields shape type)) same ∙ found) in
        let seen : filter (is_of f.number) (all_seen (cs ++ with_held f.number held)) ≡ parts_held f.number held =
        seen_of f.number ∙ ap₂ (λ xs ys. xs ++ ys) (none_seen f.number cs lower) (own_held f.number held) in
        subst (λ x. Say shape x (filter (takes x) (rs ++ more)) (filter (is_of x.number) (all_seen (cs ++ with_held f.number held)))) (sym is)
        (subst (λ ps. Say shape f (filter (takes f) (rs ++ more)) ps) (sym seen)
        (subst (λ xs. Say shape f xs (parts_held f.number held)) (sym own_rows) holds)))
        (λ apart.
        let seen : filter (is_of g.number) (all_seen (cs ++ with_held f.number held)) ≡ filter (is_of g.number) (all_seen cs) =
        seen_of g.number ∙ ap (λ ys. filter (is_of g.number) (all_seen cs) ++ ys) (other_held f.number g.number held (λ e. apart (sym e)))
        ∙ append-nil (filter (is_of g.number) (all_seen cs)) in
        subst (λ ps. Say shape g (filter (takes g) (rs ++ more)) ps) (sym seen)
        (subst (λ xs. Say shape g xs (filter (is_of g.number) (all_seen cs))) (sym (other_rows g apart)) (was.each g there)))
        (cases_eq g.number f.number)

    grown : (c : ℕ × ContentRef) → IsBacked rs c → IsBacked (rs ++ more) c
    grown c k = record {
      holds = k.holds;
      some = λ none. k.some (append_none (filter (takes k.holds.field) rs) (filter (takes k.holds.field) more)
          (sym (filter-append' (takes k.holds.field) rs more) ∙ none));
    }

    last_backed : (o : Option ContentRef) → HeldFits shape f o → AllByRecursion (IsBacked (rs ++ more)) (with_held f.number o)
    last_backed None h = tt
    last_backed (Some c) h = (record { holds = record { field = f; found = found; holds = h.0 }; some = λ none. some (sym own_rows ∙ none) }, tt)

    last_filled : (o : Option ContentRef) → HeldFits shape f o → AllByRecursion (λ (c : ℕ × ContentRef). IsFilled c.1) (with_held f.number o)
    last_filled None h = tt
    last_filled (Some c) h = (h.1, tt)

    last_keys : (o : Option ContentRef) → HeldFits shape f o → AllByRecursion (λ (c : ℕ × ContentRef). HasKeys c.1) (with_held f.number o)
    last_keys None h = tt
    last_keys (Some c) h = (h.2, tt)

    pub one_field : ReadSoFar (rs ++ more) (cs ++ with_held f.number held)
    one_field = record {
      each = each_next;
      backed = each-append (IsBacked (rs ++ more)) cs (with_held f.number held) (each_weaker (IsBacked rs) (IsBacked (rs ++ more)) grown cs was.backed)
          (last_backed held fits);
      rises = rises_end f.number held cs lower was.rises;
      filled = each-append (λ (c : ℕ × ContentRef). IsFilled c.1) cs (with_held f.number held) was.filled (last_filled held fits);
      keys = each-append (λ (c : ℕ × ContentRef). HasKeys c.1) cs (with_held f.number held) was.keys (last_keys held fits);
    }

  -- All records, which all count.
  module _ (rs : List WireRecord) (cs : List (ℕ × ContentRef)) (rising : Rising (fields shape type)) (all : AllCount (fields shape type) rs)
      (was : ReadSoFar rs cs) where
    apart_of : (c d : ℕ × ContentRef) → IsBacked rs c → IsBacked rs d → AreApart (fields shape type) c.0 d.0
    apart_of c d h k f g at_f at_g = search (rules, same_found, found_number, sibling_absent)

    none_siblings : (ds : List (ℕ × ContentRef)) → AllByRecursion (IsBacked rs) ds → NoneSiblings (fields shape type) ds
    none_siblings [] h = tt
    none_siblings (d ∷ ds) h =
        (each_weaker (IsBacked rs) (λ (l : ℕ × ContentRef). AreApart (fields shape type) d.0 l.0) (λ l k. apart_of d l h.0 k) ds h.1, none_siblings ds h.1)

    holding : AllByRecursion (HoldsParts content_seen shape type) cs
    holding = each_weaker (IsBacked rs) (HoldsParts content_seen shape type) (λ c k. k.holds) cs was.backed

    pub whole_fits : type.index < length shape → Fits shape (fields_onto cs (ends type []))
    whole_fits there = fits_of_contents content_seen shape type cs [] there was.rises holding (none_siblings cs was.backed) tt

    message_is : message_of (fields_onto cs (ends type [])) ≡ message_from (map part_of (all_seen cs)) []
    message_is = message_of-kept_from type (all_seen cs) []

    in_order : of_each (fields shape type) (map part_of (all_seen cs)) ≡ map part_of (all_seen cs)
    in_order =
        let m = message_of (fields_onto cs (ends type [])) in
        let parts_are : parts m ≡ map part_of (all_seen cs) = ap parts message_is ∙ (parts-message_from (map part_of (all_seen cs)) []).0 in
        let is_message = (contents_whole content_seen shape type cs [] was.rises holding (none_siblings cs was.backed) tt).0 in
        of_each_is (fields shape type) (map part_of (all_seen cs)) rising
        (subst (λ ps. NeverFalls (fields shape type) (map place_of ps)) parts_are
        (subst (NeverFalls (fields shape type)) (sym (places-parts m)) (never_falls shape type m is_message)))

    field_read : (f : FieldShape) → field_at (fields shape type) f.number ≡ Some f
        → field_parts (dec shape) (fields shape type) rs f ≡ Some (filter (is_of f.number) (map part_of (all_seen cs)))
    field_read f found =
        ap (λ xs. option_and_then (λ ps. all_some (map (read_part (dec shape) f.element) ps)) (content f xs)) (all.count f found)
        ∙ was.each f found ∙ ap (λ ps. Some ps) (sym (filter-part_item (λ n. nat_eq n f.number) (all_seen cs)))

    pub whole_read : all_readable (dec shape) (fields shape type) rs ≡ true
        → read_records (dec shape) (fields shape type) rs ≡ Some (message_of (fields_onto cs (ends type [])))
    whole_read readable =
        let fs = fields shape type in
        let none : filter (is_unknown fs) rs ≡ [] =
        filter_none (is_unknown fs) rs (each_weaker (λ r. (f : FieldShape) × Taken fs r f) (λ r. is_unknown fs r ≡ false)
        (λ r k. known_is fs r k.0 k.1) rs all.known) in
        assembled (dec shape) fs rs (λ f. filter (is_of f.number) (map part_of (all_seen cs))) readable
        (each_weaker (λ f. field_at fs f.number ≡ Some f)
        (λ f. field_parts (dec shape) fs rs f ≡ Some (filter (is_of f.number) (map part_of (all_seen cs)))) field_read fs (each_found fs rising))
        ∙ ap₂ (λ ps us. Some (message_from ps us)) in_order none ∙ ap (λ m. Some m) (sym message_is)
