-- What is written and what is read split by field number.
use Rattle.std.proofs.Common.{◌≡◌, ◌≢◌, ℕ, ◌<◌, List, [], ◌∷◌, ◌++◌, map, filter, Bool, true, false, ◌||◌, cond, nat_eq, Option, Some, None, refl, ap₂, sym, ◌∙◌, subst, arith, eq-eqb, ne_eqb, append-nil, rules}
use Rattle.std.specs.List.{AllByRecursion, list_any}
use Rattle.std.proofs.lemmas.Bool.{eqb-true, and_parts}
use Rattle.pg_schema.specs.declared.parts.field.Element.{Element}
use Rattle.pg_schema.specs.declared.parts.field.Presence.{Presence}
use Rattle.pg_schema.specs.declared.parts.field.Presence.TheVariants as presences
use Rattle.pg_schema.specs.Shape.{FieldShape, field_at}
use Rattle.pg_schema.specs.ShapeRules.{Rising}
use Rattle.pg_wire.specs.Records.{WireRecord, written}
use Rattle.pg_wire.specs.declared.record.WireType.{WireType}
use Rattle.pg_wire.specs.declared.record.WireType.TheVariants.{Len}
use Rattle.pg_dyn.specs.reading.Optional.{after_last_of}
use Rattle.pg_dyn.specs.message.Message.{Leaf, Part, is_of}
use Rattle.pg_dyn.specs.reading.Content.{is_accepted, takes}
use Rattle.pg_dyn.specs.encoding.Writing.{entry_bytes, key_of, field_records, records_in}
use Rattle.pg_dyn.specs.laws.Laws.{of_number}
use Rattle.pg_dyn.proofs.Lists.{filter-append', filter_all, filter_none, each_weaker, after_last_of_none}
use Rattle.pg_dyn.proofs.lemmas.reading.Fields.{field_of}

-- the head of a look-up
pub found_first : (f g : FieldShape) (fs : List FieldShape) (n : ℕ) → f.number ≡ n → field_at (f ∷ fs) n ≡ Some g → f ≡ g
found_first f g fs n e h = let k : ◌≡◌ {A = Option FieldShape} (Some f) (Some g) = rw (eq-eqb f.number n e) at h in cc

pub found_later : (f g : FieldShape) (fs : List FieldShape) (n : ℕ) → f.number ≢ n → field_at (f ∷ fs) n ≡ Some g → field_at fs n ≡ Some g
found_later f g fs n ne h = rw (ne_eqb f.number n ne) at h

-- a field that is found has the number looked for
pub found_number : (fs : List FieldShape) (n : ℕ) (f : FieldShape) → field_at fs n ≡ Some f → f.number ≡ n
found_number [] n f h = absurd (cc)
found_number (g ∷ fs) n f h = search (rules, eqb-true, found_number fs n f)

-- each field of a type is found by its number
pub each_found : (fs : List FieldShape) → Rising fs → AllByRecursion (λ f. field_at fs f.number ≡ Some f) fs
each_found [] h = tt
each_found (f ∷ fs) h = (rw (eq-eqb f.number f.number refl), later fs h.0 (each_found fs h.1))
  where
    later : (gs : List FieldShape) → AllByRecursion (λ g. f.number < g.number) gs → AllByRecursion (λ g. field_at fs g.number ≡ Some g) gs → AllByRecursion (λ g. field_at (f ∷ fs) g.number ≡ Some g) gs
    later [] above found = tt
    later (g ∷ gs) above found =
        let apart : f.number ≢ g.number = omega (arith, above.0) in
        (rw (ne_eqb f.number g.number apart) found.0, later gs above.1 found.1)

-- the records of a field have its number
module _ (number : ℕ) (e : Element) (oneof : Option ℕ) where
  each_number : {A : Type 0} (wire : A → WireType) (body : A → List ℕ) (xs : List A) → AllByRecursion (λ (r : WireRecord). r.number ≡ number) (map (λ x. written number (wire x) (body x)) xs)
  unfolding written
  each_number wire body [] = tt
  each_number wire body (x ∷ xs) = (refl, each_number wire body xs)

  numbers_of_field : (p : Presence) (qs : List (Part Leaf)) → AllByRecursion (λ (r : WireRecord). r.number ≡ number) (field_records (field_of number p e oneof) qs)
  unfolding written
  numbers_of_field presences.Implicit qs = each_number _ _ qs
  numbers_of_field presences.Explicit qs = each_number _ _ qs
  numbers_of_field (presences.Repeated false) qs = each_number _ _ qs
  numbers_of_field (presences.Repeated true) [] = tt
  numbers_of_field (presences.Repeated true) (q ∷ qs) = (refl, tt)
  numbers_of_field (presences.Map key) qs = each_number (λ q. Len) (λ q. entry_bytes key e (key_of key q) q.item) qs

pub field_records_number : (f : FieldShape) (qs : List (Part Leaf)) → AllByRecursion (λ (r : WireRecord). r.number ≡ f.number) (field_records f qs)
field_records_number f qs = numbers_of_field f.number f.element f.oneof f.presence qs

-- a field without content has no records
pub field_records_none : (f : FieldShape) → field_records f [] ≡ []
field_records_none f = search (rules, field_of)

-- records of one number, under the test for another or the same
pub number_kept : (m n : ℕ) (rs : List WireRecord) → m ≡ n → AllByRecursion (λ (r : WireRecord). r.number ≡ m) rs → filter (of_number n) rs ≡ rs
number_kept m n rs e h = filter_all (of_number n) rs (each_weaker (λ (r : WireRecord). r.number ≡ m) (λ r. of_number n r ≡ true) (λ r k. eq-eqb r.number n (k ∙ e)) rs h)

pub number_dropped : (m n : ℕ) (rs : List WireRecord) → m ≢ n → AllByRecursion (λ (r : WireRecord). r.number ≡ m) rs → filter (of_number n) rs ≡ []
number_dropped m n rs ne h = filter_none (of_number n) rs (each_weaker (λ (r : WireRecord). r.number ≡ m) (λ r. of_number n r ≡ false) (λ r k. ne_eqb r.number n (λ e. ne (sym k ∙ e))) rs h)

module _ (ps : List (Part Leaf)) where
  none_above : (fs : List FieldShape) (n : ℕ) → AllByRecursion (λ g. n < g.number) fs → filter (of_number n) (records_in fs ps) ≡ []
  none_above [] n h = refl
  none_above (g ∷ fs) n h =
      search (
        rules,
        arith,
        filter-append' (of_number n),
        number_dropped g.number n,
        field_records_number g (filter (is_of g.number) ps),
        none_above fs n h.1,
      )

  -- The records of a number are those that its field's content wrote.
  pub records_of_number : (fs : List FieldShape) (n : ℕ) (f : FieldShape) → Rising fs → field_at fs n ≡ Some f → filter (of_number n) (records_in fs ps) ≡ field_records f (filter (is_of n) ps)
  records_of_number [] n f rising h = absurd (cc)
  records_of_number (g ∷ fs) n f rising h =
      let own = field_records g (filter (is_of g.number) ps) in
      let numbers = field_records_number g (filter (is_of g.number) ps) in
      filter-append' (of_number n) own (records_in fs ps)
      ∙ elim (nat_eq g.number n) as (λ b. nat_eq g.number n ≡ b → cond b (Some g) (field_at fs n) ≡ Some f → filter (of_number n) own ++ filter (of_number n) (records_in fs ps) ≡ field_records f (filter (is_of n) ps)) [
        | true ↦ λ e k.
            let same : g ≡ f = cc in
            let at : g.number ≡ n = eqb-true g.number n e in
            ap₂ (λ xs ys. xs ++ ys) (number_kept g.number n own at numbers) (none_above fs n (subst (λ m. AllByRecursion (λ x. m < x.number) fs) at rising.0))
            ∙ append-nil own ∙ ap₂ (λ x m. field_records x (filter (is_of m) ps)) same at
        | false ↦ λ e k.
            let apart : g.number ≢ n = λ at. absurd (differ e at) in
            ap₂ (λ xs ys. xs ++ ys) (number_dropped g.number n own apart numbers) (records_of_number fs n f rising.1 k)
      ] refl h
    where
      differ : nat_eq g.number n ≡ false → g.number ≡ n → ⊥
      differ e at = let k = eq-eqb g.number n at in cc

  -- A number that the type doesn't have has no records.
  pub records_of_no_number : (fs : List FieldShape) (n : ℕ) → field_at fs n ≡ None → filter (of_number n) (records_in fs ps) ≡ []
  records_of_no_number [] n h = refl
  records_of_no_number (g ∷ fs) n h =
      search (
        rules,
        filter-append' (of_number n),
        number_dropped g.number n,
        field_records_number g (filter (is_of g.number) ps),
        records_of_no_number fs n,
        eq-eqb g.number n,
      )

-- What is after the last item of a test can be filtered first, where the filter keeps each item of the test.

module _ {A : Type 0} (keep test : A → Bool) (kept : (x : A) → test x ≡ true → keep x ≡ true) where
  not_dropped : (x : A) → test x ≡ true → keep x ≡ false → ⊥
  not_dropped x e k = let h = kept x e in cc

  list_any-filter : (xs : List A) → list_any test (filter keep xs) ≡ list_any test xs
  list_any-filter [] = refl
  list_any-filter (x ∷ xs) = search (rules, list_any-filter xs, not_dropped)

  pub after_last_of-filter : (xs : List A) → after_last_of test (filter keep xs) ≡ filter keep (after_last_of test xs)
  after_last_of-filter [] = refl
  after_last_of-filter (x ∷ xs) =
      elim (keep x) as (λ b. keep x ≡ b → after_last_of test (cond b (x ∷ filter keep xs) (filter keep xs)) ≡ filter keep (after_last_of test (x ∷ xs)))
      [ true ↦ λ k. here (after_last_of-filter xs) k (test x || list_any test xs) refl | false ↦ λ k. gone (after_last_of-filter xs) k (test x) refl ] refl
    where
      here : after_last_of test (filter keep xs) ≡ filter keep (after_last_of test xs) → keep x ≡ true → (b : Bool) → (test x || list_any test xs) ≡ b → after_last_of test (x ∷ filter keep xs) ≡ filter keep (after_last_of test (x ∷ xs))
      here again k true e = rw (list_any-filter xs, e) again
      here again k false e = rw (list_any-filter xs, e, k)

      gone : after_last_of test (filter keep xs) ≡ filter keep (after_last_of test xs) → keep x ≡ false → (b : Bool) → test x ≡ b → after_last_of test (filter keep xs) ≡ filter keep (after_last_of test (x ∷ xs))
      gone again k true e = absurd (not_dropped x e k)
      gone again k false e =
          rw e
          (elim (list_any test xs) as (λ b. list_any test xs ≡ b → after_last_of test (filter keep xs) ≡ filter keep (cond b (after_last_of test xs) (x ∷ xs)))
          [ true ↦ λ any. again | false ↦ λ any. rw k (after_last_of_none test (filter keep xs) (list_any-filter xs ∙ any)) ] refl)

-- of no parts there are no records
pub records_in_none : (fs : List FieldShape) → records_in fs [] ≡ []
records_in_none [] = refl
records_in_none (f ∷ fs) = rw (field_records_none f, records_in_none fs)

-- a record that a field takes has its number
pub takes_number : (f : FieldShape) (r : WireRecord) → takes f r ≡ true → of_number f.number r ≡ true
takes_number f r h = (and_parts (nat_eq r.number f.number) (is_accepted f r) h).0
