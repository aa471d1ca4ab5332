-- Where each field alone is kept, and no two fields of the message meet in one oneof of the new type, the whole message is kept.
use Rattle.std.proofs.Common.{◌≡◌, ◌≢◌, ℕ, ◌^◌, ◌<◌, ◌≤◌, List, [], ◌∷◌, ◌++◌, map, filter, length, Bool, true, false, not, ◌&&◌, cond, nat_eq, Option, Some, refl, ap, ap₂, sym, ◌∙◌, subst, arith, append-nil, eq-eqb, ne_eqb, true≢false, length-append, inl, inr, ◌⊎◌, rules}
use Rattle.std.specs.List.{AllByRecursion, list_all}
use Rattle.std.proofs.lemmas.Bool.{and_parts, eqb-true, false_from_ne_true, not-true, not-false, and_from}
use Rattle.pg_schema.specs.declared.parts.field.TypeId.{TypeId}
use Rattle.pg_schema.specs.Shape.{Shape, FieldShape, fields, field_at}
use Rattle.pg_schema.specs.ShapeRules.{IsShape}
use Rattle.pg_wire.specs.Records.{WireRecord}
use Rattle.pg_dyn.specs.message.Message.{Leaf, Message, ends, holds, nests, Item, Part, Place, places, parts, unknown_of, only, is_of, IsPlain}
use Rattle.pg_dyn.specs.reading.Content.{is_sibling}
use Rattle.pg_dyn.specs.encoding.Writing.{field_records, records_in, bytes_of}
use Rattle.pg_dyn.specs.encoding.Encoding.{encoded_parts, enc}
use Rattle.pg_dyn.specs.reading.Decoding.{dec}
use Rattle.pg_dyn.proofs.lemmas.laws.Flat.{sibling_apart}
use Rattle.pg_dyn.specs.fitting.Belonging.{IsPart, IsMessage}
use Rattle.pg_dyn.specs.views.Comparison.{View, Comparand, writes, comparands}
use Rattle.pg_dyn.specs.views.Breaking.{is_kept}
use Rattle.pg_dyn.specs.laws.Laws.{of_number, NoneMeet, BreaksAlone, Meet}
use Rattle.pg_dyn.specs.laws.ByComparands.{comparands_at, is_field_kept, NoComparandsMeet}
use Rattle.pg_dyn.proofs.Lists.{filter-append', filter-map, each_at, filter-filter_weaker, list_all_true}
use Rattle.pg_dyn.proofs.lemmas.views.SelfSame.{plain_unknown}
use Rattle.pg_dyn.proofs.lemmas.fitting.Belonging.{fields-IsType}
use Rattle.pg_dyn.proofs.lemmas.views.ByComparands.{comparands_written, kept_by_comparands, comparands_kept}
use Rattle.pg_dyn.proofs.lemmas.reading.records.Splitting.{field_records_number, field_records_none, number_kept, number_dropped, each_found, found_number}

module _ (view : View) (old new : Shape) (a b : TypeId) (n : ℕ) where
  part_kept : (t : Bool) (c : Comparand) (front rest : Message) (cs : List Comparand) → comparands view old new a b front ≡ c ∷ comparands view old new a b rest → comparands view old new a b rest ≡ cs → comparands view old new a b (cond t front rest) ≡ cond t (c ∷ cs) cs
  part_kept true c front rest cs first same = first ∙ ap (λ ds. c ∷ ds) same
  part_kept false c front rest cs first same = same

  -- the comparands of a field alone
  comparands-only : (v : Message) → comparands view old new a b (only n v) ≡ comparands_at n (comparands view old new a b v)
  comparands-only (ends unknown) = refl
  comparands-only (holds number key leaf later) = part_kept (nat_eq number n) _ (holds number key leaf (only n later)) (only n later) _ refl (comparands-only later)
  comparands-only (nests number key child later) = part_kept (nat_eq number n) _ (nests number key child (only n later)) (only n later) _ refl (comparands-only later)

  encoded_parts-only : (v : Message) → encoded_parts old a (only n v) ≡ filter (is_of n) (encoded_parts old a v)
  encoded_parts-only v =
      sym (comparands_written view old new a b (only n v))
      ∙ ap (map writes) (comparands-only v)
      ∙ sym (filter-map (is_of n) writes (comparands view old new a b v))
      ∙ ap (filter (is_of n)) (comparands_written view old new a b v)

  none_kept : {A B : Type 0} (t : Bool) (x : A) (xs : List A) (y : B) (ys : List B) → (xs ≡ [] → ys ≡ []) → cond t (x ∷ xs) xs ≡ [] → cond t (y ∷ ys) ys ≡ []
  none_kept true x xs y ys same h = absurd (cc)
  none_kept false x xs y ys same h = same h

  -- a field without parts has no comparands
  no_comparands : (v : Message) → filter (is_of n) (parts v) ≡ [] → comparands_at n (comparands view old new a b v) ≡ []
  no_comparands (ends unknown) h = refl
  no_comparands (holds number key leaf later) h = none_kept (nat_eq number n) _ _ _ _ (no_comparands later) h
  no_comparands (nests number key child later) h = none_kept (nat_eq number n) _ _ _ _ (no_comparands later) h

-- what holds of all parts holds of those of one field
each-only : (P : Place → Type 0) (n : ℕ) (v : Message) → AllByRecursion P (places v) → AllByRecursion P (places (only n v))
each-only P n (ends unknown) h = tt
each-only P n (holds number key leaf later) h = search (rules, each-only P n later h.1)
each-only P n (nests number key child later) h = search (rules, each-only P n later h.1)

IsPart-only : (fs : List FieldShape) (number : ℕ) (key : Option Leaf) (n : ℕ) (later : Message) → IsPart fs number key (places later) → IsPart fs number key (places (only n later))
IsPart-only fs number key n later part = search (rules, each-only)

IsMessage-only : (shape : Shape) (type : TypeId) (n : ℕ) (v : Message) → IsMessage shape type v → IsMessage shape type (only n v)
unfolding IsPart-only
IsMessage-only shape type n (ends unknown) h = tt
IsMessage-only shape type n (holds number key leaf later) h =
    elim (nat_eq number n) as (λ b. IsMessage shape type (cond b (holds number key leaf (only n later)) (only n later)))
    [ true ↦ (IsPart-only (fields shape type) number key n later h.0, h.1, IsMessage-only shape type n later h.2) | false ↦ IsMessage-only shape type n later h.2 ]
IsMessage-only shape type n (nests number key child later) h =
    elim (nat_eq number n) as (λ b. IsMessage shape type (cond b (nests number key child (only n later)) (only n later)))
    [ true ↦ (IsPart-only (fields shape type) number key n later h.0, h.1, h.2, h.3, IsMessage-only shape type n later h.4) | false ↦ IsMessage-only shape type n later h.4 ]

IsPlain-only : (n : ℕ) (v : Message) → IsPlain v → IsPlain (only n v)
IsPlain-only n (ends unknown) h = tt
IsPlain-only n (holds number key leaf later) h = search (rules, IsPlain-only n later h)
IsPlain-only n (nests number key child later) h = search (rules, IsPlain-only n later h.1)

-- the parts of one number, twice
filter-twice : {A : Type 0} (test : A → Bool) (xs : List A) → filter test (filter test xs) ≡ filter test xs
filter-twice test xs = filter-filter_weaker test test (λ x h. h) xs

filter_apart : {A : Type 0} (number : A → ℕ) (m n : ℕ) (xs : List A) → m ≢ n → filter (λ x. nat_eq (number x) m) (filter (λ x. nat_eq (number x) n) xs) ≡ []
filter_apart number m n [] apart = refl
filter_apart number m n (x ∷ xs) apart =
    search (rules, ne_eqb, eqb-true, filter_apart number m n xs apart)

-- the records of one field's parts alone
records_in-filter : (fs : List FieldShape) (n : ℕ) (ps : List (Part Leaf)) → records_in fs (filter (is_of n) ps) ≡ filter (of_number n) (records_in fs ps)
records_in-filter [] n ps = refl
records_in-filter (f ∷ fs) n ps =
    sym (filter-append' (of_number n) (field_records f (filter (is_of f.number) ps)) (records_in fs ps)
    ∙ ap₂ (λ xs ys. xs ++ ys)
    (elim (nat_eq f.number n) as (λ b. nat_eq f.number n ≡ b → filter (of_number n) (field_records f (filter (is_of f.number) ps)) ≡ field_records f (filter (is_of f.number) (filter (is_of n) ps))) [
      | true ↦ λ e.
          let at = eqb-true f.number n e in
          number_kept f.number n (field_records f (filter (is_of f.number) ps)) at (field_records_number f (filter (is_of f.number) ps))
          ∙ ap (field_records f) (sym (subst (λ m. filter (is_of f.number) (filter (is_of m) ps) ≡ filter (is_of f.number) ps) at (filter-twice (is_of f.number) ps)))
      | false ↦ λ e.
          let apart : f.number ≢ n = λ at. true≢false (sym (eq-eqb f.number n at) ∙ e) in
          number_dropped f.number n (field_records f (filter (is_of f.number) ps)) apart (field_records_number f (filter (is_of f.number) ps))
          ∙ sym (ap (field_records f) (filter_apart (λ (p : Part Leaf). p.number) f.number n ps apart) ∙ field_records_none f)
    ] refl)
    (sym (records_in-filter fs n ps)))

length_bytes-filter : (test : WireRecord → Bool) (rs : List WireRecord) → length (bytes_of (filter test rs)) ≤ length (bytes_of rs)
length_bytes-filter test [] = omega arith
length_bytes-filter test (r ∷ rs) =
    search (rules, arith, length_bytes-filter test rs, length-append)

cons_nil : {A : Type 0} (x : A) (xs ys : List A) → ys ≡ x ∷ xs → ys ≡ [] → ⊥
cons_nil x xs ys is none = let k = sym none ∙ is in cc

module _ (view : View) (old new : Shape) (a b : TypeId) (v : Message) (is_old : IsShape old) (is_new : IsShape new) (is_message : IsMessage old a v) (plain : IsPlain v) (short : length (enc old a v) < 2 ^ 64) where
  abbrev cs : List Comparand
  cs = comparands view old new a b v

  abbrev all_records : List WireRecord
  all_records = records_in (fields old a) (encoded_parts old a v)

  one_short : (n : ℕ) → length (enc old a (only n v)) < 2 ^ 64
  unfolding enc
  one_short n =
      let records : records_in (fields old a) (encoded_parts old a (only n v)) ≡ filter (of_number n) all_records =
      ap (records_in (fields old a)) (encoded_parts-only view old new a b n v) ∙ records_in-filter (fields old a) n (encoded_parts old a v) in
      let bytes : bytes_of (records_in (fields old a) (encoded_parts old a (only n v))) ++ bytes_of (unknown_of (only n v)) ≡ bytes_of (filter (of_number n) all_records) =
      ap₂ (λ xs ys. bytes_of xs ++ bytes_of ys) records (plain_unknown (only n v) (IsPlain-only n v plain)) ∙ append-nil (bytes_of (filter (of_number n) all_records)) in
      omega (arith, ap length bytes, length_bytes-filter (of_number n) all_records, length-append (bytes_of all_records) (bytes_of (unknown_of v)))

  -- no two fields meet in a field alone
  one_apart : (n : ℕ) → NoComparandsMeet (fields new b) (comparands view old new a b (only n v))
  one_apart n g h at_g at_h sibling = of (nat_eq g.number n) refl
    where
      none : (m : ℕ) → m ≢ n → comparands_at m (comparands view old new a b (only n v)) ≡ []
      none m apart = ap (comparands_at m) (comparands-only view old new a b n v) ∙ filter_apart (λ (c : Comparand). c.number) m n cs apart

      of : (t : Bool) → nat_eq g.number n ≡ t → (comparands_at g.number (comparands view old new a b (only n v)) ≡ []) ⊎ (comparands_at h.number (comparands view old new a b (only n v)) ≡ [])
      of true e = inr (none h.number (λ same. sibling_apart g h sibling (eqb-true g.number n e ∙ sym same)))
      of false e = inl (none g.number (λ same. true≢false (sym (eq-eqb g.number n same) ∙ e)))

  none_meet_in_comparands : NoneMeet (fields new b) v → NoComparandsMeet (fields new b) cs
  none_meet_in_comparands apart g h at_g at_h sibling = of (filter (is_of g.number) (parts v)) (filter (is_of h.number) (parts v)) refl refl
    where
      of : (ps qs : List (Part Item)) → filter (is_of g.number) (parts v) ≡ ps → filter (is_of h.number) (parts v) ≡ qs → (comparands_at g.number cs ≡ []) ⊎ (comparands_at h.number cs ≡ [])
      of [] qs none some = inl (no_comparands view old new a b g.number v none)
      of (p ∷ ps) [] some none = inr (no_comparands view old new a b h.number v none)
      of (p ∷ ps) (q ∷ qs) some_g some_h =
          absurd (true≢false (sym sibling ∙ apart g.number h.number g h at_g at_h (cons_nil p ps (filter (is_of g.number) (parts v)) some_g) (cons_nil q qs (filter (is_of h.number) (parts v)) some_h)))

  pub whole_kept : NoneMeet (fields new b) v → ((n : ℕ) (f : FieldShape) → field_at (fields old a) n ≡ Some f → is_kept view old new a b (only n v) ≡ true) → is_kept view old new a b v ≡ true
  whole_kept apart kept =
      kept_by_comparands view old new a b v is_old is_new is_message plain short (none_meet_in_comparands apart)
      (λ f g found at.
      let alone : is_field_kept view (dec new) f g (comparands_at f.number (comparands view old new a b (only f.number v))) ≡ true =
      comparands_kept view old new a b (only f.number v) is_old is_new (IsMessage-only old a f.number v is_message) (IsPlain-only f.number v plain) (one_short f.number) (one_apart f.number) (kept f.number f found) f g found at in
      let own : comparands_at f.number (comparands view old new a b (only f.number v)) ≡ comparands_at f.number cs =
      ap (comparands_at f.number) (comparands-only view old new a b f.number v) ∙ filter-twice (λ (c : Comparand). nat_eq c.number f.number) cs in
      subst (λ xs. is_field_kept view (dec new) f g xs ≡ true) own alone)

-- Where the message isn't kept, the tests find why.

find_false : {A : Type 0} (P : A → Type 0) (test : A → Bool) (xs : List A) → AllByRecursion P xs → list_all test xs ≡ false → (x : A) × P x × (test x ≡ false)
find_false P test [] each h = absurd (cc)
find_false P test (x ∷ xs) each h = search (rules, find_false P test xs each.1)

is_nil : {A : Type 0} → List A → Bool
is_nil [] = true
is_nil (x ∷ xs) = false

nil_from : {A : Type 0} (xs : List A) → is_nil xs ≡ true → xs ≡ []
unfolding is_nil
nil_from [] h = refl
nil_from (x ∷ xs) h = absurd (cc)

not_nil : {A : Type 0} (xs : List A) → is_nil xs ≡ false → xs ≡ [] → ⊥
unfolding is_nil
not_nil [] h e = cc
not_nil (x ∷ xs) h e = cc

module _ (gs : List FieldShape) (v : Message) where
  -- whether two fields meet in the message
  do_meet : FieldShape → FieldShape → Bool
  do_meet f g = is_sibling f g && (not (is_nil (filter (is_of f.number) (parts v))) && not (is_nil (filter (is_of g.number) (parts v))))

  none_meet : list_all (λ f. list_all (λ g. not (do_meet f g)) gs) gs ≡ true → NoneMeet gs v
  unfolding do_meet
  none_meet h m n f g found_f found_g some_f some_g =
      let apart = not-true (do_meet f g) (each_at (λ x. not (do_meet f x) ≡ true) gs n g found_g (list_all_true (λ x. not (do_meet f x)) gs (each_at (λ x. list_all (λ y. not (do_meet x y)) gs ≡ true) gs m f found_f (list_all_true (λ x. list_all (λ y. not (do_meet x y)) gs) gs h)))) in
      false_from_ne_true (is_sibling f g) (λ siblings.
      let both = and_from (is_sibling f g) _ siblings
      (and_from _ _ (present f m (found_number gs m f found_f) some_f) (present g n (found_number gs n g found_g) some_g)) in
      true≢false (sym both ∙ apart))
    where
      present : (x : FieldShape) (k : ℕ) → x.number ≡ k → (filter (is_of k) (parts v) ≡ [] → ⊥) → not (is_nil (filter (is_of x.number) (parts v))) ≡ true
      present x k at some =
          ap not (false_from_ne_true (is_nil (filter (is_of x.number) (parts v))) (λ none. some (subst (λ y. filter (is_of y) (parts v) ≡ []) at (nil_from (filter (is_of x.number) (parts v)) none))))

  meeting : (f g : FieldShape) → field_at gs f.number ≡ Some f → field_at gs g.number ≡ Some g → not (do_meet f g) ≡ false → Meet gs v
  unfolding do_meet
  meeting f g found_f found_g h =
      let meet = not-false (do_meet f g) h in
      let parts_of = and_parts (is_sibling f g) _ meet in
      let both = and_parts (not (is_nil (filter (is_of f.number) (parts v)))) (not (is_nil (filter (is_of g.number) (parts v)))) parts_of.1 in
      record {
        first = f;
        second = g;
        first_found = found_f;
        second_found = found_g;
        siblings = parts_of.0;
        first_some = not_nil (filter (is_of f.number) (parts v)) (not-true (is_nil (filter (is_of f.number) (parts v))) both.0);
        second_some = not_nil (filter (is_of g.number) (parts v)) (not-true (is_nil (filter (is_of g.number) (parts v))) both.1);
      }

  meet_somewhere : AllByRecursion (λ f. field_at gs f.number ≡ Some f) gs → list_all (λ f. list_all (λ g. not (do_meet f g)) gs) gs ≡ false → Meet gs v
  meet_somewhere found h =
      let (f, found_f, some) = find_false (λ x. field_at gs x.number ≡ Some x) (λ x. list_all (λ y. not (do_meet x y)) gs) gs found h in
      let (g, found_g, meet) = find_false (λ x. field_at gs x.number ≡ Some x) (λ y. not (do_meet f y)) gs found some in
      meeting f g found_f found_g meet

module _ (view : View) (old new : Shape) (a b : TypeId) (v : Message) (is_old : IsShape old) (is_new : IsShape new) (is_message : IsMessage old a v) (plain : IsPlain v) (short : length (enc old a v) < 2 ^ 64) (broken : is_kept view old new a b v ≡ false) where
  alone_or_kept : NoneMeet (fields new b) v → BreaksAlone view old new a b v
  alone_or_kept apart = of (list_all (λ f. is_kept view old new a b (only f.number v)) (fields old a)) refl
    where
      known : AllByRecursion (λ f. field_at (fields old a) f.number ≡ Some f) (fields old a)
      known = each_found (fields old a) (fields-IsType old a is_old).rising

      of : (t : Bool) → list_all (λ f. is_kept view old new a b (only f.number v)) (fields old a) ≡ t → BreaksAlone view old new a b v
      of true is =
          let each = list_all_true (λ f. is_kept view old new a b (only f.number v)) (fields old a) is in
          let kept = whole_kept view old new a b v is_old is_new is_message plain short apart
          (λ n f found. subst (λ m. is_kept view old new a b (only m v) ≡ true) (found_number (fields old a) n f found) (each_at (λ x. is_kept view old new a b (only x.number v) ≡ true) (fields old a) n f found each)) in
          absurd (true≢false (sym kept ∙ broken))
      of false is =
          let (f, found, bad) = find_false (λ x. field_at (fields old a) x.number ≡ Some x) (λ x. is_kept view old new a b (only x.number v)) (fields old a) known is in
          record { field = f; found = found; not_kept = bad }

  pub breaks_somewhere : BreaksAlone view old new a b v ⊎ Meet (fields new b) v
  breaks_somewhere = of (list_all (λ f. list_all (λ g. not (do_meet (fields new b) v f g)) (fields new b)) (fields new b)) refl
    where
      of : (t : Bool) → list_all (λ f. list_all (λ g. not (do_meet (fields new b) v f g)) (fields new b)) (fields new b) ≡ t → BreaksAlone view old new a b v ⊎ Meet (fields new b) v
      of true is = inl (alone_or_kept (none_meet (fields new b) v is))
      of false is = inr (meet_somewhere (fields new b) v (each_found (fields new b) (fields-IsType new b is_new).rising) is)
