-- What bytes are read as splits by field number.
use Rattle.std.proofs.Common.{◌≡◌, ◌≢◌, ℕ, ◌<◌, List, [], ◌∷◌, ◌++◌, map, filter, true, false, cond, nat_eq, Option, Some, None, option_map, refl, ap, ap₂, sym, ◌∙◌, subst, arith, eq-eqb, ne_eqb, append-nil, rules}
use Rattle.std.specs.Bool.{⊤}
use Rattle.std.specs.List.{AllByRecursion}
use Rattle.std.proofs.lemmas.Bool.{eqb-true}
use Rattle.pg_schema.specs.declared.parts.field.Element.{Element}
use Rattle.pg_schema.specs.declared.parts.field.Presence.{Presence}
use Rattle.pg_schema.specs.Shape.{FieldShape, field_at}
use Rattle.pg_schema.specs.ShapeRules.{Rising}
use Rattle.pg_wire.specs.Records.{WireRecord}
use Rattle.pg_dyn.specs.reading.Optional.{all_some, joined}
use Rattle.pg_dyn.specs.message.Message.{Leaf, Item, Plain, Msg, Message, with_part, message_from, Part, parts, unknown_of, is_of}
use Rattle.pg_dyn.specs.reading.Content.{is_unknown, counted, plain_content, content}
use Rattle.pg_dyn.specs.reading.Decoding.{Reader, read_part, field_parts, all_readable, read_records}
use Rattle.pg_dyn.proofs.Lists.{each-map, each_of_all, filter_all, filter_none, filter-append', each_weaker, option_map_some, and_then_some}
use Rattle.pg_dyn.proofs.lemmas.reading.Fields.{field_of}

-- each of a list gives the one at its index in another
abbrev pub Gives : {A B : Type 0} → (A → Option B) → List A → List B → Type 0
Gives g [] [] = ⊤
Gives g [] (y ∷ ys) = ⊥
Gives g (x ∷ xs) [] = ⊥
Gives g (x ∷ xs) (y ∷ ys) = (g x ≡ Some y) × Gives g xs ys

pub all_some_gives : {A B : Type 0} (g : A → Option B) (xs : List A) (ys : List B) → all_some (map g xs) ≡ Some ys → Gives g xs ys
all_some_gives g [] [] h = tt
all_some_gives g [] (y ∷ ys) h = absurd (cc)
all_some_gives g (x ∷ xs) ys h = search (rules, and_then_some, option_map_some, all_some_gives g xs)

parts-with_part : (n : ℕ) (key : Option Leaf) (item : Item) (later : Message) → (parts (with_part n key item later) ≡ record { number = n; key = key; item = item } ∷ parts later) × (unknown_of (with_part n key item later) ≡ unknown_of later)
parts-with_part n key (Plain leaf) later = (refl, refl)
parts-with_part n key (Msg child) later = (refl, refl)

pub parts-message_from : (ps : List (Part Item)) (us : List WireRecord) → (parts (message_from ps us) ≡ ps) × (unknown_of (message_from ps us) ≡ us)
parts-message_from [] us = (refl, refl)
parts-message_from (p ∷ ps) us = search (rules, parts-with_part, parts-message_from ps us)

-- The parts that are read of a field have its number.

abbrev AllOf : {A : Type 0} → ℕ → List (Part A) → Type 0
AllOf n ps = AllByRecursion (λ p. p.number ≡ n) ps

plain_numbers : (f : FieldShape) (rs : List WireRecord) (ps : List (Part Leaf)) → option_map (map (λ leaf. record { number = f.number; key = None; item = leaf })) (plain_content f rs) ≡ Some ps → AllOf f.number ps
plain_numbers f rs ps h = search (rules, option_map_some, each-map, each_of_all)

numbers_in_field : (n : ℕ) (p : Presence) (e : Element) (oneof : Option ℕ) (rs : List WireRecord) (ps : List (Part Leaf)) → content (field_of n p e oneof) rs ≡ Some ps → AllOf n ps
numbers_in_field n p e oneof rs ps h =
    grind (arith, plain_numbers, field_of, option_map_some, each-map, each_of_all)

module _ (child : Reader) (e : Element) where
  read_number : (p : Part Leaf) (q : Part Item) → read_part child e p ≡ Some q → q.number ≡ p.number
  read_number p q h = search (rules, option_map_some)

  read_numbers : (n : ℕ) (ps : List (Part Leaf)) (qs : List (Part Item)) → Gives (read_part child e) ps qs → AllOf n ps → AllOf n qs
  read_numbers n [] [] g h = tt
  read_numbers n [] (q ∷ qs) g h = absurd g
  read_numbers n (p ∷ ps) [] g h = absurd g
  read_numbers n (p ∷ ps) (q ∷ qs) g h = (read_number p q g.0 ∙ h.0, read_numbers n ps qs g.1 h.1)

field_numbers : (child : Reader) (fs : List FieldShape) (rs : List WireRecord) (f : FieldShape) (qs : List (Part Item)) → field_parts child fs rs f ≡ Some qs → AllOf f.number qs
field_numbers child fs rs f qs h =
    let (ps, read, made) = and_then_some (λ x. all_some (map (read_part child f.element) x)) (content f (counted fs f rs)) qs h in
    read_numbers child f.element f.number ps qs (all_some_gives (read_part child f.element) ps qs made) (numbers_in_field f.number f.presence f.element f.oneof (counted fs f rs) ps read)

-- Pieces of one number each, joined, are found again by their numbers.

kept : (m n : ℕ) (ps : List (Part Item)) → m ≡ n → AllOf m ps → filter (is_of n) ps ≡ ps
kept m n ps at h = filter_all (is_of n) ps (each_weaker (λ (p : Part Item). p.number ≡ m) (λ p. is_of n p ≡ true) (λ p k. eq-eqb p.number n (k ∙ at)) ps h)

dropped : (m n : ℕ) (ps : List (Part Item)) → m ≢ n → AllOf m ps → filter (is_of n) ps ≡ []
dropped m n ps apart h = filter_none (is_of n) ps (each_weaker (λ (p : Part Item). p.number ≡ m) (λ p. is_of n p ≡ false) (λ p k. ne_eqb p.number n (λ at. apart (sym k ∙ at))) ps h)

module _ (g : FieldShape → Option (List (Part Item))) (numbers : (f : FieldShape) (qs : List (Part Item)) → g f ≡ Some qs → AllOf f.number qs) where
  none_above : (fs : List FieldShape) (pss : List (List (Part Item))) (n : ℕ) → Gives g fs pss → AllByRecursion (λ f. n < f.number) fs → filter (is_of n) (joined pss) ≡ []
  none_above [] [] n gives h = refl
  none_above [] (ps ∷ pss) n gives h = absurd gives
  none_above (f ∷ fs) [] n gives h = absurd gives
  none_above (f ∷ fs) (ps ∷ pss) n gives h =
      let apart : f.number ≢ n = omega (arith, h.0) in
      filter-append' (is_of n) ps (joined pss) ∙ ap₂ (λ xs ys. xs ++ ys) (dropped f.number n ps apart (numbers f ps gives.0)) (none_above fs pss n gives.1 h.1)

  piece : (fs : List FieldShape) (pss : List (List (Part Item))) (n : ℕ) (f : FieldShape) → Gives g fs pss → Rising fs → field_at fs n ≡ Some f → g f ≡ Some (filter (is_of n) (joined pss))
  piece [] pss n f gives rising found = absurd (cc)
  piece (x ∷ fs) [] n f gives rising found = absurd gives
  piece (x ∷ fs) (ps ∷ pss) n f gives rising found =
      elim (nat_eq x.number n) as (λ b. nat_eq x.number n ≡ b → cond b (Some x) (field_at fs n) ≡ Some f → g f ≡ Some (filter (is_of n) (ps ++ joined pss))) [
        | true ↦ λ e k.
            let at = eqb-true x.number n e in
            let same : x ≡ f = cc in
            ap g (sym same) ∙ gives.0
            ∙ ap Some (sym (filter-append' (is_of n) ps (joined pss) ∙ ap₂ (λ xs ys. xs ++ ys) (kept x.number n ps at (numbers x ps gives.0)) (none_above fs pss n gives.1 (subst (λ m. AllByRecursion (λ y. m < y.number) fs) at rising.0)) ∙ append-nil ps))
        | false ↦ λ e k.
            let apart : x.number ≢ n = λ at. differ e at in
            piece fs pss n f gives.1 rising.1 k
            ∙ ap Some (sym (filter-append' (is_of n) ps (joined pss) ∙ ap (λ xs. xs ++ filter (is_of n) (joined pss)) (dropped x.number n ps apart (numbers x ps gives.0))))
      ] refl found
    where
      differ : nat_eq x.number n ≡ false → x.number ≡ n → ⊥
      differ e at = let k = eq-eqb x.number n at in cc

  no_piece : (fs : List FieldShape) (pss : List (List (Part Item))) (n : ℕ) → Gives g fs pss → field_at fs n ≡ None → filter (is_of n) (joined pss) ≡ []
  no_piece [] [] n gives found = refl
  no_piece [] (ps ∷ pss) n gives found = absurd gives
  no_piece (x ∷ fs) [] n gives found = absurd gives
  no_piece (x ∷ fs) (ps ∷ pss) n gives found =
      search (
        rules,
        filter-append' (is_of n) ps (joined pss),
        dropped x.number n ps,
        no_piece fs pss n gives.1,
        eq-eqb x.number n,
      )

-- what a reading of records gave
pub record IsReading (child : Reader) (fs : List FieldShape) (rs : List WireRecord) (m : Message) : Type 0 where
  pub readable : all_readable child fs rs ≡ true
  pub pieces : List (List (Part Item))
  pub gives : Gives (field_parts child fs rs) fs pieces
  pub made : message_from (joined pieces) (filter (is_unknown fs) rs) ≡ m

pub reading_of : (child : Reader) (fs : List FieldShape) (rs : List WireRecord) (m : Message) → read_records child fs rs ≡ Some m → IsReading child fs rs m
reading_of child fs rs m h = search (rules, option_map_some, all_some_gives)

module _ (child : Reader) (fs : List FieldShape) (rs : List WireRecord) (m : Message) (rising : Rising fs) (reading : IsReading child fs rs m) where
  parts_are : parts m ≡ joined reading.pieces
  parts_are = ap parts (sym reading.made) ∙ (parts-message_from (joined reading.pieces) (filter (is_unknown fs) rs)).0

  pub field_split : (n : ℕ) (f : FieldShape) → field_at fs n ≡ Some f → field_parts child fs rs f ≡ Some (filter (is_of n) (parts m))
  field_split n f found = rw parts_are (piece (field_parts child fs rs) (field_numbers child fs rs) fs reading.pieces n f reading.gives rising found)

  pub no_field_split : (n : ℕ) → field_at fs n ≡ None → filter (is_of n) (parts m) ≡ []
  no_field_split n found = rw parts_are (no_piece (field_parts child fs rs) (field_numbers child fs rs) fs reading.pieces n reading.gives found)

  pub unknown_split : unknown_of m ≡ filter (is_unknown fs) rs
  unknown_split = ap unknown_of (sym reading.made) ∙ (parts-message_from (joined reading.pieces) (filter (is_unknown fs) rs)).1
