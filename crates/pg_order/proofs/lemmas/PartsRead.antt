-- The parts of a message with bytes in the place of each child, from which the type reads that child.
use Rattle.std.proofs.Common.{◌≡◌, ℕ, List, [], ◌∷◌, map, filter, length, true, false, cond, nat_eq, Option, Some, is_some, refl, ap, sym, subst, ◌∙◌, arith, rules}
use Rattle.std.specs.List.{AllByRecursion}
use Rattle.std.proofs.lemmas.Bool.{eqb-true}
use Rattle.pg_schema.specs.declared.parts.field.TypeId.{TypeId}
use Rattle.pg_schema.specs.declared.parts.field.Element.{Element}
use Rattle.pg_schema.specs.declared.parts.field.Element.TheVariants as elements
use Rattle.pg_schema.specs.declared.parts.field.Presence.{Presence}
use Rattle.pg_schema.specs.Shape.{Shape, FieldShape, fields, field_at}
use Rattle.pg_schema.specs.ShapeRules.{PresenceFits, IsField, IsType}
use Rattle.pg_dyn.specs.reading.Optional.{all_some}
use Rattle.pg_dyn.specs.message.Message.{Leaf, Bytes, Item, Plain, Msg, Message, ends, holds, nests, Part, Place, place_of, places, parts, message_from, unknown_of, is_of}
use Rattle.pg_dyn.specs.word.Coding.{form}
use Rattle.pg_dyn.specs.encoding.Encoding.{child_type}
use Rattle.pg_dyn.specs.reading.Decoding.{Reader, read_item, read_part}
use Rattle.pg_dyn.specs.laws.Bodies.{IsNestedLeaf}
use Rattle.pg_dyn.specs.fitting.Belonging.{ComesBefore, IsAlone, IsPart, IsMessage, LeafFits, MayBeZero}
use Rattle.pg_dyn.proofs.Lists.{each_at}
use Rattle.pg_dyn.proofs.lemmas.word.Codings.{Reads, Reads-from_range}
use Rattle.pg_dyn.proofs.lemmas.reading.Fields.{field_of}
use Rattle.pg_dyn.proofs.lemmas.reading.records.Readable.{ChildReads}
use Rattle.pg_dyn.proofs.lemmas.reading.records.Splitting.{found_number}
use Rattle.pg_dyn.proofs.lemmas.fitting.Belonging.{child_type_is}
use Rattle.pg_dyn.proofs.lemmas.laws.Flat.{FlatPart, FlatParts}

pub message_from-parts : (m : Message) → message_from (parts m) (unknown_of m) ≡ m
message_from-parts (ends unknown) = refl
message_from-parts (holds number key leaf later) = ap (holds number key leaf) (message_from-parts later)
message_from-parts (nests number key child later) = ap (nests number key child) (message_from-parts later)

-- a leaf, and a child's bytes, in their field
leaf_fits : (number : ℕ) (p : Presence) (e : Element) (oneof : Option ℕ) (leaf : Leaf) → LeafFits (field_of number p e oneof) leaf → Reads (form e) leaf × MayBeZero p leaf × IsNestedLeaf e leaf
leaf_fits number p (elements.Message t) oneof leaf h = absurd h
leaf_fits number p (elements.Scalar s) oneof leaf h = (Reads-from_range (elements.Scalar s) leaf h.0, h.1, tt)
leaf_fits number p (elements.Enum e) oneof leaf h = (Reads-from_range (elements.Enum e) leaf h.0, h.1, tt)

child_fits : (p : Presence) (e : Element) (oneof : Option ℕ) (t : TypeId) (bytes : List ℕ) → e ≡ elements.Message t → PresenceFits p e oneof → Reads (form e) (Bytes bytes) × MayBeZero p (Bytes bytes) × IsNestedLeaf e (Bytes bytes)
child_fits p e oneof t bytes is fits = grind arith

leaf_item : (child : Reader) (number : ℕ) (p : Presence) (e : Element) (oneof : Option ℕ) (leaf : Leaf) → LeafFits (field_of number p e oneof) leaf → read_item child e leaf ≡ Some (Plain leaf)
leaf_item child number p e oneof leaf h = grind arith

leaf_child : (child : Reader) (number : ℕ) (p : Presence) (e : Element) (oneof : Option ℕ) (leaf : Leaf) → LeafFits (field_of number p e oneof) leaf → ChildReads child e leaf
leaf_child child number p e oneof leaf h = grind arith

-- the parts, with bytes of each child from which the reader reads the child
abbrev pub PartsRead : Reader → List FieldShape → Message → List (Part Leaf) → Type 0
PartsRead child fs (ends unknown) ps = ps ≡ []
PartsRead child fs (holds number key leaf later) ps =
    (qs : List (Part Leaf)) × (ps ≡ record { number = number; key = key; item = leaf } ∷ qs) × PartsRead child fs later qs
PartsRead child fs (nests number key c later) ps =
    (qs : List (Part Leaf)) × (bytes : List ℕ) × (ps ≡ record { number = number; key = key; item = Bytes bytes } ∷ qs)
    × (child (child_type fs number) bytes ≡ Some c) × PartsRead child fs later qs

module _ (child : Reader) (shape : Shape) (type : TypeId) (is_type : IsType (length shape) (fields shape type)) where
  abbrev fs : List FieldShape
  fs = fields shape type

  places_read : (m : Message) (ps : List (Part Leaf)) → PartsRead child fs m ps → map place_of ps ≡ places m
  places_read (ends unknown) ps h = ap (map place_of) h
  places_read (holds number key leaf later) ps (qs, is, rest) = ap (map place_of) is ∙ ap (λ xs. record { number = number; key = key } ∷ xs) (places_read later qs rest)
  places_read (nests number key c later) ps (qs, bytes, is, read, rest) = ap (map place_of) is ∙ ap (λ xs. record { number = number; key = key } ∷ xs) (places_read later qs rest)

  flat_part : (number : ℕ) (key : Option Leaf) (leaf : Leaf) (later : Message) (qs : List (Part Leaf)) → map place_of qs ≡ places later → (part : IsPart fs number key (places later))
      → Reads (form part.field.element) leaf × MayBeZero part.field.presence leaf × IsNestedLeaf part.field.element leaf → FlatPart fs (record { number = number; key = key; item = leaf }) (map place_of qs)
  flat_part number key leaf later qs same part item = record {
    field = part.field;
    found = part.found;
    fits = record {
      number_is = sym (found_number fs number part.field part.found);
      key_fits = part.key_fits;
      reads = item.0;
      may_be_zero = item.1;
      nested = item.2;
    };
    before = subst (λ (xs : List Place). ComesBefore part.field key xs) (sym same) part.before;
    alone = subst (λ (xs : List Place). IsAlone fs part.field xs) (sym same) part.alone;
  }

  pub flat_read : (m : Message) → IsMessage shape type m → (ps : List (Part Leaf)) → PartsRead child fs m ps → FlatParts fs ps
  flat_read (ends unknown) h ps r = subst (FlatParts fs) (sym r) tt
  flat_read (holds number key leaf later) h ps (qs, is, rest) =
      subst (FlatParts fs) (sym is)
      (flat_part number key leaf later qs (places_read later qs rest) h.0 (leaf_fits h.0.field.number h.0.field.presence h.0.field.element h.0.field.oneof leaf h.1), flat_read later h.2 qs rest)
  flat_read (nests number key c later) h ps (qs, bytes, is, read, rest) =
      let is_field = each_at (IsField (length shape)) fs number h.0.field h.0.found is_type.each in
      subst (FlatParts fs) (sym is)
      (flat_part number key (Bytes bytes) later qs (places_read later qs rest) h.0 (child_fits h.0.field.presence h.0.field.element h.0.field.oneof h.1 bytes h.2 is_field.presence_fits), flat_read later h.4 qs rest)

  same_field : (f g : FieldShape) (n : ℕ) → field_at fs n ≡ Some g → field_at fs f.number ≡ Some f → n ≡ f.number → g ≡ f
  same_field f g n found known at = search rules

  child_element : (f : FieldShape) → field_at fs f.number ≡ Some f → (number : ℕ) (g : FieldShape) (t : TypeId) → field_at fs number ≡ Some g → g.element ≡ elements.Message t → number ≡ f.number → f.element ≡ elements.Message (child_type fs number)
  child_element f known number g t found is at = search (rules, same_field, child_type_is)

  module _ (f : FieldShape) (known : field_at fs f.number ≡ Some f) where
    abbrev AreRead : List (Part Leaf) → List (Part Item) → Type 0
    AreRead ps qs = all_some (map (read_part child f.element) ps) ≡ Some qs

    -- the parts of a field
    pub parts_again : (m : Message) → IsMessage shape type m → (ps : List (Part Leaf)) → PartsRead child fs m ps → AreRead (filter (is_of f.number) ps) (filter (is_of f.number) (parts m))
    parts_again (ends unknown) h ps r = subst (λ xs. AreRead (filter (is_of f.number) xs) []) (sym r) refl
    parts_again (holds number key leaf later) h ps (qs, is, rest) =
        subst (λ xs. AreRead (filter (is_of f.number) xs) (filter (is_of f.number) (parts (holds number key leaf later)))) (sym is)
        (elim (nat_eq number f.number) as (λ b. nat_eq number f.number ≡ b → AreRead (cond b (record { number = number; key = key; item = leaf } ∷ filter (is_of f.number) qs) (filter (is_of f.number) qs)) (cond b (record { number = number; key = key; item = Plain leaf } ∷ filter (is_of f.number) (parts later)) (filter (is_of f.number) (parts later)))) [
          | true ↦ λ e.
              let same = same_field f h.0.field number h.0.found known (eqb-true number f.number e) in
              let item : read_item child f.element leaf ≡ Some (Plain leaf) =
              subst (λ (g : FieldShape). read_item child g.element leaf ≡ Some (Plain leaf)) same (leaf_item child h.0.field.number h.0.field.presence h.0.field.element h.0.field.oneof leaf h.1) in
              rw (item, parts_again later h.2 qs rest)
          | false ↦ λ e. parts_again later h.2 qs rest
        ] refl)
    parts_again (nests number key c later) h ps (qs, bytes, is, read, rest) =
        subst (λ xs. AreRead (filter (is_of f.number) xs) (filter (is_of f.number) (parts (nests number key c later)))) (sym is)
        (elim (nat_eq number f.number) as (λ b. nat_eq number f.number ≡ b → AreRead (cond b (record { number = number; key = key; item = Bytes bytes } ∷ filter (is_of f.number) qs) (filter (is_of f.number) qs)) (cond b (record { number = number; key = key; item = Msg c } ∷ filter (is_of f.number) (parts later)) (filter (is_of f.number) (parts later)))) [
          | true ↦ λ e.
              let of = child_element f known number h.0.field h.1 h.0.found h.2 (eqb-true number f.number e) in
              rw (of, read, parts_again later h.4 qs rest)
          | false ↦ λ e. parts_again later h.4 qs rest
        ] refl)

    abbrev EachReads : List (Part Leaf) → Type 0
    EachReads ps = AllByRecursion (λ (q : Part Leaf). ChildReads child f.element q.item) ps

    -- each child in a field is read
    pub children_read : (m : Message) → IsMessage shape type m → (ps : List (Part Leaf)) → PartsRead child fs m ps → EachReads (filter (is_of f.number) ps)
    children_read (ends unknown) h ps r = subst (λ xs. EachReads (filter (is_of f.number) xs)) (sym r) tt
    children_read (holds number key leaf later) h ps (qs, is, rest) =
        subst (λ xs. EachReads (filter (is_of f.number) xs)) (sym is)
        (elim (nat_eq number f.number) as (λ b. nat_eq number f.number ≡ b → EachReads (cond b (record { number = number; key = key; item = leaf } ∷ filter (is_of f.number) qs) (filter (is_of f.number) qs))) [
          | true ↦ λ e. (
            subst (λ (g : FieldShape). ChildReads child g.element leaf) (same_field f h.0.field number h.0.found known (eqb-true number f.number e))
                (leaf_child child h.0.field.number h.0.field.presence h.0.field.element h.0.field.oneof leaf h.1),
            children_read later h.2 qs rest,
          )
          | false ↦ λ e. children_read later h.2 qs rest
        ] refl)
    children_read (nests number key c later) h ps (qs, bytes, is, read, rest) =
        subst (λ xs. EachReads (filter (is_of f.number) xs)) (sym is)
        (elim (nat_eq number f.number) as (λ b. nat_eq number f.number ≡ b → EachReads (cond b (record { number = number; key = key; item = Bytes bytes } ∷ filter (is_of f.number) qs) (filter (is_of f.number) qs))) [
          | true ↦ λ e. (
            subst (λ x. ChildReads child x (Bytes bytes)) (sym (child_element f known number h.0.field h.1 h.0.found h.2 (eqb-true number f.number e))) (ap is_some read),
            children_read later h.4 qs rest,
          )
          | false ↦ λ e. children_read later h.4 qs rest
        ] refl)
