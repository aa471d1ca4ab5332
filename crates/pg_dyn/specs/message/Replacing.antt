-- A message with another content under a number.
use Rattle.std.specs.Prelude.{ℕ, List, [], ◌∷◌, ◌++◌, filter, flat_map, nat_lt, nat_eq, Bool, not, ◌&&◌, Option}
use Rattle.std.specs.List.{list_any}
use Rattle.pg_schema.specs.declared.parts.field.TypeId.{TypeId}
use Rattle.pg_schema.specs.Shape.{FieldShape}
use Rattle.pg_wire.specs.Records.{WireRecord}
use Rattle.pg_dyn.specs.message.Message.{Leaf, Part}
use Rattle.pg_dyn.specs.reading.Content.{is_sibling}
use Rattle.pg_dyn.specs.message.Kept.{Kept, ends, holds, nests, type_of}
use Rattle.pg_dyn.specs.message.KeptParts.{KeptItem, Plain, Msg, parts_of, unknown_of}

-- the message with these parts in front
abbrev pub kept_part : ℕ → Option Leaf → KeptItem → Kept → Kept
kept_part number key (Plain listed leaf) later = holds number key listed leaf later
kept_part number key (Msg listed child) later = nests number key listed child later

abbrev pub kept_onto : List (Part KeptItem) → Kept → Kept
kept_onto [] later = later
kept_onto (p ∷ ps) later = kept_part p.number p.key p.item (kept_onto ps later)

-- the parts of all fields, each of whose contents shows these
abbrev pub all_parts : {C : Type 0} → (ℕ → C → List (Part KeptItem)) → List (ℕ × C) → List (Part KeptItem)
all_parts {C} parts cs = flat_map (λ (c : ℕ × C). parts c.0 c.1) cs

-- the message of a type with these parts and these unknown records
abbrev pub kept_from : TypeId → List (Part KeptItem) → List WireRecord → Kept
kept_from type ps unknown = kept_onto ps (ends type unknown)

-- the message with these parts in the place of those of the number
abbrev pub with_parts : ℕ → List (Part KeptItem) → Kept → Kept
with_parts number ps m =
    kept_from (type_of m) (filter (λ p. nat_lt p.number number) (parts_of m) ++ (ps ++ filter (λ p. nat_lt number p.number) (parts_of m))) (unknown_of m)

-- the number is that of another member of the field's oneof
abbrev pub is_sibling_number : List FieldShape → FieldShape → ℕ → Bool
is_sibling_number fs f number = list_any (λ g. is_sibling f g && nat_eq g.number number) fs

-- the message without the contents of the other members of the field's oneof
abbrev pub without_siblings : List FieldShape → FieldShape → Kept → Kept
without_siblings fs f m = kept_from (type_of m) (filter (λ p. not (is_sibling_number fs f p.number)) (parts_of m)) (unknown_of m)

-- The message with this content in the field, in the place of the field's own and of those of the other members of its oneof.
abbrev pub with_content : List FieldShape → FieldShape → List (Part KeptItem) → Kept → Kept
with_content fs f ps m = with_parts f.number ps (without_siblings fs f m)
