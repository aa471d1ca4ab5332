-- What a reader makes of the records of a field (Encoding guide, "Last One Wins", "Packed Repeated Fields", "Maps"). Child
-- messages are still their bytes here, so nothing is recursive. That a record of another wire type is unknown, and that an
-- entry's unknown records are dropped, are this profile's choices.
use Rattle.std.specs.Prelude.{ℕ, List, [], ◌∷◌, map, filter, flat_map, fold, Bool, false, not, ◌&&◌, ◌||◌, nat_eq, if◌then◌else◌, Option, Some, None, option_map, option_and_then, Result, Ok, Err}
use Rattle.std.specs.List.{list_any}
use Rattle.std.specs.declared.cmp.Ordering.{Ordering}
use Rattle.std.specs.declared.cmp.Ordering.TheVariants.{Less, Equal, Greater}
use Rattle.pg_schema.specs.declared.parts.field.Scalar.{Scalar}
use Rattle.pg_schema.specs.declared.parts.field.Element.{Element}
use Rattle.pg_schema.specs.declared.parts.field.Element.TheVariants as elements
use Rattle.pg_schema.specs.declared.parts.field.Presence.{Presence}
use Rattle.pg_schema.specs.declared.parts.field.Presence.TheVariants as presences
use Rattle.pg_schema.specs.Shape.{FieldShape, is_implicit, is_repeated, is_packable}
use Rattle.pg_wire.specs.declared.record.WireType.{WireType}
use Rattle.pg_wire.specs.declared.record.WireType.TheVariants.{Len}
use Rattle.pg_wire.specs.Reading.{Fault, row}
use Rattle.pg_wire.specs.Records.{WireRecord, records_of, wire_code}
use Rattle.pg_dyn.specs.reading.Optional.{all_some, after_last_of, last_of, first_or, joined}
use Rattle.pg_dyn.specs.message.Message.{Leaf, Bytes, Part, is_zero, key_cmp}
use Rattle.pg_dyn.specs.word.Coding.{Form, form, form_wire, leaf_in, element_at, zero_leaf}

abbrev pub same_wire : WireType → WireType → Bool
same_wire a b = nat_eq (wire_code a) (wire_code b)

-- the wire type of a field's own records: for a map field LEN, whatever its value is
abbrev pub own_wire : FieldShape → WireType
own_wire f = of f.presence
  where
    of : Presence → WireType
    of (presences.Map key) = Len
    of presences.Implicit = form_wire (form f.element)
    of presences.Explicit = form_wire (form f.element)
    of (presences.Repeated packed) = form_wire (form f.element)

-- Whether a record's wire type is the field's, or LEN where the field is repeated and of a packable element.
abbrev pub is_accepted : FieldShape → WireRecord → Bool
is_accepted f r = same_wire r.wire (own_wire f) || (same_wire r.wire Len && is_repeated f.presence && is_packable f.element)

abbrev pub takes : FieldShape → WireRecord → Bool
takes f r = nat_eq r.number f.number && is_accepted f r

-- no field of the type accepts the record
abbrev pub is_unknown : List FieldShape → WireRecord → Bool
is_unknown fs r = not (list_any (λ f. takes f r) fs)

-- another member of the field's oneof
abbrev pub same_oneof : Option ℕ → Option ℕ → Bool
same_oneof (Some a) (Some b) = nat_eq a b
same_oneof None o = false
same_oneof (Some a) None = false

abbrev pub is_sibling : FieldShape → FieldShape → Bool
is_sibling f g = same_oneof f.oneof g.oneof && not (nat_eq f.number g.number)

-- The records of the field that count: those that it accepts, in a oneof after the last that another member accepts.
abbrev pub counted : List FieldShape → FieldShape → List WireRecord → List WireRecord
counted fs f rs = filter (takes f) (after_last_of (λ r. list_any (λ g. is_sibling f g && takes g r) fs) rs)

abbrev pub option_from : {A : Type 0} → Result A Fault → Option A
option_from (Ok x) = Some x
option_from (Err e) = None

-- the items of a packed list
abbrev pub packed_leaves : Form → List ℕ → Option (List Leaf)
packed_leaves f bytes = option_and_then (λ bodies. all_some (map (leaf_in f) bodies)) (option_from (row (element_at (form_wire f)) bytes))

-- the items of an accepted record of a field that is no map
abbrev pub leaves_in : FieldShape → WireRecord → Option (List Leaf)
leaves_in f r =
    if same_wire r.wire (form_wire (form f.element)) then option_map (λ leaf. leaf ∷ []) (leaf_in (form f.element) r.body)
    else packed_leaves (form f.element) r.body

abbrev pub leaf_bytes : Leaf → List ℕ
leaf_bytes (Bytes bytes) = bytes
leaf_bytes leaf = []

-- the bodies of one message, joined
abbrev pub merged : List Leaf → List Leaf
merged [] = []
merged (leaf ∷ leaves) = Bytes (flat_map leaf_bytes (leaf ∷ leaves)) ∷ []

-- what of a row of items is the content of a singular field
abbrev pub last_item : Presence → Element → List Leaf → List Leaf
last_item presence (elements.Message t) leaves = merged leaves
last_item presence (elements.Scalar s) leaves = if is_implicit presence then filter (λ leaf. not (is_zero leaf)) (last_of leaves) else last_of leaves
last_item presence (elements.Enum e) leaves = if is_implicit presence then filter (λ leaf. not (is_zero leaf)) (last_of leaves) else last_of leaves

-- the content of a field that is no map, from its counted records
abbrev pub plain_content : FieldShape → List WireRecord → Option (List Leaf)
plain_content f rs =
    option_map (λ rows. if is_repeated f.presence then joined rows else last_item f.presence f.element (joined rows)) (all_some (map (leaves_in f) rs))

-- An entry of a map is read as a message with the key in field 1 and the value in field 2.
abbrev pub key_field : Scalar → FieldShape
key_field key = record { number = 1; presence = presences.Explicit; element = elements.Scalar key; oneof = None }

abbrev pub value_field : Element → FieldShape
value_field element = record { number = 2; presence = presences.Explicit; element = element; oneof = None }

abbrev pub entry_fields : Scalar → Element → List FieldShape
entry_fields key element = key_field key ∷ value_field element ∷ []

-- a missing key or value is its default
abbrev pub entry_part : FieldShape → List WireRecord → Option Leaf
entry_part f rs = option_map (first_or (zero_leaf (form f.element))) (plain_content f (filter (takes f) rs))

abbrev pub entry_in : Scalar → Element → WireRecord → Option (Leaf × Leaf)
entry_in key element r =
    option_and_then (λ rs. option_and_then (λ k. option_map (λ v. (k, v)) (entry_part (value_field element) rs)) (entry_part (key_field key) rs))
    (option_from (records_of r.body))

-- the entry by rising key, instead of the one of its key
abbrev pub put : Leaf × Leaf → List (Leaf × Leaf) → List (Leaf × Leaf)
put entry [] = entry ∷ []
put entry (e ∷ es) = at (key_cmp entry.0 e.0) (put entry es)
  where
    at : Ordering → List (Leaf × Leaf) → List (Leaf × Leaf)
    at Less later = entry ∷ e ∷ es
    at Equal later = entry ∷ es
    at Greater later = e ∷ later

-- entries by rising key: each is put in after those before it
abbrev pub by_key : List (Leaf × Leaf) → List (Leaf × Leaf)
by_key entries = fold (λ placed entry. put entry placed) [] entries

-- the content of a field, from its counted records
abbrev pub content : FieldShape → List WireRecord → Option (List (Part Leaf))
content f rs = of f.presence
  where
    plain : Option (List (Part Leaf))
    plain = option_map (map (λ leaf. record { number = f.number; key = None; item = leaf })) (plain_content f rs)

    of : Presence → Option (List (Part Leaf))
    of (presences.Map key) =
        option_map (λ entries. map (λ (e : Leaf × Leaf). record { number = f.number; key = Some e.0; item = e.1 }) (by_key entries)) (all_some (map (entry_in key f.element) rs))
    of presences.Implicit = plain
    of presences.Explicit = plain
    of (presences.Repeated packed) = plain
