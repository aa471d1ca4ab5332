-- The message that bytes are read as (Encoding guide, "Message Structure"; every accepted record has to have a reading, also
-- one that doesn't count: this profile's choice).
use Rattle.std.specs.Prelude.{ℕ, zero, suc, List, [], ◌∷◌, map, filter, length, Bool, true, not, ◌&&◌, ◌||◌, if◌then◌else◌, Option, Some, None, option_map, option_and_then, is_some}
use Rattle.std.specs.List.{list_all}
use Rattle.pg_schema.specs.declared.parts.field.TypeId.{TypeId}
use Rattle.pg_schema.specs.declared.parts.field.Scalar.{Scalar}
use Rattle.pg_schema.specs.declared.parts.field.Element.{Element}
use Rattle.pg_schema.specs.declared.parts.field.Element.TheVariants as elements
use Rattle.pg_schema.specs.declared.parts.field.Presence.{Presence}
use Rattle.pg_schema.specs.declared.parts.field.Presence.TheVariants as presences
use Rattle.pg_schema.specs.Shape.{Shape, FieldShape, fields}
use Rattle.pg_wire.specs.Records.{WireRecord, records_of}
use Rattle.pg_dyn.specs.reading.Optional.{all_some, joined}
use Rattle.pg_dyn.specs.message.Message.{Leaf, Item, Plain, Msg, Message, Part, message_from}
use Rattle.pg_dyn.specs.reading.Content.{takes, is_unknown, counted, option_from, leaves_in, leaf_bytes, key_field, value_field, content}

-- how the bytes of a child message are read
abbrev pub Reader : Type 0
Reader = TypeId → List ℕ → Option Message

-- whether the body of a record of this element's own wire type is that of a message, where it should be
abbrev pub is_child : Reader → Element → List ℕ → Bool
is_child child (elements.Message t) bytes = is_some (child t bytes)
is_child child (elements.Scalar s) bytes = true
is_child child (elements.Enum e) bytes = true

-- whether an accepted record of a field that is no map has a reading
abbrev pub is_plain_readable : Reader → FieldShape → WireRecord → Bool
is_plain_readable child f r = is_some (leaves_in f r) && is_child child f.element r.body

-- whether each record that one of these fields accepts has a reading
abbrev pub all_plain_readable : Reader → List FieldShape → List WireRecord → Bool
all_plain_readable child fs rs = list_all (λ r. list_all (λ f. not (takes f r) || is_plain_readable child f r) fs) rs

-- the records of a map's entry, where each that its key or value accepts has a reading
abbrev pub entry_records : Reader → Scalar → Element → WireRecord → Option (List WireRecord)
entry_records child key element r =
    option_and_then (λ rs. if all_plain_readable child (key_field key ∷ value_field element ∷ []) rs then Some rs else None) (option_from (records_of r.body))

-- whether an accepted record has a reading
abbrev pub is_readable : Reader → FieldShape → WireRecord → Bool
is_readable child f r = of f.presence
  where
    of : Presence → Bool
    of (presences.Map key) = is_some (entry_records child key f.element r)
    of presences.Implicit = is_plain_readable child f r
    of presences.Explicit = is_plain_readable child f r
    of (presences.Repeated packed) = is_plain_readable child f r

abbrev pub all_readable : Reader → List FieldShape → List WireRecord → Bool
all_readable child fs rs = list_all (λ r. list_all (λ f. not (takes f r) || is_readable child f r) fs) rs

-- a part with its item read: a child from its bytes
abbrev pub read_item : Reader → Element → Leaf → Option Item
read_item child (elements.Message t) leaf = option_map Msg (child t (leaf_bytes leaf))
read_item child (elements.Scalar s) leaf = Some (Plain leaf)
read_item child (elements.Enum e) leaf = Some (Plain leaf)

abbrev pub read_part : Reader → Element → Part Leaf → Option (Part Item)
read_part child element p = option_map (λ item. record { number = p.number; key = p.key; item = item }) (read_item child element p.item)

-- the parts of a field
abbrev pub field_parts : Reader → List FieldShape → List WireRecord → FieldShape → Option (List (Part Item))
field_parts child fs rs f = option_and_then (λ ps. all_some (map (read_part child f.element) ps)) (content f (counted fs f rs))

-- the message of a type with these fields that the records are read as
abbrev pub read_records : Reader → List FieldShape → List WireRecord → Option Message
read_records child fs rs =
    if all_readable child fs rs then
    option_map (λ ps. message_from (joined ps) (filter (is_unknown fs) rs)) (all_some (map (field_parts child fs rs) fs))
    else None

-- Children nested deeper than that aren't read; the root has depth 1.
abbrev pub dec_within : ℕ → Shape → TypeId → List ℕ → Option Message
dec_within zero shape type bytes = None
dec_within (suc depth) shape type bytes =
    option_and_then (read_records (dec_within depth shape) (fields shape type)) (option_from (records_of bytes))

-- A message's bytes are more than those of a child, so the depth is below their number, and no reading fails for want of depth.
unfoldable pub dec : Shape → TypeId → List ℕ → Option Message
dec shape type bytes = dec_within (suc (length bytes)) shape type bytes
