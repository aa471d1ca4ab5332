-- What readable records make.
use Rattle.std.proofs.Common.{◌≡◌, ℕ, List, [], map, filter, true, Option, Some, rules, arith}
use Rattle.std.specs.List.{AllByRecursion}
use Rattle.pg_schema.specs.declared.parts.field.Element.{Element}
use Rattle.pg_schema.specs.declared.parts.field.Presence.{Presence}
use Rattle.pg_schema.specs.Shape.{FieldShape}
use Rattle.pg_wire.specs.Records.{WireRecord}
use Rattle.pg_dyn.specs.reading.Optional.{all_some, joined}
use Rattle.pg_dyn.specs.message.Message.{Item, Message, Part, message_from}
use Rattle.pg_dyn.specs.reading.Content.{is_unknown, content}
use Rattle.pg_dyn.specs.reading.Decoding.{Reader, all_readable, field_parts, read_records}
use Rattle.pg_dyn.proofs.lemmas.reading.Fields.{field_of}
use Rattle.pg_dyn.proofs.Lists.{all_some-map, option_map_some}

-- a message of readable records
pub assembled : (child : Reader) (fs : List FieldShape) (rs : List WireRecord) (h : FieldShape → List (Part Item)) → all_readable child fs rs ≡ true
    → AllByRecursion (λ f. field_parts child fs rs f ≡ Some (h f)) fs → read_records child fs rs ≡ Some (message_from (joined (map h fs)) (filter (is_unknown fs) rs))
assembled child fs rs h readable each = rw (readable, all_some-map (field_parts child fs rs) h fs each)

-- no records, no parts
no_items : (n : ℕ) (p : Presence) (e : Element) (oneof : Option ℕ) → content (field_of n p e oneof) [] ≡ Some []
no_items n p e o = grind arith

pub content_none : (f : FieldShape) → content f [] ≡ Some []
content_none f = no_items f.number f.presence f.element f.oneof

pub pieces_of : (child : Reader) (fs : List FieldShape) (rs : List WireRecord) (m : Message) → read_records child fs rs ≡ Some m
    → (pieces : List (List (Part Item))) × (all_readable child fs rs ≡ true) × (all_some (map (field_parts child fs rs) fs) ≡ Some pieces) × (message_from (joined pieces) (filter (is_unknown fs) rs) ≡ m)
pieces_of child fs rs m h = search (rules, option_map_some)

pub built : (child : Reader) (fs : List FieldShape) (rs : List WireRecord) (pieces : List (List (Part Item))) → all_readable child fs rs ≡ true → all_some (map (field_parts child fs rs) fs) ≡ Some pieces
    → read_records child fs rs ≡ Some (message_from (joined pieces) (filter (is_unknown fs) rs))
built child fs rs pieces readable read = rw (readable, read)
