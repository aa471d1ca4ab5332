-- One field of an old type beside the new one of its number: what the new type's reader makes of the records of the old one's
-- content, and the law that being kept is decided so, field by field (this profile's choice).
use Rattle.std.specs.Prelude.{◌≡◌, ◌≤◌, ◌↔◌, ◌⊎◌, ℕ, List, [], map, filter, length, Bool, true, false, not, ◌&&◌, ◌||◌, nat_eq, Option, Some, None, option_and_then}
use Rattle.std.specs.List.{list_all}
use Rattle.pg_schema.specs.declared.parts.field.TypeId.{TypeId}
use Rattle.pg_schema.specs.Shape.{Shape, FieldShape, fields, field_at}
use Rattle.pg_schema.specs.ShapeRules.{IsShape}
use Rattle.pg_wire.specs.Records.{WireRecord}
use Rattle.pg_dyn.specs.reading.Optional.{all_some}
use Rattle.pg_dyn.specs.message.Message.{Item, Message, Part, IsPlain}
use Rattle.pg_dyn.specs.reading.Content.{takes, is_sibling, content}
use Rattle.pg_dyn.specs.encoding.Writing.{field_records}
use Rattle.pg_dyn.specs.encoding.Encoding.{enc, cap}
use Rattle.pg_dyn.specs.reading.Decoding.{Reader, is_readable, read_part, dec}
use Rattle.pg_dyn.specs.fitting.Belonging.{IsMessage}
use Rattle.pg_dyn.specs.views.Comparison.{View, Comparand, writes, expects, comparands, same_content}
use Rattle.pg_dyn.specs.views.Breaking.{is_kept}

-- the comparands of one number
abbrev pub comparands_at : ℕ → List Comparand → List Comparand
comparands_at n cs = filter (λ c. nat_eq c.number n) cs

-- the parts that the new field has of these records
abbrev pub field_read : Reader → FieldShape → List WireRecord → Option (List (Part Item))
field_read child g rs = option_and_then (λ ps. all_some (map (read_part child g.element) ps)) (content g (filter (takes g) rs))

abbrev pub all_field_readable : Reader → FieldShape → List WireRecord → Bool
all_field_readable child g rs = list_all (λ r. not (takes g r) || is_readable child g r) rs

abbrev pub is_shown : View → FieldShape → FieldShape → List Comparand → Option (List (Part Item)) → Bool
is_shown view f g cs (Some ps) = same_content view f g (map expects cs) ps
is_shown view f g cs None = false

-- the new field's reader reads the old field's content, with these parts
abbrev pub is_field_kept : View → Reader → FieldShape → FieldShape → List Comparand → Bool
is_field_kept view child f g cs =
    all_field_readable child g (field_records f (map writes cs)) && is_shown view f g cs (field_read child g (field_records f (map writes cs)))

-- the new type's field of each number that both types have reads the old one's content
abbrev pub EachFieldKept : View → Reader → List FieldShape → List FieldShape → List Comparand → Type 0
EachFieldKept view child fs gs cs =
    (f g : FieldShape) → field_at fs f.number ≡ Some f → field_at gs f.number ≡ Some g → is_field_kept view child f g (comparands_at f.number cs) ≡ true

-- of two fields of the new type in one oneof one has no comparands
abbrev pub NoComparandsMeet : List FieldShape → List Comparand → Type 0
NoComparandsMeet gs cs =
    (g h : FieldShape) → field_at gs g.number ≡ Some g → field_at gs h.number ≡ Some h → is_sibling g h ≡ true →
    (comparands_at g.number cs ≡ []) ⊎ (comparands_at h.number cs ≡ [])

-- Where no two fields meet in one oneof of the new type, a message is kept just where each shared field's content is.
abbrev pub KeptByComparands : Type 0
KeptByComparands =
    (view : View) (old new : Shape) (a b : TypeId) (v : Message) → IsShape old → IsShape new → IsMessage old a v → IsPlain v →
    length (enc old a v) ≤ cap → NoComparandsMeet (fields new b) (comparands view old new a b v) →
    (is_kept view old new a b v ≡ true) ↔ EachFieldKept view (dec new) (fields old a) (fields new b) (comparands view old new a b v)
