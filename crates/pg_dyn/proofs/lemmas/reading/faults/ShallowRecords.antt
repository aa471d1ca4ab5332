-- Records in which no message is too deep, by the kind of the field that takes them.
use Rattle.std.proofs.Common.{◌≡◌, ℕ, suc, List, [], filter, false, arith}
use Rattle.pg_schema.specs.declared.parts.field.TypeId.{TypeId}
use Rattle.pg_schema.specs.declared.parts.field.Scalar.{Scalar}
use Rattle.pg_schema.specs.declared.parts.field.Element.{Element}
use Rattle.pg_schema.specs.declared.parts.field.Element.TheVariants as elements
use Rattle.pg_schema.specs.declared.parts.field.Presence.TheVariants as presences
use Rattle.pg_schema.specs.Shape.{Shape, FieldShape, fields, is_map}
use Rattle.pg_wire.specs.Records.{Spells, WireRecord}
use Rattle.pg_dyn.specs.reading.Content.{takes, value_field, entry_fields}
use Rattle.pg_dyn.specs.reading.ReadingOn.{IsNoMessage}
use Rattle.pg_dyn.specs.reading.Steps.{IsShallow, IsShallowIn, IsShallowItem}
use Rattle.pg_dyn.proofs.lemmas.reading.FieldKinds.{map_clash, message_clash, same_key, same_type}

-- a record of items that are no messages
pub scalar_shallow : (shape : Shape) (levels : ℕ) (e : Element) (r : WireRecord) → IsNoMessage e → IsShallowItem shape levels e r
scalar_shallow shape levels e r scalar f no_map is place h = grind (arith, message_clash, map_clash)

-- a record of a message, in whose body none is too deep
pub body_shallow : (shape : Shape) (f : FieldShape) (t : TypeId) → f.element ≡ elements.Message t → is_map f.presence ≡ false → (levels : ℕ) (r : WireRecord)
    → (levels ≡ 0 → ⊥) → IsShallowIn shape levels (fields shape t) r.body → IsShallow shape levels f r
body_shallow shape f t is no_map levels r some below place h = grind (arith, same_type, map_clash)

-- a record of an entry, in whose body none is too deep, nor is one that stands for a missing value
pub entry_shallow : (shape : Shape) (f : FieldShape) (key : Scalar) → f.presence ≡ presences.Map key → (levels : ℕ) (r : WireRecord)
    → IsShallowIn shape (suc levels) (entry_fields key f.element) r.body
    → ((rs : List WireRecord) (t : TypeId) → f.element ≡ elements.Message t → levels ≡ 0 → Spells r.body rs
    → filter (takes (value_field f.element)) rs ≡ [] → ⊥)
    → IsShallow shape levels f r
entry_shallow shape f key is levels r below whole place h = grind (arith, map_clash, same_key)
