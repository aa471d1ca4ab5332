-- What a test of contents reports: nothing, or of what is wrong the error of the lowest code. A key that is there twice
-- is found by a test of its own, since two contents of one oneof are reported before it.
use Rattle.std.specs.Prelude.{◌≡◌, ℕ, ◌<◌, ⊤, Bool, true, false, length, nat_eq, Some, Result, Ok, Err}
use Rattle.pg_schema.specs.declared.parts.field.TypeId.{TypeId}
use Rattle.pg_schema.specs.declared.parts.field.Scalar.{Scalar}
use Rattle.pg_schema.specs.declared.parts.field.Element.{Element}
use Rattle.pg_schema.specs.declared.parts.field.Element.TheVariants as elements
use Rattle.pg_schema.specs.declared.parts.field.Presence.{Presence}
use Rattle.pg_schema.specs.declared.parts.field.Presence.TheVariants as presences
use Rattle.pg_schema.specs.Shape.{Shape, FieldShape, fields, field_at}
use Rattle.pg_schema.specs.rules.Fields.{is_key}
use Rattle.pg_dyn.specs.declared.error.DynError.{DynError}
use Rattle.pg_dyn.specs.declared.message.Content.{Content}
use Rattle.pg_dyn.specs.declared.message.Content.TheVariants as contents
use Rattle.pg_dyn.specs.declared.message.Value.{Value}
use Rattle.pg_dyn.specs.setting.ContentFaults.{ElementFault, FirstOfTwo, IsLowest}
use Rattle.pg_dyn.specs.error.Codes.{code_of}
use Rattle.pg_dyn.specs.fitting.ContentFits.{ItemsFit, is_zero_value}
use Rattle.pg_dyn.specs.message.KeptParts.{KeptItem}
use Rattle.pg_dyn.specs.message.Message.{Leaf}
use Rattle.pg_dyn.specs.message.Seen.{item_seen, leaf_of}
use Rattle.pg_dyn.specs.fitting.Texts.{kept_item}

-- all is right, or the error is the lowest fault, and not that of a key twice
abbrev pub Reports : Type 0 → (DynError → Type 0) → Result (Unit {0}) DynError → Type 0
Reports Right Fault (Ok t) = Right
Reports Right Fault (Err e) = IsLowest Fault e × (code_of e < 605)

-- the code of what is reported; where nothing is, it is above all
abbrev pub reported_code : Result (Unit {0}) DynError → ℕ
reported_code (Ok t) = 1000
reported_code (Err e) = code_of e

abbrev pub EntryFault : Shape → Scalar → Element → Value × Value → DynError → Type 0
EntryFault shape key element e error =
    FirstOfTwo (ElementFault shape (elements.Scalar key) e.0) (ElementFault shape element e.1) error

-- the content is one of the field of its number, but for keys twice
pub record IsTaken (shape : Shape) (type : TypeId) (number : ℕ) (content : Content) (f : FieldShape) : Type 0 where
  pub found : field_at (fields shape type) number ≡ Some f
  pub items : ItemsFit shape f.presence f.element content

-- the keys of a map are of a type that keys may have
abbrev pub MayHoldKeys : Presence → Type 0
MayHoldKeys presences.Implicit = ⊤
MayHoldKeys presences.Explicit = ⊤
MayHoldKeys (presences.Repeated packed) = ⊤
MayHoldKeys (presences.Map key) = is_key key ≡ true

-- what a map shows of an entry, its key and its item
abbrev pub entry_seen : Value × Value → Leaf × KeptItem
entry_seen e = (leaf_of e.0, item_seen false e.1)

-- so does a map whose values are of the element, of the entry as it keeps it
abbrev pub entry_kept : Element → Value × Value → Leaf × KeptItem
entry_kept element e = (leaf_of e.0, kept_item element (item_seen false e.1))

-- a field holds nothing of the content
abbrev pub is_nothing : Presence → Content → Bool
is_nothing presences.Implicit (contents.One value) = is_zero_value value
is_nothing presence (contents.One value) = false
is_nothing presence (contents.Many vs) = nat_eq (length vs.items) 0
is_nothing presence (contents.Map es) = nat_eq (length es.items) 0

-- the content of a number is one of its field, but for keys twice
abbrev pub TakesContent : Shape → TypeId → ℕ × Content → Type 0
TakesContent shape type c = (f : FieldShape) × IsTaken shape type c.0 c.1 f
