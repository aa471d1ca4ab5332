-- Why a field breaks by itself: what happened to its type, its label or its oneof.
use Rattle.std.specs.Prelude.{ℕ, nat_eq, Bool, true, false, if◌then◌else◌, Option, Some, None}
use Rattle.pg_schema.specs.declared.parts.field.Element.{Element}
use Rattle.pg_schema.specs.declared.parts.field.Element.TheVariants as elements
use Rattle.pg_schema.specs.Shape.{FieldShape, Shape, field_at, fields}
use Rattle.pg_pairs.specs.declared.choices.case.Case.{Case}
use Rattle.pg_pairs.specs.declared.choices.case.Case.TheVariants as cases
use Rattle.pg_pairs.specs.declared.choices.choice.Choice.{Choice}
use Rattle.pg_pairs.specs.declared.choices.choice.Pair.{Pair}
use Rattle.pg_causes.specs.declared.overview.Reason.{Reason}
use Rattle.pg_causes.specs.declared.overview.Reason.TheVariants as reasons

-- both are enums
abbrev pub are_enums : Element → Element → Bool
are_enums (elements.Enum old) (elements.Enum new) = true
are_enums (elements.Enum old) (elements.Scalar new) = false
are_enums (elements.Enum old) (elements.Message new) = false
are_enums (elements.Scalar old) new = false
are_enums (elements.Message old) new = false

-- a field that each type has, of enums in both
abbrev pub are_of_enums : Option FieldShape → Option FieldShape → Bool
are_of_enums (Some old) (Some new) = are_enums old.element new.element
are_of_enums (Some old) None = false
are_of_enums None new = false

-- of an item that is read as another: between enums only its name is another
abbrev pub item_reason : (enums : Bool) → Reason
item_reason enums = if enums then reasons.Name else reasons.Value

-- of a map entry: its key is read as another, or its value; or keys or values are of unlike types
abbrev pub entry_reason : ℕ → Reason
entry_reason part =
    if nat_eq part 1 then reasons.MapKey
    else if nat_eq part 2 then reasons.MapValue
    else reasons.Map

-- Unlike types; an item that is read as another; a list where the new type has one item; an entry of a map; two fields
-- of one new oneof. A message inside is no cause of its own.
abbrev pub reason_by : (enums : Bool) → Case → (part : ℕ) → Reason
reason_by enums cases.Unlike part = reasons.Unlike
reason_by enums cases.Gap part = item_reason enums
reason_by enums cases.Child part = reasons.Value
reason_by enums cases.List part = reasons.ListToOne
reason_by enums cases.Map part = entry_reason part
reason_by enums cases.Oneof part = reasons.Oneof

-- the reason of a choice, whose number both types have
abbrev pub reason_of : Shape → Shape → Pair → Choice → Reason
reason_of old new pair choice =
    reason_by
    (are_of_enums (field_at (fields old pair.old) choice.number) (field_at (fields new pair.new) choice.number))
    choice.case choice.part
