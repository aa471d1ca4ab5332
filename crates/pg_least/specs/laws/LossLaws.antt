-- Laws of what is lost, and of the types of a name.
use Rattle.std.specs.Prelude.{◌<◌, ◌↔◌, ℕ, List, length}
use Rattle.pg_schema.specs.declared.parts.field.TypeId.{TypeId}
use Rattle.pg_schema.specs.declared.parts.Parts.{Parts}
use Rattle.pg_schema.specs.Parts.{shape_of}
use Rattle.pg_schema.specs.Shape.{Shape}
use Rattle.pg_dyn.specs.views.Breaking.{Breaks, Compatible}
use Rattle.pg_dyn.specs.views.Comparison.{View}
use Rattle.pg_dyn.specs.message.Message.{Message}
use Rattle.pg_pairs.specs.declared.choices.choice.Pair.{Pair}
use Rattle.pg_least.specs.Loss.{IsLost, NewSees, OldWrites, IsNamed}

-- A message is lost just where it breaks.
abbrev pub LostMessagesBreak : Type 0
LostMessagesBreak =
    (view : View) (old new : Shape) (pair : Pair) (message : Message) →
    IsLost view old new pair message ↔ Breaks view old new pair.old pair.new message

-- Where no message breaks, the new reader reads each one that the old writer encodes as it was meant.
abbrev pub CompatibleIsSeen : Type 0
CompatibleIsSeen =
    (view : View) (old new : Shape) (pair : Pair) → Compatible view old new pair.old pair.new →
    (message : Message) → OldWrites old pair message → NewSees view old new pair message

-- A message type that has a name is one of the schema.
abbrev pub NamedTypesAreThere : Type 0
NamedTypesAreThere =
    (parts : Parts) (name : List ℕ) (id : TypeId) → IsNamed parts name id → id.index < length (shape_of parts)
