-- Each message that breaks, and inside which none does, holds the fields of a told cause, which costs no more.
use Rattle.std.specs.Prelude.{◌≤◌, length}
use Rattle.pg_schema.specs.Shape.{Shape}
use Rattle.pg_schema.specs.ShapeRules.{IsShape}
use Rattle.pg_dyn.specs.message.Message.{Message}
use Rattle.pg_dyn.specs.encoding.Encoding.{enc}
use Rattle.pg_dyn.specs.views.Breaking.{Breaks}
use Rattle.pg_pairs.specs.declared.choices.choice.Pair.{Pair}
use Rattle.pg_pairs.specs.views.EnumView.{EnumView}
use Rattle.pg_pairs.specs.views.ViewLaws.{IsEnumView}
use Rattle.pg_pairs.specs.bounds.Covering.{IsAmong}
use Rattle.pg_pairs.specs.choices.Choices.{is_oneof}
use Rattle.pg_pairs.specs.choices.Held.{HoldsCause, NoneBreaksInside}
use Rattle.pg_pairs.specs.choices.Told.{Told, told_causes}

-- A message that breaks, while none inside it does, holds the fields of a told cause, and has at least as many bytes
-- as that costs.
abbrev pub BreaksAreTold : Type 0
BreaksAreTold =
    (enum_view : EnumView) (old new : Shape) → IsEnumView enum_view → IsShape old → IsShape new →
    (pair : Pair) (v : Message) → Breaks enum_view.alike old new pair.old pair.new v →
    NoneBreaksInside enum_view old new pair v →
    (t : Told) × IsAmong t (told_causes enum_view old new pair) × HoldsCause (is_oneof t.choice.case) t.numbers v
    × (t.choice.cost ≤ length (enc old pair.old v))
