-- Each message that breaks does so in one of the ways, at a field of both types.
use Rattle.std.specs.Prelude.{ℕ}
use Rattle.pg_schema.specs.Shape.{Shape, FieldShape}
use Rattle.pg_schema.specs.ShapeRules.{IsShape}
use Rattle.pg_dyn.specs.message.Message.{Message}
use Rattle.pg_dyn.specs.views.Breaking.{Breaks}
use Rattle.pg_pairs.specs.declared.choices.case.Case.{Case}
use Rattle.pg_pairs.specs.declared.choices.choice.Pair.{Pair}
use Rattle.pg_pairs.specs.views.EnumView.{EnumView}
use Rattle.pg_pairs.specs.views.ViewLaws.{IsEnumView}
use Rattle.pg_pairs.specs.choices.Held.{NoneBreaksInside}
use Rattle.pg_pairs.specs.choices.Ways.{BreaksBy}
use Rattle.pg_pairs.specs.laws.FieldCosts.{IsShared}

-- a field of both types, and the way in which the message breaks there
pub record BreaksSomehow (enum_view : EnumView) (old new : Shape) (pair : Pair) (v : Message) : Type 0 where
  pub old_field : FieldShape
  pub new_field : FieldShape
  pub shared : IsShared old new pair old_field new_field
  pub case : Case
  pub part : ℕ
  pub breaks : BreaksBy enum_view.alike old new pair case part old_field new_field v

-- A message that breaks, while none inside it does, breaks in some way.
abbrev pub WaysCover : Type 0
WaysCover =
    (enum_view : EnumView) (old new : Shape) → IsEnumView enum_view → IsShape old → IsShape new →
    (pair : Pair) (v : Message) → Breaks enum_view.alike old new pair.old pair.new v →
    NoneBreaksInside enum_view old new pair v →
    BreaksSomehow enum_view old new pair v
