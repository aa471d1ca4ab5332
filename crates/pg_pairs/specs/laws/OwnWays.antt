-- The message of a cause breaks in the way of the cause, and holds nothing else.
use Rattle.std.specs.Prelude.{◌≡◌, ℕ, List, [], ◌∷◌, if◌then◌else◌, None}
use Rattle.pg_schema.specs.Shape.{Shape, FieldShape}
use Rattle.pg_schema.specs.ShapeRules.{IsShape}
use Rattle.pg_dyn.specs.message.Message.{Message}
use Rattle.pg_pairs.specs.declared.choices.choice.Choice.{Choice}
use Rattle.pg_pairs.specs.declared.choices.choice.Pair.{Pair}
use Rattle.pg_pairs.specs.views.EnumView.{EnumView}
use Rattle.pg_pairs.specs.views.ViewLaws.{IsEnumView}
use Rattle.pg_pairs.specs.bounds.Covering.{IsAmong}
use Rattle.pg_pairs.specs.choices.Causes.{causes}
use Rattle.pg_pairs.specs.choices.Choices.{is_oneof}
use Rattle.pg_pairs.specs.choices.Held.{HoldsField}
use Rattle.pg_pairs.specs.choices.Ways.{BreaksBy}
use Rattle.pg_pairs.specs.laws.FieldCosts.{IsShared}
use Rattle.pg_pairs.specs.witness.Carried.{carried}

-- the field of a choice; of two that meet both
abbrev pub fields_of : Choice → List ℕ
fields_of c = if is_oneof c.case then c.number ∷ c.part ∷ [] else c.number ∷ []

-- the message holds no field but these
abbrev pub HoldsOnly : List ℕ → Message → Type 0
HoldsOnly numbers v = (number : ℕ) → HoldsField number v → IsAmong number numbers

-- The message breaks in the way of the choice, at its field, and holds no field but that of the choice; of two that
-- meet no third.
pub record BreaksOwnWay (enum_view : EnumView) (old new : Shape) (pair : Pair) (c : Choice) (v : Message) : Type 0 where
  pub old_field : FieldShape
  pub new_field : FieldShape
  pub shared : IsShared old new pair old_field new_field
  pub number : old_field.number ≡ c.number
  pub breaks : BreaksBy enum_view.alike old new pair c.case c.part old_field new_field v
  pub only : HoldsOnly (fields_of c) v

-- The message of each cause does.
abbrev pub CausesBreakTheirWay : Type 0
CausesBreakTheirWay =
    (enum_view : EnumView) (old new : Shape) → IsEnumView enum_view → IsShape old → IsShape new →
    (pair : Pair) (c : Choice) → IsAmong c (causes enum_view old new pair) →
    BreaksOwnWay enum_view old new pair c (carried enum_view old new pair c None)
