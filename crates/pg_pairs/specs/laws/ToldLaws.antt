-- How causes as they are told stand to the choices without a child.
use Rattle.std.specs.Prelude.{◌≡◌, ℕ, ◌≤◌, true, false, ◌⊎◌}
use Rattle.pg_schema.specs.Shape.{Shape}
use Rattle.pg_pairs.specs.declared.choices.choice.Choice.{Choice}
use Rattle.pg_pairs.specs.declared.choices.choice.Pair.{Pair}
use Rattle.pg_pairs.specs.views.EnumView.{EnumView}
use Rattle.pg_pairs.specs.bounds.Covering.{IsAmong}
use Rattle.pg_pairs.specs.choices.Causes.{causes}
use Rattle.pg_pairs.specs.choices.Choices.{is_oneof}
use Rattle.pg_pairs.specs.choices.Told.{Told, told_alone, told_causes}

-- both fields of the choice are told together, by a choice that costs no more
pub record IsToldTogether (c : Choice) (t : Told) : Type 0 where
  pub oneof : is_oneof t.choice.case ≡ true
  pub first : IsAmong c.number t.numbers
  pub second : IsAmong c.part t.numbers
  pub least : t.choice.cost ≤ c.cost

-- a cause of one field is told by itself, one of two that meet together with others of their new oneof
pub record IsToldBy (c : Choice) (t : Told) : Type 0 where
  pub alone : is_oneof c.case ≡ false → t ≡ told_alone c
  pub together : is_oneof c.case ≡ true → IsToldTogether c t

-- two fields of the pair meet, of which the number is one's
pub record Meets (enum_view : EnumView) (old new : Shape) (pair : Pair) (number : ℕ) : Type 0 where
  pub meeting : Choice
  pub among : IsAmong meeting (causes enum_view old new pair)
  pub oneof : is_oneof meeting.case ≡ true
  pub one : (meeting.number ≡ number) ⊎ (meeting.part ≡ number)

-- The choice of a told cause is a cause, and its fields are told. Each cause is told. Of fields that are told together each meets another one,
-- and none is told together twice.
pub record CausesAreTold : Type 0 where
  pub are_causes :
      (enum_view : EnumView) (old new : Shape) (pair : Pair) (t : Told) → IsAmong t (told_causes enum_view old new pair) →
      IsAmong t.choice (causes enum_view old new pair)
  pub are_of_fields :
      (enum_view : EnumView) (old new : Shape) (pair : Pair) (t : Told) → IsAmong t (told_causes enum_view old new pair) →
      IsAmong t.choice.number t.numbers × (is_oneof t.choice.case ≡ true → IsAmong t.choice.part t.numbers)
  pub are_told :
      (enum_view : EnumView) (old new : Shape) (pair : Pair) (c : Choice) → IsAmong c (causes enum_view old new pair) →
      (t : Told) × IsAmong t (told_causes enum_view old new pair) × IsToldBy c t
  pub each_meets :
      (enum_view : EnumView) (old new : Shape) (pair : Pair) (t : Told) → IsAmong t (told_causes enum_view old new pair) →
      is_oneof t.choice.case ≡ true → (number : ℕ) → IsAmong number t.numbers → Meets enum_view old new pair number
  pub once :
      (enum_view : EnumView) (old new : Shape) (pair : Pair) (t u : Told) →
      IsAmong t (told_causes enum_view old new pair) → IsAmong u (told_causes enum_view old new pair) →
      is_oneof t.choice.case ≡ true → is_oneof u.choice.case ≡ true → (number : ℕ) → IsAmong number t.numbers →
      IsAmong number u.numbers →
      t ≡ u
