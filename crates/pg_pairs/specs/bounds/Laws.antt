-- The laws of the lower bound.
use Rattle.std.specs.Prelude.{◌≡◌, ℕ, ◌<◌, length, Option, Some, None}
use Rattle.pg_schema.specs.Shape.{Shape}
use Rattle.pg_schema.specs.ShapeRules.{IsShape}
use Rattle.pg_dyn.specs.message.Message.{Message}
use Rattle.pg_dyn.specs.encoding.Encoding.{enc}
use Rattle.pg_dyn.specs.views.Breaking.{Breaks, Compatible, Least}
use Rattle.pg_pairs.specs.declared.choices.choice.Choice.{Choice}
use Rattle.pg_pairs.specs.declared.choices.choice.Pair.{Pair}
use Rattle.pg_pairs.specs.views.EnumView.{EnumView}
use Rattle.pg_pairs.specs.views.ViewLaws.{IsEnumView}
use Rattle.pg_pairs.specs.choices.Choices.{Table, choices}
use Rattle.pg_pairs.specs.bounds.Covering.{IsWithin, Covers, IsExact, IsAmong}

-- In a table that covers a pair each breaking message of each pair that is there has at least as many bytes as the
-- bound says; under 'none' there is no such message.
abbrev pub CoveringBounds : Type 0
CoveringBounds =
    (enum_view : EnumView) (old new : Shape) (table : Table) (root : Pair) → IsEnumView enum_view → IsShape old →
    IsShape new → Covers enum_view old new table root →
    (pair : Pair) (bound : Option ℕ) → table pair ≡ Some bound →
    (v : Message) → Breaks enum_view.alike old new pair.old pair.new v → IsWithin bound (length (enc old pair.old v))

-- In particular a pair without a bound is compatible.
abbrev pub NoneIsCompatible : Type 0
NoneIsCompatible =
    (enum_view : EnumView) (old new : Shape) (table : Table) (root : Pair) → IsEnumView enum_view → IsShape old →
    IsShape new → Covers enum_view old new table root →
    (pair : Pair) → table pair ≡ Some None → Compatible enum_view.alike old new pair.old pair.new

-- the message breaks, and has that many bytes
abbrev pub ReachedBy : EnumView → Shape → Shape → Pair → Message → ℕ → Type 0
ReachedBy enum_view old new pair v n =
    Breaks enum_view.alike old new pair.old pair.new v × (length (enc old pair.old v) ≡ n)

-- a breaking message of the pair has that many bytes
abbrev pub IsReached : EnumView → Shape → Shape → Pair → ℕ → Type 0
IsReached enum_view old new pair n = (v : Message) × ReachedBy enum_view old new pair v n

-- Each choice of each pair is reached, if the smaller bounds in the table are.
abbrev pub ChoicesReached : EnumView → Shape → Shape → Table → Type 0
ChoicesReached enum_view old new table =
    (pair : Pair) (c : Choice) → IsAmong c (choices enum_view table old new pair) →
    ((p : Pair) (x : ℕ) → table p ≡ Some (Some x) → x < c.cost → IsReached enum_view old new p x) →
    IsReached enum_view old new pair c.cost

-- A table whose every bound is the least cost of its pair's choices says the least length of each pair's breaking
-- messages.
abbrev pub ExactIsLeast : Type 0
ExactIsLeast =
    (enum_view : EnumView) (old new : Shape) (table : Table) → IsEnumView enum_view → IsShape old → IsShape new →
    ((pair : Pair) (bound : Option ℕ) → table pair ≡ Some bound → IsExact enum_view old new table pair bound) →
    (pair : Pair) (x : ℕ) → table pair ≡ Some (Some x) → Least enum_view.alike old new pair.old pair.new x
