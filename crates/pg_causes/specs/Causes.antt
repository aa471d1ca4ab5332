-- The causes of breaking: a field that breaks by itself, or the fields of a new oneof that meet, each with a message
-- that shows it.
use Rattle.std.specs.Prelude.{◌≡◌, ℕ, ◌≤◌, List, map, flat_map, length, None}
use Rattle.std.specs.List.{AllByRecursion}
use Rattle.pg_schema.specs.declared.parts.Parts.{Parts}
use Rattle.pg_schema.specs.Parts.{shape_of}
use Rattle.pg_schema.specs.Shape.{FieldShape, Shape}
use Rattle.pg_dyn.specs.views.Breaking.{Breaks}
use Rattle.pg_dyn.specs.encoding.Encoding.{enc}
use Rattle.pg_dyn.specs.message.Message.{Message}
use Rattle.pg_pairs.specs.declared.choices.choice.Pair.{Pair}
use Rattle.pg_pairs.specs.witness.Carried.{carried}
use Rattle.pg_pairs.specs.choices.Told.{Told, told_causes}
use Rattle.pg_pairs.specs.choices.Choices.{is_oneof}
use Rattle.pg_pairs.specs.bounds.Covering.{IsAmong, children}
use Rattle.pg_pairs.specs.choices.Held.{HoldsCause, NoneBreaksInside}
use Rattle.pg_pairs.specs.laws.FieldCosts.{IsShared}
use Rattle.pg_pairs.specs.laws.OwnWays.{HoldsOnly, fields_of}
use Rattle.pg_pairs.specs.laws.WaysTold.{HasItsFields, Pairwise}
use Rattle.pg_pairs.specs.views.EnumView.{EnumView}
use Rattle.pg_pairs.specs.graph.Reached.{IsReachedFrom}
use Rattle.pg_least.specs.declared.witness.PairChoice.{PairChoice}
use Rattle.pg_causes.specs.Reasons.{reason_of}
use Rattle.pg_causes.specs.Why.{BreaksFor}
use Rattle.pg_causes.specs.declared.overview.Cause.{Cause}
use Rattle.pg_causes.specs.declared.overview.Reason.{Reason}

-- the message of the pair's old type that breaks so, with no other field set
abbrev pub shown_by : EnumView → Shape → Shape → PairChoice → Message
shown_by enum_view old new at = carried enum_view old new at.pair at.choice None

-- The reason and the message of a cause: the encoding of that message, which the new reader misreads.
pub record IsCause (enum_view : EnumView) (old new : Parts) (cause : Cause) : Type 0 where
  pub reason : cause.reason ≡ reason_of (shape_of old) (shape_of new) cause.at.pair cause.at.choice
  pub bytes : cause.message.items
      ≡ enc (shape_of old) cause.at.pair.old (shown_by enum_view (shape_of old) (shape_of new) cause.at)
  pub long : length cause.message.items ≡ cause.at.choice.cost
  pub breaks : Breaks enum_view.alike (shape_of old) (shape_of new) cause.at.pair.old cause.at.pair.new
      (shown_by enum_view (shape_of old) (shape_of new) cause.at)

-- A cause as it is told: its pair of types, the numbers of its fields, and how the message breaks.
pub record ToldIn : Type 0 where
  pub pair : Pair
  pub told : Told

abbrev pub told_in : Cause → ToldIn
told_in cause = record {
  pair = cause.at.pair;
  told = record { numbers = cause.numbers.items; choice = cause.at.choice };
}

abbrev pub in_pair : Pair → Told → ToldIn
in_pair pair told = record { pair = pair; told = told }

-- the causes of a pair of types, by the first number, case and part
abbrev pub causes_at : EnumView → Shape → Shape → Pair → List ToldIn
causes_at enum_view old new pair = map (in_pair pair) (told_causes enum_view old new pair)

-- A cause of that pair is told, the fields of which the message holds: two of those that meet in a oneof, else one. The
-- message has at least as many bytes as that of the cause.
pub record IsToldOf (old : Parts) (told : List Cause) (pair : Pair) (message : Message) : Type 0 where
  pub cause : Cause
  pub among : IsAmong cause told
  pub of_pair : cause.at.pair ≡ pair
  pub held : HoldsCause (is_oneof cause.at.choice.case) cause.numbers.items message
  pub least : length cause.message.items ≤ length (enc (shape_of old) pair.old message)

-- Each message of the pair that breaks, while no message inside it breaks by a child pair, breaks where such a cause is
-- told.
abbrev pub EachBreakIsTold : EnumView → Parts → Parts → List Cause → Pair → Type 0
EachBreakIsTold enum_view old new told pair =
    (message : Message) → Breaks enum_view.alike (shape_of old) (shape_of new) pair.old pair.new message →
    NoneBreaksInside enum_view (shape_of old) (shape_of new) pair message → IsToldOf old told pair message

-- A cause of that pair and for that reason is told at the field, with no more bytes than the message has.
pub record IsToldFor (old : Parts) (told : List Cause) (pair : Pair) (reason : Reason) (number : ℕ)
    (message : Message) : Type 0 where
  pub cause : Cause
  pub among : IsAmong cause told
  pub of_pair : cause.at.pair ≡ pair
  pub for_reason : cause.reason ≡ reason
  pub field : IsAmong number cause.numbers.items
  pub least : length cause.message.items ≤ length (enc (shape_of old) pair.old message)

-- For each reason for which a message of the pair breaks at a field such a cause is told.
abbrev pub EachReasonIsTold : EnumView → Parts → Parts → List Cause → Pair → Type 0
EachReasonIsTold enum_view old new told pair =
    (message : Message) → Breaks enum_view.alike (shape_of old) (shape_of new) pair.old pair.new message →
    (f g : FieldShape) → IsShared (shape_of old) (shape_of new) pair f g →
    (reason : Reason) → BreaksFor enum_view (shape_of old) (shape_of new) pair reason f g message →
    IsToldFor old told pair reason f.number message

-- A message that breaks for the cause's reason at one of its fields has at least the bytes of the cause's message.
abbrev pub IsShortest : EnumView → Parts → Parts → Cause → Type 0
IsShortest enum_view old new cause =
    (message : Message) →
    Breaks enum_view.alike (shape_of old) (shape_of new) cause.at.pair.old cause.at.pair.new message →
    (f g : FieldShape) → IsShared (shape_of old) (shape_of new) cause.at.pair f g →
    IsAmong f.number cause.numbers.items →
    BreaksFor enum_view (shape_of old) (shape_of new) cause.at.pair cause.reason f g message →
    length cause.message.items ≤ length (enc (shape_of old) cause.at.pair.old message)

-- A message of the pair breaks for a reason at a field of both types.
pub record HasReason (enum_view : EnumView) (old new : Shape) (pair : Pair) (message : Message) : Type 0 where
  pub old_field : FieldShape
  pub new_field : FieldShape
  pub shared : IsShared old new pair old_field new_field
  pub reason : Reason
  pub breaks_for : BreaksFor enum_view old new pair reason old_field new_field message

-- Each message of the pair that breaks, while no message inside it breaks by a child pair, has a reason.
abbrev pub EachBreakHasReason : EnumView → Parts → Parts → Pair → Type 0
EachBreakHasReason enum_view old new pair =
    (message : Message) → Breaks enum_view.alike (shape_of old) (shape_of new) pair.old pair.new message →
    NoneBreaksInside enum_view (shape_of old) (shape_of new) pair message →
    HasReason enum_view (shape_of old) (shape_of new) pair message

-- The cause's own message breaks for the cause's reason at one of its fields. It holds no other field; of fields that
-- meet it holds two of the cause's.
pub record ShowsItsReason (enum_view : EnumView) (old new : Parts) (cause : Cause) : Type 0 where
  pub old_field : FieldShape
  pub new_field : FieldShape
  pub shared : IsShared (shape_of old) (shape_of new) cause.at.pair old_field new_field
  pub field : IsAmong old_field.number cause.numbers.items
  pub breaks_for : BreaksFor enum_view (shape_of old) (shape_of new) cause.at.pair cause.reason old_field new_field
      (shown_by enum_view (shape_of old) (shape_of new) cause.at)
  pub only : HoldsOnly (fields_of cause.at.choice) (shown_by enum_view (shape_of old) (shape_of new) cause.at)
  pub own : AllByRecursion (λ number. IsAmong number cause.numbers.items) (fields_of cause.at.choice)

-- the number of one field, or those of all fields that come into one oneof of the new type
abbrev pub OwnFields : Parts → Parts → Cause → Type 0
OwnFields old new cause =
    HasItsFields (shape_of old) (shape_of new) cause.at.pair cause.numbers.items cause.at.choice

-- two causes: of other types, of other fields or for another reason
abbrev pub AreTwo : Cause → Cause → Type 0
AreTwo cause other =
    cause.at.pair ≡ other.at.pair → cause.numbers.items ≡ other.numbers.items → cause.reason ≡ other.reason → ⊥

-- All causes of the root types and of all pairs of types that they lead to, pair by pair, each once, and no others.
pub record AreCauses (enum_view : EnumView) (old new : Parts) (roots : List Pair) (told : List Cause) : Type 0 where
  pub pairs : List Pair
  pub reached : IsReachedFrom (children (shape_of old) (shape_of new)) roots pairs
  pub are : map told_in told ≡ flat_map (causes_at enum_view (shape_of old) (shape_of new)) pairs
  pub each : AllByRecursion (IsCause enum_view old new) told
  pub all : AllByRecursion (EachBreakIsTold enum_view old new told) pairs
  pub reasons : AllByRecursion (EachBreakHasReason enum_view old new) pairs
  pub by_reason : AllByRecursion (EachReasonIsTold enum_view old new told) pairs
  pub shortest : AllByRecursion (IsShortest enum_view old new) told
  pub shown : AllByRecursion (ShowsItsReason enum_view old new) told
  pub fields : AllByRecursion (OwnFields old new) told
  pub once : Pairwise AreTwo told
