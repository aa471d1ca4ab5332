-- Whether messages of a type break, for a message type that both schemas declare.
use Rattle.std.specs.Prelude.{◌≡◌, ◌≤◌, ◌↔◌, ℕ, length, Option, Some, None, string_bytes}
use Rattle.pg_schema.specs.declared.parts.Parts.{Parts}
use Rattle.pg_schema.specs.Parts.{shape_of}
use Rattle.pg_schema.specs.Shape.{Shape}
use Rattle.pg_dyn.specs.views.Breaking.{Compatible, Least}
use Rattle.pg_dyn.specs.encoding.Encoding.{enc}
use Rattle.pg_dyn.specs.message.Message.{Message}
use Rattle.pg_pairs.specs.declared.choices.choice.Pair.{Pair}
use Rattle.pg_pairs.specs.choices.Causes.{HasNoCause}
use Rattle.pg_pairs.specs.views.EnumView.{EnumView}
use Rattle.pg_least.specs.Loss.{IsLost, NewSees, OldWrites, AreRoots}
use Rattle.pg_causes.specs.declared.overview.TypeLine.{TypeLine}

-- no message breaks: the new reader reads each one that the old writer encodes, and loses nothing of it
pub record IsSeen (enum_view : EnumView) (old new : Shape) (pair : Pair) : Type 0 where
  pub each_is_seen : (message : Message) → OldWrites old pair message → NewSees enum_view.alike old new pair message
  pub compatible : Compatible enum_view.alike old new pair.old pair.new

-- a message of that many bytes is lost: the old writer encodes it, and the new reader doesn't see it whole; and none of
-- fewer bytes is lost
pub record IsLostAt (enum_view : EnumView) (old new : Shape) (pair : Pair) (bytes : ℕ) : Type 0 where
  pub message : Message
  pub lost : IsLost enum_view.alike old new pair message
  pub long : length (enc old pair.old message) ≡ bytes
  pub none_shorter : (other : Message) → IsLost enum_view.alike old new pair other
      → bytes ≤ length (enc old pair.old other)
  pub least : Least enum_view.alike old new pair.old pair.new bytes

-- What `gate` says of two types, but for its certificate: no message breaks, or the bytes of a shortest one that does.
abbrev pub GateSays : EnumView → Shape → Shape → Pair → Option ℕ → Type 0
GateSays enum_view old new pair None = IsSeen enum_view old new pair
GateSays enum_view old new pair (Some bytes) = IsLostAt enum_view old new pair bytes

-- The line names a message type of both schemas, and says of it what `gate` says. It is compatible just where neither
-- this pair of types nor one that it leads to has a cause.
pub record IsTypeLine (enum_view : EnumView) (old new : Parts) (line : TypeLine) : Type 0 where
  pub pair : Pair
  pub roots : AreRoots old new (string_bytes line.name) pair
  pub says : GateSays enum_view (shape_of old) (shape_of new) pair line.bound
  pub without_causes : (line.bound ≡ None) ↔ HasNoCause enum_view (shape_of old) (shape_of new) pair
