-- Messages with their types and the shapes of their contents, as the program keeps them (this profile's choice). A part says
-- whether it is in a list, and of bytes whether they are kept as a string.
use Rattle.std.specs.Prelude.{ℕ, List, Bool, Option}
use Rattle.pg_schema.specs.declared.parts.field.TypeId.{TypeId}
use Rattle.pg_wire.specs.Records.{WireRecord}
use Rattle.pg_dyn.specs.message.Message.{Leaf, Message}
use Rattle.pg_dyn.specs.message.Message as model

-- How a leaf is kept: whether it is in a list, and whether it is a string.
pub record Manner : Type 0 where
  pub listed : Bool
  pub text : Bool

pub data Kept : Type 0 where
  ends : TypeId → List WireRecord → Kept
  holds : ℕ → Option Leaf → Manner → Leaf → Kept → Kept
  nests : ℕ → Option Leaf → Bool → Kept → Kept → Kept

abbrev pub type_of : Kept → TypeId
type_of (ends type unknown) = type
type_of (holds number key manner leaf later) = type_of later
type_of (nests number key listed child later) = type_of later

abbrev pub message_of : Kept → Message
message_of (ends type unknown) = model.ends unknown
message_of (holds number key manner leaf later) = model.holds number key leaf (message_of later)
message_of (nests number key listed child later) = model.nests number key (message_of child) (message_of later)
