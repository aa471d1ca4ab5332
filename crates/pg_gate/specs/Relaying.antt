-- What the old program reads back of a message that is relayed, and why bytes aren't relayed.
use Rattle.std.specs.Prelude.{◌≡◌, ℕ, ◌<◌, ◌≤◌, ⊤, List, length, true, Some, None}
use Rattle.pg_schema.specs.declared.parts.field.TypeId.{TypeId}
use Rattle.pg_schema.specs.Shape.{Shape}
use Rattle.pg_dyn.specs.declared.error.DynError.{DynError}
use Rattle.pg_dyn.specs.declared.error.DynError.TheVariants as errors
use Rattle.pg_dyn.specs.reading.Decoding.{dec}
use Rattle.pg_dyn.specs.encoding.Encoding.{cap, enc}
use Rattle.pg_dyn.specs.message.Message.{Message, IsPlain}
use Rattle.pg_dyn.specs.reading.Refusals.{MayRefuseUnlimited}
use Rattle.pg_dyn.specs.fitting.Belonging.{IsMessage}
use Rattle.pg_dyn.specs.views.Breaking.{Compatible}
use Rattle.pg_dyn.specs.views.Comparison.{View}
use Rattle.pg_pairs.specs.declared.choices.choice.Pair.{Pair}
use Rattle.pg_pairs.specs.home.Home.{home}
use Rattle.pg_pairs.specs.home.Returns.{Returns}

-- the old type reads the bytes, and by what it reads v returns
abbrev pub IsHomeIn : Shape → Shape → Pair → Message → List ℕ → Type 0
IsHomeIn old new pair v bytes =
    (x : Message) × (dec old pair.old bytes ≡ Some x) × (home old new pair.old pair.new v x ≡ true)

-- Let the types be compatible under a view, and let the pair return. Then a plain old message whose encoding the first
-- bytes are returns by what the old type reads of the second bytes.
abbrev pub BringsHome : Shape → Shape → Pair → List ℕ → List ℕ → Type 0
BringsHome old new pair bytes again =
    (view : View) → Compatible view old new pair.old pair.new → Returns old new pair →
    (v : Message) → IsMessage old pair.old v → IsPlain v → enc old pair.old v ≡ bytes → length bytes ≤ cap
    → IsHomeIn old new pair v again

-- they are read as a message without an encoding
pub record HasNone (shape : Shape) (type : TypeId) (bytes : List ℕ) : Type 0 where
  pub message : Message
  pub read : dec shape type bytes ≡ Some message
  pub too_long : cap < length (enc shape type message)

-- they have no reading, and they have the fault that the error names, at its offset
pub record IsUnread (shape : Shape) (type : TypeId) (bytes : List ℕ) (error : DynError) : Type 0 where
  pub unread : dec shape type bytes ≡ None
  pub fault : MayRefuseUnlimited shape type bytes error

-- memory was refused, or one of these
abbrev pub IsRelayError : Shape → TypeId → List ℕ → DynError → Type 0
IsRelayError shape type bytes errors.Memory = ⊤
IsRelayError shape type bytes errors.TooLong = HasNone shape type bytes
IsRelayError shape type bytes error = IsUnread shape type bytes error
