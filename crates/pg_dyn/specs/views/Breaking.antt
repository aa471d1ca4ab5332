-- Messages that a new type breaks, and compatible types (this profile's choice: what the gate is asked).
use Rattle.std.specs.Prelude.{◌≡◌, ℕ, ◌≤◌, Bool, false, Option, Some, None, length}
use Rattle.pg_schema.specs.declared.parts.field.TypeId.{TypeId}
use Rattle.pg_schema.specs.Shape.{Shape}
use Rattle.pg_dyn.specs.message.Message.{Message, IsPlain}
use Rattle.pg_dyn.specs.encoding.Encoding.{enc, cap}
use Rattle.pg_dyn.specs.reading.Decoding.{dec}
use Rattle.pg_dyn.specs.fitting.Belonging.{IsMessage}
use Rattle.pg_dyn.specs.views.Comparison.{View, same}

-- what the new reader makes of the old writer's bytes shows the same
unfoldable pub is_kept : View → Shape → Shape → TypeId → TypeId → Message → Bool
is_kept view old new a b v = shows (dec new b (enc old a v))
  where
    shows : Option Message → Bool
    shows (Some w) = same view old new a b v w
    shows None = false

pub record Breaks (view : View) (old new : Shape) (a b : TypeId) (v : Message) : Type 0 where
  pub is_message : IsMessage old a v
  pub is_plain : IsPlain v
  pub has_encoding : length (enc old a v) ≤ cap
  pub not_kept : is_kept view old new a b v ≡ false

abbrev pub Compatible : View → Shape → Shape → TypeId → TypeId → Type 0
Compatible view old new a b = (v : Message) → Breaks view old new a b v → ⊥

-- a breaking message has an encoding of n bytes, and none has a shorter one
pub record Least (view : View) (old new : Shape) (a b : TypeId) (n : ℕ) : Type 0 where
  pub message : Message
  pub breaks : Breaks view old new a b message
  pub length_is : length (enc old a message) ≡ n
  pub least : (v : Message) → Breaks view old new a b v → n ≤ length (enc old a v)
