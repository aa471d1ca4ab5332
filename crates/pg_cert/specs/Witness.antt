-- The bytes of a witness, and what a reader makes of them.
use Rattle.std.specs.Prelude.{◌≡◌, ℕ, ◌<◌, ◌≤◌, ◌^◌, ⊤, Bool, true, false, List, [], ◌∷◌, length, Option, Some, None}
use Rattle.std.specs.List.{AllByRecursion}
use Rattle.pg_schema.specs.Shape.{Shape}
use Rattle.pg_dyn.specs.fitting.Belonging.{IsMessage}
use Rattle.pg_dyn.specs.message.Message.{Message, IsPlain}
use Rattle.pg_dyn.specs.encoding.Encoding.{enc, cap}
use Rattle.pg_pairs.specs.declared.choices.choice.Pair.{Pair}

-- a witness has bytes
abbrev pub is_witness : Option (List ℕ) → Bool
is_witness (Some []) = false
is_witness (Some (byte ∷ bytes)) = true
is_witness None = true

abbrev pub AreBytes : Option (List ℕ) → Type 0
AreBytes (Some bytes) = AllByRecursion (λ byte. byte < 2 ^ 8) bytes
AreBytes None = ⊤

-- what the old writer writes of a message without unknown records
pub record IsWritten (old : Shape) (root : Pair) (bytes : List ℕ) : Type 0 where
  pub message : Message
  pub is_message : IsMessage old root.old message
  pub is_plain : IsPlain message
  pub has_encoding : length (enc old root.old message) ≤ cap
  pub written : enc old root.old message ≡ bytes
