-- What a reader makes of a witness.
use Rattle.std.specs.Prelude.{◌≡◌, ℕ, ◌≤◌, List, length, Option, Some, None}
use Rattle.pg_schema.specs.Shape.{Shape}
use Rattle.pg_dyn.specs.fitting.Fits.{Fits}
use Rattle.pg_dyn.specs.message.KeptParts as kept_parts
use Rattle.pg_dyn.specs.message.Kept.{Kept, message_of, type_of}
use Rattle.pg_dyn.specs.encoding.Encoding.{enc, cap}
use Rattle.pg_pairs.specs.declared.choices.choice.Pair.{Pair}
use Rattle.pg_cert.specs.Witness.{IsWritten}

-- what a reader makes of a witness: the message of which the old writer writes it, or nothing where there is none
pub record IsWriting (old : Shape) (root : Pair) (bytes : List ℕ) (m : Kept) : Type 0 where
  pub fits : Fits old m
  pub type_is : type_of m ≡ root.old
  pub is_plain : kept_parts.IsPlain m
  pub has_encoding : length (enc old root.old (message_of m)) ≤ cap
  pub written : enc old root.old (message_of m) ≡ bytes

abbrev pub IsReadBack : Shape → Pair → List ℕ → Option Kept → Type 0
IsReadBack old root bytes (Some m) = IsWriting old root bytes m
IsReadBack old root bytes None = IsWritten old root bytes → ⊥
