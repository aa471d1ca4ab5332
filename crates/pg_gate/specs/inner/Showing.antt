-- What showing functions inside the crate say of what they refuse.
use Rattle.std.specs.Prelude.{◌≡◌, None}
use Rattle.pg_link.specs.names.Names.{Text}
use Rattle.pg_schema.specs.declared.parts.field.TypeId.{TypeId}
use Rattle.pg_schema.specs.declared.parts.Parts.{Parts}
use Rattle.pg_show.specs.Hex.{bytes_in}
use Rattle.pg_least.specs.Loss.{Lacks}
use Rattle.pg_gate.specs.Errors.{IsCallError, IsError, IsMemory}
use Rattle.pg_gate.specs.answer.Showing.{IsBadWord, IsRefused, IsRefusedWord}
use Rattle.pg_gate.specs.declared.call_error.CallError.{CallError}
use Rattle.pg_gate.specs.declared.error.GateError.{GateError}

-- an argument that spells no bytes
abbrev pub IsUnspelled : Text → GateError → Type 0
IsUnspelled word = IsError ⊥ ⊥ (bytes_in word ≡ None) (λ side fault. ⊥)

-- bytes that aren't read as a message, or as one that has no encoding
abbrev pub IsUnread : Parts → TypeId → Text → CallError → Type 0
IsUnread schema type bytes = IsCallError IsMemory (λ fault. ⊥) (IsRefused schema type bytes)

-- Why nothing is shown by a schema: no message type has the name; else the argument spells no bytes; else the bytes
-- are refused.
abbrev pub IsShowFault : Parts → Text → Text → CallError → Type 0
IsShowFault schema root word =
    IsCallError (IsError (Lacks schema root) ⊥ (IsBadWord schema root word) (λ side fault. ⊥))
    (λ fault. ⊥) (IsRefusedWord schema root word)
