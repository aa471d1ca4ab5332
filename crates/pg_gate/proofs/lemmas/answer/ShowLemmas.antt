-- What is shown by a schema, or by the files that declare it, and why nothing is.
use Rattle.std.proofs.Common.{◌≡◌, Some}
use Rattle.clap.specs.Words.{Text}
use Rattle.pg_link.specs.walk.Walk.{World}
use Rattle.pg_schema.specs.declared.parts.field.TypeId.{TypeId}
use Rattle.pg_schema.specs.declared.parts.Parts.{Parts}
use Rattle.pg_show.specs.Hex.{bytes_in}
use Rattle.pg_least.specs.Loss.{IsNamed, Lacks}
use Rattle.pg_gate.specs.Errors.{IsError, IsMemory}
use Rattle.pg_gate.specs.Failures.{call_failures_at}
use Rattle.pg_gate.specs.answer.Files.{IsFaultOfSide, IsSide, IsSideError}
use Rattle.pg_gate.specs.answer.Grants.{IsShowError, OfSide}
use Rattle.pg_gate.specs.answer.Showing.{IsBadWord, IsReadAs, IsRefused, IsRefusedWord, IsShown}
use Rattle.pg_gate.specs.inner.Showing.{IsShowFault, IsUnread, IsUnspelled}
use Rattle.pg_gate.specs.declared.call_error.CallError.{CallError}
use Rattle.pg_gate.specs.declared.call_error.CallError.TheVariants as calls
use Rattle.pg_gate.specs.declared.error.GateError.{GateError}
use Rattle.pg_lines.specs.declared.side.Side.{Side}
use Rattle.pg_lines.specs.declared.side.Side.TheVariants as sides
use Rattle.pg_gate.proofs.lemmas.ErrorLemmas.{call_error-weaker, error-weaker, memory_is, of_call, of_none}

module _ (schema : Parts) (root word : Text) (type : TypeId) (named : IsNamed schema root type) where
  -- an argument that spells no bytes is refused, where the schema has the type
  pub unspelled_there : (error : GateError) → IsUnspelled word error → IsShowFault schema root word (calls.Gate error)
  unspelled_there error is =
      error-weaker (λ side fault. ⊥) (λ side fault. ⊥) (λ no. absurd no) (λ no. no) (λ none. ((λ lacks. lacks type named), none)) (λ side fault no. no) error is

  module _ (bytes : Text) (spelled : bytes_in word ≡ Some bytes) where
    pub shown_there : (text : Text) → IsReadAs schema type bytes text → IsShown schema root word text
    shown_there text is = record { type = type; bytes = bytes; named = named; spelled = spelled; read = is }

    pub unread_there : (error : CallError) → IsUnread schema type bytes error → IsShowFault schema root word error
    unread_there error is =
        call_error-weaker IsMemory (IsError (Lacks schema root) ⊥ (IsBadWord schema root word) (λ side fault. ⊥)) (λ fault. ⊥) (λ fault. ⊥)
        (IsRefused schema type bytes) (IsRefusedWord schema root word) (λ error is. memory_is (Lacks schema root) ⊥ (IsBadWord schema root word) (λ side fault. ⊥) error is) (λ fault no. no)
        (λ error is. record { type = type; bytes = bytes; named = named; spelled = spelled; refused = is }) error is

module _ (w : World) (root word : Text) where
  -- what is wrong with the files
  pub of_files : (error : GateError) → IsSideError w sides.Old error → IsShowError w root word (calls.Gate error)
  of_files error is =
      error-weaker (λ of found. (of ≡ sides.Old) × IsFaultOfSide w found) (λ of found. (of ≡ sides.Old) × IsFaultOfSide w found)
      (λ no. absurd no) (λ no. no) (λ no. absurd no) (λ side fault is. is) error is

  module _ (schema : Parts) (of_side : IsSide w schema) where
    pub shown_of_files : (text : Text) → IsShown schema root word text → OfSide w (λ schema. IsShown schema root word text)
    shown_of_files text is = record { schema = schema; of_side = of_side; so = is }

    pub refused_of_files : (error : CallError) → IsShowFault schema root word error → IsShowError w root word error
    refused_of_files error is =
        call_error-weaker (IsError (Lacks schema root) ⊥ (IsBadWord schema root word) (λ side fault. ⊥))
        (IsError (OfSide w (λ schema. Lacks schema root)) ⊥ (OfSide w (λ schema. IsBadWord schema root word)) (λ side fault. (side ≡ sides.Old) × IsFaultOfSide w fault))
        (λ fault. ⊥) (λ fault. ⊥) (IsRefusedWord schema root word) (λ error. OfSide w (λ schema. IsRefusedWord schema root word error))
        (λ error is. error-weaker (λ side fault. ⊥) (λ side fault. (side ≡ sides.Old) × IsFaultOfSide w fault)
        (λ lacks. record { schema = schema; of_side = of_side; so = lacks }) (λ no. no) (λ bad. record { schema = schema; of_side = of_side; so = bad })
        (λ side fault no. absurd no) error is)
        (λ fault no. no) (λ error is. record { schema = schema; of_side = of_side; so = is }) error is

-- no source failed where the files compile and something else is wrong
pub shown_uncounted : (schema : Parts) (root word : Text) (side : Side) (error : CallError) → IsShowFault schema root word error → call_failures_at side error ≡ 0
shown_uncounted schema root word side error is =
    of_call (IsError (Lacks schema root) ⊥ (IsBadWord schema root word) (λ side fault. ⊥)) (λ fault. ⊥) (IsRefusedWord schema root word) side
    (λ error is. of_none (Lacks schema root) ⊥ (IsBadWord schema root word) side error is) (λ fault no. absurd no) error is
