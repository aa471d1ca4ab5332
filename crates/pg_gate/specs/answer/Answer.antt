-- What the gate answers of the old and the new message type of one full name. Contracts take a certificate as a
-- claim. A view says which numbers of two enums are the same item, and an enum view also which of the others is
-- least; `gate` compares enums by their numbers.
use Rattle.std.specs.Prelude.{◌≡◌, ◌≤◌, ℕ, ⊤, List, length, Some, None}
use Rattle.pg_schema.specs.declared.parts.Parts.{Parts}
use Rattle.pg_schema.specs.Parts.{shape_of}
use Rattle.pg_dyn.specs.views.Breaking.{Breaks, Compatible, Least}
use Rattle.pg_dyn.specs.encoding.Encoding.{enc}
use Rattle.pg_dyn.specs.fitting.Fits.{Fits}
use Rattle.pg_dyn.specs.message.Kept.{Kept, message_of, type_of}
use Rattle.pg_dyn.specs.message.Message.{Message}
use Rattle.pg_dyn.specs.declared.view_name.ViewName.TheVariants as views
use Rattle.pg_pairs.specs.views.EnumView.{EnumView, by_numbers}
use Rattle.pg_cert.specs.Certificate.{bound_in, Claim, Holds}
use Rattle.pg_least.specs.Searched.{IsSearched}
use Rattle.pg_least.specs.Loss.{IsLost, NewSees, OldWrites, AreRoots, Lacks}
use Rattle.pg_gate.specs.answer.AnyOrder.{NoneUnseenShorter, SeenInAnyOrder}
use Rattle.pg_gate.specs.declared.answer.gate.Answer.{Answer}
use Rattle.pg_gate.specs.declared.answer.gate.Answer.TheVariants as answers
use Rattle.pg_gate.specs.declared.error.GateError.{GateError}
use Rattle.pg_gate.specs.declared.error.GateError.TheVariants as errors

-- No message breaks: the new reader reads each message whole that the old writer encodes, in whatever order this one
-- writes its fields and the entries of its maps. The certificate is that of
-- the root types, and it passes the checker; each bound in it is least. The root's bound in it is 'none', and there
-- is no witness.
pub record IsCompatible (enum_view : EnumView) (old new : Parts) (root : List ℕ) (certificate : Claim) : Type 0 where
  pub roots : AreRoots old new root certificate.root
  pub each_is_seen : (message : Message) → OldWrites (shape_of old) certificate.root message
      → NewSees enum_view.alike (shape_of old) (shape_of new) certificate.root message
  pub in_any_order : SeenInAnyOrder enum_view.alike (shape_of old) (shape_of new) certificate.root
  pub passes : Holds enum_view (shape_of old) (shape_of new) certificate
  pub searched : IsSearched enum_view (shape_of old) (shape_of new) certificate.root certificate
  pub bound_is_none : bound_in certificate.bounds certificate.root ≡ Some None
  pub no_witness : certificate.witness ≡ None
  pub compatible : Compatible enum_view.alike (shape_of old) (shape_of new) certificate.root.old certificate.root.new

-- The witness is a message of the old root type, without unknown records, and it breaks: the new reader doesn't read
-- it whole. No message that the old writer encodes and the new reader doesn't read whole has fewer bytes, in whatever
-- order they are written. The certificate is that of the root types, and it passes the checker; each bound in it is least. It has the witness's
-- bytes.
pub record IsBroken (enum_view : EnumView) (old new : Parts) (root : List ℕ) (witness : Kept) (certificate : Claim)
    : Type 0 where
  pub roots : AreRoots old new root certificate.root
  pub fits : Fits (shape_of old) witness
  pub type_is : type_of witness ≡ certificate.root.old
  pub lost : IsLost enum_view.alike (shape_of old) (shape_of new) certificate.root (message_of witness)
  pub none_shorter : (message : Message) → IsLost enum_view.alike (shape_of old) (shape_of new) certificate.root message
      → length (enc (shape_of old) certificate.root.old (message_of witness))
      ≤ length (enc (shape_of old) certificate.root.old message)
  pub in_any_order : NoneUnseenShorter enum_view.alike (shape_of old) (shape_of new) certificate.root
      (length (enc (shape_of old) certificate.root.old (message_of witness)))
  pub passes : Holds enum_view (shape_of old) (shape_of new) certificate
  pub searched : IsSearched enum_view (shape_of old) (shape_of new) certificate.root certificate
  pub breaks : Breaks enum_view.alike (shape_of old) (shape_of new) certificate.root.old certificate.root.new
      (message_of witness)
  pub least : Least enum_view.alike (shape_of old) (shape_of new) certificate.root.old certificate.root.new
      (length (enc (shape_of old) certificate.root.old (message_of witness)))
  pub bytes_are : certificate.witness ≡ Some (enc (shape_of old) certificate.root.old (message_of witness))

-- One of these two answers, under an enum view.
abbrev pub IsAnswerBy : EnumView → Parts → Parts → List ℕ → Answer → Type 0
IsAnswerBy enum_view old new root (answers.Compatible certificate) = IsCompatible enum_view old new root certificate
IsAnswerBy enum_view old new root (answers.Breaks witness certificate) =
    IsBroken enum_view old new root witness certificate

abbrev pub certificate_of : Answer → Claim
certificate_of (answers.Compatible certificate) = certificate
certificate_of (answers.Breaks witness certificate) = certificate

-- The promise: of two schemas with a message type of that name the gate answers one of the two, and nothing else.
-- Each number of two enums is the same item, and the certificate names the view that says so.
abbrev pub IsAnswer : Parts → Parts → List ℕ → Answer → Type 0
IsAnswer old new root answer =
    ((certificate_of answer).view ≡ views.Numbers) × IsAnswerBy by_numbers old new root answer

-- A refusal names a root that is missing: the old one first. Out of memory says nothing.
abbrev pub IsRefusedRoot : Parts → Parts → List ℕ → GateError → Type 0
IsRefusedRoot old new root errors.Memory = ⊤
IsRefusedRoot old new root errors.RootMissingOld = Lacks old root
IsRefusedRoot old new root errors.RootMissingNew = (Lacks old root → ⊥) × Lacks new root
IsRefusedRoot old new root error = ⊥
