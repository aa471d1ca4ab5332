-- What a call may be answered, by what its sources may give and lack.
use Rattle.std.specs.Prelude.{◌≡◌, ◌⊎◌, ◌+◌, ◌&&◌, ℕ, Bool, true, false, not, List, [], Option, Some, is_some, option_map, string_bytes, IsTrue}
use Rattle.pg_cert.specs.Certificate.{Claim}
use Rattle.pg_cert.specs.Text.{Certifies, IsSecondText}
use Rattle.pg_dyn.specs.declared.view_name.ViewName.{ViewName}
use Rattle.pg_dyn.specs.encoding.Encoding.{enc}
use Rattle.pg_dyn.specs.message.Kept.{Kept}
use Rattle.pg_least.specs.Searched.{CarriesWitness, carried_along}
use Rattle.pg_least.specs.Loss.{Lacks}
use Rattle.pg_pairs.specs.views.EnumView.{by_numbers}
use Rattle.pg_pairs.specs.views.NamedView.{seen_under}
use Rattle.pg_schema.specs.declared.parts.Parts.{Parts}
use Rattle.pg_schema.specs.Parts.{shape_of}
use Rattle.pg_gate.specs.answer.AllTypes.{IsAllTypes}
use Rattle.pg_call.specs.Call.{GateRequest, Request, compile, gate, gate_all, show, types, verify}
use Rattle.pg_link.specs.names.Names.{Text}
use Rattle.pg_link.specs.walk.Walk.{World, world}
use Rattle.pg_link.specs.declared.sources.Sources.{Ghosts}
use Rattle.pg_gate.specs.Errors.{IsCallError, IsError}
use Rattle.pg_gate.specs.Failures.{call_failures_at}
use Rattle.pg_call.specs.Paths.{BothPaths, Paths}
use Rattle.pg_gate.specs.answer.Lists.{IsFaultOfNames, IsListed}
use Rattle.pg_gate.specs.answer.Folders.{world_at}
use Rattle.pg_gate.specs.answer.Files.{IsErrorOf, IsFaultOfSet, IsFaultOfSide, IsSetOf, IsSide, IsSideError}
use Rattle.pg_gate.specs.answer.Answer.{IsAnswer, IsBroken, IsCompatible, certificate_of}
use Rattle.pg_gate.specs.declared.answer.gate.Answer.{Answer}
use Rattle.pg_gate.specs.print.Refusals.{refusal_for}
use Rattle.pg_gate.specs.answer.Showing.{IsBadWord, IsExplained, IsRefusedWord, IsShown}
use Rattle.pg_gate.specs.answer.Steps.{AreSteps}
use Rattle.pg_gate.specs.answer.TypeNames.{ListsTypes}
use Rattle.pg_gate.specs.answer.Verified.{IsClaimFault, IsHeldBy}
use Rattle.pg_gate.specs.answer.ViewAnswer.{IsAnswerUnder}
use Rattle.pg_gate.specs.declared.call_error.CallError.{CallError}
use Rattle.pg_gate.specs.declared.call_error.CertificateFault.{CertificateFault}
use Rattle.pg_gate.specs.declared.call_error.CertificateFault.TheVariants as certificates
use Rattle.pg_gate.specs.declared.error.Fault.{Fault}
use Rattle.pg_gate.specs.declared.error.GateError.{GateError}
use Rattle.pg_lines.specs.declared.side.Side.{Side}
use Rattle.pg_lines.specs.declared.side.Side.TheVariants as sides
use Rattle.pg_lines.specs.declared.refusal.Refusal.{Refusal}
use Rattle.pg_gate.specs.declared.print.reply.Finding.{Finding}
use Rattle.pg_gate.specs.declared.print.reply.Finding.TheVariants as findings
use Rattle.pg_gate.specs.declared.print.reply.Readings.{Readings}
use Rattle.pg_gate.specs.declared.print.reply.Reply.{Reply}
use Rattle.pg_gate.specs.declared.print.reply.Reply.TheVariants as replies
use Rattle.pg_lines.specs.declared.step.Step.{Step}

-- ---- sides

-- what holds of the schema of a side
pub record OfSide (w : World) (holds : Parts → Type 0) : Type 0 where
  pub schema : Parts
  pub of_side : IsSide w schema
  pub so : holds schema

-- what holds of the schemas of two sides
pub record Between (old new : World) (holds : Parts → Parts → Type 0) : Type 0 where
  pub old_schema : Parts
  pub new_schema : Parts
  pub of_old : IsSide old old_schema
  pub of_new : IsSide new new_schema
  pub so : holds old_schema new_schema

-- A fault of two sides. The old one is compiled first: a fault of the new one is reported where the old one has a
-- schema.
abbrev pub IsSidesFault : World → World → Side → Fault → Type 0
IsSidesFault old new sides.Old fault = IsFaultOfSide old fault
IsSidesFault old new sides.New fault = OfSide old (λ schema. IsFaultOfSide new fault)

-- two sides end out of memory, or in a fault of either
abbrev pub IsSidesError : World → World → GateError → Type 0
IsSidesError old new = IsError ⊥ ⊥ ⊥ (IsSidesFault old new)

-- why no answer comes of two sides; a missing root is reported of sides that both compile, the old one first
abbrev pub IsGateError : Text → World → World → GateError → Type 0
IsGateError root old new = IsError (Between old new (λ a b. Lacks a root))
    (Between old new (λ a b. (Lacks a root → ⊥) × Lacks b root)) ⊥ (IsSidesFault old new)

-- of two sides that compile the answer is the gate's, and a witness in it is what the path of its certificate carries
abbrev pub IsAnswerOfFiles : Text → World → World → Answer → Type 0
IsAnswerOfFiles root old new answer = Between old new (λ a b. IsAnswer a b root answer
    × CarriesWitness by_numbers (shape_of a) (shape_of b) (certificate_of answer))

-- the types are compatible under the view, as some certificate shows
pub record IsShownCompatible (view : ViewName) (old new : Parts) (root : Text) : Type 0 where
  pub certificate : Claim
  pub named : certificate.view ≡ view
  pub compatible : IsCompatible (seen_under view old new) old new root certificate

-- The bytes are those of a message that breaks under the view, and no message that breaks has fewer, as some
-- certificate shows. The steps are the fields on a path from its root, by the cheapest choice of each pair, and the
-- message is the one that these choices carry. Where it is asked for, the readings are those of the bytes by the root
-- types.
pub record IsLeastWitness (view : ViewName) (old new : Parts) (root : Text) (explain : Bool)
    (bytes : List ℕ) (steps : List Step) (readings : Option Readings) : Type 0 where
  pub message : Kept
  pub certificate : Claim
  pub named : certificate.view ≡ view
  pub broken : IsBroken (seen_under view old new) old new root message certificate
  pub bytes_are : certificate.witness ≡ Some bytes
  pub are_steps : AreSteps old new certificate steps
  pub carried : option_map (enc (shape_of old) certificate.root.old)
      (carried_along (seen_under view old new) (shape_of old) (shape_of new) are_steps.path) ≡ Some bytes
  pub explained : IsExplained explain old new certificate.root bytes readings

-- The string spells the certificate of an answer under the view, in version 2, and `breaks` is whether a message
-- breaks. A witness in it is the message that the path of cheapest choices carries.
pub record IsCertificateText (view : ViewName) (old new : Parts) (root text : Text) (breaks : Bool) : Type 0 where
  pub answer : Answer
  pub is_answer : IsAnswerUnder view old new root answer
  pub carried : CarriesWitness (seen_under view old new) (shape_of old) (shape_of new) (certificate_of answer)
  pub certifies : Certifies old new text (certificate_of answer)
  pub is_second : IsSecondText old new text (certificate_of answer)
  pub breaks_is : breaks ≡ is_some (certificate_of answer).witness

-- what the gate finds of the types of that name under the view; the certificate where that is asked for, and nowhere
-- else
abbrev pub IsFindingOf : ViewName → Parts → Parts → Text → (certificate_only explain : Bool) → Finding → Type 0
IsFindingOf view old new root false explain findings.Compatible = IsShownCompatible view old new root
IsFindingOf view old new root false explain (findings.Breaks witness steps readings) =
    IsLeastWitness view old new root explain witness.items steps.items readings
IsFindingOf view old new root true explain (findings.Certified text breaks) =
    IsCertificateText view old new root (string_bytes text) breaks
IsFindingOf view old new root certificate_only explain finding = ⊥

-- What the gate answers: what it finds from the old to the new type; where both directions are asked for, and not the
-- certificate alone, also what it finds from the new to the old one. Both are found under the same view.
abbrev pub IsGateReply : Parts → Parts → GateRequest → Reply → Type 0
IsGateReply old new asked (replies.Found finding) =
    ((asked.both && not asked.certificate_only) ≡ false)
    × IsFindingOf asked.view old new asked.root asked.certificate_only asked.explain finding
IsGateReply old new asked (replies.Both forward backward) =
    ((asked.both && not asked.certificate_only) ≡ true)
    × IsFindingOf asked.view old new asked.root false asked.explain forward
    × IsFindingOf asked.view new old asked.root false asked.explain backward
IsGateReply old new asked reply = ⊥

-- ---- lists of files

-- what holds of all files of a side, with those of its list
pub record Listed (give : Text → Text → Bool) (lack : Text → Bool) (files : Paths) (holds : World → Type 0) : Type 0 where
  pub all : Paths
  pub is_listed : IsListed give files all
  pub so : holds (world_at give lack all)

-- a side has no files, or there is a fault of all its files
abbrev pub IsListedFault : (Text → Text → Bool) → (Text → Bool) → Paths → (World → Fault → Type 0) → Fault → Type 0
IsListedFault give lack files faulty fault =
    IsFaultOfNames give lack files fault ⊎ Listed give lack files (λ w. faulty w fault)

-- ---- certificates that are checked

-- bytes that the source may give for the path
pub record IsGiven (w : World) (path : Text) (holds : Text → Type 0) : Type 0 where
  pub bytes : Text
  pub given : IsTrue (w.may_give path bytes)
  pub so : holds bytes

-- a source that is asked for paths as they are given
abbrev pub as_given : (Text → Text → Bool) → (Text → Bool) → World
as_given give lack = world give lack [] []

-- what is found of a certificate, whose bytes that source may give for its path
abbrev pub IsVerified : Text → (source old new : World) → Finding → Type 0
IsVerified path source old new finding =
    Between old new (λ a b. IsGiven source path (λ bytes. IsHeldBy a b bytes finding))

-- why a certificate isn't taken: the source may lack its path, it failed, or it may give bytes that are refused
abbrev pub IsCertificateFault : World → Text → Parts → Parts → CertificateFault → Type 0
IsCertificateFault w path old new (certificates.Missing file) = (string_bytes file ≡ path) × IsTrue (w.may_lack path)
IsCertificateFault w path old new (certificates.Failed file) = string_bytes file ≡ path
IsCertificateFault w path old new (certificates.Refused fault) =
    IsGiven w path (λ bytes. IsClaimFault old new bytes fault)

-- why a certificate of two sides shows nothing; its own faults are reported of sides that both compile
abbrev pub IsVerifyError : Text → (source old new : World) → CallError → Type 0
IsVerifyError path source old new = IsCallError (IsSidesError old new)
    (λ fault. Between old new (λ a b. IsCertificateFault source path a b fault)) (λ error. ⊥)

-- ---- bytes that are shown

-- Why nothing is shown: a fault of the files, which are compiled as an old side; else what is wrong is reported of
-- files that compile.
abbrev pub IsShowError : World → (root word : Text) → CallError → Type 0
IsShowError w root word = IsCallError
    (IsError (OfSide w (λ schema. Lacks schema root)) ⊥ (OfSide w (λ schema. IsBadWord schema root word))
    (λ side fault. (side ≡ sides.Old) × IsFaultOfSide w fault))
    (λ fault. ⊥) (λ error. OfSide w (λ schema. IsRefusedWord schema root word error))

-- ---- calls

-- what a run knows of a source: what it may give and lack, and its failures before and after
pub record Seen : Type 0 where
  pub may_give : Text → Text → Bool
  pub may_lack : Text → Bool
  pub before : ℕ
  pub after : ℕ

-- what a run knows of a source, by the source before the run and after it
abbrev pub seen : {S : Type 0} → Ghosts S → S → S → Seen
seen members old new = record {
  may_give = members.may_give old;
  may_lack = members.may_lack old;
  before = members.failures old;
  after = members.failures new;
}

-- files of a source, by what a run knows of it
abbrev pub world_in : Seen → Paths → World
world_in s paths = world_at s.may_give s.may_lack paths

-- what holds of all files of a side, by what a run knows of its source
abbrev pub AllOf : Seen → Paths → (World → Type 0) → Type 0
AllOf s files holds = Listed s.may_give s.may_lack files holds

-- what is answered to a call, where nothing is refused: each call has replies of its own
abbrev pub IsReplyFor : Seen → Seen → Request → Reply → Type 0
IsReplyFor old new (compile files) (replies.Set bytes) = AllOf old files (λ w. IsSetOf w bytes.items)
IsReplyFor old new (gate asked) reply =
    Between (world_in old asked.files.old) (world_in new asked.files.new) (λ a b. IsGateReply a b asked reply)
IsReplyFor old new (gate_all asked) (replies.All all) =
    AllOf old asked.files.old (λ v. AllOf new asked.files.new (λ w.
    Between v w (λ a b. IsAllTypes asked.view a b asked.explain asked.notes all)))
IsReplyFor old new (show asked) (replies.Shown text) =
    OfSide (world_in old asked.files) (λ schema. IsShown schema asked.root asked.word (string_bytes text))
IsReplyFor old new (verify files certificate json) (replies.Found finding) =
    IsVerified certificate (as_given old.may_give old.may_lack) (world_in old files.old) (world_in new files.new)
    finding
IsReplyFor old new (types files json) (replies.Types names) =
    AllOf old files (λ w. OfSide w (λ schema. ListsTypes schema names.items))
IsReplyFor old new call reply = ⊥

-- why files that are compiled by themselves aren't, as an old side
abbrev pub IsErrorOfAll : Seen → Paths → (World → Fault → Type 0) → GateError → Type 0
IsErrorOfAll s files faulty = IsErrorOf (IsListedFault s.may_give s.may_lack files faulty) sides.Old

-- Why a side names no files. The list of the old side is read first, and both before anything is compiled.
abbrev pub IsNamesFault : Seen → Seen → BothPaths → Side → Fault → Type 0
IsNamesFault old new files sides.Old fault = IsFaultOfNames old.may_give old.may_lack files.old fault
IsNamesFault old new files sides.New fault =
    AllOf old files.old (λ w. IsFaultOfNames new.may_give new.may_lack files.new fault)

-- why nothing is found of all message types
abbrev pub IsAllError : Seen → Seen → BothPaths → GateError → Type 0
IsAllError old new files = IsError ⊥ ⊥ ⊥ (λ side fault. IsNamesFault old new files side fault
    ⊎ AllOf old files.old (λ v. AllOf new files.new (λ w. IsSidesFault v w side fault)))

-- an error that no call but `verify` and `show` ends in
abbrev pub OfGate : (GateError → Type 0) → CallError → Type 0
OfGate is = IsCallError is (λ fault. ⊥) (λ error. ⊥)

-- why nothing is answered to a call
abbrev pub IsErrorFor : Seen → Seen → Request → CallError → Type 0
IsErrorFor old new (compile files) = OfGate (IsErrorOfAll old files IsFaultOfSet)
IsErrorFor old new (gate asked) =
    OfGate (IsGateError asked.root (world_in old asked.files.old) (world_in new asked.files.new))
IsErrorFor old new (gate_all asked) = OfGate (IsAllError old new asked.files)
IsErrorFor old new (show asked) = IsShowError (world_in old asked.files) asked.root asked.word
IsErrorFor old new (verify files certificate json) =
    IsVerifyError certificate (as_given old.may_give old.may_lack) (world_in old files.old) (world_in new files.new)
IsErrorFor old new (types files json) = OfGate (IsErrorOfAll old files IsFaultOfSide)

-- each source's count of failures rose by just so much
pub record Counted (old new : Seen) (failures : Side → ℕ) : Type 0 where
  pub of_old : old.after ≡ old.before + failures sides.Old
  pub of_new : new.after ≡ new.before + failures sides.New

-- an answer, where nothing is refused: no source failed
pub record IsAnswered (old new : Seen) (call : Request) (reply : Reply) : Type 0 where
  pub is_reply : IsReplyFor old new call reply
  pub counted : Counted old new (λ side. 0)

-- a refusal of the call that is printed for an error; a source failed only where the error reports that, and but once
pub record IsRefusal (old new : Seen) (call : Request) (refusal : Refusal) : Type 0 where
  pub error : CallError
  pub is_error : IsErrorFor old new call error
  pub counted : Counted old new (λ side. call_failures_at side error)
  pub printed : refusal_for call error ≡ Some refusal

-- an answer, or a refusal
abbrev pub Grants : Seen → Seen → Request → Reply → Type 0
Grants old new call (replies.Refused refusal) = IsRefusal old new call refusal
Grants old new call reply = IsAnswered old new call reply
