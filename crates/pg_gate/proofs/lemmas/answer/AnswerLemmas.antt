-- What a search answers, as the gate's answer; and this as the answer of two sides.
use Rattle.std.proofs.Common.{◌≡◌, ◌∙◌, ℕ, List, length, Bool, true, false, Option, Some, None, refl, ap, sym, subst, option_and_then, option_map, is_some, IfSome, Result, Ok, Err, IfErr, IfOk}
use Rattle.clap.specs.Words.{Text}
use Rattle.pg_schema.specs.declared.parts.Parts.{Parts}
use Rattle.pg_schema.specs.Parts.{shape_of}
use Rattle.pg_schema.specs.ShapeRules.{IsShape}
use Rattle.pg_dyn.specs.encoding.Encoding.{enc}
use Rattle.pg_dyn.specs.message.Kept.{Kept, message_of}
use Rattle.pg_pairs.specs.declared.choices.choice.Pair.{Pair}
use Rattle.pg_pairs.specs.choices.Choices.{number_for}
use Rattle.pg_dyn.specs.declared.view_name.ViewName.{ViewName}
use Rattle.pg_pairs.specs.views.NamedView.{seen_under}
use Rattle.pg_pairs.specs.views.EnumView.{EnumView, by_numbers}
use Rattle.pg_cert.specs.Certificate.{bound_in, Claim, IsWitnessedIfThere}
use Rattle.pg_cert.specs.ClaimView.{view_in}
use Rattle.pg_cert.specs.Text.{IsClaimOf}
use Rattle.pg_least.specs.Beside.{IsBesideClaim, IsWitnessMessage}
use Rattle.pg_least.specs.Searched.{IsSearched, AreCarried, CarriesWitness, IsPath, carried_along}
use Rattle.pg_least.specs.Loss.{AreRoots}
use Rattle.pg_least.proofs.PublicLaws.{compatible_is_seen, lost_messages_break, named_types_are_there}
use Rattle.pg_order.proofs.PublicLaws.{compatible_in_any_order, none_unseen_is_shorter}
use Rattle.pg_gate.specs.answer.Answer.{IsAnswer, IsAnswerBy, IsBroken, IsCompatible, IsRefusedRoot, certificate_of}
use Rattle.pg_gate.specs.answer.ViewAnswer.{IsAnswerUnder}
use Rattle.pg_gate.specs.answer.Files.{IsFaultOfSide, IsSide, IsSideError}
use Rattle.pg_gate.specs.answer.Grants.{Between, IsAnswerOfFiles, IsFindingOf, IsGateError, IsGateReply, IsSidesError, IsSidesFault}
use Rattle.pg_call.specs.Call.{GateRequest}
use Rattle.pg_gate.specs.inner.Reports.{Reports}
use Rattle.pg_lines.specs.declared.side.Side.TheVariants as sides
use Rattle.pg_link.specs.walk.Walk.{World}
use Rattle.pg_gate.specs.declared.answer.gate.Answer.{Answer}
use Rattle.pg_gate.specs.declared.answer.gate.Answer.TheVariants as answers
use Rattle.pg_lines.specs.declared.step.Step.{Step}
use Rattle.pg_gate.specs.answer.Steps.{AreSteps}
use Rattle.pg_gate.specs.declared.error.GateError.{GateError}
use Rattle.pg_gate.specs.declared.error.GateError.TheVariants as gates
use Rattle.pg_gate.specs.declared.print.reply.Finding.{Finding}
use Rattle.pg_gate.specs.declared.print.reply.Finding.TheVariants as findings
use Rattle.pg_gate.specs.declared.print.reply.Reply.{Reply}
use Rattle.pg_gate.specs.Failures.{failures_at, failures_by}
use Rattle.pg_lines.specs.declared.side.Side.{Side}
use Rattle.pg_gate.proofs.lemmas.ErrorLemmas.{error-weaker, none_counted}
use Rattle.pg_gate.proofs.lemmas.answer.Ranges.{searched_there}

-- ---- what a search answers

abbrev pub answer_with : Claim → Option Kept → Answer
answer_with claim (Some kept) = answers.Breaks kept claim
answer_with claim None = answers.Compatible claim

-- the certificate is the claim
pub named_with : (view : ViewName) (claim : Claim) (witness : Option Kept) → claim.view ≡ view → (certificate_of (answer_with claim witness)).view ≡ view
named_with view claim (Some kept) is = is
named_with view claim None is = is

-- a bound that is there and isn't a number is 'none'
none_is_there : (o : Option (Option ℕ)) → is_some o ≡ true → is_some (option_and_then (λ bound. bound) o) ≡ false → o ≡ Some None
none_is_there None there no_number = absurd (cc)
none_is_there (Some None) there no_number = refl
none_is_there (Some (Some n)) there no_number = absurd (cc)

module _ (enum_view : EnumView) (old new : Parts) (is_old : IsShape (shape_of old)) (is_new : IsShape (shape_of new)) (root : Text) (claim : Claim) (roots : AreRoots old new root claim.root) (searched : IsSearched enum_view (shape_of old) (shape_of new) claim.root claim) where
  compatible_without : claim.witness ≡ None → IsCompatible enum_view old new root claim
  compatible_without none =
      let no_number : is_some (number_for (bound_in claim.bounds) claim.root) ≡ false = sym searched.witness_where_it_breaks ∙ ap is_some none in
      let bound = none_is_there (bound_in claim.bounds claim.root) searched.holds.covers.root_there no_number in
      let compatible = searched.says claim.root None bound in
      record {
        roots = roots;
        each_is_seen = compatible_is_seen enum_view.alike (shape_of old) (shape_of new) claim.root compatible;
        in_any_order = λ message writes bytes written. compatible_in_any_order enum_view.alike (shape_of old) (shape_of new) claim.root.old claim.root.new message bytes
            is_old is_new compatible writes.is_message writes.is_plain writes.has_encoding written;
        passes = searched.holds;
        searched = searched;
        bound_is_none = bound;
        no_witness = none;
        compatible = compatible;
      }

  broken_with : (kept : Kept) → IsWitnessMessage enum_view (shape_of old) (shape_of new) claim kept → IsBroken enum_view old new root kept claim
  broken_with kept is =
      let bound = bound_in claim.bounds claim.root in
      let witnessed = subst (λ o. IsWitnessedIfThere enum_view (shape_of old) (shape_of new) claim.root bound o) is.written searched.holds.witnessed in
      let least = searched.says claim.root (Some (length (enc (shape_of old) claim.root.old (message_of kept)))) witnessed.length_is in
      record {
        roots = roots;
        fits = is.fits;
        type_is = is.type_is;
        lost = (lost_messages_break enum_view.alike (shape_of old) (shape_of new) claim.root (message_of kept)).1 is.breaks;
        none_shorter = λ v lost. least.least v ((lost_messages_break enum_view.alike (shape_of old) (shape_of new) claim.root v).0 lost);
        in_any_order = λ message writes bytes written. none_unseen_is_shorter enum_view.alike (shape_of old) (shape_of new) claim.root.old claim.root.new
            (length (enc (shape_of old) claim.root.old (message_of kept))) message bytes is_old is_new least.least writes.is_message writes.is_plain writes.has_encoding written;
        passes = searched.holds;
        searched = searched;
        breaks = is.breaks;
        least = least;
        bytes_are = is.written;
      }

  -- the witness that is found with the claim, or none, makes the answer
  answered_here : (witness : Option Kept) → IsBesideClaim enum_view (shape_of old) (shape_of new) claim witness → IsAnswerBy enum_view old new root (answer_with claim witness)
  answered_here (Some kept) beside = broken_with kept beside
  answered_here None beside = compatible_without beside

-- what a search of the roots finds is the gate's answer
pub answered : (enum_view : EnumView) (old new : Parts) → IsShape (shape_of old) → IsShape (shape_of new) → (root : Text) (pair : Pair) (claim : Claim) (witness : Option Kept) → AreRoots old new root pair → IsSearched enum_view (shape_of old) (shape_of new) pair claim
    → IsBesideClaim enum_view (shape_of old) (shape_of new) claim witness → IsAnswerBy enum_view old new root (answer_with claim witness)
answered enum_view old new is_old is_new root pair claim witness roots searched beside =
    let same = sym searched.root_is in
    answered_here enum_view old new is_old is_new root claim (subst (λ (p : Pair). AreRoots old new root p) same roots)
    (subst (λ (p : Pair). IsSearched enum_view (shape_of old) (shape_of new) p claim) same searched) witness beside

-- the certificate of an answer is one of the schemas' types
pub claim_of_answer : (view : ViewName) (old new : Parts) (root : Text) → IsShape (shape_of old) → IsShape (shape_of new) → (answer : Answer) → IsAnswerUnder view old new root answer → IsClaimOf old new (certificate_of answer)
claim_of_answer view old new root is_old is_new (answers.Compatible certificate) is = of certificate is.1.roots is.1.searched
  where
    of : (claim : Claim) → AreRoots old new root claim.root → IsSearched (seen_under view old new) (shape_of old) (shape_of new) claim.root claim → IsClaimOf old new claim
    of claim roots searched =
        searched_there (seen_under view old new) old new claim is_old is_new (named_types_are_there old root claim.root.old roots.old_named) (named_types_are_there new root claim.root.new roots.new_named) searched
claim_of_answer view old new root is_old is_new (answers.Breaks witness certificate) is = of certificate is.1.roots is.1.searched
  where
    of : (claim : Claim) → AreRoots old new root claim.root → IsSearched (seen_under view old new) (shape_of old) (shape_of new) claim.root claim → IsClaimOf old new claim
    of claim roots searched =
        searched_there (seen_under view old new) old new claim is_old is_new (named_types_are_there old root claim.root.old roots.old_named) (named_types_are_there new root claim.root.new roots.new_named) searched

-- the certificate of an answer is that of a search under the view that it names
pub searched_by : (view : ViewName) (old new : Parts) (root : Text) (answer : Answer) → IsAnswerUnder view old new root answer
    → IsSearched (view_in old new (certificate_of answer)) (shape_of old) (shape_of new) (certificate_of answer).root (certificate_of answer)
searched_by view old new root (answers.Compatible certificate) is =
    subst (λ (v : ViewName). IsSearched (seen_under v old new) (shape_of old) (shape_of new) certificate.root certificate) (sym is.0) is.1.searched
searched_by view old new root (answers.Breaks witness certificate) is =
    subst (λ (v : ViewName). IsSearched (seen_under v old new) (shape_of old) (shape_of new) certificate.root certificate) (sym is.0) is.1.searched

-- ---- what is reported of an answer

-- the witness is the encoding of the message that the path of its steps carries
steps_carry : (view : ViewName) (old new : Parts) (certificate : Claim) (bytes : List ℕ) (steps : List Step) → certificate.view ≡ view
    → CarriesWitness (seen_under view old new) (shape_of old) (shape_of new) certificate → certificate.witness ≡ Some bytes → (are : AreSteps old new certificate steps)
    → option_map (enc (shape_of old) certificate.root.old) (carried_along (seen_under view old new) (shape_of old) (shape_of new) are.path) ≡ Some bytes
steps_carry view old new certificate bytes steps named carries written are =
    let carried : AreCarried (seen_under view old new) (shape_of old) (shape_of new) certificate bytes =
    subst (λ (o : Option (List ℕ)). IfSome o (AreCarried (seen_under view old new) (shape_of old) (shape_of new) certificate)) written carries in
    carried are.path
    (subst (λ (v : ViewName). IsPath (seen_under v old new) (shape_of old) (shape_of new) (bound_in certificate.bounds) certificate.root are.path) named are.is_path)

-- what is reported of an answer's certificate is what is found
pub found_by : (view : ViewName) (old new : Parts) (root : Text) (answer : Answer) (certificate_only explain : Bool) (finding : Finding) → IsAnswerUnder view old new root answer → CarriesWitness (seen_under view old new) (shape_of old) (shape_of new) (certificate_of answer)
    → Reports old new (certificate_of answer) certificate_only explain finding → IsFindingOf view old new root certificate_only explain finding
found_by view old new root (answers.Compatible certificate) false explain findings.Compatible is carries tells = record { certificate = certificate; named = is.0; compatible = is.1 }
found_by view old new root (answers.Breaks message certificate) false explain findings.Compatible is carries tells = absurd (let no : ◌≡◌ {A = Option (List ℕ)} None (Some _) = sym tells ∙ is.1.bytes_are in cc)
found_by view old new root (answers.Compatible certificate) false explain (findings.Breaks bytes steps readings) is carries tells = absurd (let no : ◌≡◌ {A = Option (List ℕ)} None (Some bytes.items) = sym is.1.no_witness ∙ tells.0 in cc)
found_by view old new root (answers.Breaks message certificate) false explain (findings.Breaks bytes steps readings) is carries tells = record { message = message; certificate = certificate; named = is.0; broken = is.1; bytes_are = tells.0; are_steps = tells.1; carried = steps_carry view old new certificate bytes.items steps.items is.0 carries tells.0 tells.1; explained = tells.2 }
found_by view old new root answer false explain (findings.Certified text breaks) is carries tells = absurd tells
found_by view old new root answer true explain findings.Compatible is carries tells = absurd tells
found_by view old new root answer true explain (findings.Breaks bytes steps readings) is carries tells = absurd tells
found_by view old new root answer true explain (findings.Certified text breaks) is carries tells = record { answer = answer; is_answer = is; carried = carries; certifies = tells.0; is_second = tells.1; breaks_is = tells.2 }
found_by view old new root answer false explain (findings.Verified verified) is carries tells = absurd tells
found_by view old new root answer true explain (findings.Verified verified) is carries tells = absurd tells

-- ---- sides

-- what follows from two facts of an answer
pub both_ok : {A E : Type 0} (r : Result A E) (P Q R : A → Type 0) → ((x : A) → P x → Q x → R x) → IfOk r P → IfOk r Q → IfOk r R
both_ok (Ok x) P Q R f p q = f x p q
both_ok (Err e) P Q R f p q = tt

-- a fault of the old side
pub of_old_side : (old new : World) (error : GateError) → IsSideError old sides.Old error → IsSidesError old new error
of_old_side old new error is =
    error-weaker (λ of found. (of ≡ sides.Old) × IsFaultOfSide old found) (IsSidesFault old new) (λ no. no) (λ no. no) (λ no. no)
    (λ of fault is. subst (λ s. IsSidesFault old new s fault) (sym is.0) is.1) error is

-- a fault of the new side, where the old one has a schema
pub of_new_side : (old new : World) (schema : Parts) → IsSide old schema → (error : GateError) → IsSideError new sides.New error → IsSidesError old new error
of_new_side old new schema of_side error is =
    error-weaker (λ of found. (of ≡ sides.New) × IsFaultOfSide new found) (IsSidesFault old new) (λ no. no) (λ no. no) (λ no. no)
    (λ of fault is. subst (λ s. IsSidesFault old new s fault) (sym is.0) (record { schema = schema; of_side = of_side; so = is.1 })) error is

-- an error of two sides is one of the gate
pub of_sides : (root : Text) (old new : World) (error : GateError) → IsSidesError old new error → IsGateError root old new error
of_sides root old new error is =
    error-weaker (IsSidesFault old new) (IsSidesFault old new) (λ no. absurd no) (λ no. absurd no) (λ no. no) (λ side fault is. is) error is

module _ (root : Text) (old new : World) (a b : Parts) (of_old : IsSide old a) (of_new : IsSide new b) where
  pub answer_of_files : (answer : Answer) → IsAnswer a b root answer → CarriesWitness by_numbers (shape_of a) (shape_of b) (certificate_of answer) → IsAnswerOfFiles root old new answer
  answer_of_files answer is carried = record { old_schema = a; new_schema = b; of_old = of_old; of_new = of_new; so = (is, carried) }

  pub reply_of_files : (asked : GateRequest) (reply : Reply) → IsGateReply a b asked reply → Between old new (λ a b. IsGateReply a b asked reply)
  reply_of_files asked reply is = record { old_schema = a; new_schema = b; of_old = of_old; of_new = of_new; so = is }

  pub refused_of_files : (error : GateError) → IsRefusedRoot a b root error → IsGateError root old new error
  refused_of_files gates.Memory is = tt
  refused_of_files gates.RootMissingOld lacks = record { old_schema = a; new_schema = b; of_old = of_old; of_new = of_new; so = lacks }
  refused_of_files gates.RootMissingNew lacks = record { old_schema = a; new_schema = b; of_old = of_old; of_new = of_new; so = lacks }
  refused_of_files (gates.Compile side fault) never = absurd never
  refused_of_files gates.WriteFailed never = never
  refused_of_files gates.BadHex never = never

-- a missing root is no failure of a source
root_untold : (old new : Parts) (root : Text) (side : Side) (error : GateError) → IsRefusedRoot old new root error → failures_at side error ≡ 0
root_untold old new root side gates.Memory is = refl
root_untold old new root side gates.RootMissingOld is = refl
root_untold old new root side gates.RootMissingNew is = refl
root_untold old new root side (gates.Compile of fault) never = absurd never
root_untold old new root side gates.WriteFailed never = absurd never
root_untold old new root side gates.BadHex never = absurd never

pub root_uncounted : {X : Type 0} (old new : Parts) (root : Text) (side : Side) (r : Result X GateError)
    → IfErr r (IsRefusedRoot old new root) → failures_by (failures_at side) r ≡ 0
root_uncounted old new root side r is = none_counted r (λ e. IsRefusedRoot old new root e) (failures_at side) (root_untold old new root side) is
