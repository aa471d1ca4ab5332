use Rattle.std.proofs.Common.{subst, sym}
use Rattle.pg_cert.specs.Certificate.{Claim}
use Rattle.pg_cert.specs.ClaimView.{view_in}
use Rattle.pg_cert.specs.Text.{IsClaimOf}
use Rattle.pg_least.specs.Searched.{IsSearched}
use Rattle.pg_schema.specs.Parts.{shape_of}
use Rattle.pg_gate.specs.inner.Reports.{Reports}
use Rattle.pg_gate.proofs.lemmas.answer.AnswerLemmas.{claim_of_answer, found_by, searched_by}
use Rattle.pg_gate.proofs.answer.dispatch.one_way.Goals as goal

pub finding_of-requires-clause-searched : goal.finding_of-requires-clause-searched
finding_of-requires-clause-searched c =
    let old = c.args.old.now.schema in
    let new = c.args.new.now.schema in
    subst (λ (claim : Claim). IsSearched (view_in old new claim) (shape_of old) (shape_of new) claim.root claim) (sym c.certificate-certificate.ensures)
    (searched_by c.args.asked.now.view old new c.args.asked.now.root.now c.in_ok-answer.answer c.in_ok-answer.ensures.answer)

pub finding_of-requires-clause-claim : goal.finding_of-requires-clause-claim
finding_of-requires-clause-claim c =
    let old = c.args.old.now.schema in
    let new = c.args.new.now.schema in
    subst (λ (claim : Claim). IsClaimOf old new claim) (sym c.certificate-certificate.ensures)
    (claim_of_answer c.args.asked.now.view old new c.args.asked.now.root.now c.parts.ensures.checked.shape c.parts-2.ensures.checked.shape c.in_ok-answer.answer c.in_ok-answer.ensures.answer)

pub returns-clause-found : goal.returns-clause-found
returns-clause-found c =
    let old = c.args.old.now.schema in
    let new = c.args.new.now.schema in
    found_by c.args.asked.now.view old new c.args.asked.now.root.now c.in_ok-answer.answer c.args.asked.now.certificate_only c.args.asked.now.explain c.in_ok-finding.finding c.in_ok-answer.ensures.answer c.in_ok-answer.ensures.carried
    (subst (λ (claim : Claim). Reports old new claim c.args.asked.now.certificate_only c.args.asked.now.explain c.in_ok-finding.finding) c.certificate-certificate.ensures c.in_ok-finding.ensures)
