use Rattle.std.proofs.Common.{◌≡◌, rules}
use Rattle.pg_cert.specs.declared.error.CertError.TheVariants as checks
use Rattle.pg_gate.proofs.lemmas.answer.VerifyLemmas.{claim_fault}
use Rattle.pg_gate.proofs.answer.verifying.reported.Goals as goal

pub returns-in-Ok : goal.returns-in-Ok
returns-in-Ok c bytes why =
    let other : c.args.error ≡ checks.Memory → ⊥ = search rules in
    claim_fault c.args.old.now c.args.new.now bytes c.args.error c.in-Ok.fault c.in-Ok.ensures.same c.in-Ok.ensures.placed other why
