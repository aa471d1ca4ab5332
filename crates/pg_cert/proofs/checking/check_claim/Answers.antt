-- What the checker finds is said of all messages.
use Rattle.std.proofs.Common.{◌≡◌, ◌⊎◌, Some, None, ap, sym, ◌∙◌}
use Rattle.std.specs.Option.{option_copied}
use Rattle.std.proofs.lemmas.Result.{err_from_is_err_and}
use Rattle.pg_schema.specs.Parts.{shape_of}
use Rattle.pg_pairs.specs.graph.GraphView.{seen}
use Rattle.pg_cert.specs.declared.error.CertError.TheVariants as errors
use Rattle.pg_cert.specs.Certificate.{bound_in, IsWitnessed}
use Rattle.pg_cert.specs.Verdict.{bound_verdict}
use Rattle.pg_cert.specs.Faults.{WitnessFault, first_fault}
use Rattle.pg_cert.proofs.Verdicts.{bad_table, bad_witness, found_alone, found_witnessed}
use Rattle.pg_cert.proofs.checking.check_claim.Goals as goal

pub returns-in_err-check_table : goal.returns-in_err-check_table
returns-in_err-check_table c =
    let enum_view = seen c.args.graph.now in
    let claim = c.args.certificate.now in
    let p = err_from_is_err_and c.from_residual.result c.from_residual.ensures.1 in
    let faulty : (p.0 ≡ errors.Memory) ⊎ (first_fault enum_view (shape_of c.args.graph.now.old.now) (shape_of c.args.graph.now.new.now) claim.bounds claim.root ≡ Some p.0) =
    rw (p.2, sym c.bounds-bounds.ensures, sym c.root-root.ensures.root) c.in_err-check_table.ensures in
    rw p.1 (bad_table enum_view (shape_of c.args.graph.now.old.now) (shape_of c.args.graph.now.new.now) claim c.covers_without_fault.ensures c.root-root.ensures.checked p.0 faulty)

pub returns-in_err-check_witness-in-Some : goal.returns-in_err-check_witness-in-Some
returns-in_err-check_witness-in-Some c =
    let enum_view = seen c.args.graph.now in
    let old = shape_of c.args.graph.now.old.now in
    let new = shape_of c.args.graph.now.new.now in
    let claim = c.args.certificate.now in
    let p = err_from_is_err_and c.from_residual-in_err-check_witness-in-Some.result c.from_residual-in_err-check_witness-in-Some.ensures.1 in
    let faultless : first_fault enum_view old new claim.bounds claim.root ≡ None = rw (sym c.bounds-bounds.ensures, sym c.root-root.ensures.root) c.in_ok-check_table.ensures in
    let bound : c.bound-bound.result ≡ bound_in claim.bounds claim.root =
    c.bound-bound.ensures ∙ ap (λ bounds. bound_in bounds c.root-root.result) c.bounds-bounds.ensures ∙ ap (bound_in claim.bounds) c.root-root.ensures.root in
    let faulty : (p.0 ≡ errors.Memory) ⊎ WitnessFault enum_view old new claim.root (bound_in claim.bounds claim.root) c.in-Some.bytes.now p.0 =
    rw (p.2, sym bound, sym c.root-root.ensures.root) c.in_err-check_witness-in-Some.ensures in
    rw p.1
    (bad_witness enum_view old new claim c.in-Some.bytes.now (sym c.witness.ensures.witness ∙ ap option_copied c.in-Some.is) c.witness_faults_are_real.ensures faultless p.0 faulty)

pub returns-in_ok-check_witness-in-Some : goal.returns-in_ok-check_witness-in-Some
returns-in_ok-check_witness-in-Some c =
    let enum_view = seen c.args.graph.now in
    let old = shape_of c.args.graph.now.old.now in
    let new = shape_of c.args.graph.now.new.now in
    let claim = c.args.certificate.now in
    let faultless : first_fault enum_view old new claim.bounds claim.root ≡ None = rw (sym c.bounds-bounds.ensures, sym c.root-root.ensures.root) c.in_ok-check_table.ensures in
    let covers = (c.covers_without_fault.ensures enum_view old new claim.bounds claim.root c.root-root.ensures.checked).0 faultless in
    let bound : c.bound-bound.result ≡ bound_in claim.bounds claim.root =
    c.bound-bound.ensures ∙ ap (λ bounds. bound_in bounds c.root-root.result) c.bounds-bounds.ensures ∙ ap (bound_in claim.bounds) c.root-root.ensures.root in
    let witnessed : IsWitnessed enum_view old new claim.root (bound_in claim.bounds claim.root) c.in-Some.bytes.now = rw (sym bound, sym c.root-root.ensures.root) c.in_ok-check_witness-in-Some.ensures in
    found_witnessed enum_view old new claim c.in-Some.bytes.now (sym c.witness.ensures.witness ∙ ap option_copied c.in-Some.is) c.verdicts_are_true.ensures c.sees.ensures c.parts.ensures.checked.shape c.parts-2.ensures.checked.shape
    covers witnessed

pub returns-in-None : goal.returns-in-None
returns-in-None c =
    let enum_view = seen c.args.graph.now in
    let old = shape_of c.args.graph.now.old.now in
    let new = shape_of c.args.graph.now.new.now in
    let claim = c.args.certificate.now in
    let faultless : first_fault enum_view old new claim.bounds claim.root ≡ None = rw (sym c.bounds-bounds.ensures, sym c.root-root.ensures.root) c.in_ok-check_table.ensures in
    let covers = (c.covers_without_fault.ensures enum_view old new claim.bounds claim.root c.root-root.ensures.checked).0 faultless in
    found_alone enum_view old new claim c.verdicts_are_true.ensures c.sees.ensures c.parts.ensures.checked.shape c.parts-2.ensures.checked.shape covers (sym c.witness.ensures.witness ∙ ap option_copied c.in-None.is) c.bound_verdict.result
    (c.bound_verdict.ensures ∙ ap bound_verdict (c.bound-bound.ensures ∙ ap (λ bounds. bound_in bounds c.root-root.result) c.bounds-bounds.ensures ∙ ap (bound_in claim.bounds) c.root-root.ensures.root))
