use Rattle.std.proofs.Common.{◌≡◌, sym, ◌∙◌, ap}
use Rattle.std.proofs.lemmas.Result.{err_from_is_err_and}
use Rattle.pg_cert.specs.Text.{names_of, view_of}
use Rattle.pg_cert.proofs.Cuts.{some_is, none_lost}
use Rattle.pg_cert.proofs.WholeRead.{head-row}
use Rattle.pg_cert.proofs.reading.read.Goals as goal

pub returns-in_default-clause-found : goal.returns-in_default-clause-found
returns-in_default-clause-found c =
    λ claim is. none_lost _ c.read_heading.result _ (c.read_heading.ensures is.heading _ (is.spelled ∙ head-row is.heading (names_of c.args.old.now) (names_of c.args.new.now) claim)) c.in_default.is

pub returns-in_err-certificate-clause-found : goal.returns-in_err-certificate-clause-found
returns-in_err-certificate-clause-found c =
    λ claim is.
    let parts = some_is _ c.read_heading.result _ _ (c.read_heading.ensures is.heading _ (is.spelled ∙ head-row is.heading (names_of c.args.old.now) (names_of c.args.new.now) claim)) c.in-Some.is in
    let viewed : claim.view ≡ c.view-view.result = sym is.viewed ∙ ap view_of (sym (ap (λ p. p.0) parts)) ∙ sym c.view-view.ensures in
    let p = err_from_is_err_and c.from_residual.result c.from_residual.ensures.1 in
    rw (p.1, p.2) (c.in_err-certificate.ensures.found claim is.has_texts viewed (ap (λ p. p.1) parts))

pub returns-clause-viewed : goal.returns-clause-viewed
returns-clause-viewed c = sym c.view-view.ensures ∙ sym c.in_ok-certificate.ensures.viewed

pub returns-clause-found : goal.returns-clause-found
returns-clause-found c =
    λ claim is.
    let parts = some_is _ c.read_heading.result _ _ (c.read_heading.ensures is.heading _ (is.spelled ∙ head-row is.heading (names_of c.args.old.now) (names_of c.args.new.now) claim)) c.in-Some.is in
    let viewed : claim.view ≡ c.view-view.result = sym is.viewed ∙ ap view_of (sym (ap (λ p. p.0) parts)) ∙ sym c.view-view.ensures in
    (ap (λ p. p.0) parts, c.in_ok-certificate.ensures.found claim is.has_texts viewed (ap (λ p. p.1) parts))
