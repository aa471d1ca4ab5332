use Rattle.std.proofs.Common.{inl, inr, sym, ◌∙◌, ap, true≢false}
use Rattle.std.proofs.lemmas.Result.{err_from_is_err_and}
use Rattle.pg_cert.specs.Certificate.{are_bounds}
use Rattle.pg_cert.proofs.Cuts.{some_is, none_lost}
use Rattle.pg_cert.proofs.WholeRead.{rest_of, made, made_of_schemas, made_view}
use Rattle.pg_cert.proofs.reading.read_after.Goals as goal

pub returns-in_default-clause-found : goal.returns-in_default-clause-found
returns-in_default-clause-found c =
    λ claim is viewed spelled. none_lost _ c.read_pair.result _ (c.read_pair.ensures.found claim.root _ is.of_schemas.root spelled) c.in_default.is

pub returns-in_err-bounds-clause-found : goal.returns-in_err-bounds-clause-found
returns-in_err-bounds-clause-found c =
    λ claim is viewed spelled.
    let parts = some_is _ c.read_pair.result _ _ (c.read_pair.ensures.found claim.root _ is.of_schemas.root spelled) c.in-Some.is in
    let rest = rest_of c.args.old.now c.args.new.now c.in-Some.lines.now claim is (ap (λ p. p.1) parts) in
    let p = err_from_is_err_and c.from_residual.result c.from_residual.ensures.1 in
    rw (p.1, p.2) (c.in_err-bounds.ensures.found claim.bounds _ rest)

pub returns-in_err-witness-clause-found : goal.returns-in_err-witness-clause-found
returns-in_err-witness-clause-found c =
    λ claim is viewed spelled.
    let parts = some_is _ c.read_pair.result _ _ (c.read_pair.ensures.found claim.root _ is.of_schemas.root spelled) c.in-Some.is in
    let rest = rest_of c.args.old.now c.args.new.now c.in-Some.lines.now claim is (ap (λ p. p.1) parts) in
    let p = err_from_is_err_and c.from_residual-in_err-witness.result c.from_residual-in_err-witness.ensures.1 in
    rw (p.1, p.2) (c.in_err-witness.ensures claim.witness is.bytes (c.in_ok-bounds.ensures.found claim.bounds _ rest).1)

pub returns-in_err-bounds-2-clause-found : goal.returns-in_err-bounds-2-clause-found
returns-in_err-bounds-2-clause-found c =
    λ claim is viewed spelled.
    let parts = some_is _ c.read_pair.result _ _ (c.read_pair.ensures.found claim.root _ is.of_schemas.root spelled) c.in-Some.is in
    let rest = rest_of c.args.old.now c.args.new.now c.in-Some.lines.now claim is (ap (λ p. p.1) parts) in
    let p = err_from_is_err_and c.from_residual-in_err-bounds-2.result c.from_residual-in_err-bounds-2.ensures.1 in
    rw (p.1, p.2)
    (elim c.in_err-bounds-2.ensures.refused [
      | inl memory ↦ memory
      | inr wrong ↦ absurd (true≢false (sym is.bounds ∙ ap are_bounds (sym (c.in_ok-bounds.ensures.found claim.bounds _ rest).0) ∙ wrong))
    ])

pub returns-clause-of_schemas : goal.returns-clause-of_schemas
returns-clause-of_schemas c =
    made_of_schemas c.args.old.now c.args.new.now c.certificate_of.result c.args.view c.in-Some.root c.in_ok-bounds-2.bounds c.in_ok-bounds.bounds.items _ c.certificate_of.ensures.claim c.in-Some.ensures.there c.in_ok-bounds.ensures.there c.in_ok-bounds-2.ensures.table

pub returns-clause-viewed : goal.returns-clause-viewed
returns-clause-viewed c = made_view c.certificate_of.result c.args.view c.in-Some.root c.in_ok-bounds-2.bounds _ c.certificate_of.ensures.claim

pub returns-clause-found : goal.returns-clause-found
returns-clause-found c =
    λ claim is viewed spelled.
    let parts = some_is _ c.read_pair.result _ _ (c.read_pair.ensures.found claim.root _ is.of_schemas.root spelled) c.in-Some.is in
    let rest = rest_of c.args.old.now c.args.new.now c.in-Some.lines.now claim is (ap (λ p. p.1) parts) in
    let found = c.in_ok-bounds.ensures.found claim.bounds _ rest in
    made c.certificate_of.result c.args.view c.in-Some.root c.in_ok-bounds-2.bounds _ claim c.certificate_of.ensures.claim c.certificate_of.ensures.empty (sym viewed) (ap (λ p. p.0) parts) (c.in_ok-bounds-2.ensures.table ∙ found.0) (c.in_ok-witness.ensures claim.witness is.bytes found.1) is.witness
