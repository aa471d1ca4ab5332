use Rattle.std.proofs.Common.{subst, sym}
use Rattle.pg_pairs.specs.inner.CarriedItems.{IsTakenBy}
use Rattle.pg_pairs.proofs.lemmas.witness.TakenItems.{if_ok_map, no_map}
use Rattle.pg_pairs.proofs.witness.content.small_content.Goals as goal

pub returns-in_ok-small_leaf-in-Map-clause-taken : goal.returns-in_ok-small_leaf-in-Map-clause-taken
returns-in_ok-small_leaf-in-Map-clause-taken c =
    if_ok_map c.entry_content.result (λ content h. λ shape element.
    subst (λ p. IsTakenBy shape p c.args.field.now.element content) (sym c.in-Map.is) (h shape c.in-Map.key c.args.field.now.element c.in_ok-small_leaf-in-Map.ensures.item (c.in_ok-value.ensures.fits shape element)))
    c.entry_content.ensures.taken

pub returns-in_default-clause-taken : goal.returns-in_default-clause-taken
returns-in_default-clause-taken c =
    if_ok_map c.plain_content.result (λ content h. λ shape element. h shape (no_map c.args.field.now.presence c.in_default.not-Map) (c.in_ok-value.ensures.fits shape element))
    c.plain_content.ensures.taken
