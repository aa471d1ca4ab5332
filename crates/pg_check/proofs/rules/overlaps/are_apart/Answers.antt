use Rattle.std.proofs.Common.{◌∙◌, None, ap}
use Rattle.pg_check.specs.inner.Rows.{follow}
use Rattle.pg_check.proofs.lemmas.rules.InARow.{row_is}
use Rattle.pg_check.proofs.rules.overlaps.are_apart.Goals as goal

pub returns : goal.returns
returns c =
    c.are_in_a_row.ensures
    ∙ (ap (follow None) c.deref-2.ensures.value
    ∙ row_is c.args.items.now c.deref.result.now c.in_ok-sorted.sorted.items (c.deref.ensures.value ∙ c.in_ok-rising.ensures) c.in_ok-sorted.ensures.same c.in_ok-sorted.ensures.order)
