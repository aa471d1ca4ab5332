use Rattle.std.proofs.Common.{◌≡◌, Some, map, ap, sym, ◌∙◌}
use Rattle.pg_dyn.specs.message.Kept.{message_of}
use Rattle.pg_set.specs.inner.reading.OutlinedRows.{files_at}
use Rattle.pg_set.specs.stated.StatedOrder.{in_post_order}
use Rattle.pg_set.proofs.lemmas.reading.ReadLaws.{none_in_order, none_ordered, parts_refused, stated_ordered}
use Rattle.pg_set.proofs.reading.kept_parts.Goals as goal

pub returns-in_err-order-clause-refused : goal.returns-in_err-order-clause-refused
returns-in_err-order-clause-refused c =
    let files = map message_of c.args.files.now in
    parts_refused c.args.skips files c.from_residual.result c.in_err-order.field-0.0 c.from_residual.ensures.1 (none_ordered c.args.skips files c.in_err-order.field-0.0 c.in_err-order.ensures.none)

pub returns-in_err-parts-clause-refused : goal.returns-in_err-parts-clause-refused
returns-in_err-parts-clause-refused c =
    let skips = c.args.skips in
    let files = map message_of c.args.files.now in
    let order = c.as_slice.result.now in
    let ordered : in_post_order skips files ≡ Some (files_at files order) = c.in_ok-order.ensures.in_order ∙ ap (λ ps. Some (files_at files ps)) (sym c.as_slice.ensures.value) in
    parts_refused skips files c.from_residual-in_err-parts.result c.in_err-parts.field-0.0 c.from_residual-in_err-parts.ensures.1 (none_in_order skips files order c.in_err-parts.field-0.0 ordered c.in_err-parts.ensures.none)

pub returns-clause-ok : goal.returns-clause-ok
returns-clause-ok c =
    let files = map message_of c.args.files.now in
    let order = c.as_slice.result.now in
    let ordered : in_post_order c.args.skips files ≡ Some (files_at files order) = c.in_ok-order.ensures.in_order ∙ ap (λ ps. Some (files_at files ps)) (sym c.as_slice.ensures.value) in
    stated_ordered c.args.skips files order ordered ∙ c.in_ok-parts.ensures.made
