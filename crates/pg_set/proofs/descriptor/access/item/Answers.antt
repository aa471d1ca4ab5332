use Rattle.std.proofs.Common.{List, ap, slice_get, sym, ◌∙◌}
use Rattle.pg_dyn.specs.message.Message.{Item}
use Rattle.pg_set.proofs.lemmas.descriptor.MessageLaws.{content_items, no_item}
use Rattle.pg_set.proofs.descriptor.access.item.Goals as goal

pub returns-in-None : goal.returns-in-None
returns-in-None c = no_item c.args.number c.args.message.now c.in-None.ensures.content

pub returns-in-Some : goal.returns-in-Some
returns-in-Some c =
    sym c.item_of.ensures ∙ ap (λ (xs : List Item). slice_get xs 0) (content_items c.args.number c.args.message.now c.in-Some.content.now c.in-Some.ensures.content)
