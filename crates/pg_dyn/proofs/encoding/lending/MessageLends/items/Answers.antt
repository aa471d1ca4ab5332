use Rattle.std.proofs.Common.{map, sym, ap, ◌∙◌}
use Rattle.pg_dyn.specs.encoding.Lending.{item_part, owned_item}
use Rattle.pg_dyn.proofs.lemmas.encoding.LentParts.{owned_items, owned_items_are}
use Rattle.pg_dyn.proofs.encoding.lending.MessageLends.items.Goals as goal

pub returns-in-One : goal.returns-in-One
returns-in-One c = λ n values keyless.
    let are = owned_items_are n c.args.content.now keyless in
    (are.0, are.1 ∙ ap (map (item_part owned_item n are.0)) (ap owned_items c.in-One.is ∙ sym c.from_ref.ensures.value))

pub returns-in-Many : goal.returns-in-Many
returns-in-Many c = λ n values keyless.
    let are = owned_items_are n c.args.content.now keyless in
    (are.0, are.1 ∙ ap (map (item_part owned_item n are.0)) (ap owned_items c.in-Many.is ∙ sym c.deref.ensures.value))

pub returns-in-Map : goal.returns-in-Map
returns-in-Map c = λ n values keyless.
    let are = owned_items_are n c.args.content.now keyless in
    (are.0, are.1 ∙ ap (map (item_part owned_item n are.0)) (ap owned_items c.in-Map.is))
