use Rattle.std.proofs.Common.{map, sym, ap, subst, ◌∙◌}
use Rattle.pg_dyn.specs.encoding.Lending.{HasValues, item_part, lent_item}
use Rattle.pg_dyn.proofs.lemmas.encoding.LentParts.{lent_items, lent_items_are}
use Rattle.pg_dyn.proofs.encoding.lending.MessageRefLends.items.Goals as goal

pub returns-in-One : goal.returns-in-One
returns-in-One c = λ n values keyless.
    let are = lent_items_are n c.args.content.now keyless in
    (are.0, are.1 ∙ ap (map (item_part lent_item n are.0)) (ap lent_items c.in-One.is ∙ sym c.from_ref.ensures.value))

pub returns-in-Many : goal.returns-in-Many
returns-in-Many c = λ n values keyless.
    let are = lent_items_are n c.args.content.now keyless in
    (are.0, are.1 ∙ ap (map (item_part lent_item n are.0)) (ap lent_items c.in-Many.is ∙ sym c.deref.ensures.value))

pub returns-in-Map : goal.returns-in-Map
returns-in-Map c = λ n values keyless.
    let are = lent_items_are n c.args.content.now keyless in
    (are.0, are.1 ∙ ap (map (item_part lent_item n are.0)) (ap lent_items c.in-Map.is))

pub returns-in-Numbers : goal.returns-in-Numbers
returns-in-Numbers c = λ n values keyless. absurd (subst HasValues c.in-Numbers.is values)
