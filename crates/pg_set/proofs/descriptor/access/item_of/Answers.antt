use Rattle.std.proofs.Common.{◌≡◌, SFits, Some, ap, rules, slice_get, subst, sym, ℤ, ◌∙◌}
use Rattle.std.proofs.lemmas.Int.{to_z-of_z}
use Rattle.std.specs.Int.{w32}
use Rattle.pg_dyn.specs.message.Message.{Int, Plain}
use Rattle.pg_set.specs.inner.reading.Held.{items_in, values_in}
use Rattle.pg_set.specs.inner.reading.SetItems.{said}
use Rattle.pg_set.proofs.lemmas.descriptor.MessageLaws.{entry_there, item_there, many_there, said_there}
use Rattle.pg_set.proofs.descriptor.access.item_of.Goals as goal

pub lent_item-requires-in-Map : goal.lent_item-requires-in-Map
lent_item-requires-in-Map c =
    let content = c.args.content.now in
    let e = c.index-in-Map.result.now in
    said_there (values_in content) c.args.at e.value (entry_there content c.in-Map.entries c.args.at e c.in-Map.is c.requires.within c.index-in-Map.ensures) c.requires.said

pub returns-in-Many : goal.returns-in-Many
returns-in-Many c =
    let content = c.args.content.now in
    let v = c.index.result.now in
    item_there (values_in content) c.args.at v (said c.lent_item-in-Many.result) (many_there content c.in-Many.values c.args.at v c.in-Many.is c.requires.within c.index.ensures) c.lent_item-in-Many.ensures

pub returns-in-Map : goal.returns-in-Map
returns-in-Map c =
    let content = c.args.content.now in
    let e = c.index-in-Map.result.now in
    item_there (values_in content) c.args.at e.value (said c.lent_item-in-Map.result) (entry_there content c.in-Map.entries c.args.at e c.in-Map.is c.requires.within c.index-in-Map.ensures)
    c.lent_item-in-Map.ensures

pub returns-in-Numbers : goal.returns-in-Numbers
returns-in-Numbers c =
    let n = c.listed_number.result in
    let fits : SFits w32 n = search rules in
    subst (λ content. slice_get (items_in content) c.args.at ≡ Some (Plain (Int n))) (sym c.in-Numbers.is) c.listed_number.ensures ∙ ap (λ (k : ℤ). Some (Plain (Int k))) (sym (to_z-of_z w32 n fits))
