use Rattle.std.proofs.Common.{SFits, [], ◌∷◌, ◌++◌, ap, map, rules, sym, ◌∙◌}
use Rattle.std.proofs.lemmas.Int.{to_z-of_z}
use Rattle.std.specs.Int.{w128}
use Rattle.pg_set.specs.inner.reading.Held.{items_in}
use Rattle.pg_set.specs.inner.reading.SetItems.{said}
use Rattle.pg_set.specs.stated.SetMessages.{number_of}
use Rattle.pg_set.proofs.lemmas.descriptor.MessageLaws.{all_items, no_items, one_more}
use Rattle.pg_set.proofs.descriptor.access.numbers.Goals as goal

pub returns-in_default : goal.returns-in_default
returns-in_default c = c.new.ensures.items ∙ ap (map number_of) (sym (no_items c.args.number c.args.message.now c.in_default.ensures.content))

pub loop-at-preserved : goal.loop-at-preserved
loop-at-preserved c =
    let before = c.loop-at.numbers.items in
    let fits : SFits w128 c.number_in.result = search rules in
    c.in_ok-push.ensures.items
    ∙ (ap (λ n. before ++ n ∷ []) (to_z-of_z w128 c.number_in.result fits ∙ c.number_in.ensures) ∙ one_more number_of (items_in c.in-Some.content.now) c.loop-at.at (said c.item_of.result) before c.item_of.ensures c.loop-at.invariant)

pub returns : goal.returns
returns c =
    c.loop-at.invariant
    ∙ ap (map number_of) (all_items c.args.number c.args.message.now c.in-Some.content.now c.item_count-count.result c.loop-at.at c.in-Some.ensures.content c.item_count-count.ensures c.loop-at-test.false)
