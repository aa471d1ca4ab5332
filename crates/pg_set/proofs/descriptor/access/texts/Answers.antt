use Rattle.std.proofs.Common.{Bor, List, ℕ, [], ◌∷◌, ◌++◌, ap, map, sym, ◌∙◌}
use Rattle.std.proofs.lemmas.List.{map-append}
use Rattle.pg_set.specs.inner.Lent.{lent}
use Rattle.pg_set.specs.inner.reading.Held.{items_in}
use Rattle.pg_set.specs.inner.reading.SetItems.{said}
use Rattle.pg_set.specs.stated.SetMessages.{text_of}
use Rattle.pg_set.proofs.lemmas.descriptor.MessageLaws.{all_items, no_items, one_more}
use Rattle.pg_set.proofs.descriptor.access.texts.Goals as goal

pub returns-in_default : goal.returns-in_default
returns-in_default c = ap lent c.new.ensures.items ∙ ap (map text_of) (sym (no_items c.args.number c.args.message.now c.in_default.ensures.content))

pub loop-at-preserved : goal.loop-at-preserved
loop-at-preserved c =
    let before = c.loop-at.texts.items in
    ap lent c.in_ok-push.ensures.items
    ∙ (map-append (λ (x : Bor (List ℕ)). x.now) before (c.text_in.result ∷ [])
    ∙ (ap (λ t. lent before ++ t ∷ []) c.text_in.ensures ∙ one_more text_of (items_in c.in-Some.content.now) c.loop-at.at (said c.item_of.result) (lent before) c.item_of.ensures c.loop-at.invariant))

pub returns : goal.returns
returns c =
    c.loop-at.invariant
    ∙ ap (map text_of) (all_items c.args.number c.args.message.now c.in-Some.content.now c.item_count-count.result c.loop-at.at c.in-Some.ensures.content c.item_count-count.ensures c.loop-at-test.false)
