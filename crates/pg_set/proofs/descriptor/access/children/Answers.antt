use Rattle.std.proofs.Common.{Global, Vec, [], ◌∷◌, ◌++◌, ap, filter_map, map, sym, ◌∙◌}
use Rattle.std.proofs.lemmas.List.{append-nil, map-append}
use Rattle.pg_dyn.specs.message.Kept.{Kept, message_of}
use Rattle.pg_set.specs.inner.reading.Held.{items_in}
use Rattle.pg_set.specs.inner.reading.SetItems.{said}
use Rattle.pg_set.specs.stated.SetMessages.{child_in}
use Rattle.pg_set.proofs.lemmas.descriptor.MessageLaws.{all_items, children_more, no_child, no_items}
use Rattle.pg_set.proofs.descriptor.access.children.Goals as goal
use Rattle.pg_set.proofs.descriptor.access.children.Goals.{in-Message+in_ok-push, in_default-item_of}

pub returns-in_default : goal.returns-in_default
returns-in_default c = ap (map message_of) c.new.ensures.items ∙ ap (filter_map child_in) (sym (no_items c.args.number c.args.message.now c.in_default.ensures.content))

pub loop-at-preserved : goal.loop-at-preserved
loop-at-preserved c =
    let before = c.loop-at.children.items in
    let more = children_more (items_in c.in-Some.content.now) c.loop-at.at (said c.item_of.result) (map message_of before) c.item_of.ensures c.loop-at.invariant in
    elim c.match-item_of.branch [
      | in-Message+in_ok-push w ↦
          ap (λ (v : Vec Kept Global). map message_of v.items) w.children-is
          ∙ (ap (map message_of) w.in_ok-push.ensures.items
          ∙ (map-append message_of before (w.in-Message.child ∷ []) ∙ (ap (λ item. map message_of before ++ filter_map child_in (said item ∷ [])) (sym w.in-Message.is) ∙ more)))
      | in_default-item_of w ↦
          ap (λ (v : Vec Kept Global). map message_of v.items) w.children-is
          ∙ (sym (append-nil (map message_of before)) ∙ (ap (λ xs. map message_of before ++ xs) (sym (no_child c.item_of.result w.in_default-item_of.not-Message)) ∙ more))
    ]

pub returns : goal.returns
returns c =
    c.loop-at.invariant
    ∙ ap (filter_map child_in) (all_items c.args.number c.args.message.now c.in-Some.content.now c.item_count-count.result c.loop-at.at c.in-Some.ensures.content c.item_count-count.ensures c.loop-at-test.false)
