use Rattle.std.proofs.Common.{ap, ◌∙◌}
use Rattle.pg_set.specs.inner.writing.Drafts.{Listed, items_within}
use Rattle.pg_set.proofs.lemmas.writing.Bodies.{child_put}
use Rattle.pg_set.proofs.writing.draft.Draft.put_children.Goals as goal

pub loop-body-preserved : goal.loop-body-preserved
loop-body-preserved c =
    let type = c.children.inside.type_id in
    let same = ap (items_within type) c.deref-body-items.ensures.value ∙ ap (λ (l : Listed). l.items) c.children.view_is in
    child_put type c.args.number c.deref-body-items.result.now c.loop-body.body-index c.body-item.result c.deref.result.now c.args.children.items c.args.self.now c.loop-body.self c.add_message.new.self
    c.loop-body-test.true c.body-item.is c.deref.ensures.value same c.loop-body.invariant c.in_ok-add_message.ensures
