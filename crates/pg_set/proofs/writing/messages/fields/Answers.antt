use Rattle.std.proofs.Common.{◌≡◌, ◌+◌, ◌≤◌, suc, refl, ap, ◌∙◌, arith, add-one}
use Rattle.std.specs.Prelude.{if◌then◌else◌}
use Rattle.pg_set.specs.inner.writing.Drafts.{Listed}
use Rattle.pg_set.specs.writing.Places.{declared_in}
use Rattle.pg_set.specs.writing.Fields.{fields_items}
use Rattle.pg_set.specs.inner.Lent.{lent}
use Rattle.pg_set.specs.inner.writing.Small.{HasSmallNumbers}
use Rattle.pg_set.proofs.lemmas.writing.FieldLaws.{fields_step}
use Rattle.pg_set.proofs.lemmas.writing.SyntheticLaws.{each_at}
use Rattle.pg_set.proofs.writing.messages.fields.Goals as goal
use Rattle.pg_set.proofs.writing.messages.fields.Goals.{then-field, else-field}

pub field_message-requires-clause-small : goal.field_message-requires-clause-small
field_message-requires-clause-small c = each_at HasSmallNumbers c.args.fields.now c.loop-field.field-index c.field-item.result c.requires.small c.loop-field-test.true c.field-item.is

pub loop-field-preserved : goal.loop-field-preserved
loop-field-preserved c =
    let l = c.loop-field in
    let all = declared_in c.args.writer.now in
    let scope = c.args.scope.now in
    let optional = c.field-item.result.now.states_optional in
    let place : c.if-field.next ≡ (if optional then suc l.next else l.next) =
    elim c.if-field.branch [ then-field w ↦ rw (w.next-is, w.if-field.true) (add-one l.next) | else-field w ↦ rw (w.next-is, w.if-field.false) refl ] in
    let up : c.if-field.next ≤ c.args.first + (l.field-index + 1) =
    elim c.if-field.branch [ then-field w ↦ omega (arith, w.next-is, l.invariant.next) | else-field w ↦ omega (arith, w.next-is, l.invariant.next) ] in
    record {
      items = fields_step all scope l.next c.if-field.next l.field-index c.args.fields.now c.field-item.result l.made.items c.push.new.self.items (fields_items all scope c.args.first (lent c.args.fields.now)) c.in_ok-field_message.field-0.items
          c.loop-field-test.true c.field-item.is c.in_ok-field_message.ensures.1 (ap (λ (x : Listed). x.items) c.in_ok-push.ensures) place l.invariant.items;
      of_type = ap (λ (x : Listed). x.type) c.in_ok-push.ensures ∙ l.invariant.of_type;
      next = up;
    }
