use Rattle.std.proofs.Common.{rules, false, ◌≡◌, ◌∙◌, [], IfSome, is_some, option_map, ap, sym, subst}
use Rattle.std.proofs.lemmas.Result.{IfOk-weaker}
use Rattle.pg_schema.specs.Parts.{field_shape, shape_of}
use Rattle.pg_dyn.specs.message.Kept.{ends, message_of}
use Rattle.pg_dyn.specs.setting.Setting.{IsSetTo}
use Rattle.pg_pairs.specs.choices.Choices.{is_oneof}
use Rattle.pg_pairs.specs.witness.Carried.{carried_field}
use Rattle.pg_pairs.specs.inner.CarriedItems.{content_alone, found_alone, IsTakenBy}
use Rattle.pg_pairs.specs.bounds.Laws.{ReachedBy}
use Rattle.pg_pairs.specs.graph.GraphView.{seen}
use Rattle.pg_pairs.proofs.lemmas.witness.carried.CarryContents.{given_is_child, placed_there}
use Rattle.pg_pairs.proofs.lemmas.witness.carried.CarrySteps.{carried_is, carried_single}
use Rattle.pg_pairs.proofs.lemmas.witness.Reached.{choice_known, choices_carried}
use Rattle.pg_pairs.proofs.lemmas.views.NamedViews.{seen_under_is}
use Rattle.pg_pairs.proofs.witness.message.carry.Goals as goal

pub field_there-field-requires : goal.field_there-field-requires
field_there-field-requires c =
    let enum_view = seen c.args.graph.now in
    let law = seen_under_is c.args.graph.now.view c.args.graph.now.old.now c.args.graph.now.new.now in
    ap is_some (choice_known enum_view law (shape_of c.args.graph.now.old.now) (shape_of c.args.graph.now.new.now) c.parts.ensures.checked.shape c.parts-2.ensures.checked.shape c.requires.choice.0 c.args.pair c.args.choice.now c.requires.choice.1).1.found

pub field_there-requires : goal.field_there-requires
field_there-requires c =
    let enum_view = seen c.args.graph.now in
    let law = seen_under_is c.args.graph.now.view c.args.graph.now.old.now c.args.graph.now.new.now in
    ap is_some (choice_known enum_view law (shape_of c.args.graph.now.old.now) (shape_of c.args.graph.now.new.now) c.parts.ensures.checked.shape c.parts-2.ensures.checked.shape c.requires.choice.0 c.args.pair c.args.choice.now c.requires.choice.1).1.at

pub returns-then-eq-clause-made : goal.returns-then-eq-clause-made
returns-then-eq-clause-made c = IfOk-weaker c.carry_two.result _ _ (λ m h. h (option_map message_of c.args.child)) c.carry_two.ensures.made

pub returns-then-eq-clause-reached : goal.returns-then-eq-clause-reached
returns-then-eq-clause-reached c =
    let g = c.args.graph.now in
    let law = seen_under_is g.view g.old.now g.new.now in
    IfOk-weaker c.carry_two.result _ _ (λ m h. λ table among reached.
    subst (λ v. ReachedBy (seen g) (shape_of g.old.now) (shape_of g.new.now) c.args.pair v c.args.choice.now.cost) (sym (h (option_map message_of c.args.child)))
    (choices_carried (seen g) (shape_of g.old.now) (shape_of g.new.now) table law c.parts.ensures.checked.shape c.parts-2.ensures.checked.shape c.args.pair c.args.choice.now among (option_map message_of c.args.child) reached))
    c.carry_two.ensures.made

pub returns-in_default-clause-made : goal.returns-in_default-clause-made
returns-in_default-clause-made c =
    let enum_view = seen c.args.graph.now in
    let law = seen_under_is c.args.graph.now.view c.args.graph.now.old.now c.args.graph.now.new.now in
    let old = shape_of c.args.graph.now.old.now in
    let new = shape_of c.args.graph.now.new.now in
    let f = field_shape c.field_there-field.result.now in
    let beside = field_shape c.field_there.result.now in
    ap message_of c.empty-message.ensures
    ∙ subst (λ o. found_alone c.field_there-field.result.now.number o ≡ carried_field enum_view f beside c.args.choice.now.case c.args.choice.now.part (option_map message_of c.args.child)) c.in_default.is c.in_ok-found.ensures.seen
    ∙ sym (carried_is enum_view old new c.requires.choice.0 law c.parts.ensures.checked.shape c.parts-2.ensures.checked.shape c.args.pair c.args.choice.now c.requires.choice.1 (let one : is_oneof c.args.choice.now.case ≡ false = search rules in one)
    f beside c.field_there-field.ensures.found c.field_there.ensures.found c.field_there-field.ensures.own (option_map message_of c.args.child))

pub returns-in_default-clause-reached : goal.returns-in_default-clause-reached
returns-in_default-clause-reached c = λ table among reached.
    let enum_view = seen c.args.graph.now in
    let law = seen_under_is c.args.graph.now.view c.args.graph.now.old.now c.args.graph.now.new.now in
    subst (λ v. ReachedBy enum_view (shape_of c.args.graph.now.old.now) (shape_of c.args.graph.now.new.now) c.args.pair v c.args.choice.now.cost) (sym (returns-in_default-clause-made c))
    (choices_carried enum_view (shape_of c.args.graph.now.old.now) (shape_of c.args.graph.now.new.now) table law c.parts.ensures.checked.shape c.parts-2.ensures.checked.shape c.args.pair c.args.choice.now among (option_map message_of c.args.child) reached)

pub add-requires-clause-taken : goal.add-requires-clause-taken
add-requires-clause-taken c =
    let old = shape_of c.args.graph.now.old.now in
    let new = shape_of c.args.graph.now.new.now in
    let f = field_shape c.field_there-field.result.now in
    let law = seen_under_is c.args.graph.now.view c.args.graph.now.old.now c.args.graph.now.new.now in
    subst (λ o. IfSome o (IsTakenBy old f.presence f.element)) c.in-Some.is
    (c.in_ok-found.ensures.taken old c.field_there-field.ensures.element
    (placed_there (seen c.args.graph.now) old new c.requires.choice.0 law c.parts.ensures.checked.shape c.parts-2.ensures.checked.shape c.args.pair c.args.choice.now c.requires.choice.1 f c.field_there-field.ensures.found)
    (given_is_child old new c.args.pair c.args.choice.now f (field_shape c.field_there.result.now) c.field_there-field.ensures.found c.field_there.ensures.found c.args.child c.requires.child))

pub returns-clause-made : goal.returns-clause-made
returns-clause-made c =
    let enum_view = seen c.args.graph.now in
    let law = seen_under_is c.args.graph.now.view c.args.graph.now.old.now c.args.graph.now.new.now in
    let old = shape_of c.args.graph.now.old.now in
    let new = shape_of c.args.graph.now.new.now in
    let number = c.field_there-field.result.now.number in
    let f = field_shape c.field_there-field.result.now in
    let beside = field_shape c.field_there.result.now in
    let own = c.field_there-field.ensures.own in
    let made = subst (λ o. found_alone number o ≡ carried_field enum_view f beside c.args.choice.now.case c.args.choice.now.part (option_map message_of c.args.child)) c.in-Some.is c.in_ok-found.ensures.seen in
    carried_single enum_view old new c.requires.choice.0 law c.parts.ensures.checked.shape c.parts-2.ensures.checked.shape c.args.pair c.args.choice.now c.requires.choice.1 (let one : is_oneof c.args.choice.now.case ≡ false = search rules in one)
    f beside c.field_there-field.ensures.found c.field_there.ensures.found own c.in-Some.content c.args.child
    (subst (λ n. content_alone n c.in-Some.content ≡ carried_field enum_view f beside c.args.choice.now.case c.args.choice.now.part (option_map message_of c.args.child)) own made) c.add.new.message
    (subst (λ n. IsSetTo old n c.in-Some.content (ends c.args.pair.old []) c.add.new.message) own (subst (λ m. IsSetTo old number c.in-Some.content m c.add.new.message) c.empty-message.ensures c.in_ok-add.ensures.set)) c.requires.child

pub returns-clause-reached : goal.returns-clause-reached
returns-clause-reached c = λ table among reached.
    let enum_view = seen c.args.graph.now in
    let law = seen_under_is c.args.graph.now.view c.args.graph.now.old.now c.args.graph.now.new.now in
    subst (λ v. ReachedBy enum_view (shape_of c.args.graph.now.old.now) (shape_of c.args.graph.now.new.now) c.args.pair v c.args.choice.now.cost) (sym (returns-clause-made c))
    (choices_carried enum_view (shape_of c.args.graph.now.old.now) (shape_of c.args.graph.now.new.now) table law c.parts.ensures.checked.shape c.parts-2.ensures.checked.shape c.args.pair c.args.choice.now among (option_map message_of c.args.child) reached)
