use Rattle.std.proofs.Common.{◌∙◌, [], is_some, ap, ap₂, subst}
use Rattle.pg_schema.specs.Parts.{field_shape, shape_of}
use Rattle.pg_schema.specs.Shape.{fields, field_at}
use Rattle.pg_dyn.specs.message.Kept.{ends, type_of}
use Rattle.pg_dyn.specs.setting.Setting.{IsSetTo}
use Rattle.pg_pairs.specs.witness.Carried.{least_part}
use Rattle.pg_pairs.specs.inner.CarriedItems.{Puts}
use Rattle.pg_pairs.specs.graph.GraphView.{seen}
use Rattle.pg_pairs.proofs.lemmas.witness.carried.CarrySteps.{carried_double}
use Rattle.pg_pairs.proofs.lemmas.witness.Reached.{choice_known}
use Rattle.pg_pairs.proofs.lemmas.views.NamedViews.{seen_under_is}
use Rattle.pg_pairs.proofs.witness.message.carry_two.Goals as goal

pub field_there-field-requires : goal.field_there-field-requires
field_there-field-requires c =
    let g = c.args.graph.now in
    let law = seen_under_is g.view g.old.now g.new.now in
    ap is_some (choice_known (seen g) law (shape_of g.old.now) (shape_of g.new.now) c.requires.old_schema.shape c.requires.new_schema.shape c.requires.choice.0 c.args.pair c.args.choice.now c.requires.choice.1).1.found

pub field_there-other-requires : goal.field_there-other-requires
field_there-other-requires c =
    let g = c.args.graph.now in
    let law = seen_under_is g.view g.old.now g.new.now in
    ap is_some ((choice_known (seen g) law (shape_of g.old.now) (shape_of g.new.now) c.requires.old_schema.shape c.requires.new_schema.shape c.requires.choice.0 c.args.pair c.args.choice.now c.requires.choice.1).1.second c.requires.two).1

pub add_least-requires-2-clause-found : goal.add_least-requires-2-clause-found
add_least-requires-2-clause-found c =
    let fs = fields (shape_of c.args.graph.now.old.now) in
    let same = c.in_ok-add_least.ensures.type_is ∙ ap type_of c.empty-message.ensures in
    ap₂ (λ t n. field_at (fs t) n) same c.field_there-other.ensures.own ∙ c.field_there-other.ensures.found

pub returns-clause-made : goal.returns-clause-made
returns-clause-made c = λ child.
    let g = c.args.graph.now in
    let law = seen_under_is g.view g.old.now g.new.now in
    let old = shape_of g.old.now in
    let new = shape_of g.new.now in
    let stands = (choice_known (seen g) law old new c.requires.old_schema.shape c.requires.new_schema.shape c.requires.choice.0 c.args.pair c.args.choice.now c.requires.choice.1).1 in
    let f = field_shape c.field_there-field.result.now in
    let e = field_shape c.field_there-other.result.now in
    let own = c.field_there-field.ensures.own in
    let own_other = c.field_there-other.ensures.own in
    let (first, puts, set) = c.in_ok-add_least.ensures.set in
    let (second, puts_other, set_other) = c.in_ok-add_least-2.ensures.set in
    let mid = c.add_least.new.message in
    let made = c.add_least-2.new.message in
    carried_double (seen g) old new c.requires.choice.0 law c.requires.old_schema.shape c.requires.new_schema.shape c.args.pair c.args.choice.now c.requires.choice.1 c.requires.two
    f e stands.beside c.field_there-field.ensures.found c.field_there-other.ensures.found stands.at own own_other first second child
    (subst (λ n. Puts n first (least_part f)) own puts)
    (subst (λ n. Puts n second (least_part e)) own_other puts_other)
    mid made
    (subst (λ n. IsSetTo old n first (ends c.args.pair.old []) mid) own (subst (λ m. IsSetTo old f.number first m mid) c.empty-message.ensures set))
    (subst (λ n. IsSetTo old n second mid made) own_other set_other)
