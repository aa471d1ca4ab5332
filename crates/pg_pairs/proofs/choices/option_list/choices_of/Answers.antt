use Rattle.std.proofs.Common.{◌++◌, map, ap, sym, subst}
use Rattle.pg_schema.specs.Parts.{field_shape, shape_of}
use Rattle.pg_schema.specs.Shape.{fields}
use Rattle.pg_pairs.specs.choices.Choices.{affordable, all_choices}
use Rattle.pg_pairs.specs.graph.GraphView.{seen}
use Rattle.pg_pairs.specs.inner.OneofLinks.{AreLinks}
use Rattle.pg_pairs.proofs.lemmas.choices.OptionSteps.{choices_after}
use Rattle.pg_pairs.proofs.choices.option_list.choices_of.Goals as goal

pub loop-at-init : goal.loop-at-init
loop-at-init g c =
    ap (λ cs. cs ++ affordable (all_choices (seen c.args.graph.now) (g.T.Table.bounds c.args.table.now) (fields (shape_of c.args.graph.now.new.now) c.args.type_id) (map field_shape c.args.list.now))) c.new-choices.ensures.items

pub offer_joined-requires-clause-links : goal.offer_joined-requires-clause-links
offer_joined-requires-clause-links g c =
    let gs = fields (shape_of c.args.graph.now.new.now) c.args.type_id in
    (gs, subst (AreLinks gs c.args.list.now 0) (sym c.deref.ensures.value) c.in_ok-links.ensures)

pub loop-at-preserved : goal.loop-at-preserved
loop-at-preserved g c =
    let gs = fields (shape_of c.args.graph.now.new.now) c.args.type_id in
    let f = c.index-list-at.result in
    choices_after (seen c.args.graph.now) (g.T.Table.bounds c.args.table.now) gs c.args.list.now c.loop-at.at f c.loop-at-test.true c.index-list-at.is c.loop-at.choices.items c.offer_beside.new.choices.items c.offer_joined.new.choices.items _
    c.loop-at.invariant c.in_ok-offer_beside.ensures (c.in_ok-offer_joined.ensures gs (subst (AreLinks gs c.args.list.now 0) (sym c.deref.ensures.value) c.in_ok-links.ensures) f c.index-list-at.is)
