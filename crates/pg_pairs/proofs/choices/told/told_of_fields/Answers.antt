use Rattle.std.proofs.Common.{◌++◌, map, flat_map, ap, rules}
use Rattle.pg_schema.specs.Parts.{field_shape, shape_of}
use Rattle.pg_schema.specs.Shape.{fields}
use Rattle.pg_pairs.specs.choices.Told.{told_at, told_of}
use Rattle.pg_pairs.specs.graph.GraphView.{seen}
use Rattle.pg_pairs.proofs.lemmas.choices.ToldSteps.{told_after}
use Rattle.pg_pairs.proofs.choices.told.told_of_fields.Goals as goal

pub loop-at-init : goal.loop-at-init
loop-at-init c =
    let gs = fields (shape_of c.args.graph.now.new.now) c.args.type_id in
    let fs = map field_shape c.args.list.now in
    ap (λ ts. map told_of ts ++ flat_map (told_at (seen c.args.graph.now) gs fs) fs) c.new-told.ensures.items

pub loop-at-preserved : goal.loop-at-preserved
loop-at-preserved c =
    let gs = fields (shape_of c.args.graph.now.new.now) c.args.type_id in
    let fs = map field_shape c.args.list.now in
    let f = c.index-list-at.result in
    told_after (seen c.args.graph.now) gs fs c.args.list.now c.loop-at.at f c.loop-at-test.true c.index-list-at.is (map told_of c.loop-at.told.items) (map told_of c.tell_own.new.told.items) (map told_of c.tell_oneof.new.told.items) _
    c.loop-at.invariant c.in_ok-tell_own.ensures (c.in_ok-tell_oneof.ensures gs fs (field_shape f) c.new_oneof-oneof.ensures (search rules) c.in_ok-gathered.ensures)
