use Rattle.std.proofs.Common.{◌++◌, map, drop, ap, ◌∙◌, arith}
use Rattle.pg_schema.specs.Parts.{field_shape, shape_of}
use Rattle.pg_schema.specs.Shape.{fields}
use Rattle.pg_pairs.specs.choices.Choices.{affordable}
use Rattle.pg_pairs.specs.inner.LeastMembers.{member_of, met_choices}
use Rattle.pg_pairs.specs.graph.GraphView.{seen}
use Rattle.pg_pairs.proofs.lemmas.choices.CheapestSteps.{none_at_end, kept_at_end, found_before, kept_before}
use Rattle.pg_pairs.proofs.choices.least_cost.cheapest_of.Goals as goal

pub loop-at-init : goal.loop-at-init
loop-at-init g c = record {
  place = omega arith;
  found = none_at_end (seen c.args.graph.now) (g.T.Table.bounds c.args.table.now) (fields (shape_of c.args.graph.now.new.now) c.args.type_id) c.args.list.now;
  kept = kept_at_end (fields (shape_of c.args.graph.now.new.now) c.args.type_id) c.args.list.now c.new-kept.result c.new-kept.ensures.empty;
}

pub loop-at-preserved : goal.loop-at-preserved
loop-at-preserved g c =
    let positive = c.loop-at-test.true in
    let small = c.loop-at.invariant.place in
    let f = c.index-list-at.result in
    let gs = fields (shape_of c.args.graph.now.new.now) c.args.type_id in
    let met = c.in_ok-met.ensures gs (map field_shape (drop c.loop-at.at c.args.list.now)) c.new_oneof.ensures c.loop-at.invariant.kept in
    record {
      place = omega arith;
      found =
          found_before c.args.list.now c.loop-at.at f positive small c.index-list-at.is (seen c.args.graph.now)
          (g.T.Table.bounds c.args.table.now) gs c.new_oneof.result c.clear.new.self.items c.offer_beside.new.choices.items c.offer_with.new.choices.items c.deref.result.now c.first_cheapest.result c.loop-at.found c.first_of-found.result
          c.loop-at.invariant.found c.clear.ensures.items c.in_ok-offer_beside.ensures c.new_oneof.ensures
          (c.in_ok-offer_with.ensures ∙ ap (λ o. c.offer_beside.new.choices.items ++ affordable (met_choices (member_of (field_shape f)) o)) met.0) c.deref.ensures.value c.first_cheapest.ensures c.first_of-found.ensures;
      kept = kept_before c.args.list.now c.loop-at.at f positive small c.index-list-at.is gs c.met_by.new.kept met.1;
    }
