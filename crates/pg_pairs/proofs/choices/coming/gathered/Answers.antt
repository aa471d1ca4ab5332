use Rattle.std.proofs.Common.{map, drop, ap, ◌∙◌, arith, rules}
use Rattle.pg_schema.specs.Parts.{field_shape, shape_of}
use Rattle.pg_schema.specs.Shape.{fields}
use Rattle.pg_pairs.specs.choices.Choices.{affordable, cheapest}
use Rattle.pg_pairs.specs.inner.LeastMembers.{least_member, member_of, met_choices}
use Rattle.pg_pairs.proofs.lemmas.choices.CheapestSteps.{kept_at_end, kept_before}
use Rattle.pg_pairs.proofs.lemmas.choices.Comings.{cheapest_met, gathered_at_end, gathered_before}
use Rattle.pg_pairs.proofs.choices.coming.gathered.Goals as goal

pub loop-at-init : goal.loop-at-init
loop-at-init c =
    let gs = fields (shape_of c.args.new.now) c.args.type_id in
    record {
      place = omega arith;
      kept = kept_at_end gs c.args.list.now c.new-kept.result c.new-kept.ensures.empty;
      gathered = gathered_at_end gs c.args.list.now c.new-gathered.result c.new-gathered.ensures.empty;
    }

pub loop-at-preserved : goal.loop-at-preserved
loop-at-preserved c =
    let positive = c.loop-at-test.true in
    let small = c.loop-at.invariant.place in
    let f = c.index-list-at.result in
    let later = map field_shape (drop c.loop-at.at c.args.list.now) in
    let gs = fields (shape_of c.args.new.now) c.args.type_id in
    let met = c.in_ok-met.ensures gs later c.new_oneof-oneof.ensures c.loop-at.invariant.kept in
    let choice_is = c.in_ok-choice.ensures ∙ ap (λ o. cheapest (affordable (met_choices (member_of (field_shape f)) o))) (met.0 ∙ ap (λ o. least_member gs o f.oneof later) c.new_oneof-oneof.ensures) ∙ cheapest_met gs (field_shape f) later in
    record {
      place = omega arith;
      kept = kept_before c.args.list.now c.loop-at.at f positive small c.index-list-at.is gs c.met_by.new.kept met.1;
      gathered =
          gathered_before gs c.args.list.now c.loop-at.at f c.gather.new.gathered positive small c.index-list-at.is
          (c.in_ok-gather.ensures gs later (field_shape f) c.new_oneof-oneof.ensures (search rules) choice_is c.loop-at.invariant.gathered);
    }
