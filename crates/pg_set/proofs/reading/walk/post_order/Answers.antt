use Rattle.std.proofs.Common.{◌≡◌, ◌-◌, ◌+◌, [], length, sym, subst, arith}
use Rattle.pg_schema.specs.standing.Places.{places_from}
use Rattle.pg_set.specs.inner.reading.Walks.{IsWalk, Walks, lists_of}
use Rattle.pg_set.proofs.lemmas.order.Walking.{begun, lists_long, no_places, places_on, root_ended, rooted}
use Rattle.pg_set.proofs.reading.walk.post_order.Goals as goal

pub loop-place-init : goal.loop-place-init
loop-place-init c =
    let all = lists_of c.args.imported.now in
    let count = length c.args.imported.now in
    let same : count - 0 ≡ count = omega arith in
    record {
      walk = subst (IsWalk all c.in_ok-vec.field-0.items []) (sym c.new-2.ensures.items)
          (begun all c.in_ok-vec.field-0.items count (sym (lists_long c.args.imported.now)) (c.in_ok-vec.ensures.items_if_clones_equal (λ x e. e)));
      closed = c.new.ensures.items;
      on = λ listed walks. subst (λ n. Walks all [] (places_from 0 n) listed) same (subst (λ front. Walks all front (places_from 0 (count - 0)) listed) c.new-2.ensures.items walks);
    }

pub finish-requires-clause-walk : goal.finish-requires-clause-walk
finish-requires-clause-walk c =
    rooted (lists_of c.args.imported.now) c.loop-place.place c.loop-place.walk c.enter.new.self c.loop-place.invariant.closed c.loop-place.invariant.walk c.in_ok-enter.ensures.entered

pub loop-place-preserved : goal.loop-place-preserved
loop-place-preserved c =
    let all = lists_of c.args.imported.now in
    let count = length c.args.imported.now in
    let place = c.loop-place.place in
    record {
      walk = c.in_ok-finish.ensures.walk;
      closed = c.in_ok-finish.ensures.closed;
      on = λ listed walks. c.loop-place.invariant.on listed (subst (λ ps. Walks all c.loop-place.walk.done.items ps listed) (sym (places_on place count c.loop-place-test.true))
          (root_ended all place c.loop-place.walk c.enter.new.self c.finish.new.self.done.items (places_from (place + 1) (count - (place + 1))) listed c.loop-place.invariant.closed c.loop-place.invariant.walk
          c.in_ok-enter.ensures.entered c.in_ok-finish.ensures.on walks));
    }

pub returns-clause-ok : goal.returns-clause-ok
returns-clause-ok c =
    c.loop-place.invariant.on c.loop-place.walk.done.items (no_places (lists_of c.args.imported.now) c.loop-place.place (length c.args.imported.now) c.loop-place.walk.done.items (omega arith))
