use Rattle.std.proofs.Common.{◌≡◌, ◌++◌, map, length}
use Rattle.std.specs.List.{AllByRecursion}
use Rattle.std.specs.Vec.Iter.{into_iter_items, into_iter_len}
use Rattle.pg_gate.specs.answer.AllTypes.{IsPlaced, without_place}
use Rattle.pg_gate.specs.inner.Causes.{HasFields}
use Rattle.pg_gate.proofs.answer.causes.placed_each.Given as goal

-- the causes so far have their fields, and those that are left are the others of all
abbrev pub invariant-loop-cause : goal.invariant-loop-cause
invariant-loop-cause l =
    (map without_place l.each.items ++ into_iter_items l.cause-iterator ≡ l.fn.causes.items)
    × (into_iter_len l.cause-iterator ≡ length (into_iter_items l.cause-iterator))
    × AllByRecursion (HasFields l.sides.old.schema.now l.sides.new.schema.now) (into_iter_items l.cause-iterator)
    × AllByRecursion (IsPlaced l.sides.old.schema.now l.sides.new.schema.now l.explain) l.each.items
