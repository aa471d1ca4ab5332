use Rattle.std.proofs.Common.{◌≡◌, ◌∷◌, drop}
use Rattle.pg_schema.specs.inner.Steps.{all_neighbours}
use Rattle.pg_schema.specs.inner.Steps.{comes_before}
use Rattle.pg_schema.proofs.rules.uses.are_in_order.Given as goal

-- all are in order exactly where those that are left are
abbrev pub invariant-loop-next : goal.invariant-loop-next
invariant-loop-next l = all_neighbours (comes_before l.aliases) (l.before ∷ drop l.next-index l.others) ≡ all_neighbours (comes_before l.aliases) l.uses
