-- The bodies of the items before the index are added.
use Rattle.std.proofs.Common.{◌≡◌, ◌++◌, take}
use Rattle.pg_dyn.specs.encoding.Written.{packed_body}
use Rattle.pg_dyn.proofs.encoding.records.push_each.Given as goal

abbrev pub invariant-loop-value : goal.invariant-loop-value
invariant-loop-value g l = l.out.items ≡ l.fn.out.items ++ packed_body g.M.Lends.item l.fn.element (take l.value-index l.fn.values)
