-- The bodies of the items before the index are counted.
use Rattle.std.proofs.Common.{◌≡◌, length, take}
use Rattle.pg_dyn.specs.encoding.Written.{capped, packed_body}
use Rattle.pg_dyn.proofs.encoding.counting.each_len.Given as goal

abbrev pub invariant-loop-value : goal.invariant-loop-value
invariant-loop-value g l = l.total ≡ capped (length (packed_body g.M.Lends.item l.fn.element (take l.value-index l.fn.values)))
