-- The records before the index are counted.
use Rattle.std.proofs.Common.{◌≡◌, length, take, flat_map}
use Rattle.pg_dyn.specs.encoding.Written.{capped}
use Rattle.pg_dyn.proofs.encoding.counting.unknown_len.Given as goal

abbrev pub invariant-loop-found : goal.invariant-loop-found
invariant-loop-found g l = l.total ≡ capped (length (flat_map (λ r. (g.M.Lends.record_of r).bytes) (take l.found-index l.fn.records)))
