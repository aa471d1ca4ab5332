-- The records before the index are written.
use Rattle.std.proofs.Common.{◌≡◌, ◌++◌, take, flat_map}
use Rattle.pg_dyn.proofs.encoding.records.push_unknown.Given as goal

abbrev pub invariant-loop-found : goal.invariant-loop-found
invariant-loop-found g l = l.out.items ≡ l.fn.out.items ++ flat_map (λ r. (g.M.Lends.record_of r).bytes) (take l.found-index l.fn.records)
