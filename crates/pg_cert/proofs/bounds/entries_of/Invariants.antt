use Rattle.std.proofs.Common.{◌≡◌, true, map, take}
use Rattle.pg_cert.specs.Certificate.{are_bounds}
use Rattle.pg_cert.specs.inner.Entries.{bound_of}
use Rattle.pg_cert.proofs.bounds.entries_of.Given as goal

abbrev pub invariant-loop-line : goal.invariant-loop-line
invariant-loop-line l = (map bound_of l.entries.entries ≡ take l.line-index l.bounds) × (are_bounds (take l.line-index l.bounds) ≡ true)
