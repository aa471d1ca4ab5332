use Rattle.std.proofs.Common.{◌≡◌, ◌++◌, take}
use Rattle.pg_pairs.specs.bounds.Covering.{distinct}
use Rattle.pg_pairs.specs.inner.Seen.{AreSeen}
use Rattle.pg_pairs.proofs.graph.walking.add_unseen.Given as goal

abbrev pub invariant-loop-pair : goal.invariant-loop-pair
invariant-loop-pair l = (l.pairs.items ≡ distinct (l.fn.pairs.items ++ take l.pair-index l.found)) × AreSeen l.pairs.items l.seen
