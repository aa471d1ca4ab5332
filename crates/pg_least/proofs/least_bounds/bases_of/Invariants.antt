use Rattle.std.proofs.Common.{◌≡◌, map, take}
use Rattle.pg_least.specs.inner.Graphs.{opened_by}
use Rattle.pg_least.proofs.least_bounds.bases_of.Given as goal

abbrev pub invariant-loop-pair : goal.invariant-loop-pair
invariant-loop-pair g l = record {
  bases : l.costs.items ≡ map (g.G.Prices.base_of l.graph) (take l.pair-index l.pairs);
  counted : l.work ≡ opened_by l.pair-index l.fn.work;
}
