-- no two neighbours so far rank alike
use Rattle.std.proofs.Common.{◌≡◌, ℕ, ◌<◌, ◌+◌, get_or, Bor}
use Rattle.std.specs.declared.cmp.Ordering.TheVariants.{Equal}
use Rattle.pg_dyn.specs.declared.message.Value.{Value}
use Rattle.pg_dyn.specs.message.KeyOrder.{rank_cmp}
use Rattle.pg_dyn.specs.message.Seen.{leaf_of}
use Rattle.pg_dyn.proofs.setting.keys.has_equal_neighbours.Given as goal

abbrev pub invariant-loop-next : goal.invariant-loop-next
invariant-loop-next l =
    (k : ℕ) (d e : Bor (Value × Value)) → k + 1 < l.next → rank_cmp (leaf_of (get_or l.sorted k d).now.0) (leaf_of (get_or l.sorted (k + 1) e).now.0) ≡ Equal → ⊥
