-- Each key before the next is below the one after it.
use Rattle.std.proofs.Common.{ℕ, ◌<◌, ◌+◌, get_or}
use Rattle.pg_dyn.specs.declared.message.Value.{Value}
use Rattle.pg_dyn.proofs.lemmas.fitting.FitsSteps.{IsBelow}
use Rattle.pg_dyn.proofs.fitting.keys_rise.Given as goal

abbrev pub invariant-loop-next : goal.invariant-loop-next
invariant-loop-next l = (k : ℕ) (d e : Value × Value) → k + 1 < l.next → IsBelow (get_or l.entries k d) (get_or l.entries (k + 1) e)
