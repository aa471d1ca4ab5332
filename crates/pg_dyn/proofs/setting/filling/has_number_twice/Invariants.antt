use Rattle.std.proofs.Common.{◌≢◌, ℕ, ◌<◌, ◌+◌, get_or}
use Rattle.pg_dyn.specs.declared.message.Content.{Content}
use Rattle.pg_dyn.proofs.setting.filling.has_number_twice.Given as goal

-- no two neighbours so far are of one number
abbrev pub invariant-loop-next : goal.invariant-loop-next
invariant-loop-next l = (k : ℕ) (d : ℕ × Content) → k + 1 < l.next → (get_or l.contents k d).0 ≢ (get_or l.contents (k + 1) d).0
