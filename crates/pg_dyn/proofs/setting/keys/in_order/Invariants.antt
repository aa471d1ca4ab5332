-- the entries so far, each by its reference
use Rattle.std.proofs.Common.{◌≡◌, map, take, Bor}
use Rattle.pg_dyn.specs.declared.message.Value.{Value}
use Rattle.pg_dyn.proofs.setting.keys.in_order.Given as goal

abbrev pub invariant-loop-entry : goal.invariant-loop-entry
invariant-loop-entry l = map (λ (e : Bor (Value × Value)). e.now) l.sorted.items ≡ take l.entry-index l.entries
