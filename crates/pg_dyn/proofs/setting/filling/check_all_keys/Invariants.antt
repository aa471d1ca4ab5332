-- no key is twice in one of the contents so far
use Rattle.std.proofs.Common.{ℕ, take}
use Rattle.std.specs.List.{AllByRecursion}
use Rattle.pg_dyn.specs.declared.message.Content.{Content}
use Rattle.pg_dyn.specs.setting.ContentFaults.{HasKeyTwice}
use Rattle.pg_dyn.proofs.setting.filling.check_all_keys.Given as goal

abbrev pub invariant-loop-content : goal.invariant-loop-content
invariant-loop-content l = AllByRecursion (λ (x : ℕ × Content). HasKeyTwice x.1 → ⊥) (take l.content-index l.contents)
