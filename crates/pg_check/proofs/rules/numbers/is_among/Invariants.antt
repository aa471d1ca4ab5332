use Rattle.std.proofs.Common.{◌≡◌, drop, nat_eq}
use Rattle.std.specs.List.{list_any}
use Rattle.pg_check.specs.declared.rules.numbers.Keyed.{Keyed}
use Rattle.pg_check.proofs.rules.numbers.is_among.Given as goal

abbrev pub invariant-loop-one : goal.invariant-loop-one
invariant-loop-one l = list_any (λ (k : Keyed). nat_eq l.key k.key) (drop l.one-index l.keys) ≡ list_any (λ (k : Keyed). nat_eq l.key k.key) l.keys
