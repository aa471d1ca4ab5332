use Rattle.std.proofs.Common.{◌≡◌, ◌<◌, ℕ, take, drop, false, nat_eq}
use Rattle.std.specs.List.{list_any}
use Rattle.pg_check.specs.declared.rules.numbers.Keyed.{Keyed}
use Rattle.pg_check.specs.inner.NumberFaults.{at, first_again, first_twice}
use Rattle.pg_check.specs.rules.Numbers.{is_same}
use Rattle.pg_check.proofs.rules.numbers.rise.Given as goal

abbrev pub invariant-loop-one : goal.invariant-loop-one
invariant-loop-one l = record {
  above : (q : ℕ) → l.below < q → list_any (λ (k : Keyed). nat_eq q k.key) (take l.one-index l.keys) ≡ false;
  left : first_again is_same at (take l.one-index l.keys) (drop l.one-index l.keys) ≡ first_twice l.keys;
}
