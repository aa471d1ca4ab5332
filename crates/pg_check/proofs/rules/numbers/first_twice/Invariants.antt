use Rattle.std.proofs.Common.{◌≡◌, ℕ, take, drop, nat_eq}
use Rattle.std.specs.BTreeSet.{contains}
use Rattle.std.specs.List.{list_any}
use Rattle.std.specs.Ordering.{nat_cmp}
use Rattle.pg_check.specs.declared.rules.numbers.Keyed.{Keyed}
use Rattle.pg_check.specs.inner.NumberFaults.{at, first_again, first_twice}
use Rattle.pg_check.specs.rules.Numbers.{is_same}
use Rattle.pg_check.proofs.rules.numbers.first_twice.Given as goal

abbrev pub invariant-loop-one : goal.invariant-loop-one
invariant-loop-one l = record {
  held : (q : ℕ) → contains nat_cmp l.seen q ≡ list_any (λ (k : Keyed). nat_eq q k.key) (take l.one-index l.keys);
  left : first_again is_same at (take l.one-index l.keys) (drop l.one-index l.keys) ≡ first_twice l.keys;
}
