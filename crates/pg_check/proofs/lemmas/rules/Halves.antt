-- Where to look for the first item that has a number of one before it.
use Rattle.std.proofs.Common.{◌≡◌, ◌<◌, ◌≤◌, ℕ, true, false, List, length, take}
use Rattle.pg_check.specs.declared.rules.numbers.Numbers.{Numbers}
use Rattle.pg_check.specs.rules.KeepsRules.{are_apart}
use Rattle.pg_check.specs.rules.ReservedItems.{overlap}

pub record AreHalves (items : List Numbers) (low high : ℕ) : Type 0 where
  pub rises : low < high
  pub within : high ≤ length items
  pub apart : are_apart overlap (take low items) ≡ true
  pub again : are_apart overlap (take high items) ≡ false
