-- A LEN body with its length gets longer when the body does.
use Rattle.std.proofs.Common.{ℕ, ◌≤◌, arith}
use Rattle.pg_pairs.specs.choices.Costs.{with_length}
use Rattle.pg_wire.proofs.PublicLaws.{lengths_grow}

pub with_length_rises : (n k : ℕ) → n ≤ k → with_length n ≤ with_length k
with_length_rises n k h = omega (arith, lengths_grow.0 n k h)
