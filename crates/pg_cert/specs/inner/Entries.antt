-- A table's entries as bounds of pairs.
use Rattle.std.specs.Prelude.{ℕ, Option}
use Rattle.pg_cert.specs.declared.bounds.PairBound.{PairBound}

-- an entry has the indices of the two types for its key
abbrev pub bound_of : (ℕ × ℕ) × Option ℕ → PairBound
bound_of entry = record {
  pair = record { old = record { index = entry.0.0 }; new = record { index = entry.0.1 } };
  bound = entry.1;
}
