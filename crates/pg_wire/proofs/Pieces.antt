-- Varints, pieces of one length, and rows of them: read exactly where they are.
use Rattle.std.proofs.Common.{◌≡◌, ◌↔◌, ℕ, ◌≤◌, ◌<◌, ◌⊎◌, inl, inr, ⊎_elim, List, ◌++◌, length, flat_map, Ok, Err, ap, ◌∙◌, arith}
use Rattle.std.specs.List.{AllByRecursion}
use Rattle.pg_wire.specs.Reading.{Fault, VarintTooLong, Truncated, exactly, row}
use Rattle.pg_wire.specs.Varint.{IsVarint, varint_at}
use Rattle.pg_wire.specs.Faults.{IsTooLong, IsCutOff}
use Rattle.pg_wire.proofs.FaultLaws.{varint_too_long, varint_cut, varint_at_fault, exactly_fault, too_few}
use Rattle.pg_wire.proofs.RecordLaws.{exactly-append, exactly_takes}
use Rattle.pg_wire.proofs.Rows.{row-joined, row_takes}
use Rattle.pg_wire.proofs.Varints.{varint_at-append, varint_at_takes, length-IsVarint}

pub varint_read : (bytes v rest : List ℕ) → (varint_at bytes ≡ Ok (v, rest)) ↔ (IsVarint v × (bytes ≡ v ++ rest))
varint_read bytes v rest = (varint_at_takes bytes v rest, λ h. ap varint_at h.1 ∙ varint_at-append v rest h.0)

not_cut : Truncated ≡ VarintTooLong → ⊥
not_cut h = cc

not_long : VarintTooLong ≡ Truncated → ⊥
not_long h = cc

pub long_read : (bytes : List ℕ) → (varint_at bytes ≡ Err VarintTooLong) ↔ IsTooLong bytes
long_read bytes = (λ h. ⊎_elim (λ long. long.0) (λ cut. absurd (not_cut cut.1)) (varint_at_fault bytes VarintTooLong h), varint_too_long bytes)

pub cut_read : (bytes : List ℕ) → (varint_at bytes ≡ Err Truncated) ↔ IsCutOff bytes
cut_read bytes = (λ h. ⊎_elim (λ long. absurd (not_long long.1)) (λ cut. cut.0) (varint_at_fault bytes Truncated h), varint_cut bytes)

pub no_other : (bytes : List ℕ) (f : Fault) → varint_at bytes ≡ Err f → (VarintTooLong ≡ f) ⊎ (Truncated ≡ f)
no_other bytes f h = ⊎_elim (λ long. inl long.1) (λ cut. inr cut.1) (varint_at_fault bytes f h)

pub exactly_read : (n : ℕ) (bytes front rest : List ℕ) → (exactly n bytes ≡ Ok (front, rest)) ↔ ((length front ≡ n) × (bytes ≡ front ++ rest))
exactly_read n bytes front rest = (exactly_takes n bytes front rest, λ h. ap (exactly n) h.1 ∙ exactly-append front rest n h.0)

pub few_read : (n : ℕ) (bytes : List ℕ) → (exactly n bytes ≡ Err Truncated) ↔ (length bytes < n)
few_read n bytes = (λ h. (exactly_fault n bytes Truncated h).0, too_few n bytes)

abbrev itself : List ℕ → List ℕ
itself v = v

pub varints_read : (bytes : List ℕ) (vs : List (List ℕ)) → (row varint_at bytes ≡ Ok vs) ↔ (AllByRecursion IsVarint vs × (bytes ≡ flat_map (λ (v : List ℕ). v) vs))
varints_read bytes vs = (
  row_takes varint_at itself IsVarint varint_at_takes bytes vs,
  λ h. ap (row varint_at) h.1 ∙ row-joined varint_at itself IsVarint varint_at-append length-IsVarint vs h.0,
)

pub pieces_read : (n : ℕ) (bytes : List ℕ) (pieces : List (List ℕ)) → 1 ≤ n
    → (row (exactly n) bytes ≡ Ok pieces) ↔ (AllByRecursion (λ (piece : List ℕ). length piece ≡ n) pieces × (bytes ≡ flat_map (λ (piece : List ℕ). piece) pieces))
pieces_read n bytes pieces some = (
  row_takes (exactly n) itself (λ piece. length piece ≡ n) (exactly_takes n) bytes pieces,
  λ h. ap (row (exactly n)) h.1 ∙ row-joined (exactly n) itself (λ piece. length piece ≡ n) (λ piece rest is. exactly-append piece rest n is) (λ piece is. omega (arith, is, some)) pieces h.0,
)
