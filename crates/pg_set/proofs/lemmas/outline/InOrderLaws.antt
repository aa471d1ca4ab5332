-- Indices in order of declaration, and rows that are there.
use Rattle.std.proofs.Common.{◌≡◌, ℕ, zero, suc, ◌+◌, [], ◌∷◌, ◌++◌, ap, ◌∙◌, arith}
use Rattle.pg_schema.specs.standing.Places.{places_from}

pub more_from : (start n : ℕ) → places_from start n ++ (start + n) ∷ [] ≡ places_from start (suc n)
more_from start zero = ap (λ k. k ∷ []) (omega arith)
more_from start (suc n) =
    let same : start + suc n ≡ suc start + n = omega arith in
    ap (λ ks. start ∷ ks) (ap (λ k. places_from (suc start) n ++ k ∷ []) same ∙ more_from (suc start) n)
