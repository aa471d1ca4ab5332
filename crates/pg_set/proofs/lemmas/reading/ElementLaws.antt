-- What a field's items are, by its type and the name of its type.
use Rattle.std.proofs.Common.{◌≡◌, ℕ, zero, suc, ◌+◌, Bool, false, cond, ◌<◌, List, [], ◌∷◌, length, drop, get_or, Some, ap, sym, ◌∙◌, arith, add-one}
use Rattle.std.specs.Prelude.{find}
use Rattle.pg_schema.specs.declared.parts.field.Scalar.{Scalar}

-- ---- looking for a scalar

find_suc : (p : Scalar → Bool) (xs : List Scalar) (i : ℕ) (x : Scalar) → i < length xs → x ≡ get_or xs i x → p x ≡ false → find p (drop (suc i) xs) ≡ find p (drop i xs)
find_suc p [] i x h is other = absurd (omega (arith, h))
find_suc p (y ∷ xs) zero x h is other = sym (ap (λ b. cond b (Some y) (find p xs)) (ap p (sym is) ∙ other))
find_suc p (y ∷ xs) (suc i) x h is other = find_suc p xs i x (omega (arith, h)) is other

pub find_step : (p : Scalar → Bool) (xs : List Scalar) (i : ℕ) (x : Scalar) → i < length xs → x ≡ get_or xs i x → p x ≡ false → find p (drop (i + 1) xs) ≡ find p (drop i xs)
find_step p xs i x h is other = rw add-one (find_suc p xs i x h is other)
