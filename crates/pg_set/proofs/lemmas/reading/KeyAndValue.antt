-- The two fields of an entry type.
use Rattle.std.proofs.Common.{◌≡◌, ◌<◌, ◌≤◌, List, [], ◌∷◌, None, length, map, get_or, refl, ap₂, arith}
use Rattle.pg_dyn.specs.message.Kept.{Kept, message_of}
use Rattle.pg_set.specs.stated.StatedEntries.{key_and_value, pair_of}
use Rattle.pg_set.specs.stated.StatedNames.{NameLookup}

module _ (means : NameLookup) where
  pub two_are : (ms : List Kept) (k v : Kept) → 2 ≤ length ms → length ms < 3 → k ≡ get_or ms 0 k → v ≡ get_or ms 1 v → pair_of means (message_of k) (message_of v) ≡ key_and_value means (map message_of ms)
  two_are [] k v least most first second = absurd (omega (arith, least))
  two_are (a ∷ []) k v least most first second = absurd (omega (arith, least))
  two_are (a ∷ b ∷ []) k v least most first second = ap₂ (λ x y. pair_of means (message_of x) (message_of y)) first second
  two_are (a ∷ b ∷ m ∷ ms) k v least most first second = absurd (omega (arith, most))

  pub too_few : (ms : List Kept) → length ms < 2 → None ≡ key_and_value means (map message_of ms)
  too_few [] few = refl
  too_few (a ∷ []) few = refl
  too_few (a ∷ b ∷ ms) few = absurd (omega (arith, few))

  pub too_many : (ms : List Kept) → 3 ≤ length ms → None ≡ key_and_value means (map message_of ms)
  too_many [] many = absurd (omega (arith, many))
  too_many (a ∷ []) many = absurd (omega (arith, many))
  too_many (a ∷ b ∷ []) many = absurd (omega (arith, many))
  too_many (a ∷ b ∷ m ∷ ms) many = refl
