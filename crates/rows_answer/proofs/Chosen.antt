-- Each choice of a list is one of it.
use Rattle.std.proofs.Common.{◌≡◌, List, [], ◌∷◌, inl, inr, refl}
use Rattle.std.specs.List.{AllByRecursion}
use Rattle.pg_dyn.proofs.Lists.{each_weaker}
use Rattle.pg_pairs.specs.bounds.Covering.{IsAmong}

pub each_among : {A : Type 0} (xs : List A) → AllByRecursion (λ x. IsAmong x xs) xs
each_among [] = tt
each_among (x ∷ xs) = (inl refl, each_weaker (λ y. IsAmong y xs) (λ y. IsAmong y (x ∷ xs)) (λ y among. inr among) xs (each_among xs))
