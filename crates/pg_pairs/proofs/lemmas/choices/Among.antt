-- What holds of each in a list holds of one that is among them.
use Rattle.std.proofs.Common.{List, [], ◌∷◌, ⊎_elim, sym, subst}
use Rattle.std.specs.List.{AllByRecursion}
use Rattle.pg_pairs.specs.bounds.Covering.{IsAmong}

pub among_each : {A : Type 0} (P : A → Type 0) (x : A) (xs : List A) → IsAmong x xs → AllByRecursion P xs → P x
among_each P x [] h each = absurd h
among_each P x (y ∷ ys) h each = ⊎_elim (λ same. subst P (sym same) each.0) (λ later. among_each P x ys later each.1) h
