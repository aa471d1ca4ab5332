-- Lists of pairs, as a walk makes them.
use Rattle.std.specs.Prelude.{List, [], ◌∷◌}
use Rattle.std.specs.List.{AllByRecursion}
use Rattle.pg_pairs.specs.declared.choices.choice.Pair.{Pair}
use Rattle.pg_pairs.specs.bounds.Covering.{IsAmong}
use Rattle.pg_pairs.specs.graph.Reached.{IsReachedFrom, IsReachedInOrder}

-- each pair's children are in the list too
abbrev pub AreClosed : (Pair → List Pair) → List Pair → Type 0
AreClosed children pairs =
    AllByRecursion (λ (p : Pair). AllByRecursion (λ (c : Pair). IsAmong c pairs) (children p)) pairs

-- From one root alone these are just the pairs that it leads to.
abbrev pub FromOneRoot : Type 0
FromOneRoot =
    (children : Pair → List Pair) (root : Pair) (pairs : List Pair) → IsReachedFrom children (root ∷ []) pairs →
    IsReachedInOrder children root pairs
