-- The pairs that root pairs lead to by children, whatever these are, and their order.
use Rattle.std.specs.Prelude.{◌≡◌, List, ◌∷◌, ◌++◌, flat_map}
use Rattle.std.specs.List.{AllByRecursion}
use Rattle.pg_pairs.specs.declared.choices.choice.Pair.{Pair}
use Rattle.pg_pairs.specs.bounds.Covering.{IsAmong, distinct}

-- the root itself, and each child of a pair that it leads to
pub data LeadsTo (children : Pair → List Pair) (root : Pair) : Pair → Type 0 where
  itself : LeadsTo children root root
  onwards : (pair child : Pair) → LeadsTo children root pair → IsAmong child (children pair) →
      LeadsTo children root child

-- Breadth first: the root, then the children of each pair in turn, each pair once, where it comes first;
-- just the pairs that the root leads to, no other and all of them.
pub record IsReachedInOrder (children : Pair → List Pair) (root : Pair) (pairs : List Pair) : Type 0 where
  pub in_order : pairs ≡ distinct (root ∷ flat_map children pairs)
  pub led_to : AllByRecursion (LeadsTo children root) pairs
  pub all : (pair : Pair) → LeadsTo children root pair → IsAmong pair pairs

-- one of the roots leads to the pair
pub record IsLedTo (children : Pair → List Pair) (roots : List Pair) (pair : Pair) : Type 0 where
  pub root : Pair
  pub among : IsAmong root roots
  pub leads : LeadsTo children root pair

-- Breadth first from several roots: the roots in their order, then the children of each pair in turn.
pub record IsReachedFrom (children : Pair → List Pair) (roots pairs : List Pair) : Type 0 where
  pub in_order : pairs ≡ distinct (roots ++ flat_map children pairs)
  pub led_to : AllByRecursion (IsLedTo children roots) pairs
  pub all : (pair : Pair) → IsLedTo children roots pair → IsAmong pair pairs
