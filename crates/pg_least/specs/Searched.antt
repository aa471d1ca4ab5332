-- What a search answers: a claim, the path of its witness, and the message that this path carries.
use Rattle.std.specs.Prelude.{◌≡◌, ℕ, List, map, is_some, Option, Some, None, [], ◌∷◌, option_map, IfSome}
use Rattle.pg_schema.specs.Shape.{Shape}
use Rattle.pg_dyn.specs.views.Breaking.{Compatible, Least}
use Rattle.pg_dyn.specs.encoding.Encoding.{enc}
use Rattle.pg_dyn.specs.message.Message.{Message}
use Rattle.pg_pairs.specs.declared.choices.choice.Pair.{Pair}
use Rattle.pg_pairs.specs.views.EnumView.{EnumView}
use Rattle.pg_pairs.specs.choices.Choices.{number_for, Table, choices, cheapest}
use Rattle.pg_pairs.specs.bounds.Covering.{children, IsExact}
use Rattle.pg_pairs.specs.graph.Reached.{IsReachedInOrder}
use Rattle.pg_pairs.specs.witness.Carried.{carried, choice_child}
use Rattle.pg_cert.specs.declared.bounds.PairBound.{PairBound}
use Rattle.pg_cert.specs.Certificate.{bound_in, Claim, Holds}
use Rattle.pg_least.specs.declared.witness.PairChoice.{PairChoice}

abbrev pub pairs_of : List PairBound → List Pair
pairs_of bounds = map (λ (b : PairBound). b.pair) bounds

-- what a bound says of its pair: no breaking message of it has fewer bytes, and one has just so many; under 'none'
-- there is none
abbrev pub BoundSays : EnumView → Shape → Shape → Pair → Option ℕ → Type 0
BoundSays enum_view old new pair (Some n) = Least enum_view.alike old new pair.old pair.new n
BoundSays enum_view old new pair None = Compatible enum_view.alike old new pair.old pair.new

-- The claim is of the pair asked for. A checker takes it: its table covers the root, and its witness is a breaking
-- message of as many bytes as the root's bound says. There is a witness just where this bound is a number. The table
-- has the root and the pairs that it leads to, breadth first, and no others. Each bound is the least cost of its
-- pair's choices, under this table itself; and it says the least length of the pair's breaking messages, or that
-- there are none.
pub record IsSearched (enum_view : EnumView) (old new : Shape) (root : Pair) (claim : Claim) : Type 0 where
  pub root_is : claim.root ≡ root
  pub holds : Holds enum_view old new claim
  pub witness_where_it_breaks : is_some claim.witness ≡ is_some (number_for (bound_in claim.bounds) root)
  pub reached : IsReachedInOrder (children old new) root (pairs_of claim.bounds)
  pub exact : (pair : Pair) (bound : Option ℕ) → bound_in claim.bounds pair ≡ Some bound
      → IsExact enum_view old new (bound_in claim.bounds) pair bound
  pub says : (pair : Pair) (bound : Option ℕ) → bound_in claim.bounds pair ≡ Some bound
      → BoundSays enum_view old new pair bound

-- The path of a witness: from the pair by its cheapest choice, of several the first, to the choice's child, and so on
-- from there, as long as there is a child. A table has one path from a pair.
abbrev pub IsPath : EnumView → Shape → Shape → Table → Pair → List PairChoice → Type 0
IsPath enum_view old new table pair [] = ⊥
IsPath enum_view old new table pair (s ∷ []) =
    (s.pair ≡ pair) × (cheapest (choices enum_view table old new pair) ≡ Some s.choice)
    × (choice_child old new pair s.choice ≡ None)
IsPath enum_view old new table pair (s ∷ t ∷ steps) =
    (s.pair ≡ pair) × (cheapest (choices enum_view table old new pair) ≡ Some s.choice)
    × (choice_child old new pair s.choice ≡ Some t.pair)
    × IsPath enum_view old new table t.pair (t ∷ steps)

-- The message that a path carries: that of its first choice, around the one that the rest of the path carries.
abbrev pub carried_along : EnumView → Shape → Shape → List PairChoice → Option Message
carried_along enum_view old new [] = None
carried_along enum_view old new (s ∷ steps) =
    Some (carried enum_view old new s.pair s.choice (carried_along enum_view old new steps))

-- the bytes are those of the message that the path from the claim's root carries
abbrev pub AreCarried : EnumView → Shape → Shape → Claim → List ℕ → Type 0
AreCarried enum_view old new claim bytes =
    (path : List PairChoice) → IsPath enum_view old new (bound_in claim.bounds) claim.root path
    → option_map (enc old claim.root.old) (carried_along enum_view old new path) ≡ Some bytes

-- The claim's witness, where it has one, is the encoding of the message that the path from its root carries.
abbrev pub CarriesWitness : EnumView → Shape → Shape → Claim → Type 0
CarriesWitness enum_view old new claim = IfSome claim.witness (AreCarried enum_view old new claim)
