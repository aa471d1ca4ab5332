-- Arcs of a graph, and the table and the work of a search.
use Rattle.std.specs.Prelude.{◌≡◌, ℕ, ◌+◌, ◌<◌, nat_eq, List, filter, [], ◌∷◌, suc, Bool, true, false, is_some, Option}
use Rattle.std.specs.List.Sorted.{IsNonDecreasingBy}
use Rattle.pg_pairs.specs.declared.choices.choice.Pair.{Pair}
use Rattle.pg_pairs.specs.declared.graph.edge.Edge.{Edge}
use Rattle.pg_pairs.specs.declared.graph.work.Work.{Work}
use Rattle.pg_pairs.specs.bounds.Covering.{IsAmong}
use Rattle.pg_cert.specs.declared.bounds.PairBound.{PairBound}
use Rattle.pg_least.specs.declared.arcs.Arc.{Arc}
use Rattle.pg_least.specs.inner.Relaxing.{Arcs, cost_at, is_set}

-- what an arc costs is what its edge does
abbrev pub arcs_by : (Edge → ℕ → Option ℕ) → Arcs Arc
arcs_by price = record { from = λ a. a.from; child = λ a. a.child; price = λ a. price a.edge }

-- an edge of a known pair, between two of the indices
pub record IsArc (is_known : Pair → Bool) (edges_of : Pair → List Edge) (places : ℕ) (arc : Arc) : Type 0 where
  pub known : is_known arc.edge.from ≡ true
  pub edge : IsAmong arc.edge (edges_of arc.edge.from)
  pub from : arc.from < places
  pub child : arc.child < places

abbrev pub arcs_to : List Arc → ℕ → List Arc
arcs_to arcs at = filter (λ (a : Arc). nat_eq a.child at) arcs

-- the arcs to indices that have a cost
abbrev pub arcs_to_numbers : List Arc → List (Option ℕ) → List Arc
arcs_to_numbers arcs costs = filter (λ (a : Arc). is_some (cost_at costs a.child)) arcs

-- each pair with its cost
abbrev pub lines : List Pair → List (Option ℕ) → List PairBound
lines [] costs = []
lines (p ∷ ps) [] = []
lines (p ∷ ps) (c ∷ costs) = record { pair = p; bound = c } ∷ lines ps costs

abbrev pub opened_by : ℕ → Work → Work
opened_by n work = record { settled = work.settled; relaxed = work.relaxed; opened = work.opened + n }

abbrev pub relaxed_by : ℕ → Work → Work
relaxed_by n work = record { settled = work.settled; relaxed = work.relaxed + n; opened = work.opened }

-- the arcs are in the order of the indices that they lead to
abbrev pub AreByChild : List Arc → Type 0
AreByChild arcs = IsNonDecreasingBy (λ (a : Arc). a.child) arcs

abbrev pub arcs_to_settled : List Arc → List Bool → List Arc
arcs_to_settled arcs settled = filter (λ (a : Arc). is_set settled a.child) arcs

-- how many indices are left
abbrev pub left : List Bool → ℕ
left [] = 0
left (true ∷ settled) = left settled
left (false ∷ settled) = suc (left settled)
