-- What each edge of a pair costs, and that each child has one.
use Rattle.std.proofs.Common.{◌≡◌, ℕ, ◌+◌, ◌≤◌, List, [], ◌∷◌, map, flat_map, Some, option_and_then, inl, inr, ⊎_elim, refl, ap, ◌∙◌, arith, rules}
use Rattle.std.specs.List.{AllByRecursion}
use Rattle.std.proofs.lemmas.Bool.{le-leb}
use Rattle.pg_schema.specs.Shape.{Shape, FieldShape, field_at, fields}
use Rattle.pg_schema.specs.ShapeRules.{IsShape}
use Rattle.pg_dyn.specs.encoding.Encoding.{cap}
use Rattle.pg_dyn.proofs.PublicLaws.{fields_are_found}
use Rattle.pg_pairs.specs.declared.choices.choice.Pair.{Pair}
use Rattle.pg_pairs.specs.declared.graph.edge.Edge.{Edge}
use Rattle.pg_pairs.specs.bounds.Covering.{IsAmong, all_children, children, children_beside}
use Rattle.pg_pairs.specs.laws.CauseLaws.{CausesAreOwn, PricesAreNear}
use Rattle.pg_pairs.specs.choices.Costs.{one_item, with_length}
use Rattle.pg_pairs.specs.laws.EdgeChildren.{among_append, append_left, append_right}
use Rattle.pg_pairs.specs.graph.Edges.{child_cost, edge_price, edge_to, edges, within_cap}
use Rattle.pg_pairs.proofs.lemmas.choices.Among.{among_each}
use Rattle.pg_pairs.proofs.lemmas.graph.Grown.{each_distinct}
use Rattle.pg_pairs.proofs.lemmas.bounds.LeastCosts.{each_length}
use Rattle.pg_pairs.proofs.lemmas.choices.LowCosts.{causes_are_low, item_near, lengths_near}
use Rattle.pg_pairs.proofs.lemmas.witness.Reached.{child_costs_less}
use Rattle.pg_pairs.proofs.lemmas.graph.Reaching.{every_is_among}

map_among : {A B : Type 0} (h : A → B) (x : A) (xs : List A) → IsAmong x xs → IsAmong (h x) (map h xs)
map_among h x [] among = absurd among
map_among h x (y ∷ xs) among = ⊎_elim (λ same. inl (ap h same)) (λ later. inr (map_among h x xs later)) among

module _ (old new : Shape) (pair : Pair) where
  abbrev edges_by : List FieldShape → List Edge
  edges_by fs = flat_map (λ (f : FieldShape). map (edge_to pair f) (children_beside f (field_at (fields new pair.new) f.number))) fs

  -- each child of the fields has an edge
  child_edge : (child : Pair) (fs : List FieldShape) → IsAmong child (all_children (fields new pair.new) fs) → (edge : Edge) × IsAmong edge (edges_by fs) × (edge.child ≡ child)
  child_edge child [] among = absurd among
  child_edge child (f ∷ fs) among =
      let ps = children_beside f (field_at (fields new pair.new) f.number) in
      ⊎_elim (λ here. (edge_to pair f child, append_left (edge_to pair f child) (map (edge_to pair f) ps) (edges_by fs) (map_among (edge_to pair f) child ps here), refl))
      (λ later. let (e, at, is) = child_edge child fs later in (e, append_right e (map (edge_to pair f) ps) (edges_by fs) at, is))
      (among_append child ps (all_children (fields new pair.new) fs) among)

  each_child_edge : (child : Pair) → IsAmong child (children old new pair) → (edge : Edge) × IsAmong edge (edges old new pair) × (edge.child ≡ child)
  each_child_edge child among =
      let all = all_children (fields new pair.new) (fields old pair.old) in
      child_edge child (fields old pair.old) (among_each (λ p. IsAmong p all) child (children old new pair) among (each_distinct (λ p. IsAmong p all) all (every_is_among (λ p. IsAmong p all) all (λ p at. at))))

  -- the field of an edge
  abbrev FieldOf : Edge → Type 0
  FieldOf edge = (f : FieldShape) × (edge.from ≡ pair) × (field_at (fields old pair.old) edge.number ≡ Some f)

  of_field : (edge : Edge) (f : FieldShape) (ps : List Pair) → field_at (fields old pair.old) f.number ≡ Some f → IsAmong edge (map (edge_to pair f) ps) → FieldOf edge
  of_field edge f [] found among = absurd among
  of_field edge f (p ∷ ps) found among =
      ⊎_elim (λ same. (f, ap (λ (e : Edge). e.from) same, ap (λ (e : Edge). field_at (fields old pair.old) e.number) same ∙ found)) (λ later. of_field edge f ps found later) among

  field_of : (edge : Edge) (fs : List FieldShape) → AllByRecursion (λ (f : FieldShape). field_at (fields old pair.old) f.number ≡ Some f) fs → IsAmong edge (edges_by fs) → FieldOf edge
  field_of edge [] found among = absurd among
  field_of edge (f ∷ fs) found among =
      let ps = children_beside f (field_at (fields new pair.new) f.number) in
      ⊎_elim (λ here. of_field edge f ps found.0 here) (λ later. field_of edge fs found.1 later) (among_append edge (map (edge_to pair f) ps) (edges_by fs) among)

  within : (n : ℕ) → n ≤ cap → within_cap n ≡ Some n
  within n low = rw (le-leb n cap low) refl

  near_price : IsShape old → (edge : Edge) (bound : ℕ) → IsAmong edge (edges old new pair) → bound + 40 ≤ cap → (cost : ℕ) × (edge_price old edge bound ≡ Some cost) × (cost ≤ bound + 40)
  near_price shape edge bound among room =
      let (f, from, found) = field_of edge (fields old pair.old) (fields_are_found.2 (fields old pair.old) (fields_are_found.0 old pair.old shape).rising) among in
      let cost = one_item f (with_length bound) in
      let item = item_near f (with_length bound) in
      let whole = lengths_near bound in
      let is : field_at (fields old edge.from.old) edge.number ≡ Some f = ap (λ (p : Pair). field_at (fields old p.old) edge.number) from ∙ found in
      (cost, ap (option_and_then (λ g. child_cost g bound)) is ∙ within cost (omega arith), omega arith)

pub prices_are_near : PricesAreNear
prices_are_near enum_view old new shape pair = (each_child_edge old new pair, near_price old new pair shape, causes_are_low enum_view old new pair)

pub causes_are_own : CausesAreOwn
causes_are_own enum_view old new law shape_old shape_new pair c among =
    search (rules, among_each, each_length, child_costs_less)
