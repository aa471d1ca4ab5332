-- A pair's choices under a table, and so its least cost, by those without bounds and by its edges.
use Rattle.std.proofs.Common.{option_to_list, ◌≡◌, ℕ, List, [], ◌∷◌, ◌++◌, map, flat_map, Bool, true, false, nat_le, cond, if◌then◌else◌, Option, Some, None, option_map, option_and_then, refl, ap, ap₂, sym, ◌∙◌, rules}
use Rattle.std.specs.List.{AllByRecursion}
use Rattle.std.proofs.lemmas.Bool.{leb-true, leb-false, le-leb, lt-leb}
use Rattle.std.proofs.lemmas.List.{append-nil, map-append}
use Rattle.pg_schema.specs.declared.parts.field.Scalar.{Scalar}
use Rattle.pg_schema.specs.declared.parts.field.Element.{Element}
use Rattle.pg_schema.specs.declared.parts.field.Element.TheVariants as elements
use Rattle.pg_schema.specs.Shape.{Shape, FieldShape, fields, field_at}
use Rattle.pg_dyn.proofs.Lists.{filter-append'}
use Rattle.pg_dyn.proofs.PublicLaws.{fields_are_found}
use Rattle.pg_pairs.specs.declared.choices.case.Case.{Case}
use Rattle.pg_pairs.specs.declared.choices.case.Case.TheVariants as cases
use Rattle.pg_pairs.specs.declared.choices.choice.Choice.{Choice}
use Rattle.pg_pairs.specs.declared.choices.choice.Pair.{Pair}
use Rattle.pg_pairs.specs.declared.graph.edge.Edge.{Edge}
use Rattle.pg_pairs.specs.views.EnumView.{EnumView}
use Rattle.pg_pairs.specs.gaps.Likeness.{like}
use Rattle.pg_pairs.specs.choices.Costs.{with_length, one_item, least_content}
use Rattle.pg_pairs.specs.choices.Choices.{child_pair, Table, number_for, choice, choice_of, unlike_cost, child_body, plain_choices, map_choices, choices_beside, all_choices, affordable, no_bounds, choices_by, map_key, cheapest}
use Rattle.pg_pairs.specs.laws.CheapestLaws.{first_of}
use Rattle.pg_pairs.specs.bounds.Covering.{children_beside, children_by}
use Rattle.pg_pairs.specs.graph.LeastOf.{cost_under, least_of, lesser_cost}
use Rattle.pg_pairs.specs.graph.Edges.{LeastCostsByEdges, child_cost, edge_price, edge_to}
use Rattle.pg_pairs.proofs.lemmas.choices.Cheaper.{cheapest-append}
use Rattle.pg_pairs.proofs.lemmas.bounds.LeastCosts.{cost_of}
use Rattle.pg_pairs.proofs.lemmas.choices.Offers.{gap_choice, child_choice, list_choice, like_choices, key_choice, value_choice, map_child_choice, like_map_choices}

-- What choices cost, of several lists together.

-- the least that choices cost which an encoding may have
abbrev cost : List Choice → Option ℕ
cost cs = cost_of (cheapest (affordable cs))

cost_first : (o p : Option Choice) → cost_of (first_of o p) ≡ lesser_cost (cost_of o) (cost_of p)
cost_first None p = refl
cost_first (Some c) None = refl
cost_first (Some c) (Some d) = elim (nat_le c.cost d.cost) as (λ b. cost_of (Some (cond b c d)) ≡ cond b (Some c.cost) (Some d.cost)) [ true ↦ refl | false ↦ refl ]

cost-append : (cs ds : List Choice) → cost (cs ++ ds) ≡ lesser_cost (cost cs) (cost ds)
cost-append cs ds = search (rules, cost_of, filter-append', cheapest-append, cost_first)

-- Of costs the least is the same in any order.

lesser_none : (a : Option ℕ) → lesser_cost a None ≡ a
lesser_none None = refl
lesser_none (Some m) = refl

lesser_turned : (a b : Option ℕ) → lesser_cost a b ≡ lesser_cost b a
lesser_turned None b = sym (lesser_none b)
lesser_turned (Some m) None = refl
lesser_turned (Some m) (Some n) = search (rules, leb-true, leb-false)

lesser_grouped : (a b c : Option ℕ) → lesser_cost (lesser_cost a b) c ≡ lesser_cost a (lesser_cost b c)
lesser_grouped None b c = refl
lesser_grouped (Some m) None c = refl
lesser_grouped (Some m) (Some n) None = lesser_none (lesser_cost (Some m) (Some n))
lesser_grouped (Some m) (Some n) (Some k) = search (rules, le-leb, leb-true, lt-leb, leb-false)

-- the last two are exchanged
lesser_last : (a b c : Option ℕ) → lesser_cost (lesser_cost a b) c ≡ lesser_cost (lesser_cost a c) b
lesser_last a b c = lesser_grouped a b c ∙ ap (lesser_cost a) (lesser_turned b c) ∙ sym (lesser_grouped a c b)

-- the second of either half comes after the first of both
lesser_apart : (a b c d : Option ℕ) → lesser_cost (lesser_cost a b) (lesser_cost c d) ≡ lesser_cost (lesser_cost a c) (lesser_cost b d)
lesser_apart a b c d = sym (lesser_grouped (lesser_cost a b) c d) ∙ ap (λ x. lesser_cost x d) (lesser_last a b c) ∙ lesser_grouped (lesser_cost a c) b d

least-append : (os ps : List (Option ℕ)) → least_of (os ++ ps) ≡ lesser_cost (least_of os) (least_of ps)
least-append [] ps = refl
least-append (o ∷ os) ps = ap (lesser_cost o) (least-append os ps) ∙ sym (lesser_grouped o (least_of os) (least_of ps))

-- Choices of fields.

child_pair_unlike : (e d : Element) → like e d ≡ false → option_to_list (child_pair e d) ≡ []
child_pair_unlike (elements.Message s) (elements.Message t) h = absurd (cc)
child_pair_unlike (elements.Message s) (elements.Scalar t) h = refl
child_pair_unlike (elements.Message s) (elements.Enum t) h = refl
child_pair_unlike (elements.Scalar s) d h = refl
child_pair_unlike (elements.Enum s) d h = refl

module _ (enum_view : EnumView) (table : Table) where
  -- what a child of these costs at least, as an item of the field
  abbrev by_children : FieldShape → List Pair → Option ℕ
  by_children f ps = least_of (map (λ p. option_and_then (child_cost f) (number_for table p)) ps)

  -- the choices under the table cost what those without bounds do, or these children
  abbrev Splits : FieldShape → List Choice → List Choice → List Pair → Type 0
  Splits f under without ps = cost under ≡ lesser_cost (cost without) (by_children f ps)

  with_none : (f : FieldShape) (cs : List Choice) → Splits f cs cs []
  with_none f cs = sym (lesser_none (cost cs))

  capped : (f : FieldShape) (case : Case) (part : ℕ) (o : Option ℕ) → cost (choice_of f.number case part (option_map (one_item f) (option_map with_length o))) ≡ option_and_then (child_cost f) o
  capped f case part None = refl
  capped f case part (Some n) = search (rules, cost_of)

  child_without : (f : FieldShape) (case : Case) (part : ℕ) (e d : Element) → choice_of f.number case part (option_map (one_item f) (child_body no_bounds e d)) ≡ []
  child_without f case part (elements.Message s) (elements.Message t) = refl
  child_without f case part (elements.Message s) (elements.Scalar t) = refl
  child_without f case part (elements.Message s) (elements.Enum t) = refl
  child_without f case part (elements.Scalar s) d = refl
  child_without f case part (elements.Enum s) d = refl

  child_under : (f : FieldShape) (case : Case) (part : ℕ) (e d : Element) → cost (choice_of f.number case part (option_map (one_item f) (child_body table e d))) ≡ by_children f (option_to_list (child_pair e d))
  child_under f case part (elements.Message s) (elements.Message t) =
      search (rules, capped, lesser_none, option_and_then)
  child_under f case part (elements.Message s) (elements.Scalar t) = refl
  child_under f case part (elements.Message s) (elements.Enum t) = refl
  child_under f case part (elements.Scalar s) d = refl
  child_under f case part (elements.Enum s) d = refl

  -- where a child is the last of the choices
  child_last : (f : FieldShape) (others child none : List Choice) (ps : List Pair) → cost child ≡ by_children f ps → none ≡ [] → Splits f (others ++ child) (others ++ none) ps
  child_last f others child none ps is empty = search (rules, cost-append, append-nil)

  -- others without a child follow choices that split
  then_others : (f : FieldShape) (under without others : List Choice) (ps : List Pair) → Splits f under without ps → Splits f (under ++ others) (without ++ others) ps
  then_others f under without others ps split = search (rules, cost-append, lesser_last)

  like_split : (f g : FieldShape) → Splits f (like_choices enum_view table f g) (like_choices enum_view no_bounds f g) (option_to_list (child_pair f.element g.element))
  like_split f g =
      search (rules, gap_choice, option_to_list, then_others, child_choice, list_choice, child_last, child_under, child_without)

  like_maps_split : (f g : FieldShape) (k l : Scalar) → Splits f (like_map_choices enum_view table f g k l) (like_map_choices enum_view no_bounds f g k l) (option_to_list (child_pair f.element g.element))
  like_maps_split f g k l =
      search (rules, child_last, key_choice, value_choice, map_child_choice, option_to_list, child_under, child_without)

  plain_split : (f g : FieldShape) → Splits f (plain_choices enum_view table f g) (plain_choices enum_view no_bounds f g) (option_to_list (child_pair f.element g.element))
  plain_split f g = of (like f.element g.element) refl
    where
      unlike : List Choice
      unlike = choice f.number cases.Unlike 0 (unlike_cost f g) ∷ []

      of : (b : Bool) → like f.element g.element ≡ b → Splits f (if b then like_choices enum_view table f g else unlike) (if b then like_choices enum_view no_bounds f g else unlike) (option_to_list (child_pair f.element g.element))
      of true is = like_split f g
      of false is = rw (child_pair_unlike f.element g.element is) (with_none f unlike)

  abbrev children_as : FieldShape → FieldShape → Option Scalar → Option Scalar → List Pair
  children_as f g k l = if children_by k l then option_to_list (child_pair f.element g.element) else []

  maps_split : (f g : FieldShape) (k l : Scalar) → Splits f (map_choices enum_view table f g k l) (map_choices enum_view no_bounds f g k l) (children_as f g (Some k) (Some l))
  maps_split f g k l = of (like (elements.Scalar k) (elements.Scalar l)) (like f.element g.element) refl refl
    where
      whole : List Choice
      whole = choice f.number cases.Map 0 (least_content f) ∷ []

      of : (a b : Bool) → like (elements.Scalar k) (elements.Scalar l) ≡ a → like f.element g.element ≡ b → Splits f (map_choices enum_view table f g k l) (map_choices enum_view no_bounds f g k l) (children_as f g (Some k) (Some l))
      of false b keys values = rw keys (with_none f whole)
      of true false keys values = rw (keys, values, child_pair_unlike f.element g.element values) (with_none f whole)
      of true true keys values = rw (keys, values) (like_maps_split f g k l)

  keys_split : (f g : FieldShape) (k l : Option Scalar) → Splits f (choices_by enum_view table f g k l) (choices_by enum_view no_bounds f g k l) (children_as f g k l)
  keys_split f g (Some k) (Some l) = maps_split f g k l
  keys_split f g None None = plain_split f g
  keys_split f g (Some k) None = with_none f (choice f.number cases.Unlike 0 (unlike_cost f g) ∷ [])
  keys_split f g None (Some l) = with_none f (choice f.number cases.Unlike 0 (unlike_cost f g) ∷ [])

  beside_split : (f : FieldShape) (o : Option FieldShape) → Splits f (choices_beside enum_view table f o) (choices_beside enum_view no_bounds f o) (children_beside f o)
  beside_split f None = refl
  beside_split f (Some g) = keys_split f g (map_key f.presence) (map_key g.presence)

  -- what a child of a field costs at least
  abbrev by_fields : List FieldShape → List FieldShape → Option ℕ
  by_fields gs [] = None
  by_fields gs (f ∷ later) = lesser_cost (by_children f (children_beside f (field_at gs f.number))) (by_fields gs later)

  all_split : (gs fs : List FieldShape) → cost (all_choices enum_view table gs fs) ≡ lesser_cost (cost (all_choices enum_view no_bounds gs fs)) (by_fields gs fs)
  all_split gs [] = refl
  all_split gs (f ∷ later) =
      search (rules, all_split gs later, cost-append, then_others, beside_split, lesser_apart)

-- Costs of edges.

module _ (table : Table) (old new : Shape) (pair : Pair) where
  -- what an edge costs at the bound of its child
  abbrev edge_cost : Edge → Option ℕ
  edge_cost = cost_under (edge_price old) table

  own_costs : (enum_view : EnumView) (f : FieldShape) (ps : List Pair) → field_at (fields old pair.old) f.number ≡ Some f → by_children enum_view table f ps ≡ least_of (map edge_cost (map (edge_to pair f) ps))
  own_costs enum_view f [] found = refl
  own_costs enum_view f (p ∷ ps) found =
      search (rules, own_costs enum_view f ps found, option_and_then)

  all_costs : (enum_view : EnumView) (fs : List FieldShape) → AllByRecursion (λ (f : FieldShape). field_at (fields old pair.old) f.number ≡ Some f) fs
      → by_fields enum_view table (fields new pair.new) fs ≡ least_of (map edge_cost (flat_map (λ (f : FieldShape). map (edge_to pair f) (children_beside f (field_at (fields new pair.new) f.number))) fs))
  all_costs enum_view [] found = refl
  all_costs enum_view (f ∷ later) found =
      let here = map (edge_to pair f) (children_beside f (field_at (fields new pair.new) f.number)) in
      let rest = flat_map (λ (g : FieldShape). map (edge_to pair g) (children_beside g (field_at (fields new pair.new) g.number))) later in
      ap₂ lesser_cost (own_costs enum_view f (children_beside f (field_at (fields new pair.new) f.number)) found.0) (all_costs enum_view later found.1)
      ∙ sym (ap least_of (map-append edge_cost here rest) ∙ least-append (map edge_cost here) (map edge_cost rest))

pub least_costs_by_edges : LeastCostsByEdges
least_costs_by_edges enum_view old new table shape pair =
    let gs = fields new pair.new in
    let fs = fields old pair.old in
    all_split enum_view table gs fs
    ∙ ap (lesser_cost (cost (all_choices enum_view no_bounds gs fs))) (all_costs table old new pair enum_view fs (fields_are_found.2 fs (fields_are_found.0 old pair.old shape).rising))
