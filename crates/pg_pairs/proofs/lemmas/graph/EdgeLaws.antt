-- What holds of the pairs of two schemas' types, of their edges, and of what these cost.
use Rattle.std.proofs.Common.{option_to_list, ◌≡◌, ℕ, suc, ◌+◌, ◌*◌, ◌^◌, ◌<◌, ◌≤◌, ◌⊎◌, List, [], ◌∷◌, map, flat_map, filter, length, Bool, true, false, not, nat_lt, eqb, eqb-true, eq-eqb, ne_eqb, cond, Option, Some, None, IfSome, option_and_then, ⊎_elim, refl, sym, subst, arith, ltb-true, lt-ltb, length-append, rules}
use Rattle.std.specs.List.{AllByRecursion, IsDistinct, list_any}
use Rattle.std.proofs.lemmas.Bool.{and_parts, leb-true}
use Rattle.std.proofs.lemmas.List.{length-map}
use Rattle.std.proofs.lemmas.Map.Steps.{length-le_from_distinct_below}
use Rattle.pg_schema.specs.declared.parts.field.TypeId.{TypeId}
use Rattle.pg_schema.specs.declared.parts.field.Element.{Element}
use Rattle.pg_schema.specs.declared.parts.field.Element.TheVariants as elements
use Rattle.pg_schema.specs.declared.parts.field.Presence.{Presence}
use Rattle.pg_schema.specs.declared.parts.field.Presence.TheVariants as presences
use Rattle.pg_schema.specs.Shape.{Shape, FieldShape, field_at, fields}
use Rattle.pg_schema.specs.ShapeRules.{ElementFits, IsField, IsShape, Rising}
use Rattle.pg_wire.proofs.PublicLaws.{lengths_grow}
use Rattle.pg_dyn.specs.encoding.Encoding.{cap}
use Rattle.pg_dyn.proofs.Lists.{each_at, each-flat_map, each_weaker}
use Rattle.pg_dyn.proofs.PublicLaws.{fields_are_found}
use Rattle.pg_pairs.specs.declared.choices.choice.Pair.{Pair}
use Rattle.pg_pairs.specs.declared.graph.edge.Edge.{Edge}
use Rattle.pg_pairs.specs.bounds.Covering.{IsAmong, all_children, children, children_beside, distinct, field_children, same_pair}
use Rattle.pg_pairs.specs.choices.Costs.{least_body, one_item, with_length}
use Rattle.pg_pairs.specs.choices.Choices.{child_pair}
use Rattle.pg_pairs.specs.graph.Edges.{ArePriced, PairsLeadToPairs, edge_price, edge_to, edges, is_pair}
use Rattle.pg_pairs.specs.graph.Reached.{itself, onwards}
use Rattle.pg_pairs.proofs.lemmas.choices.Among.{among_each}
use Rattle.pg_pairs.proofs.lemmas.graph.Grown.{each_distinct}
use Rattle.pg_pairs.proofs.lemmas.bounds.LeastCosts.{least_costs_are_lengths}

-- Pairs.

abbrev AreThere : Shape → Shape → Pair → Type 0
AreThere old new pair = (pair.old.index < length old) × (pair.new.index < length new)

there : (old new : Shape) (pair : Pair) → is_pair old new pair ≡ true → AreThere old new pair
there old new pair h = search (rules, and_parts, nat_lt, ltb-true)

pub is_there : (old new : Shape) (pair : Pair) → pair.old.index < length old → pair.new.index < length new → is_pair old new pair ≡ true
is_there old new pair old_there new_there = rw (lt-ltb pair.old.index (length old) old_there, lt-ltb pair.new.index (length new) new_there) refl

-- a number for each pair of types
key : Pair → ℕ
key pair = pair.old.index * 4096 + pair.new.index

AreSmall : Pair → Type 0
AreSmall pair = (pair.old.index < 4096) × (pair.new.index < 4096)

same_places : (a b c d : ℕ) → b < 4096 → d < 4096 → a * 4096 + b ≡ c * 4096 + d → (a ≡ c) × (b ≡ d)
same_places a b c d h k same = (omega arith, omega arith)

keys_apart : (p q : Pair) → AreSmall p → AreSmall q → same_pair p q ≡ false → eqb (key p) (key q) ≡ false
unfolding key AreSmall
keys_apart p q small_p small_q apart = search (rules, ne_eqb, same_places, eq-eqb)

each_apart : (p : Pair) (qs : List Pair) → AreSmall p → AllByRecursion AreSmall qs → AllByRecursion (λ k. eqb (key p) k ≡ false) (map key (filter (λ q. not (same_pair p q)) qs))
each_apart p [] small each = tt
each_apart p (q ∷ qs) small each = search (rules, each_apart p qs small each.1, eqb, keys_apart)

kept_apart : (k : ℕ) (test : Pair → Bool) (qs : List Pair) → AllByRecursion (λ n. eqb k n ≡ false) (map key qs) → AllByRecursion (λ n. eqb k n ≡ false) (map key (filter test qs))
kept_apart k test [] h = tt
kept_apart k test (q ∷ qs) h = search (rules, kept_apart k test qs h.1, eqb)

kept_distinct : (test : Pair → Bool) (qs : List Pair) → IsDistinct eqb (map key qs) → IsDistinct eqb (map key (filter test qs))
unfolding IsDistinct
kept_distinct test [] h = tt
kept_distinct test (q ∷ qs) h = of (test q) (kept_distinct test qs h.1)
  where
    of : (b : Bool) → IsDistinct eqb (map key (filter test qs)) → IsDistinct eqb (map key (cond b (q ∷ filter test qs) (filter test qs)))
    of true rest = (kept_apart (key q) test qs h.0, rest)
    of false rest = rest

keys_distinct : (ps : List Pair) → AllByRecursion AreSmall ps → IsDistinct eqb (map key (distinct ps))
unfolding IsDistinct
keys_distinct [] each = tt
keys_distinct (p ∷ ps) each = (each_apart p (distinct ps) each.0 (each_distinct AreSmall ps each.1), kept_distinct (λ q. not (same_pair p q)) (distinct ps) (keys_distinct ps each.1))

keys_below : (ps : List Pair) → AllByRecursion AreSmall ps → (k : ℕ) → list_any (eqb k) (map key ps) ≡ true → k < 16777216
unfolding key AreSmall
keys_below [] each k h = absurd (cc)
keys_below (p ∷ ps) each k h = search (rules, keys_below ps each.1 k, eqb, eqb-true)

small_of : (old new : Shape) → length old ≤ 4096 → length new ≤ 4096 → (p : Pair) → is_pair old new p ≡ true → AreSmall p
unfolding AreSmall
small_of old new few_old few_new p h = let at = there old new p h in let low = at.0 in let high = at.1 in (omega arith, omega arith)

few_pairs : (old new : Shape) → length old ≤ 4096 → length new ≤ 4096 → (ps : List Pair) → distinct ps ≡ ps → AllByRecursion (λ p. is_pair old new p ≡ true) ps → length ps ≤ 2 ^ 24
few_pairs old new few_old few_new ps once known =
    let small : AllByRecursion AreSmall ps = each_weaker (λ p. is_pair old new p ≡ true) AreSmall (small_of old new few_old few_new) ps known in
    let apart : IsDistinct eqb (map key ps) = subst (λ qs. IsDistinct eqb (map key qs)) once (keys_distinct ps small) in
    let few = length-le_from_distinct_below (map key ps) 16777216 apart (keys_below ps small) in
    subst (λ n. n ≤ 16777216) (length-map ps key) few

-- Children.

-- the children of two fields are the pair of their messages, or none
children_cases : (f g : FieldShape) → (field_children f g ≡ []) ⊎ (field_children f g ≡ option_to_list (child_pair f.element g.element))
children_cases f g = search (rules, option_to_list)

one_message : (e d : Element) → length (option_to_list (child_pair e d)) ≤ 1
one_message (elements.Message s) (elements.Message t) = omega arith
one_message (elements.Message s) (elements.Scalar t) = omega arith
one_message (elements.Message s) (elements.Enum t) = omega arith
one_message (elements.Scalar s) d = omega arith
one_message (elements.Enum s) d = omega arith

one_child : (f : FieldShape) (o : Option FieldShape) → length (children_beside f o) ≤ 1
one_child f None = omega arith
one_child f (Some g) = ⊎_elim (λ none. subst (λ ps. length ps ≤ 1) (sym none) (omega arith)) (λ one. subst (λ ps. length ps ≤ 1) (sym one) (one_message f.element g.element)) (children_cases f g)

module _ (old new : Shape) (is_old : IsShape old) (is_new : IsShape new) where
  pair_there : (e d : Element) → ElementFits (length old) e → ElementFits (length new) d → AllByRecursion (λ p. is_pair old new p ≡ true) (option_to_list (child_pair e d))
  pair_there (elements.Message s) (elements.Message t) here beside = (is_there old new (record { old = s; new = t }) here beside, tt)
  pair_there (elements.Message s) (elements.Scalar t) here beside = tt
  pair_there (elements.Message s) (elements.Enum t) here beside = tt
  pair_there (elements.Scalar s) d here beside = tt
  pair_there (elements.Enum s) d here beside = tt

  beside_there : (gs : List FieldShape) → AllByRecursion (IsField (length new)) gs → (f : FieldShape) → IsField (length old) f → (o : Option FieldShape) → field_at gs f.number ≡ o → AllByRecursion (λ p. is_pair old new p ≡ true) (children_beside f o)
  beside_there gs fit f is_f None at = tt
  beside_there gs fit f is_f (Some g) at = search (rules, pair_there, each_at, children_cases)

  -- children are pairs of the schemas' types
  child_there : (pair child : Pair) → IsAmong child (children old new pair) → is_pair old new child ≡ true
  child_there pair child among =
      let gs = fields new pair.new in
      let fs = fields old pair.old in
      among_each (λ p. is_pair old new p ≡ true) child (children old new pair) among
      (each_distinct (λ p. is_pair old new p ≡ true) (all_children gs fs)
      (each-flat_map (λ p. is_pair old new p ≡ true) (λ (f : FieldShape). children_beside f (field_at gs f.number)) fs
      (each_weaker (IsField (length old)) (λ (f : FieldShape). AllByRecursion (λ p. is_pair old new p ≡ true) (children_beside f (field_at gs f.number))) (λ f is_f. beside_there gs (fields_are_found.0 new pair.new is_new).each f is_f (field_at gs f.number) refl) fs
      (fields_are_found.0 old pair.old is_old).each)))

pub led_to_there : PairsLeadToPairs
led_to_there old new is_old is_new root pair known itself = known
led_to_there old new is_old is_new root pair known (onwards above child leads among) = child_there old new is_old is_new above child among

-- Edges.

-- rising numbers below 2^29 are as few
rising_few : (types low : ℕ) (fs : List FieldShape) → AllByRecursion (IsField types) fs → AllByRecursion (λ (f : FieldShape). low ≤ f.number) fs → Rising fs → low ≤ 2 ^ 29 → length fs + low ≤ 2 ^ 29
rising_few types low [] fit above rising h = omega arith
rising_few types low (f ∷ fs) fit above rising h =
    let here = fit.0.number_below in
    let from = above.0 in
    let later = rising_few types (suc low) fs fit.1 (each_weaker (λ (g : FieldShape). f.number < g.number) (λ (g : FieldShape). suc low ≤ g.number) (λ g k. omega arith) fs rising.0) rising.1 (omega arith) in
    omega arith

few_edges : (old new : Shape) → IsShape old → (pair : Pair) → length (edges old new pair) ≤ 2 ^ 30
few_edges old new is_old pair =
    let fit = fields_are_found.0 old pair.old is_old in
    let few = rising_few (length old) 0 (fields old pair.old) fit.each (each_weaker (IsField (length old)) (λ (f : FieldShape). 0 ≤ f.number) (λ f k. omega arith) (fields old pair.old) fit.each) fit.rising (omega arith) in
    let no_more = of (fields old pair.old) in
    omega arith
  where
    of : (fs : List FieldShape) → length (flat_map (λ (f : FieldShape). map (edge_to pair f) (children_beside f (field_at (fields new pair.new) f.number))) fs) ≤ length fs
    of [] = omega arith
    of (f ∷ fs) = search (rules, of fs, flat_map, length-append, length-map, one_child)

-- What an edge costs.

pub number_below : (shape : Shape) → IsShape shape → (type : TypeId) (n : ℕ) (f : FieldShape) → field_at (fields shape type) n ≡ Some f → f.number < 2 ^ 29
number_below shape is_shape type n f found = (each_at (IsField (length shape)) (fields shape type) n f found (fields_are_found.0 shape type is_shape).each).number_below

more_than : (n k : ℕ) → n < k + with_length n
more_than n k = let some = lengths_grow.3 n in omega arith

item_more : (f : FieldShape) (n : ℕ) → n < one_item f (with_length n)
item_more f n = of f.number f.presence f.element f.oneof
  where
    of : (m : ℕ) (p : Presence) (e : Element) (o : Option ℕ) → n < one_item (record { number = m; presence = p; element = e; oneof = o }) (with_length n)
    of m presences.Implicit e o = more_than n _
    of m presences.Explicit e o = more_than n _
    of m (presences.Repeated false) e o = more_than n _
    of m (presences.Repeated true) e o = let more = more_than n 0 in let whole = more_than (with_length n) 0 in omega arith
    of m (presences.Map k) e o = let more = more_than n 0 in let whole = more_than (2 + least_body (elements.Scalar k) + with_length n) 0 in omega arith

edge_costs_more : (old : Shape) (edge : Edge) (bound : ℕ) → IfSome (edge_price old edge bound) (λ cost. (bound < cost) × (cost ≤ cap))
edge_costs_more old edge bound = search (rules, leb-true, option_and_then, item_more)

pub are_priced : (old new : Shape) → IsShape old → IsShape new → ArePriced old new
are_priced old new is_old is_new =
    search (rules, few_pairs, child_there, few_edges, least_costs_are_lengths, edge_costs_more)
