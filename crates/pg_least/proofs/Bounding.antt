-- From costs by index to bounds of pairs.
use Rattle.std.proofs.Common.{◌≡◌, ℕ, zero, suc, ◌<◌, ◌≤◌, ◌⊎◌, List, [], ◌∷◌, ◌++◌, length, slice_get, take, map, flat_map, filter, nat_le, Bool, true, false, not, cond, is_some, option_map, option_and_then, Option, Some, None, IfSome, inl, inr, ⊎_elim, refl, ap, sym, ◌∙◌, subst, arith, leb-true, le-leb}
use Rattle.std.specs.List.{AllByRecursion}
use Rattle.std.specs.List.Sorted.{IsPermutation}
use Rattle.std.proofs.lemmas.Bool.{and_parts}
use Rattle.pg_dyn.specs.encoding.Encoding.{cap}
use Rattle.pg_pairs.proofs.lemmas.choices.Among.{among_each}
use Rattle.pg_pairs.proofs.lemmas.graph.Reaching.{every_is_among}
use Rattle.pg_pairs.specs.declared.choices.choice.Pair.{Pair}
use Rattle.pg_pairs.specs.declared.graph.edge.Edge.{Edge}
use Rattle.pg_pairs.specs.bounds.Covering.{IsAmong, same_pair, distinct}
use Rattle.pg_pairs.specs.choices.Choices.{number_for}
use Rattle.pg_pairs.specs.bounds.LeastCosts.{IsNoMore}
use Rattle.pg_cert.specs.declared.bounds.PairBound.{PairBound}
use Rattle.pg_cert.specs.Certificate.{are_bounds, bound_in, is_bound}
use Rattle.pg_least.specs.declared.arcs.Arc.{Arc}
use Rattle.pg_least.specs.Searched.{pairs_of}
use Rattle.pg_least.specs.inner.Graphs.{IsArc, arcs_by, arcs_to_numbers}
use Rattle.pg_pairs.specs.graph.LeastOf.{cost_under, least_of, lesser_cost}
use Rattle.pg_least.specs.Least.{IsLeastBound, edges_to_numbers}
use Rattle.pg_least.specs.inner.Graphs.{lines}
use Rattle.pg_least.specs.inner.Places.{IsPlaced}
use Rattle.pg_least.specs.inner.Relaxing.{IsBalanced, cost_at, offer}
use Rattle.pg_least.proofs.Lists.{among_left, among_right}
use Rattle.pg_least.proofs.Listed.{found_at, place_of}
use Rattle.pg_least.proofs.Moved.{among_back, among_moved, as_many}
use Rattle.pg_least.proofs.Unbounded.{once_bounds, unbounded}

-- The least of some costs.

lesser_same : (o p : Option ℕ) → IsNoMore o p → lesser_cost o p ≡ o
lesser_same None None h = refl
lesser_same None (Some n) h = absurd h
lesser_same (Some m) None h = refl
lesser_same (Some m) (Some n) h = let le : m ≤ n = h in rw (le-leb m n le) refl

-- a bound that is no more than any, and one of them where it is a number, is the least
is_least : (bound : Option ℕ) (os : List (Option ℕ)) → AllByRecursion (IsNoMore bound) os → ((c : ℕ) → bound ≡ Some c → IsAmong (Some c) os) → least_of os ≡ bound
is_least None [] below chosen = refl
is_least (Some c) [] below chosen = absurd (chosen c refl)
is_least None (None ∷ os) below chosen = is_least None os below.1 (λ c h. absurd (cc))
is_least None (Some n ∷ os) below chosen = absurd below.0
is_least (Some c) (o ∷ os) below chosen =
    ⊎_elim
    (λ here. let is : o ≡ Some c = sym here in ap (λ x. lesser_cost x (least_of os)) is ∙ lesser_same (Some c) (least_of os) (no_more_least (Some c) os below.1))
    (λ later.
    let rest : least_of os ≡ Some c = is_least (Some c) os below.1 (λ d h. subst (λ x. IsAmong x os) h later) in
    ap (lesser_cost o) rest ∙ at_most o c below.0) (chosen c refl)
  where
    at_most : (o : Option ℕ) (c : ℕ) → IsNoMore (Some c) o → lesser_cost o (Some c) ≡ Some c
    at_most None c h = refl
    at_most (Some n) c h = of (nat_le n c) refl
      where
        of : (b : Bool) → nat_le n c ≡ b → cond b (Some n) (Some c) ≡ Some c
        of false k = refl
        of true k = let up : n ≤ c = leb-true n c k in let down : c ≤ n = h in let same : n ≡ c = omega arith in ap Some same

    no_more_least : (b : Option ℕ) (os : List (Option ℕ)) → AllByRecursion (IsNoMore b) os → IsNoMore b (least_of os)
    no_more_least b [] h = tt
    no_more_least b (o ∷ os) h = of o (least_of os) h.0 (no_more_least b os h.1)
      where
        of : (o p : Option ℕ) → IsNoMore b o → IsNoMore b p → IsNoMore b (lesser_cost o p)
        of None p h k = k
        of (Some m) None h k = h
        of (Some m) (Some n) h k = elim (nat_le m n) as (λ t. IsNoMore b (cond t (Some m) (Some n))) [ true ↦ h | false ↦ k ]

-- The table of pairs with costs.

pub pairs_of_lines : (ps : List Pair) (cs : List (Option ℕ)) → length cs ≡ length ps → pairs_of (lines ps cs) ≡ ps
pairs_of_lines [] cs long = refl
pairs_of_lines (p ∷ ps) [] long = absurd (omega arith)
pairs_of_lines (p ∷ ps) (c ∷ cs) long = ap (λ qs. p ∷ qs) (pairs_of_lines ps cs (omega arith))

pub lines_long : (ps : List Pair) (cs : List (Option ℕ)) → length cs ≡ length ps → length (lines ps cs) ≡ length ps
lines_long [] cs long = refl
lines_long (p ∷ ps) [] long = absurd (omega arith)
lines_long (p ∷ ps) (c ∷ cs) long = ap suc (lines_long ps cs (omega arith))

pub numbers_of_lines : (ps : List Pair) (cs : List (Option ℕ)) → length cs ≡ length ps → length (filter (λ (b : PairBound). is_some b.bound) (lines ps cs)) ≡ length (filter is_some cs)
numbers_of_lines [] [] long = refl
numbers_of_lines [] (c ∷ cs) long = absurd (omega arith)
numbers_of_lines (p ∷ ps) [] long = absurd (omega arith)
numbers_of_lines (p ∷ ps) (None ∷ cs) long = numbers_of_lines ps cs (omega arith)
numbers_of_lines (p ∷ ps) (Some n ∷ cs) long = ap suc (numbers_of_lines ps cs (omega arith))

pub line_at : (ps : List Pair) (cs : List (Option ℕ)) (i : ℕ) (p : Pair) → length cs ≡ length ps → slice_get ps i ≡ Some p → slice_get (lines ps cs) i ≡ Some (record { pair = p; bound = cost_at cs i })
line_at [] cs i p long here = absurd (cc)
line_at (q ∷ ps) [] i p long here = absurd (omega arith)
line_at (q ∷ ps) (c ∷ cs) zero p long here = let same : q ≡ p = cc in ap (λ x. Some (record { pair = x; bound = c })) same
line_at (q ∷ ps) (c ∷ cs) (suc i) p long here = line_at ps cs i p (omega arith) here

there_alike : (ps : List Pair) (cs : List (Option ℕ)) (p : Pair) → length cs ≡ length ps → is_some (bound_in (lines ps cs) p) ≡ is_some (bound_in (map unbounded ps) p)
there_alike [] cs p long = refl
there_alike (q ∷ ps) [] p long = absurd (omega arith)
there_alike (q ∷ ps) (c ∷ cs) p long = of (same_pair p q) refl (there_alike ps cs p (omega arith))
  where
    of : (t : Bool) → same_pair p q ≡ t → is_some (bound_in (lines ps cs) p) ≡ is_some (bound_in (map unbounded ps) p) → is_some (bound_in (lines (q ∷ ps) (c ∷ cs)) p) ≡ is_some (bound_in (map unbounded (q ∷ ps)) p)
    of true is h = rw is refl
    of false is h = rw is h

are_lines : (ps : List Pair) (cs : List (Option ℕ)) → length cs ≡ length ps → are_bounds (map unbounded ps) ≡ true → AllByRecursion (λ o. is_bound o ≡ true) cs → are_bounds (lines ps cs) ≡ true
are_lines [] cs long h each = refl
are_lines (p ∷ ps) [] long h each = absurd (omega arith)
are_lines (p ∷ ps) (c ∷ cs) long h each =
    let parts = and_parts (not (is_some (bound_in (map unbounded ps) p))) (are_bounds (map unbounded ps)) h in
    rw (each.0, ap not (there_alike ps cs p (omega arith)) ∙ parts.0, are_lines ps cs (omega arith) parts.1 each.1) refl

pub once_lines : (ps : List Pair) (cs : List (Option ℕ)) → distinct ps ≡ ps → length cs ≡ length ps → AllByRecursion (λ o. is_bound o ≡ true) cs → are_bounds (lines ps cs) ≡ true
once_lines ps cs once long each = are_lines ps cs long (once_bounds ps once) each

pub lines_more : (ps : List Pair) (cs : List (Option ℕ)) (p : Pair) (c : Option ℕ) → length cs ≡ length ps → lines (ps ++ p ∷ []) (cs ++ c ∷ []) ≡ lines ps cs ++ record { pair = p; bound = c } ∷ []
lines_more [] [] p c long = refl
lines_more [] (d ∷ cs) p c long = absurd (omega arith)
lines_more (q ∷ ps) [] p c long = absurd (omega arith)
lines_more (q ∷ ps) (d ∷ cs) p c long = ap (λ bs. record { pair = q; bound = d } ∷ bs) (lines_more ps cs p c (omega arith))

-- Bounds of pairs by costs at their indices.

pub among_map : {A B : Type 0} (f : A → B) (y : B) (xs : List A) → IsAmong y (map f xs) → (x : A) × IsAmong x xs × (f x ≡ y)
among_map f y [] h = absurd h
among_map f y (x ∷ xs) h = ⊎_elim (λ same. (x, inl refl, sym same)) (λ later. let (z, among, is) = among_map f y xs later in (z, inr among, is)) h

pub map_among : {A B : Type 0} (f : A → B) (x : A) (xs : List A) → IsAmong x xs → IsAmong (f x) (map f xs)
map_among f x [] h = absurd h
map_among f x (y ∷ xs) h = ⊎_elim (λ same. inl (ap f same)) (λ later. inr (map_among f x xs later)) h

among_split : {A : Type 0} (x : A) (xs ys : List A) → IsAmong x (xs ++ ys) → IsAmong x xs ⊎ IsAmong x ys
among_split x [] ys h = inr h
among_split x (y ∷ xs) ys h = ⊎_elim (λ same. inl (inl same)) (λ later. ⊎_elim (λ l. inl (inr l)) (λ r. inr r) (among_split x xs ys later)) h

flat_among : {A B : Type 0} (h : A → List B) (y : B) (x : A) (xs : List A) → IsAmong x xs → IsAmong y (h x) → IsAmong y (flat_map h xs)
flat_among h y x [] among m = absurd among
flat_among h y x (z ∷ xs) among m = ⊎_elim (λ same. among_left y (h z) (flat_map h xs) (subst (λ w. IsAmong y (h w)) same m)) (λ later. among_right y (h z) (flat_map h xs) (flat_among h y x xs later m)) among

among_flat : {A B : Type 0} (h : A → List B) (y : B) (xs : List A) → IsAmong y (flat_map h xs) → (x : A) × IsAmong x xs × IsAmong y (h x)
among_flat h y [] m = absurd m
among_flat h y (x ∷ xs) m = ⊎_elim (λ here. (x, inl refl, here)) (λ later. let (z, among, is) = among_flat h y xs later in (z, inr among, is)) (among_split y (h x) (flat_map h xs) m)

among_at : {A : Type 0} (xs : List A) (i : ℕ) (x : A) → slice_get xs i ≡ Some x → IsAmong x xs
among_at [] i x h = absurd (cc)
among_at (y ∷ xs) zero x h = let same : x ≡ y = cc in inl same
among_at (y ∷ xs) (suc i) x h = inr (among_at xs i x h)

each_mapped : {A B : Type 0} (f : A → B) (P : B → Type 0) (xs : List A) → ((x : A) → IsAmong x xs → P (f x)) → AllByRecursion P (map f xs)
each_mapped f P [] h = tt
each_mapped f P (x ∷ xs) h = (h x (inl refl), each_mapped f P xs (λ y among. h y (inr among)))

base_at : (base : Pair → Option ℕ) (ps : List Pair) (i : ℕ) (p : Pair) → slice_get ps i ≡ Some p → cost_at (map base ps) i ≡ base p
base_at base [] i p here = absurd (cc)
base_at base (q ∷ ps) zero p here = let same : q ≡ p = cc in ap base same
base_at base (q ∷ ps) (suc i) p here = base_at base ps i p here

one_pair : {p q : Pair} → Some p ≡ Some q → p ≡ q
one_pair h = cc

module _ (edges : Pair → List Edge) (base : Pair → Option ℕ) (price : Edge → ℕ → Option ℕ) (ps : List Pair) (arcs : List Arc) (costs : List (Option ℕ)) (long : length costs ≡ length ps) (checked : are_bounds (lines ps costs) ≡ true)
    (from_own : (p : Pair) (e : Edge) → IsAmong p ps → IsAmong e (edges p) → e.from ≡ p) (moved : IsPermutation (flat_map edges ps) (map (λ (a : Arc). a.edge) arcs)) (placed : AllByRecursion (IsPlaced ps) arcs) where
  abbrev table : Pair → Option (Option ℕ)
  table = bound_in (lines ps costs)

  -- a pair's bound is the cost at its index
  bound_at : (i : ℕ) (p : Pair) → slice_get ps i ≡ Some p → table p ≡ Some (cost_at costs i)
  bound_at i p here = found_at (lines ps costs) i (record { pair = p; bound = cost_at costs i }) checked (line_at ps costs i p long here)

  number_at : (i : ℕ) (p : Pair) → slice_get ps i ≡ Some p → number_for table p ≡ cost_at costs i
  number_at i p here = ap (λ o. option_and_then (λ bound. bound) o) (bound_at i p here)

  place_at : (p : Pair) (bound : Option ℕ) → table p ≡ Some bound → (i : ℕ) × (slice_get ps i ≡ Some p)
  place_at p bound found = let (i, here) = place_of (lines ps costs) p bound found in (i, of ps costs i p bound long here)
    where
      of : (ps : List Pair) (cs : List (Option ℕ)) (i : ℕ) (p : Pair) (bound : Option ℕ) → length cs ≡ length ps → slice_get (lines ps cs) i ≡ Some (record { pair = p; bound = bound }) → slice_get ps i ≡ Some p
      of [] cs i p bound k h = absurd (cc)
      of (q ∷ ps) [] i p bound k h = absurd (omega arith)
      of (q ∷ ps) (c ∷ cs) zero p bound k h = ap (λ (o : Option PairBound). option_map (λ (b : PairBound). b.pair) o) h
      of (q ∷ ps) (c ∷ cs) (suc i) p bound k h = of ps cs i p bound (omega arith) h

  arc_cost : (a : Arc) → IsPlaced ps a → offer (arcs_by price) costs a ≡ cost_under price table a.edge
  arc_cost a at = ap (option_and_then (price a.edge)) (sym (number_at a.child a.edge.child at.child))

  module _ (balanced : IsBalanced (arcs_by price) arcs (map base ps) costs) where
    pub least_bound : (pair : Pair) (bound : Option ℕ) → table pair ≡ Some bound → IsLeastBound edges base price table pair bound
    least_bound pair bound found =
        let (i, here) = place_at pair bound found in
        let is : cost_at costs i ≡ bound = some_one (sym (bound_at i pair here) ∙ found) in
        let base_is : cost_at (map base ps) i ≡ base pair = base_at base ps i pair here in
        sym (is_least bound (base pair ∷ map (cost_under price table) (edges pair)) (
          subst (λ o. IsNoMore o (base pair)) is (subst (IsNoMore (cost_at costs i)) base_is (balanced.below_base i)),
          each_mapped (cost_under price table) (IsNoMore bound) (edges pair) (λ e among. below e among i here is),
        )
        (λ c bound_is. ⊎_elim (λ at_base. inl (sym at_base ∙ base_is)) (λ (a, among, from, cost). inr (chosen a among i here from c cost)) (balanced.offered i c (is ∙ bound_is))))
      where
        some_one : {o p : Option ℕ} → Some o ≡ Some p → o ≡ p
        some_one h = cc

        below : (e : Edge) → IsAmong e (edges pair) → (i : ℕ) → slice_get ps i ≡ Some pair → cost_at costs i ≡ bound → IsNoMore bound (cost_under price table e)
        below e among i here is =
            let (a, there, edge) = among_map (λ (a : Arc). a.edge) e arcs (among_moved e (flat_map edges ps) (map (λ (x : Arc). x.edge) arcs) moved (flat_among edges e pair ps (among_at ps i pair here) among)) in
            let at = among_each (IsPlaced ps) a arcs there placed in
            let own : a.edge.from ≡ pair = ap (λ (x : Edge). x.from) edge ∙ from_own pair e (among_at ps i pair here) among in
            let cost : cost_at costs a.from ≡ bound = some_one (sym (bound_at a.from pair (at.from ∙ ap Some own)) ∙ found) in
            subst (λ o. IsNoMore o (cost_under price table e)) cost
            (subst (IsNoMore (cost_at costs a.from)) (arc_cost a at ∙ ap (cost_under price table) edge) (balanced.below_offers a there))

        chosen : (a : Arc) → IsAmong a arcs → (i : ℕ) → slice_get ps i ≡ Some pair → a.from ≡ i → (c : ℕ) → offer (arcs_by price) costs a ≡ Some c → IsAmong (Some c) (map (cost_under price table) (edges pair))
        chosen a among i here from c cost =
            let at = among_each (IsPlaced ps) a arcs among placed in
            let (p, there, of_p) = among_flat edges a.edge ps (among_back a.edge (flat_map edges ps) (map (λ (x : Arc). x.edge) arcs) moved (map_among (λ (x : Arc). x.edge) a arcs among)) in
            let own : p ≡ pair = sym (from_own p a.edge there of_p) ∙ one_pair (sym at.from ∙ ap (slice_get ps) from ∙ here) in
            subst (λ o. IsAmong o (map (cost_under price table) (edges pair))) (sym (arc_cost a at) ∙ cost)
            (map_among (cost_under price table) a.edge (edges pair) (subst (λ q. IsAmong a.edge (edges q)) own of_p))

  pub relaxed_count : length (arcs_to_numbers arcs costs) ≡ length (edges_to_numbers table (flat_map edges ps))
  relaxed_count = of arcs placed ∙ as_many (λ (e : Edge). is_some (number_for table e.child)) (flat_map edges ps) (map (λ (a : Arc). a.edge) arcs) moved
    where
      of : (xs : List Arc) → AllByRecursion (IsPlaced ps) xs → length (arcs_to_numbers xs costs) ≡ length (edges_to_numbers table (map (λ (a : Arc). a.edge) xs))
      of [] each = refl
      of (a ∷ xs) each = by (is_some (cost_at costs a.child)) (ap is_some (number_at a.child a.edge.child each.0.child)) (of xs each.1)
        where
          by : (b : Bool) → is_some (number_for table a.edge.child) ≡ b → length (arcs_to_numbers xs costs) ≡ length (edges_to_numbers table (map (λ (x : Arc). x.edge) xs))
              → length (cond b (a ∷ arcs_to_numbers xs costs) (arcs_to_numbers xs costs)) ≡ length (cond (is_some (number_for table a.edge.child)) (a.edge ∷ edges_to_numbers table (map (λ (x : Arc). x.edge) xs)) (edges_to_numbers table (map (λ (x : Arc). x.edge) xs)))
          by true there rest = rw there (ap suc rest)
          by false none rest = rw none rest

-- A cost that is balanced is one that a message may have.
pub costs_are_bounds : (price : Edge → ℕ → Option ℕ) (arcs : List Arc) (bases costs : List (Option ℕ)) → ((i : ℕ) → IfSome (cost_at bases i) (λ n. (1 ≤ n) × (n ≤ cap))) → ((a : Arc) (bound : ℕ) → 1 ≤ bound → IsAmong a arcs → IfSome (price a.edge bound) (λ n. (bound < n) × (n ≤ cap))) → IsBalanced (arcs_by price) arcs bases costs → AllByRecursion (λ o. is_bound o ≡ true) costs
costs_are_bounds price arcs bases costs base_small price_small balanced = each costs (λ i. small i (cost_at costs i) refl)
  where
    small : (i : ℕ) (o : Option ℕ) → cost_at costs i ≡ o → is_bound o ≡ true
    small i None is = refl
    small i (Some c) is = ⊎_elim (λ base. of c (subst (λ p. IfSome p (λ n. (1 ≤ n) × (n ≤ cap))) base (base_small i))) (λ (a, among, from, cost). by a c among (cost_at costs a.child) (λ b h. balanced.numbers a.child b h) cost) (balanced.offered i c is)
      where
        of : (c : ℕ) → (1 ≤ c) × (c ≤ cap) → is_bound (Some c) ≡ true
        of c (low, high) = rw (le-leb 1 c low, le-leb c cap high) refl

        by : (a : Arc) (c : ℕ) → IsAmong a arcs → (o : Option ℕ) → ((b : ℕ) → o ≡ Some b → 1 ≤ b) → option_and_then (price a.edge) o ≡ Some c → is_bound (Some c) ≡ true
        by a c among None some h = absurd (cc)
        by a c among (Some b) some h = let (above, high) = subst (λ p. IfSome p (λ n. (b < n) × (n ≤ cap))) h (price_small a b (some b refl) among) in of c (omega arith, high)

    each : (cs : List (Option ℕ)) → ((i : ℕ) → is_bound (cost_at cs i) ≡ true) → AllByRecursion (λ o. is_bound o ≡ true) cs
    each [] h = tt
    each (c ∷ cs) h = (h 0, each cs (λ i. h (suc i)))

pub bases_are_small : (base : Pair → Option ℕ) (known : Pair → Bool) → ((p : Pair) → known p ≡ true → IfSome (base p) (λ n. (1 ≤ n) × (n ≤ cap))) → (ps : List Pair) → AllByRecursion (λ (p : Pair). known p ≡ true) ps → (i : ℕ) → IfSome (cost_at (map base ps) i) (λ n. (1 ≤ n) × (n ≤ cap))
bases_are_small base known small [] each i = tt
bases_are_small base known small (p ∷ ps) each zero = small p each.0
bases_are_small base known small (p ∷ ps) each (suc i) = bases_are_small base known small ps each.1 i

inside_at : {A : Type 0} (xs : List A) (i : ℕ) (x : A) → slice_get xs i ≡ Some x → i < length xs
inside_at [] i x h = absurd (cc)
inside_at (y ∷ xs) zero x h = omega arith
inside_at (y ∷ xs) (suc i) x h = let later = inside_at xs i x h in omega arith

-- The arcs are edges of known pairs.
pub arcs_are : (known : Pair → Bool) (edges : Pair → List Edge) (ps : List Pair) (arcs : List Arc) → ((p : Pair) (e : Edge) → IsAmong p ps → IsAmong e (edges p) → e.from ≡ p) → AllByRecursion (λ (p : Pair). known p ≡ true) ps
    → IsPermutation (flat_map edges ps) (map (λ (a : Arc). a.edge) arcs) → AllByRecursion (IsPlaced ps) arcs → AllByRecursion (IsArc known edges (length ps)) arcs
arcs_are known edges ps arcs from_own each moved placed =
    every_is_among (IsArc known edges (length ps)) arcs (λ a among.
    let at = among_each (IsPlaced ps) a arcs among placed in
    let (p, there, of_p) = among_flat edges a.edge ps (among_back a.edge (flat_map edges ps) (map (λ (x : Arc). x.edge) arcs) moved (map_among (λ (x : Arc). x.edge) a arcs among)) in
    let own = from_own p a.edge there of_p in
    record {
      known = among_each (λ (p : Pair). known p ≡ true) a.edge.from ps (among_at ps a.from a.edge.from at.from) each;
      edge = subst (λ q. IsAmong a.edge (edges q)) (sym own) of_p;
      from = inside_at ps a.from a.edge.from at.from;
      child = inside_at ps a.child a.edge.child at.child;
    })

pub takes_long : {A B : Type 0} (n : ℕ) (xs : List A) (ys : List B) → length ys ≡ length xs → length (take n ys) ≡ length (take n xs)
takes_long zero xs ys long = refl
takes_long (suc n) [] [] long = refl
takes_long (suc n) [] (y ∷ ys) long = absurd (omega arith)
takes_long (suc n) (x ∷ xs) [] long = absurd (omega arith)
takes_long (suc n) (x ∷ xs) (y ∷ ys) long = ap suc (takes_long n xs ys (omega arith))
