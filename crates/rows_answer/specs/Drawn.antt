-- For tests: a graph of nine pairs, drawn by hand. Pair 0 costs 50, or three times what pair 1 does, which costs 7.
-- Pairs 2 and 3 lead to each other and cost nothing else. Pair 4 costs 190, or 200 less what pair 5 or pair 6 costs,
-- which cost 30 and 60. Pair 7 costs three times what pair 8 does, which costs 2^30: more than an encoding may have.
use Rattle.std.specs.Prelude.{◌≡◌, ℕ, ◌-◌, ◌*◌, ◌^◌, ◌<◌, ◌≤◌, nat_eq, nat_le, nat_lt, Bool, true, false, not, ◌&&◌, ◌||◌, cond, if◌then◌else◌, List, [], ◌∷◌, map, filter, length, Option, Some, None, IfSome}
use Rattle.std.specs.List.{AllByRecursion, IsDistinct, list_any}
use Rattle.std.proofs.Common.{⊎_elim, inl, inr, refl, ap, sym, ◌∙◌, subst, arith, eqb, eqb-true, eq-eqb, ne_eqb, ltb-true, leb-true}
use Rattle.std.proofs.lemmas.Bool.{and_parts}
use Rattle.std.proofs.lemmas.List.{length-map}
use Rattle.std.proofs.lemmas.Map.Steps.{length-le_from_distinct_below}
use Rattle.pg_dyn.specs.encoding.Encoding.{cap}
use Rattle.pg_pairs.specs.declared.choices.choice.Pair.{Pair}
use Rattle.pg_pairs.specs.declared.graph.edge.Edge.{Edge}
use Rattle.pg_pairs.specs.declared.graph.edge.Part.TheVariants.{Whole}
use Rattle.pg_pairs.specs.bounds.Covering.{IsAmong, distinct, same_pair}

abbrev pub is_drawn : Pair → Bool
is_drawn p = nat_eq p.old.index 0 && nat_lt p.new.index 9

abbrev pub pair : ℕ → Pair
pair number = record { old = record { index = 0 }; new = record { index = number } }

-- an edge to the pair of that number, by a field of that one
abbrev pub to : Pair → ℕ → ℕ → Edge
to from child number = record { from = from; child = pair child; number = number; part = Whole }

abbrev pub edges_from : Pair → List Edge
edges_from p =
    if nat_eq p.new.index 0 then to p 1 1 ∷ []
    else if nat_eq p.new.index 2 then to p 3 1 ∷ []
    else if nat_eq p.new.index 3 then to p 2 1 ∷ []
    else if nat_eq p.new.index 7 then to p 8 1 ∷ []
    else if nat_eq p.new.index 4 then to p 5 2 ∷ to p 6 2 ∷ []
    else []

abbrev pub children_from : Pair → List Pair
children_from p = map (λ (e : Edge). e.child) (edges_from p)

abbrev pub base_at : ℕ → Option ℕ
base_at n =
    if nat_eq n 0 then Some 50
    else if nat_eq n 1 then Some 7
    else if nat_eq n 4 then Some 190
    else if nat_eq n 5 then Some 30
    else if nat_eq n 6 then Some 60
    else if nat_eq n 8 then Some 1073741824
    else None

-- three times the bound by field 1, else 200 less it
abbrev pub price : ℕ → ℕ → Option ℕ
price number bound =
    if nat_eq number 1 then (if nat_le (3 * bound) cap then Some (3 * bound) else None)
    else if nat_lt bound 100 then Some (200 - bound)
    else None

-- What holds of this graph.

each_edge : (P : Edge → Type 0) (p : Pair) → P (to p 1 1) → P (to p 3 1) → P (to p 2 1) → P (to p 8 1) → P (to p 5 2)
    → P (to p 6 2) → AllByRecursion P (edges_from p)
each_edge P p a b c d e f =
    of (nat_eq p.new.index 0) (nat_eq p.new.index 2) (nat_eq p.new.index 3) (nat_eq p.new.index 7)
    (nat_eq p.new.index 4)
  where
    of : (v w x y z : Bool)
        → AllByRecursion P (if v then to p 1 1 ∷ [] else if w then to p 3 1 ∷ [] else if x then to p 2 1 ∷ []
        else if y then to p 8 1 ∷ [] else if z then to p 5 2 ∷ to p 6 2 ∷ [] else [])
    of true w x y z = (a, tt)
    of false true x y z = (b, tt)
    of false false true y z = (c, tt)
    of false false false true z = (d, tt)
    of false false false false true = (e, (f, tt))
    of false false false false false = tt

among_each : {A : Type 0} (P : A → Type 0) (x : A) (xs : List A) → IsAmong x xs → AllByRecursion P xs → P x
among_each P x [] among h = absurd among
among_each P x (y ∷ ys) among h = ⊎_elim (λ same. subst P (sym same) h.0) (λ later. among_each P x ys later h.1) among

map_among : (e : Edge) (es : List Edge) → IsAmong e es → IsAmong e.child (map (λ (x : Edge). x.child) es)
map_among e [] h = absurd h
map_among e (x ∷ es) h = ⊎_elim (λ same. inl (ap (λ (y : Edge). y.child) same)) (λ later. inr (map_among e es later)) h

pub edge_leads : (p : Pair) (e : Edge) → IsAmong e (edges_from p) → (e.from ≡ p) × IsAmong e.child (children_from p)
edge_leads p e among =
    let each = each_edge (λ x. x.from ≡ p) p refl refl refl refl refl refl in
    (among_each (λ (x : Edge). x.from ≡ p) e (edges_from p) among each, map_among e (edges_from p) among)

children_drawn : (es : List Edge) → AllByRecursion (λ (e : Edge). is_drawn e.child ≡ true) es
    → AllByRecursion (λ q. is_drawn q ≡ true) (map (λ (e : Edge). e.child) es)
children_drawn [] h = tt
children_drawn (e ∷ es) h = (h.0, children_drawn es h.1)

pub child_is_drawn : (p child : Pair) → IsAmong child (children_from p) → is_drawn child ≡ true
child_is_drawn p child among =
    let each = each_edge (λ (e : Edge). is_drawn e.child ≡ true) p refl refl refl refl refl refl in
    among_each (λ q. is_drawn q ≡ true) child (children_from p) among (children_drawn (edges_from p) each)

pub edges_are_few : (p : Pair) → length (edges_from p) ≤ 2 ^ 30
edges_are_few p =
    of (nat_eq p.new.index 0) (nat_eq p.new.index 2) (nat_eq p.new.index 3) (nat_eq p.new.index 7)
    (nat_eq p.new.index 4)
  where
    of : (v w x y z : Bool)
        → length (if v then to p 1 1 ∷ [] else if w then to p 3 1 ∷ [] else if x then to p 2 1 ∷ []
        else if y then to p 8 1 ∷ [] else if z then to p 5 2 ∷ to p 6 2 ∷ [] else []) ≤ 1073741824
    of true w x y z = omega arith
    of false true x y z = omega arith
    of false false true y z = omega arith
    of false false false true z = omega arith
    of false false false false true = omega arith
    of false false false false false = omega arith

pub base_is_length : (n : ℕ) → IfSome (base_at n) (λ cost. (1 ≤ cost) × (cost ≤ cap))
base_is_length n = of (nat_eq n 0) (nat_eq n 1) (nat_eq n 4) (nat_eq n 5) (nat_eq n 6) (nat_eq n 8)
  where
    of : (u v w x y z : Bool)
        → IfSome (if u then Some 50 else if v then Some 7 else if w then Some 190 else if x then Some 30
        else if y then Some 60 else if z then Some 1073741824 else None) (λ cost. (1 ≤ cost) × (cost ≤ cap))
    of true v w x y z = (omega arith, omega arith)
    of false true w x y z = (omega arith, omega arith)
    of false false true x y z = (omega arith, omega arith)
    of false false false true y z = (omega arith, omega arith)
    of false false false false true z = (omega arith, omega arith)
    of false false false false false true = (omega arith, omega arith)
    of false false false false false false = tt

pub price_is_more : (number bound : ℕ) → 1 ≤ bound → IfSome (price number bound) (λ cost. (bound < cost) × (cost ≤ cap))
price_is_more number bound some = of (nat_eq number 1) (nat_le (3 * bound) cap) (nat_lt bound 100) refl refl
  where
    of : (x y z : Bool) → nat_le (3 * bound) cap ≡ y → nat_lt bound 100 ≡ z
        → IfSome (if x then (if y then Some (3 * bound) else None) else if z then Some (200 - bound)
        else None) (λ cost. (bound < cost) × (cost ≤ cap))
    of true true z h k = let below = leb-true (3 * bound) cap h in (omega arith, below)
    of true false z h k = tt
    of false y true h k = let below = ltb-true bound 100 k in (omega arith, omega arith)
    of false y false h k = tt

-- Pairs that are drawn are as few as their numbers.

abbrev number : Pair → ℕ
number p = p.new.index

numbers_apart : (p q : Pair) → is_drawn p ≡ true → is_drawn q ≡ true → same_pair p q ≡ false
    → eqb (number p) (number q) ≡ false
numbers_apart p q drawn_p drawn_q apart =
    ne_eqb (number p) (number q) (λ same.
    let old_p = eqb-true p.old.index 0 (and_parts (nat_eq p.old.index 0) (nat_lt p.new.index 9) drawn_p).0 in
    let old_q = eqb-true q.old.index 0 (and_parts (nat_eq q.old.index 0) (nat_lt q.new.index 9) drawn_q).0 in
    let alike : same_pair p q ≡ true =
    rw (eq-eqb p.old.index q.old.index (old_p ∙ sym old_q), eq-eqb p.new.index q.new.index same) refl in
    let no : true ≡ false = sym alike ∙ apart in cc)

each_apart : (p : Pair) (qs : List Pair) → is_drawn p ≡ true → AllByRecursion (λ q. is_drawn q ≡ true) qs
    → AllByRecursion (λ k. eqb (number p) k ≡ false) (map number (filter (λ q. not (same_pair p q)) qs))
each_apart p [] drawn each = tt
each_apart p (q ∷ qs) drawn each = of (same_pair p q) refl (each_apart p qs drawn each.1)
  where
    of : (b : Bool) → same_pair p q ≡ b
        → AllByRecursion (λ k. eqb (number p) k ≡ false) (map number (filter (λ x. not (same_pair p x)) qs))
        → AllByRecursion (λ k. eqb (number p) k ≡ false) (map number (filter (λ x. not (same_pair p x)) (q ∷ qs)))
    of true is rest = rw is rest
    of false is rest = rw is (numbers_apart p q drawn each.0 is, rest)

kept_each : (P : ℕ → Type 0) (test : Pair → Bool) (qs : List Pair) → AllByRecursion P (map number qs)
    → AllByRecursion P (map number (filter test qs))
kept_each P test [] h = tt
kept_each P test (q ∷ qs) h = of (test q) (kept_each P test qs h.1)
  where
    of : (b : Bool) → AllByRecursion P (map number (filter test qs))
        → AllByRecursion P (map number (cond b (q ∷ filter test qs) (filter test qs)))
    of true rest = (h.0, rest)
    of false rest = rest

kept_distinct : (test : Pair → Bool) (qs : List Pair) → IsDistinct eqb (map number qs)
    → IsDistinct eqb (map number (filter test qs))
unfolding IsDistinct
kept_distinct test [] h = tt
kept_distinct test (q ∷ qs) h = of (test q) (kept_distinct test qs h.1)
  where
    of : (b : Bool) → IsDistinct eqb (map number (filter test qs))
        → IsDistinct eqb (map number (cond b (q ∷ filter test qs) (filter test qs)))
    of true rest = (kept_each (λ k. eqb (number q) k ≡ false) test qs h.0, rest)
    of false rest = rest

each_filtered : (test : Pair → Bool) (qs : List Pair) → AllByRecursion (λ q. is_drawn q ≡ true) qs
    → AllByRecursion (λ q. is_drawn q ≡ true) (filter test qs)
each_filtered test [] h = tt
each_filtered test (q ∷ qs) h = of (test q) (each_filtered test qs h.1)
  where
    of : (b : Bool) → AllByRecursion (λ x. is_drawn x ≡ true) (filter test qs)
        → AllByRecursion (λ x. is_drawn x ≡ true) (cond b (q ∷ filter test qs) (filter test qs))
    of true rest = (h.0, rest)
    of false rest = rest

each_distinct : (ps : List Pair) → AllByRecursion (λ p. is_drawn p ≡ true) ps
    → AllByRecursion (λ p. is_drawn p ≡ true) (distinct ps)
each_distinct [] h = tt
each_distinct (p ∷ ps) h = (h.0, each_filtered (λ q. not (same_pair p q)) (distinct ps) (each_distinct ps h.1))

numbers_distinct : (ps : List Pair) → AllByRecursion (λ p. is_drawn p ≡ true) ps
    → IsDistinct eqb (map number (distinct ps))
unfolding IsDistinct
numbers_distinct [] each = tt
numbers_distinct (p ∷ ps) each = (
  each_apart p (distinct ps) each.0 (each_distinct ps each.1),
  kept_distinct (λ q. not (same_pair p q)) (distinct ps) (numbers_distinct ps each.1),
)

numbers_below : (ps : List Pair) → AllByRecursion (λ p. is_drawn p ≡ true) ps → (k : ℕ)
    → list_any (eqb k) (map number ps) ≡ true → k < 16777216
numbers_below [] each k h = absurd (cc)
numbers_below (p ∷ ps) each k h = of (eqb k (number p)) refl h (numbers_below ps each.1 k)
  where
    of : (b : Bool) → eqb k (number p) ≡ b → b || list_any (eqb k) (map number ps) ≡ true
        → (list_any (eqb k) (map number ps) ≡ true → k < 16777216) → k < 16777216
    of true is any later =
        let same : k ≡ p.new.index = eqb-true k (number p) is in
        let below = ltb-true p.new.index 9 (and_parts (nat_eq p.old.index 0) (nat_lt p.new.index 9) each.0).1 in
        omega arith
    of false is any later = later any

pub drawn_are_few : (ps : List Pair) → distinct ps ≡ ps → AllByRecursion (λ p. is_drawn p ≡ true) ps
    → length ps ≤ 2 ^ 24
drawn_are_few ps once drawn =
    let apart : IsDistinct eqb (map number ps) =
    subst (λ qs. IsDistinct eqb (map number qs)) once (numbers_distinct ps drawn) in
    let few = length-le_from_distinct_below (map number ps) 16777216 apart (numbers_below ps drawn) in
    subst (λ n. n ≤ 16777216) (length-map ps number) few
