-- The equation of least bounds has one solution.
use Rattle.std.proofs.Common.{◌≡◌, ℕ, zero, suc, ◌<◌, ◌≤◌, ◌⊎◌, List, [], ◌∷◌, map, nat_le, Bool, true, false, cond, is_some, option_and_then, Option, Some, None, inl, inr, ⊎_elim, refl, ap, sym, ◌∙◌, subst, arith, leb-true, leb-false}
use Rattle.pg_pairs.specs.declared.choices.choice.Pair.{Pair}
use Rattle.pg_pairs.specs.declared.graph.edge.Edge.{Edge}
use Rattle.pg_pairs.specs.bounds.Covering.{IsAmong}
use Rattle.pg_pairs.specs.choices.Choices.{Table, number_for}
use Rattle.pg_pairs.specs.graph.LeastOf.{cost_under, least_of, lesser_cost}
use Rattle.pg_least.specs.Least.{AllLeast, HasNumbers, OneSolution}
use Rattle.pg_least.proofs.Bounding.{among_map, map_among}

abbrev AtMost : Option ℕ → ℕ → Type 0
AtMost o n = (m : ℕ) × (o ≡ Some m) × (m ≤ n)

-- a least cost is one of the costs
pub least_among : (os : List (Option ℕ)) (n : ℕ) → least_of os ≡ Some n → IsAmong (Some n) os
least_among [] n h = absurd (cc)
least_among (o ∷ os) n h = ⊎_elim (λ first. inl (sym first)) (λ rest. inr (least_among os n rest)) (either o (least_of os) h)
  where
    either : (o p : Option ℕ) → lesser_cost o p ≡ Some n → (o ≡ Some n) ⊎ (p ≡ Some n)
    either None p k = inr k
    either (Some m) None k = inl k
    either (Some m) (Some l) k = elim (nat_le m l) as (λ b. cond b (Some m) (Some l) ≡ Some n → (Some m ≡ Some n) ⊎ (Some l ≡ Some n)) [ true ↦ λ x. inl x | false ↦ λ x. inr x ] k

-- and no more than any of them
least_below : (os : List (Option ℕ)) (n : ℕ) → IsAmong (Some n) os → AtMost (least_of os) n
least_below [] n h = absurd h
least_below (o ∷ os) n h = ⊎_elim (λ here. first o (least_of os) (sym here)) (λ later. second o (least_of os) (least_below os n later)) h
  where
    first : (o p : Option ℕ) → o ≡ Some n → AtMost (lesser_cost o p) n
    first None p k = absurd (cc)
    first (Some m) None k = let same : m ≡ n = cc in (m, refl, omega arith)
    first (Some m) (Some l) k = let same : m ≡ n = cc in of (nat_le m l) refl
      where
        of : (b : Bool) → nat_le m l ≡ b → AtMost (cond b (Some m) (Some l)) n
        of true t = let same : m ≡ n = cc in (m, refl, omega arith)
        of false t = let same : m ≡ n = cc in let above = leb-false m l t in (l, refl, omega arith)

    second : (o p : Option ℕ) → AtMost p n → AtMost (lesser_cost o p) n
    second None p k = k
    second (Some m) None (l, is, below) = absurd (cc)
    second (Some m) (Some l) (k, is, below) = let same : l ≡ k = cc in of (nat_le m l) refl
      where
        of : (b : Bool) → nat_le m l ≡ b → AtMost (cond b (Some m) (Some l)) n
        of true t = let same : l ≡ k = cc in let le = leb-true m l t in (m, refl, omega arith)
        of false t = let same : l ≡ k = cc in (l, refl, omega arith)

some_one : {A : Type 0} {x y : A} → Some x ≡ Some y → x ≡ y
some_one h = cc

-- a number in a table
pub number_is : (table : Table) (p : Pair) (n : ℕ) → number_for table p ≡ Some n → table p ≡ Some (Some n)
number_is table p n h = of (table p) h
  where
    of : (o : Option (Option ℕ)) → option_and_then (λ bound. bound) o ≡ Some n → o ≡ Some (Some n)
    of None k = absurd (cc)
    of (Some None) k = absurd (cc)
    of (Some (Some m)) k = ap Some k

module _ (edges : Pair → List Edge) (base : Pair → Option ℕ) (price : Edge → ℕ → Option ℕ) where
  abbrev Dearer : Table → Type 0
  Dearer s = (pair : Pair) (edge : Edge) (bound cost : ℕ) → is_some (s pair) ≡ true → IsAmong edge (edges pair) → 1 ≤ bound
      → price edge bound ≡ Some cost → bound < cost

  abbrev Below : Table → Table → ℕ → Type 0
  Below s t n = (p : Pair) → number_for s p ≡ Some n → AtMost (number_for t p) n

  -- what a table's bound comes from, another table has too, if they agree on smaller numbers
  step : (s t : Table) → ((pair : Pair) → is_some (s pair) ≡ is_some (t pair)) → HasNumbers s → Dearer s → AllLeast edges base price s → AllLeast edges base price t → (n : ℕ) → ((m : ℕ) → m < n → Below s t m × Below t s m) → Below s t n
  step s t same some dearer least_s least_t n before p is =
      let here = number_is s p n is in
      let (bound, there) = other (t p) (sym (same p) ∙ ap is_some here) in
      let (m, least, below) = least_below (base p ∷ map (cost_under price t) (edges p)) n (moved here (least_among (base p ∷ map (cost_under price s) (edges p)) n (sym (least_s p (Some n) here)))) in
      (m, ap (λ o. option_and_then (λ b. b) o) there ∙ least_t p bound there ∙ least, below)
    where
      other : (o : Option (Option ℕ)) → is_some o ≡ true → (bound : Option ℕ) × (o ≡ Some bound)
      other None h = absurd (cc)
      other (Some b) h = (b, refl)

      by_edge : (e : Edge) → IsAmong e (edges p) → s p ≡ Some (Some n) → (o : Option ℕ) → number_for s e.child ≡ o → option_and_then (price e) o ≡ Some n → cost_under price t e ≡ Some n
      by_edge e among here None none h = absurd (cc)
      by_edge e among here (Some m) child h =
          let above = dearer p e m n (ap is_some here) among (some e.child m (number_is s e.child m child)) h in
          let (l, child_t, low) = (before m above).0 e.child child in
          let (k, child_s, lower) = (before l (omega arith)).1 e.child child_t in
          let both : k ≡ m = some_one (sym child_s ∙ child) in
          let one : l ≡ m = omega arith in
          ap (λ o. option_and_then (price e) o) (child_t ∙ ap Some one) ∙ h

      moved : s p ≡ Some (Some n) → IsAmong (Some n) (base p ∷ map (cost_under price s) (edges p)) → IsAmong (Some n) (base p ∷ map (cost_under price t) (edges p))
      moved here h =
          ⊎_elim (λ at_base. inl at_base)
          (λ by. let (e, among, cost) = among_map (cost_under price s) (Some n) (edges p) by in
          inr (subst (λ o. IsAmong o (map (cost_under price t) (edges p))) (by_edge e among here (number_for s e.child) refl cost) (map_among (cost_under price t) e (edges p) among))) h

  module _ (s t : Table) (same : (pair : Pair) → is_some (s pair) ≡ is_some (t pair)) (some_s : HasNumbers s) (some_t : HasNumbers t) (dearer : Dearer s) (least_s : AllLeast edges base price s) (least_t : AllLeast edges base price t) where
    dearer_t : Dearer t
    dearer_t pair edge bound cost there = dearer pair edge bound cost (same pair ∙ there)

    all_below : (top n : ℕ) → n < top → Below s t n × Below t s n
    all_below zero n h = absurd (omega arith)
    all_below (suc top) n h = (
      step s t same some_s dearer least_s least_t n (λ m less. all_below top m (omega arith)),
      step t s (λ p. sym (same p)) some_t dearer_t least_t least_s n (λ m less. let both = all_below top m (omega arith) in (both.1, both.0)),
    )

    agree : (p : Pair) → s p ≡ t p
    agree p = of (s p) (t p) refl refl
      where
        number : Option (Option ℕ) → Option ℕ
        number o = option_and_then (λ bound. bound) o

        of : (a b : Option (Option ℕ)) → s p ≡ a → t p ≡ b → a ≡ b
        of None None x y = refl
        of None (Some b) x y = absurd (let no : false ≡ true = ap is_some (sym x) ∙ same p ∙ ap is_some y in cc)
        of (Some a) None x y = absurd (let no : true ≡ false = ap is_some (sym x) ∙ same p ∙ ap is_some y in cc)
        of (Some None) (Some None) x y = refl
        of (Some None) (Some (Some n)) x y = absurd (let (m, is, below) = (all_below (suc n) n (omega arith)).1 p (ap (λ o. option_and_then (λ bound. bound) o) y) in let no : Some m ≡ None = sym is ∙ ap (λ o. option_and_then (λ bound. bound) o) x in cc)
        of (Some (Some n)) (Some None) x y = absurd (let (m, is, below) = (all_below (suc n) n (omega arith)).0 p (ap (λ o. option_and_then (λ bound. bound) o) x) in let no : Some m ≡ None = sym is ∙ ap (λ o. option_and_then (λ bound. bound) o) y in cc)
        of (Some (Some n)) (Some (Some m)) x y =
            let s_is : number_for s p ≡ Some n = ap (λ o. option_and_then (λ bound. bound) o) x in
            let t_is : number_for t p ≡ Some m = ap (λ o. option_and_then (λ bound. bound) o) y in
            let (k, k_is, k_below) = (all_below (suc n) n (omega arith)).0 p s_is in
            let (l, l_is, l_below) = (all_below (suc m) m (omega arith)).1 p t_is in
            let k_same : k ≡ m = some_one (sym k_is ∙ t_is) in
            let l_same : l ≡ n = some_one (sym l_is ∙ s_is) in
            let one : n ≡ m = omega arith in
            ap (λ x. Some (Some x)) one

pub one_solution : OneSolution
one_solution edges base price s t same some_s some_t dearer least_s least_t = agree edges base price s t same some_s some_t dearer least_s least_t
