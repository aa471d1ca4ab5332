-- Arcs that rise by the indices that they lead to.
use Rattle.std.proofs.Common.{◌≡◌, ℕ, zero, suc, ◌+◌, ◌-◌, ◌<◌, ◌≤◌, List, [], ◌∷◌, length, get_or, take, drop, length-drop, get_or-drop, true, false, ltb, leb, ltb-true, leb-true, eq-eqb, ne_eqb, ap, subst, refl, ◌∙◌, arith}
use Rattle.std.proofs.lemmas.Bool.{leb-false, ltb-false}
use Rattle.std.specs.List.Sorted.{IsPartitionPoint}
use Rattle.pg_least.specs.declared.arcs.Arc.{Arc}
use Rattle.pg_least.specs.inner.Graphs.{arcs_to}

-- the arcs to an index are next to each other
together : (xs : List Arc) (at s n : ℕ) → s + n ≤ length xs → ((k : ℕ) (d : Arc) → k < s → (get_or xs k d).child < at) → ((k : ℕ) (d : Arc) → s ≤ k → k < s + n → (get_or xs k d).child ≡ at)
    → ((k : ℕ) (d : Arc) → s + n ≤ k → k < length xs → at < (get_or xs k d).child) → take n (drop s xs) ≡ arcs_to xs at
together [] at zero zero within below here above = refl
together [] at (suc s) n within below here above = absurd (omega arith)
together [] at zero (suc n) within below here above = absurd (omega arith)
together (x ∷ xs) at zero zero within below here above =
    let far = above zero x (omega arith) (omega arith) in
    rw (ne_eqb x.child at (λ same. omega arith)) (together xs at zero zero (omega arith) (λ k d h. absurd (omega arith)) (λ k d h i. absurd (omega arith)) (λ k d h i. above (suc k) d (omega arith) (omega arith)))
together (x ∷ xs) at zero (suc n) within below here above =
    let own = here zero x (omega arith) (omega arith) in
    rw (eq-eqb x.child at own)
    (ap (λ ys. x ∷ ys) (together xs at zero n (omega arith) (λ k d h. absurd (omega arith)) (λ k d h i. here (suc k) d (omega arith) (omega arith)) (λ k d h i. above (suc k) d (omega arith) (omega arith))))
together (x ∷ xs) at (suc s) n within below here above =
    let near = below zero x (omega arith) in
    rw (ne_eqb x.child at (λ same. omega arith))
    (together xs at s n (omega arith) (λ k d h. below (suc k) d (omega arith)) (λ k d h i. here (suc k) d (omega arith) (omega arith)) (λ k d h i. above (suc k) d (omega arith) (omega arith)))

-- what is left at the first that isn't below, up to the last that isn't above
pub cut : (xs : List Arc) (at s n : ℕ) → s ≤ length xs → n ≤ length (drop s xs) → IsPartitionPoint (λ (y : Arc). ltb y.child at ≡ true) (λ (y : Arc). ltb y.child at ≡ false) xs s
    → IsPartitionPoint (λ (y : Arc). leb y.child at ≡ true) (λ (y : Arc). leb y.child at ≡ false) (drop s xs) n → take n (drop s xs) ≡ arcs_to xs at
cut xs at s n inside within lower upper =
    let long = length-drop s xs in
    together xs at s n (omega arith)
    (λ k d h. ltb-true (get_or xs k d).child at (lower.0 k d (omega arith) h))
    (λ k d h i.
    let low = ltb-false (get_or xs k d).child at (lower.1 k d h (omega arith)) in
    let high = leb-true (get_or xs k d).child at (subst (λ (a : Arc). leb a.child at ≡ true) (from_start k d h) (upper.0 (k - s) d (omega arith) (omega arith))) in
    omega arith)
    (λ k d h i. leb-false (get_or xs k d).child at (subst (λ (a : Arc). leb a.child at ≡ false) (from_start k d (omega arith)) (upper.1 (k - s) d (omega arith) (omega arith))))
  where
    from_start : (k : ℕ) (d : Arc) → s ≤ k → get_or (drop s xs) (k - s) d ≡ get_or xs k d
    from_start k d h = get_or-drop s xs (k - s) d ∙ ap (λ i. get_or xs i d) (let same : s + (k - s) ≡ k = omega arith in same)
