-- Settling indices one after the other: at the start, one more, and at the end.
use Rattle.std.proofs.Common.{◌≡◌, ℕ, zero, suc, ◌+◌, ◌<◌, ◌≤◌, ◌⊎◌, nat_eq, eqb-true, eq-eqb, ne_eqb, List, [], ◌∷◌, ◌++◌, length, set, replicate, filter, Bool, true, false, cond, ◌||◌, is_some, Option, Some, None, inl, inr, ⊎_elim, refl, ap, ap₂, sym, ◌∙◌, subst, arith, get_or-set_same, get_or-set_other}
use Rattle.std.specs.declared.cmp.Reverse.{Reverse}
use Rattle.std.specs.List.{AllByRecursion}
use Rattle.pg_pairs.proofs.lemmas.choices.Among.{among_each}
use Rattle.pg_pairs.specs.declared.graph.edge.Edge.{Edge}
use Rattle.pg_least.specs.declared.arcs.Arc.{Arc}
use Rattle.pg_pairs.specs.bounds.Covering.{IsAmong}
use Rattle.pg_pairs.specs.bounds.LeastCosts.{IsNoMore}
use Rattle.pg_least.specs.inner.Relaxing.{AreNumbers, IsBalanced, Stands, cost_at, is_set, offer, waits}
use Rattle.pg_least.specs.inner.Graphs.{arcs_by, arcs_to, arcs_to_settled, arcs_to_numbers, left}
use Rattle.pg_least.proofs.Lists.{among_left, among_right}
use Rattle.pg_least.proofs.Steps.{no_more-same, place_cases, not_both}

-- Parts of lists.

among_kept : {A : Type 0} (test : A → Bool) (x : A) (xs : List A) → IsAmong x xs → test x ≡ true → IsAmong x (filter test xs)
among_kept test x [] among h = absurd among
among_kept test x (y ∷ ys) among h =
    ⊎_elim
    (λ same. let here : test y ≡ true = subst (λ z. test z ≡ true) same h in subst (λ b. IsAmong x (cond b (y ∷ filter test ys) (filter test ys))) (sym here) (inl same))
    (λ later. of (test y) (among_kept test x ys later h)) among
  where
    of : (b : Bool) → IsAmong x (filter test ys) → IsAmong x (cond b (y ∷ filter test ys) (filter test ys))
    of true m = inr m
    of false m = m

-- each that is kept, with its test
each_kept : {A : Type 0} (test : A → Bool) (P : A → Type 0) (xs : List A) → ((x : A) → IsAmong x xs → test x ≡ true → P x) → AllByRecursion P (filter test xs)
each_kept test P [] h = tt
each_kept {A} test P (x ∷ xs) h = of (test x) refl (each_kept test P xs (λ y among. h y (inr among)))
  where
    of : (b : Bool) → test x ≡ b → AllByRecursion P (filter test xs) → AllByRecursion P (cond b (x ∷ filter test xs) (filter test xs))
    of true is rest = (h x (inl refl) is, rest)
    of false is rest = rest

few_kept : {A : Type 0} (test : A → Bool) (xs : List A) → length (filter test xs) ≤ length xs
few_kept test [] = omega arith
few_kept test (x ∷ xs) = of (test x) (few_kept test xs)
  where
    of : (b : Bool) → length (filter test xs) ≤ length xs → length (cond b (x ∷ filter test xs) (filter test xs)) ≤ suc (length xs)
    of true h = omega arith
    of false h = omega arith

kept_alike : {A : Type 0} (p q : A → Bool) (xs : List A) → ((x : A) → p x ≡ q x) → filter p xs ≡ filter q xs
kept_alike p q [] h = refl
kept_alike p q (x ∷ xs) h = ap (λ b. cond b (x ∷ filter p xs) (filter p xs)) (h x) ∙ ap (λ ys. cond (q x) (x ∷ ys) ys) (kept_alike p q xs h)

-- Indices that are settled.

is_set-none : (n i : ℕ) → is_set (replicate n false) i ≡ false
is_set-none zero i = refl
is_set-none (suc n) zero = refl
is_set-none (suc n) (suc i) = is_set-none n i

or_none : (b : Bool) → (b || false) ≡ b
or_none true = refl
or_none false = refl

pub long_none : (n : ℕ) → length (replicate n false) ≡ n
long_none zero = refl
long_none (suc n) = ap suc (long_none n)

pub one_less : (settled : List Bool) (at : ℕ) → at < length settled → is_set settled at ≡ false → left (set settled at true) < left settled
one_less [] at within fresh = absurd (omega arith)
one_less (true ∷ settled) zero within fresh = absurd (cc)
one_less (false ∷ settled) zero within fresh = omega arith
one_less (true ∷ settled) (suc at) within fresh = one_less settled at (omega arith) fresh
one_less (false ∷ settled) (suc at) within fresh = let later = one_less settled at (omega arith) fresh in omega arith

module _ (settled : List Bool) (at : ℕ) (within : at < length settled) (fresh : is_set settled at ≡ false) where
  abbrev after : List Bool
  after = set settled at true

  -- an arc leads to an index that is settled now if it led to one before, or leads to the new one
  three : (i : ℕ) → ((nat_eq i at ≡ true) × (is_set after i ≡ true) × (is_set settled i ≡ false)) ⊎ ((nat_eq i at ≡ false) × (is_set after i ≡ is_set settled i))
  three i =
      ⊎_elim (λ same. inl (eq-eqb i at same, ap (is_set after) same ∙ get_or-set_same settled at true false within, ap (is_set settled) same ∙ fresh))
      (λ apart. inr (ne_eqb i at apart, get_or-set_other settled at i true false apart)) (place_cases i at)

  -- how many arcs there are with one more in front, where it is one of them
  abbrev lengths : (x y z : Bool) → Arc → List Arc → Type 0
  lengths x y z a arcs = length (cond x (a ∷ arcs_to_settled arcs after) (arcs_to_settled arcs after))
      ≡ length (cond y (a ∷ arcs_to_settled arcs settled) (arcs_to_settled arcs settled))
      + length (cond z (a ∷ arcs_to arcs at) (arcs_to arcs at))

  with_one : (a : Arc) (arcs : List Arc) (y z : Bool) → ((z ≡ true) × (y ≡ false)) ⊎ (z ≡ false) → length (arcs_to_settled arcs after) ≡ length (arcs_to_settled arcs settled) + length (arcs_to arcs at) → lengths (y || z) y z a arcs
  with_one a arcs true true (inl (h, k)) rest = absurd (cc)
  with_one a arcs true true (inr k) rest = absurd (cc)
  with_one a arcs false true k rest = omega arith
  with_one a arcs true false k rest = omega arith
  with_one a arcs false false k rest = omega arith

  pub one_more_settled : (arcs : List Arc) → length (arcs_to_settled arcs after) ≡ length (arcs_to_settled arcs settled) + length (arcs_to arcs at)
  one_more_settled [] = refl
  one_more_settled (a ∷ arcs) =
      ⊎_elim
      (λ (is_at, now, before). subst (λ x. lengths x (is_set settled a.child) (nat_eq a.child at) a arcs) (ap₂ ◌||◌ before is_at ∙ sym now) (with_one a arcs (is_set settled a.child) (nat_eq a.child at) (inl (is_at, before)) (one_more_settled arcs)))
      (λ (not_at, same). subst (λ x. lengths x (is_set settled a.child) (nat_eq a.child at) a arcs) (ap (λ z. is_set settled a.child || z) not_at ∙ or_none (is_set settled a.child) ∙ sym same) (with_one a arcs (is_set settled a.child) (nat_eq a.child at) (inr not_at) (one_more_settled arcs)))
      (three a.child)

-- At the start nothing is settled, and all costs wait.
pub at_start : (price : Edge → ℕ → Option ℕ) (arcs : List Arc) (costs : List (Option ℕ)) (settled : List Bool) (n : ℕ) (heap : List (Reverse (ℕ × ℕ))) → settled ≡ replicate n false → ((i c : ℕ) → cost_at costs i ≡ Some c → waits heap c i ≡ true) → AreNumbers costs
    → Stands (arcs_by price) arcs costs [] costs settled heap 0
at_start price arcs costs settled n heap none waiting numbers = record {
  below_base = λ i. no_more-same (cost_at costs i);
  done_settled = λ a among. absurd among;
  below_offers = λ a among. absurd among;
  offered = λ i c is. inl is;
  low = λ i h. absurd (not_both h (fresh i));
  high = λ k d within. omega arith;
  live = λ i c is open_i. waiting i c is;
  numbers = numbers;
}
  where
    fresh : (i : ℕ) → is_set settled i ≡ false
    fresh i = ap (λ s. is_set s i) none ∙ is_set-none n i

pub none_settled : (arcs : List Arc) (settled : List Bool) (n : ℕ) → settled ≡ replicate n false → (a : Arc) → is_set settled a.child ≡ true → ⊥
none_settled arcs settled n none a h = not_both h (ap (λ s. is_set s a.child) none ∙ is_set-none n a.child)

pub none_counted : (arcs : List Arc) (settled : List Bool) (n : ℕ) → settled ≡ replicate n false → arcs_to_settled arcs settled ≡ []
none_counted [] settled n none = refl
none_counted (a ∷ arcs) settled n none = let fresh : is_set settled a.child ≡ false = ap (λ s. is_set s a.child) none ∙ is_set-none n a.child in rw fresh (none_counted arcs settled n none)

pub few_settled : (arcs : List Arc) (settled : List Bool) → length (arcs_to_settled arcs settled) ≤ length arcs
few_settled arcs settled = few_kept (λ (a : Arc). is_set settled a.child) arcs

pub each_to : (P : Arc → Type 0) (arcs : List Arc) (at : ℕ) → AllByRecursion P arcs → AllByRecursion P (arcs_to arcs at)
each_to P arcs at each = each_kept (λ (a : Arc). nat_eq a.child at) P arcs (λ a among is. among_each P a arcs among each)

-- the arcs to an index that is settled now
pub each_to_new : (arcs : List Arc) (costs : List (Option ℕ)) (settled : List Bool) (at bound : ℕ) → at < length settled → cost_at costs at ≡ Some bound
    → AllByRecursion (λ a. IsAmong a arcs × (is_set (set settled at true) a.child ≡ true) × (cost_at costs a.child ≡ Some bound)) (arcs_to arcs at)
each_to_new arcs costs settled at bound within is =
    each_kept (λ (a : Arc). nat_eq a.child at) (λ a. IsAmong a arcs × (is_set (set settled at true) a.child ≡ true) × (cost_at costs a.child ≡ Some bound)) arcs
    (λ a among same. let here : a.child ≡ at = eqb-true a.child at same in (among, ap (is_set (set settled at true)) here ∙ get_or-set_same settled at true false within, ap (cost_at costs) here ∙ is))

-- an arc to a settled index is done
pub done_on : (arcs done : List Arc) (settled : List Bool) (at : ℕ) → ((a : Arc) → IsAmong a arcs → is_set settled a.child ≡ true → IsAmong a done)
    → (a : Arc) → IsAmong a arcs → is_set (set settled at true) a.child ≡ true → IsAmong a (done ++ arcs_to arcs at)
done_on arcs done settled at before a among h =
    ⊎_elim (λ same. among_right a done (arcs_to arcs at) (among_kept (λ (x : Arc). nat_eq x.child at) a arcs among (eq-eqb a.child at same)))
    (λ apart. among_left a done (arcs_to arcs at) (before a among (sym (get_or-set_other settled at a.child true false apart) ∙ h))) (place_cases a.child at)

-- At the end.
module _ (price : Edge → ℕ → Option ℕ) (arcs done : List Arc) (bases costs : List (Option ℕ)) (settled : List Bool) (heap : List (Reverse (ℕ × ℕ))) (level : ℕ) (s : Stands (arcs_by price) arcs bases done costs settled heap level) (all_done : (a : Arc) → IsAmong a arcs → is_set settled a.child ≡ true → IsAmong a done) (all_settled : (i c : ℕ) → cost_at costs i ≡ Some c → is_set settled i ≡ true) where
  pub balanced : IsBalanced (arcs_by price) arcs bases costs
  balanced = record {
    below_base = s.below_base;
    below_offers = λ a among. of a among (cost_at costs a.child) refl;
    offered = λ i c is. ⊎_elim (λ base. inl base) (λ (a, among, from, child, cost). inr (a, among, from, cost)) (s.offered i c is);
    numbers = s.numbers;
  }
    where
      of : (a : Arc) → IsAmong a arcs → (o : Option ℕ) → cost_at costs a.child ≡ o → IsNoMore (cost_at costs a.from) (offer (arcs_by price) costs a)
      of a among None none = rw none tt
      of a among (Some c) is = s.below_offers a (all_done a among (all_settled a.child c is))

  pub counted : arcs_to_settled arcs settled ≡ arcs_to_numbers arcs costs
  counted = kept_alike (λ (a : Arc). is_set settled a.child) (λ (a : Arc). is_some (cost_at costs a.child)) arcs (λ a. of a.child (cost_at costs a.child) (is_set settled a.child) refl refl)
    where
      of : (i : ℕ) (o : Option ℕ) (b : Bool) → cost_at costs i ≡ o → is_set settled i ≡ b → is_set settled i ≡ is_some (cost_at costs i)
      of i None false none fresh = rw (none, fresh) refl
      of i (Some c) true is done_i = rw (is, done_i) refl
      of i (Some c) false is fresh = absurd (not_both (all_settled i c is) fresh)
      of i None true none done_i = let (c, is, below) = s.low i done_i in absurd (let no : Some c ≡ None = sym is ∙ none in cc)
