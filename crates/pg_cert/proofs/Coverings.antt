-- A table covers its root exactly where it has no fault.
use Rattle.std.proofs.Common.{arith, ◌≡◌, ℕ, ◌≤◌, List, [], ◌∷◌, Bool, true, false, not, ◌&&◌, nat_le, cond, Option, Some, None, option_map, is_some, find, refl, ap, sym, subst, if◌then◌else◌}
use Rattle.std.specs.List.{AllByRecursion}
use Rattle.std.specs.Option.{option_or}
use Rattle.std.proofs.lemmas.Bool.{and_parts, leb-true, le-leb}
use Rattle.pg_schema.specs.Shape.{Shape}
use Rattle.pg_dyn.proofs.Lists.{each_weaker}
use Rattle.pg_pairs.specs.laws.EdgeChildren.{same_pair-true}
use Rattle.pg_pairs.specs.declared.choices.choice.Choice.{Choice}
use Rattle.pg_pairs.specs.declared.choices.choice.Pair.{Pair}
use Rattle.pg_pairs.specs.views.EnumView.{EnumView}
use Rattle.pg_pairs.specs.choices.Choices.{Table, choices, cheapest}
use Rattle.pg_pairs.specs.laws.CheapestLaws.{IsCheapest, CheapestIsLeast}
use Rattle.pg_pairs.specs.bounds.Covering.{same_pair, children, IsThere, IsWithin, IsCovered}
use Rattle.pg_cert.specs.declared.bounds.PairBound.{PairBound}
use Rattle.pg_cert.specs.declared.error.CertError.TheVariants.{RootMissing, PairMissing}
use Rattle.pg_cert.specs.Certificate.{is_bound, bound_in, are_bounds}
use Rattle.pg_cert.specs.Faults.{is_within, missing_child, cheaper_choice, too_high, pair_fault, first_pair_fault, root_fault}
use Rattle.pg_cert.specs.laws.CertificateLaws.{CoversWithoutFault}
use Rattle.pg_cert.proofs.Tables.{same_pair-refl, same_pair-sym}

-- two answers of which the first counts
none_of_both : {A : Type 0} (a b : Option A) → option_or a b ≡ None → (a ≡ None) × (b ≡ None)
none_of_both None b h = (refl, h)
none_of_both (Some x) b h = absurd (cc)

both_none : {A : Type 0} (a b : Option A) → a ≡ None → b ≡ None → option_or a b ≡ None
both_none a b h k = rw h k

map_none : {A B : Type 0} (f : A → B) (o : Option A) → option_map f o ≡ None → o ≡ None
map_none f None h = refl
map_none f (Some x) h = absurd (cc)

-- a search that finds nothing
find_none : {A : Type 0} (test : A → Bool) (xs : List A) → find test xs ≡ None → AllByRecursion (λ x. test x ≡ false) xs
find_none test [] h = tt
find_none {A} test (x ∷ xs) h = of (test x) refl (λ k. find_none test xs k) h
  where
    of : (b : Bool) → test x ≡ b → (find test xs ≡ None → AllByRecursion (λ y. test y ≡ false) xs) → cond b (Some x) (find test xs) ≡ None → (test x ≡ false) × AllByRecursion (λ y. test y ≡ false) xs
    of true e later h = absurd (cc)
    of false e later h = (e, later h)

none_found : {A : Type 0} (test : A → Bool) (xs : List A) → AllByRecursion (λ x. test x ≡ false) xs → find test xs ≡ None
none_found test [] h = refl
none_found test (x ∷ xs) h = rw h.0 (none_found test xs h.1)

true_from : (b : Bool) → not b ≡ false → b ≡ true
true_from true h = refl
true_from false h = absurd (cc)

false_from : (b : Bool) → b ≡ true → not b ≡ false
false_from true h = refl
false_from false h = absurd (cc)

within : (bound : Option ℕ) (cost : ℕ) → not (is_within bound cost) ≡ false → IsWithin bound cost
within (Some b) cost h = leb-true b cost (true_from (nat_le b cost) h)
within None cost h = absurd (cc)

not_below : (bound : Option ℕ) (cost : ℕ) → IsWithin bound cost → not (is_within bound cost) ≡ false
not_below (Some b) cost h = false_from (nat_le b cost) (le-leb b cost h)
not_below None cost h = absurd h

module _ (enum_view : EnumView) (old new : Shape) (table : Table) where
  covered : (b : PairBound) → pair_fault enum_view old new table b ≡ None → IsCovered enum_view old new table b.pair b.bound
  covered b h =
      let parts = none_of_both (option_map (λ child. PairMissing child) (missing_child old new table b.pair)) (option_map (too_high b.pair) (cheaper_choice enum_view old new table b)) h in
      record {
        children_there = each_weaker (λ child. not (is_some (table child)) ≡ false) (IsThere table) (λ child k. true_from (is_some (table child)) k) (children old new b.pair)
            (find_none (λ child. not (is_some (table child))) (children old new b.pair) (map_none (λ child. PairMissing child) (missing_child old new table b.pair) parts.0));
        bound_below = each_weaker (λ (c : Choice). not (is_within b.bound c.cost) ≡ false) (λ (c : Choice). IsWithin b.bound c.cost) (λ c k. within b.bound c.cost k) (choices enum_view table old new b.pair)
            (find_none (λ (c : Choice). not (is_within b.bound c.cost)) (choices enum_view table old new b.pair) (map_none (too_high b.pair) (cheaper_choice enum_view old new table b) parts.1));
      }

  faultless : (b : PairBound) → IsCovered enum_view old new table b.pair b.bound → pair_fault enum_view old new table b ≡ None
  faultless b is =
      both_none (option_map (λ child. PairMissing child) (missing_child old new table b.pair)) (option_map (too_high b.pair) (cheaper_choice enum_view old new table b))
      (ap (option_map (λ child. PairMissing child))
      (none_found (λ child. not (is_some (table child))) (children old new b.pair) (each_weaker (IsThere table) (λ child. not (is_some (table child)) ≡ false) (λ child k. false_from (is_some (table child)) k) (children old new b.pair) is.children_there)))
      (ap (option_map (too_high b.pair))
      (none_found (λ (c : Choice). not (is_within b.bound c.cost)) (choices enum_view table old new b.pair)
      (each_weaker (λ (c : Choice). IsWithin b.bound c.cost) (λ (c : Choice). not (is_within b.bound c.cost) ≡ false) (λ c k. not_below b.bound c.cost k) (choices enum_view table old new b.pair) is.bound_below)))

  -- the bounds of a list without a fault
  each_covered : (bounds : List PairBound) → first_pair_fault enum_view old new table bounds ≡ None → (pair : Pair) (bound : Option ℕ) → bound_in bounds pair ≡ Some bound → IsCovered enum_view old new table pair bound
  each_covered [] h pair bound found = absurd (cc)
  each_covered (b ∷ bounds) h pair bound found = of (same_pair pair b.pair) refl (λ k. each_covered bounds parts.1 pair bound k) found
    where
      parts : (pair_fault enum_view old new table b ≡ None) × (first_pair_fault enum_view old new table bounds ≡ None)
      parts = none_of_both (pair_fault enum_view old new table b) (first_pair_fault enum_view old new table bounds) h

      of : (t : Bool) → same_pair pair b.pair ≡ t → (bound_in bounds pair ≡ Some bound → IsCovered enum_view old new table pair bound) → option_map (λ (x : PairBound). x.bound) (cond t (Some b) (find (λ (x : PairBound). same_pair pair x.pair) bounds)) ≡ Some bound → IsCovered enum_view old new table pair bound
      of true e later found =
          let same : b.pair ≡ pair = sym (same_pair-true pair b.pair e) in
          let bound_is : b.bound ≡ bound = cc in
          subst (λ x. IsCovered enum_view old new table pair x) bound_is (subst (λ p. IsCovered enum_view old new table p b.bound) same (covered b parts.0))
      of false e later found = later found

  none_faulty : (bounds : List PairBound) → AllByRecursion (λ (b : PairBound). table b.pair ≡ Some b.bound) bounds → ((pair : Pair) (bound : Option ℕ) → table pair ≡ Some bound → IsCovered enum_view old new table pair bound) → first_pair_fault enum_view old new table bounds ≡ None
  none_faulty [] there each = refl
  none_faulty (b ∷ bounds) there each =
      both_none (pair_fault enum_view old new table b) (first_pair_fault enum_view old new table bounds) (faultless b (each b.pair b.bound there.0)) (none_faulty bounds there.1 each)

-- Where each pair is there once, its bound is the one next to it.
no_bound : (bounds : List PairBound) (pair : Pair) → is_some (bound_in bounds pair) ≡ false → AllByRecursion (λ (b : PairBound). same_pair pair b.pair ≡ false) bounds
no_bound [] pair h = tt
no_bound (b ∷ bounds) pair h = of (same_pair pair b.pair) refl (λ k. no_bound bounds pair k) h
  where
    of : (t : Bool) → same_pair pair b.pair ≡ t → (is_some (bound_in bounds pair) ≡ false → AllByRecursion (λ (x : PairBound). same_pair pair x.pair ≡ false) bounds) → is_some (option_map (λ (x : PairBound). x.bound) (cond t (Some b) (find (λ (x : PairBound). same_pair pair x.pair) bounds))) ≡ false → (same_pair pair b.pair ≡ false) × AllByRecursion (λ (x : PairBound). same_pair pair x.pair ≡ false) bounds
    of true e later h = absurd (cc)
    of false e later h = (e, later h)

apart : (p q : Pair) → same_pair p q ≡ false → same_pair q p ≡ false
apart p q h = of (same_pair q p) refl
  where
    of : (t : Bool) → same_pair q p ≡ t → t ≡ false
    of false e = refl
    of true e = absurd (let back = same_pair-sym q p e in cc)

beyond : (b : PairBound) (whole bounds : List PairBound) → AllByRecursion (λ (x : PairBound). same_pair b.pair x.pair ≡ false) bounds → AllByRecursion (λ (x : PairBound). bound_in whole x.pair ≡ Some x.bound) bounds → AllByRecursion (λ (x : PairBound). bound_in (b ∷ whole) x.pair ≡ Some x.bound) bounds
beyond b whole [] h k = tt
beyond b whole (x ∷ bounds) h k = (rw (apart b.pair x.pair h.0) k.0, beyond b whole bounds h.1 k.1)

each_there : (bounds : List PairBound) → are_bounds bounds ≡ true → AllByRecursion (λ (b : PairBound). bound_in bounds b.pair ≡ Some b.bound) bounds
each_there [] h = tt
each_there (b ∷ bounds) h =
    let parts = and_parts (is_bound b.bound && not (is_some (bound_in bounds b.pair))) (are_bounds bounds) h in
    let once = (and_parts (is_bound b.bound) (not (is_some (bound_in bounds b.pair))) parts.0).1 in
    (rw (same_pair-refl b.pair) refl, beyond b bounds bounds (no_bound bounds b.pair (absent (is_some (bound_in bounds b.pair)) once)) (each_there bounds parts.1))
  where
    absent : (t : Bool) → not t ≡ true → t ≡ false
    absent false h = refl
    absent true h = absurd (cc)

root_is_there : (table : Table) (root : Pair) → root_fault table root ≡ None → is_some (table root) ≡ true
root_is_there table root h = of (is_some (table root)) h
  where
    of : (t : Bool) → (if t then None else Some RootMissing) ≡ None → t ≡ true
    of true h = refl
    of false h = absurd (cc)

pub covers_without_fault : CoversWithoutFault
covers_without_fault enum_view old new bounds root distinct = (
  λ h.
      let parts = none_of_both (root_fault (bound_in bounds) root) (first_pair_fault enum_view old new (bound_in bounds) bounds) h in
      record { root_there = root_is_there (bound_in bounds) root parts.0; each = each_covered enum_view old new (bound_in bounds) bounds parts.1 },
  λ covers.
      both_none (root_fault (bound_in bounds) root) (first_pair_fault enum_view old new (bound_in bounds) bounds) (rw covers.root_there refl)
      (none_faulty enum_view old new (bound_in bounds) bounds (each_there bounds distinct) covers.each),
)

-- what is within the least cost is within each
within_more : (bound : Option ℕ) (least cost : ℕ) → is_within bound least ≡ true → least ≤ cost → is_within bound cost ≡ true
within_more (Some b) least cost h more = le-leb b cost (omega (arith, leb-true b least h, more))
within_more None least cost h more = absurd (cc)

-- where the cheapest choice isn't below the bound, none is
pub none_cheaper : (bound : Option ℕ) (cs : List Choice) (c : Choice) → CheapestIsLeast → cheapest cs ≡ Some c → is_within bound c.cost ≡ true → find (λ (d : Choice). not (is_within bound d.cost)) cs ≡ None
none_cheaper bound cs c least is inside =
    let all = subst (λ found. IsCheapest found cs) is (least cs) in
    none_found (λ (d : Choice). not (is_within bound d.cost)) cs
    (each_weaker (λ (d : Choice). c.cost ≤ d.cost) (λ (d : Choice). not (is_within bound d.cost) ≡ false) (λ d more. false_from (is_within bound d.cost) (within_more bound c.cost d.cost inside more)) cs all.1)
