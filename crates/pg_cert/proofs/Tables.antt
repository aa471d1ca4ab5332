-- Look-ups in a list of bounds, and lists in which each pair is there once.
use Rattle.std.proofs.Common.{◌≡◌, ℕ, ◌+◌, ◌<◌, List, [], ◌∷◌, ◌++◌, map, take, drop, length, get_or, Bool, true, false, not, ◌&&◌, nat_eq, cond, Option, Some, None, option_map, is_some, find, refl, ap, sym, ◌∙◌, subst, suc, add-one, drop-cons}
use Rattle.std.specs.Map.{lookup}
use Rattle.std.proofs.lemmas.Bool.{and_parts, eq-eqb}
use Rattle.std.proofs.lemmas.List.{take-append-drop}
use Rattle.std.proofs.Math.Seq.{take-suc}
use Rattle.pg_pairs.specs.laws.EdgeChildren.{same_pair-true}
use Rattle.pg_pairs.specs.declared.choices.choice.Pair.{Pair}
use Rattle.pg_pairs.specs.bounds.Covering.{same_pair}
use Rattle.pg_cert.specs.declared.bounds.PairBound.{PairBound}
use Rattle.pg_cert.specs.Certificate.{is_bound, bound_in, are_bounds}
use Rattle.pg_cert.specs.inner.Entries.{bound_of}

-- the entry of a pair is its bound
pub lookup-bound : (entries : List ((ℕ × ℕ) × Option ℕ)) (pair : Pair) → lookup (λ (key : ℕ × ℕ). nat_eq pair.old.index key.0 && nat_eq pair.new.index key.1) entries ≡ bound_in (map bound_of entries) pair
lookup-bound [] pair = refl
lookup-bound (e ∷ es) pair =
    elim (nat_eq pair.old.index e.0.0 && nat_eq pair.new.index e.0.1)
    as (λ b. cond b (Some e.1) (lookup (λ (key : ℕ × ℕ). nat_eq pair.old.index key.0 && nat_eq pair.new.index key.1) es) ≡ option_map (λ (x : PairBound). x.bound) (cond b (Some (bound_of e)) (find (λ (x : PairBound). same_pair pair x.pair) (map bound_of es))))
    [ true ↦ refl | false ↦ lookup-bound es pair ]

pub same_pair-refl : (p : Pair) → same_pair p p ≡ true
same_pair-refl p = rw (eq-eqb p.old.index p.old.index refl, eq-eqb p.new.index p.new.index refl) refl

pub same_pair-sym : (p q : Pair) → same_pair p q ≡ true → same_pair q p ≡ true
same_pair-sym p q h = subst (λ r. same_pair r p ≡ true) (same_pair-true p q h) (same_pair-refl p)

false_unless : (a b : Bool) → (a ≡ true → b ≡ true) → b ≡ false → a ≡ false
false_unless false b h e = refl
false_unless true b h e = absurd (let t = h refl in cc)

-- a pair of the list is found
pub bound_in-there : (front : List PairBound) (b : PairBound) (rest : List PairBound) (p : Pair) → same_pair p b.pair ≡ true → is_some (bound_in (front ++ b ∷ rest) p) ≡ true
bound_in-there [] b rest p h = rw h refl
bound_in-there (x ∷ front) b rest p h =
    elim (same_pair p x.pair) as (λ t. is_some (option_map (λ (y : PairBound). y.bound) (cond t (Some x) (find (λ (y : PairBound). same_pair p y.pair) (front ++ b ∷ rest)))) ≡ true)
    [ true ↦ refl | false ↦ bound_in-there front b rest p h ]

not_some : {A : Type 0} (o : Option A) → is_some o ≡ true → not (is_some o) ≡ true → ⊥
not_some None h k = cc
not_some (Some x) h k = cc

-- Of a list in which each pair is there once no pair is among those before it, and each bound is one.
pub parts_of_bounds : (front : List PairBound) (b : PairBound) (rest : List PairBound) → are_bounds (front ++ b ∷ rest) ≡ true → (is_bound b.bound ≡ true) × (bound_in front b.pair ≡ None)
parts_of_bounds [] b rest h =
    let parts = and_parts (is_bound b.bound && not (is_some (bound_in rest b.pair))) (are_bounds rest) h in
    ((and_parts (is_bound b.bound) (not (is_some (bound_in rest b.pair))) parts.0).0, refl)
parts_of_bounds (x ∷ front) b rest h =
    let parts = and_parts (is_bound x.bound && not (is_some (bound_in (front ++ b ∷ rest) x.pair))) (are_bounds (front ++ b ∷ rest)) h in
    let once = (and_parts (is_bound x.bound) (not (is_some (bound_in (front ++ b ∷ rest) x.pair))) parts.0).1 in
    let later = parts_of_bounds front b rest parts.1 in
    (later.0, of (same_pair b.pair x.pair) refl once later.1)
  where
    of : (t : Bool) → same_pair b.pair x.pair ≡ t → not (is_some (bound_in (front ++ b ∷ rest) x.pair)) ≡ true → bound_in front b.pair ≡ None → bound_in (x ∷ front) b.pair ≡ None
    of true is once later = absurd (not_some (bound_in (front ++ b ∷ rest) x.pair) (bound_in-there front b rest x.pair (same_pair-sym b.pair x.pair is)) once)
    of false is once later = rw is later

bound_in-end : (bounds : List PairBound) (b : PairBound) (p : Pair) → same_pair p b.pair ≡ false → bound_in (bounds ++ b ∷ []) p ≡ bound_in bounds p
bound_in-end [] b p h = rw h refl
bound_in-end (x ∷ bounds) b p h =
    elim (same_pair p x.pair) as (λ t. option_map (λ (y : PairBound). y.bound) (cond t (Some x) (find (λ (y : PairBound). same_pair p y.pair) (bounds ++ b ∷ []))) ≡ option_map (λ (y : PairBound). y.bound) (cond t (Some x) (find (λ (y : PairBound). same_pair p y.pair) bounds)))
    [ true ↦ refl | false ↦ bound_in-end bounds b p h ]

-- one pair more, which isn't there yet
pub are_bounds-more : (front : List PairBound) (b : PairBound) → are_bounds front ≡ true → is_bound b.bound ≡ true → bound_in front b.pair ≡ None → are_bounds (front ++ b ∷ []) ≡ true
are_bounds-more [] b h is absent = rw is refl
are_bounds-more (x ∷ front) b h is absent =
    let parts = and_parts (is_bound x.bound && not (is_some (bound_in front x.pair))) (are_bounds front) h in
    let apart = of (same_pair b.pair x.pair) refl absent in
    let later = are_bounds-more front b parts.1 is apart.1 in
    rw (bound_in-end front b x.pair (false_unless (same_pair x.pair b.pair) (same_pair b.pair x.pair) (same_pair-sym x.pair b.pair) apart.0), parts.0, later) refl
  where
    of : (t : Bool) → same_pair b.pair x.pair ≡ t → bound_in (x ∷ front) b.pair ≡ None → (same_pair b.pair x.pair ≡ false) × (bound_in front b.pair ≡ None)
    of true is absent = absurd (let found = rw is at absent in cc)
    of false is absent = (is, rw is at absent)

-- of a list's first pair, and of the others
pub first_of_bounds : (b : PairBound) (rest : List PairBound) → are_bounds (b ∷ rest) ≡ true → (is_bound b.bound ≡ true) × (are_bounds rest ≡ true)
first_of_bounds b rest h =
    let parts = and_parts (is_bound b.bound && not (is_some (bound_in rest b.pair))) (are_bounds rest) h in
    ((and_parts (is_bound b.bound) (not (is_some (bound_in rest b.pair))) parts.0).0, parts.1)

-- One step over a list: what comes before the index, at it and after it.
module _ {X : Type 0} (xs : List X) (i : ℕ) (d : X) (inside : i < length xs) where
  split_here : xs ≡ take i xs ++ get_or xs i d ∷ drop (suc i) xs
  split_here = sym (take-append-drop i xs) ∙ ap (λ ys. take i xs ++ ys) (drop-cons xs i d inside)

  pub one_more : take (i + 1) xs ≡ take i xs ++ get_or xs i d ∷ []
  one_more = ap (λ n. take n xs) (add-one i) ∙ take-suc xs i d inside

-- the entry of a bound
abbrev pub key_of : Pair → ℕ × ℕ
key_of pair = (pair.old.index, pair.new.index)

abbrev pub same_keys : ℕ × ℕ → ℕ × ℕ → Bool
same_keys a b = nat_eq a.0 b.0 && nat_eq a.1 b.1

map-end : (entries : List ((ℕ × ℕ) × Option ℕ)) (e : (ℕ × ℕ) × Option ℕ) → map bound_of (entries ++ e ∷ []) ≡ map bound_of entries ++ bound_of e ∷ []
map-end [] e = refl
map-end (x ∷ entries) e = ap (λ bs. bound_of x ∷ bs) (map-end entries e)

module _ (bounds : List PairBound) (i : ℕ) (d : PairBound) (inside : i < length bounds) where
  parts_here : are_bounds bounds ≡ true → (is_bound (get_or bounds i d).bound ≡ true) × (bound_in (take i bounds) (get_or bounds i d).pair ≡ None)
  parts_here h = parts_of_bounds (take i bounds) (get_or bounds i d) (drop (suc i) bounds) (subst (λ bs. are_bounds bs ≡ true) (split_here bounds i d inside) h)

  pub out_of_range : is_bound (get_or bounds i d).bound ≡ false → are_bounds bounds ≡ false
  out_of_range h = false_unless (are_bounds bounds) (is_bound (get_or bounds i d).bound) (λ k. (parts_here k).0) h

  is_twice : (old : Option ℕ) → bound_in (take i bounds) (get_or bounds i d).pair ≡ Some old → are_bounds bounds ≡ false
  is_twice old h = from (are_bounds bounds) refl
    where
      from : (t : Bool) → are_bounds bounds ≡ t → t ≡ false
      from false e = refl
      from true e = absurd (let absent = (parts_here e).1 in cc)

  -- the entries so far are those of the bounds so far
  module _ (entries : List ((ℕ × ℕ) × Option ℕ)) (so_far : map bound_of entries ≡ take i bounds) where
    looked_up : lookup (same_keys (key_of (get_or bounds i d).pair)) entries ≡ bound_in (take i bounds) (get_or bounds i d).pair
    looked_up = lookup-bound entries (get_or bounds i d).pair ∙ ap (λ bs. bound_in bs (get_or bounds i d).pair) so_far

    pub stands_twice : (old : Option ℕ) → lookup (same_keys (key_of (get_or bounds i d).pair)) entries ≡ Some old → are_bounds bounds ≡ false
    stands_twice old h = is_twice old (sym looked_up ∙ h)

    -- with one more
    pub entries-more : (after : List ((ℕ × ℕ) × Option ℕ)) → are_bounds (take i bounds) ≡ true → is_bound (get_or bounds i d).bound ≡ true → lookup (same_keys (key_of (get_or bounds i d).pair)) entries ≡ None →
        after ≡ entries ++ (key_of (get_or bounds i d).pair, (get_or bounds i d).bound) ∷ [] → (map bound_of after ≡ take (i + 1) bounds) × (are_bounds (take (i + 1) bounds) ≡ true)
    entries-more after kept is absent grown = (
      ap (map bound_of) grown ∙ map-end entries (key_of (get_or bounds i d).pair, (get_or bounds i d).bound) ∙ ap (λ bs. bs ++ get_or bounds i d ∷ []) so_far ∙ sym (one_more bounds i d inside),
      subst (λ bs. are_bounds bs ≡ true) (sym (one_more bounds i d inside)) (are_bounds-more (take i bounds) (get_or bounds i d) kept is (sym looked_up ∙ absent)),
    )
