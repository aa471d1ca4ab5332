-- Sums over lists, and how often a name is in one.
use Rattle.std.proofs.Common.{◌≡◌, ◌∙◌, ℕ, ◌+◌, ◌≤◌, Bool, true, false, cond, List, [], ◌∷◌, ◌++◌, map, flat_map, sym, ap, subst, refl, arith, rules}
use Rattle.std.specs.List.{list_all, sum_by, AllByRecursion}
use Rattle.std.specs.List.Sorted.{IsPermutation}
use Rattle.std.specs.Str.{bytes_eq}
use Rattle.std.proofs.lemmas.Bool.{false≢true}
use Rattle.std.proofs.lemmas.List.Sorted.{sum_by-IsPermutation}
use Rattle.std.proofs.lemmas.List.Sums.{sum_by-cons}
use Rattle.std.proofs.lemmas.Slice.Eq.{bytes_eq-Decides}
use Rattle.pg_schema.specs.rules.Pairs.{are_distinct, differ}
use Rattle.pg_schema.proofs.lemmas.rules.PairLemmas.{and_both}

abbrev pub total : {X : Type 0} → (X → ℕ) → List X → ℕ
total f [] = 0
total f (x ∷ xs) = f x + total f xs

pub total_joined : {X : Type 0} (f : X → ℕ) (xs ys : List X) → total f (xs ++ ys) ≡ total f xs + total f ys
total_joined f [] ys = omega arith
total_joined f (x ∷ xs) ys = let rest : total f (xs ++ ys) ≡ total f xs + total f ys = total_joined f xs ys in omega (arith, rest)

pub total_map : {X Y : Type 0} (f : Y → ℕ) (g : X → Y) (xs : List X) → total f (map g xs) ≡ total (λ x. f (g x)) xs
total_map f g [] = refl
total_map f g (x ∷ xs) = ap (λ n. f (g x) + n) (total_map f g xs)

pub total_flat : {X Y : Type 0} (f : Y → ℕ) (g : X → List Y) (xs : List X) → total f (flat_map g xs) ≡ total (λ x. total f (g x)) xs
total_flat f g [] = refl
total_flat f g (x ∷ xs) = total_joined f (g x) (flat_map g xs) ∙ ap (λ n. total f (g x) + n) (total_flat f g xs)

pub total_same : {X : Type 0} (f g : X → ℕ) (xs : List X) → AllByRecursion (λ x. f x ≡ g x) xs → total f xs ≡ total g xs
total_same f g [] h = refl
total_same f g (x ∷ xs) h = ap (λ n. n + total f xs) h.0 ∙ ap (λ n. g x + n) (total_same f g xs h.1)

pub total_both : {X : Type 0} (f g : X → ℕ) (xs : List X) → total (λ x. f x + g x) xs ≡ total f xs + total g xs
total_both f g [] = refl
total_both f g (x ∷ xs) = let rest : total (λ y. f y + g y) xs ≡ total f xs + total g xs = total_both f g xs in omega (arith, rest)

pub total_none : {X : Type 0} (xs : List X) → total (λ (x : X). 0) xs ≡ 0
total_none [] = refl
total_none {X} (x ∷ xs) = let rest : total (λ (y : X). 0) xs ≡ 0 = total_none xs in omega (arith, rest)

total_sum : {X : Type 0} (f : X → ℕ) (xs : List X) → total f xs ≡ sum_by f xs
total_sum f [] = refl
total_sum f (x ∷ xs) = ap (λ n. f x + n) (total_sum f xs) ∙ sym (sum_by-cons f x xs)

pub total_moved : {X : Type 0} (f : X → ℕ) (xs ys : List X) → IsPermutation xs ys → total f ys ≡ total f xs
total_moved f xs ys moved = total_sum f ys ∙ (sum_by-IsPermutation f xs ys moved ∙ sym (total_sum f xs))

-- over two lists, in either order
pub total_turned : {X Y : Type 0} (f : X → Y → ℕ) (xs : List X) (ys : List Y) → total (λ x. total (f x) ys) xs ≡ total (λ y. total (λ x. f x y) xs) ys
total_turned {X} {Y} f [] ys = sym (total_none ys)
total_turned f (x ∷ xs) ys =
    ap (λ n. total (f x) ys + n) (total_turned f xs ys) ∙ sym (total_both (f x) (λ y. total (λ z. f z y) xs) ys)

-- ---- names

abbrev pub as_one : Bool → ℕ
as_one true = 1
as_one false = 0

abbrev pub one : List ℕ → List ℕ → ℕ
one x y = as_one (bytes_eq x y)

abbrev pub times : List ℕ → List (List ℕ) → ℕ
times x ys = total (one x) ys

pub same_one : (x : List ℕ) → one x x ≡ 1
same_one x = ap as_one ((bytes_eq-Decides x x).1 refl)

pub one_from : (x y : List ℕ) → (x ≡ y → ⊥) → one x y ≡ 0
one_from x y other = search (rules, bytes_eq-Decides)

-- a name that is nowhere differs from each
absent : (x : List ℕ) (ys : List (List ℕ)) → times x ys ≡ 0 → list_all (differ x) ys ≡ true
absent x [] h = refl
absent x (y ∷ ys) h = by (bytes_eq x y) refl (λ none. absent x ys none)
  where
    by : (b : Bool) → bytes_eq x y ≡ b → (times x ys ≡ 0 → list_all (differ x) ys ≡ true) → list_all (differ x) (y ∷ ys) ≡ true
    by true is others = let first : one x y ≡ 1 = ap as_one is in absurd (omega (arith, first, h))
    by false is others = search (rules, and_both)

pub distinct_from_times : (xs : List (List ℕ)) → ((x : List ℕ) → times x xs ≤ 1) → are_distinct xs ≡ true
distinct_from_times [] h = refl
distinct_from_times (y ∷ ys) h =
    let here : one y y ≡ 1 = same_one y in
    let few : times y (y ∷ ys) ≤ 1 = h y in
    let none : times y ys ≡ 0 = omega (arith, here, few) in
    and_both (list_all (differ y) ys) (are_distinct ys) (absent y ys none) (distinct_from_times ys (λ x. let all : times x (y ∷ ys) ≤ 1 = h x in omega (arith, all)))

-- ---- what belongs to a name of a list

-- of the list's names this one alone counts
abbrev pub at_text : (List ℕ → ℕ) → List ℕ → List ℕ → ℕ
at_text f q s = cond (bytes_eq s q) (f s) 0

one_alike : (q s : List ℕ) → bytes_eq s q ≡ true → one q s ≡ 1
one_alike q s is = subst (λ t. one q t ≡ 1) (sym ((bytes_eq-Decides s q).0 is)) (same_one q)

pub none_there : (f : List ℕ → ℕ) (q : List ℕ) (ss : List (List ℕ)) → times q ss ≡ 0 → total (at_text f q) ss ≡ 0
none_there f q [] h = refl
none_there f q (s ∷ ss) h = by (bytes_eq s q) refl (λ none. none_there f q ss none)
  where
    by : (b : Bool) → bytes_eq s q ≡ b → (times q ss ≡ 0 → total (at_text f q) ss ≡ 0) → cond b (f s) 0 + total (at_text f q) ss ≡ 0
    by true is next = let first : one q s ≡ 1 = one_alike q s is in absurd (omega (arith, first, h))
    by false is next = let rest : times q ss ≡ 0 = omega (arith, h) in let others : total (at_text f q) ss ≡ 0 = next rest in omega (arith, others)

pub once_there : (f : List ℕ → ℕ) (q : List ℕ) (ss : List (List ℕ)) → times q ss ≡ 1 → total (at_text f q) ss ≡ f q
once_there f q [] h = absurd (omega (arith, h))
once_there f q (s ∷ ss) h = by (bytes_eq s q) refl (λ once. once_there f q ss once)
  where
    by : (b : Bool) → bytes_eq s q ≡ b → (times q ss ≡ 1 → total (at_text f q) ss ≡ f q) → cond b (f s) 0 + total (at_text f q) ss ≡ f q
    by true is next = search (rules, one_alike, none_there, bytes_eq-Decides)
    by false is next = search (rules, one_from, false≢true, bytes_eq-Decides)
