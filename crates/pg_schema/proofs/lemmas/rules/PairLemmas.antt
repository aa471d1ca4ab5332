-- Tests of each two items, one more item at the end.
use Rattle.std.proofs.Common.{◌≡◌, ℕ, Bool, true, false, not, ◌&&◌, ◌||◌, List, [], ◌∷◌, ◌++◌, sym, ◌∙◌, ap, refl}
use Rattle.std.specs.List.{list_all}
use Rattle.std.specs.Str.{bytes_eq}
use Rattle.std.proofs.lemmas.Bool.{false≢true}
use Rattle.std.proofs.lemmas.Slice.Eq.{bytes_eq-Decides}
use Rattle.std.proofs.lemmas.List.Folds.{list_all-append, list_any-append}
use Rattle.pg_schema.specs.rules.Pairs.{all_pairs, differ, are_distinct}
use Rattle.pg_schema.specs.rules.TextSets.{is_among}

regroup : (a b c d : Bool) → ((a && b) && (c && d)) ≡ ((a && c) && (b && d))
regroup true true true d = refl
regroup true true false d = refl
regroup true false true d = refl
regroup true false false d = refl
regroup false b c d = refl

pub and_true_right : (a : Bool) → (a && true) ≡ a
and_true_right true = refl
and_true_right false = refl

pub and_left : (a b : Bool) → (a && b) ≡ true → a ≡ true
and_left true b h = refl
and_left false b h = h

pub and_right : (a b : Bool) → (a && b) ≡ true → b ≡ true
and_right true b h = h
and_right false b h = absurd (false≢true h)

pub and_both : (a b : Bool) → a ≡ true → b ≡ true → (a && b) ≡ true
and_both true b h k = k
and_both false b h k = h

pub and_false_right : (a : Bool) → (a && false) ≡ false
and_false_right true = refl
and_false_right false = refl

pub all_pairs_push : {A : Type 0} (test : A → A → Bool) (xs : List A) (y : A) → all_pairs test (xs ++ y ∷ []) ≡ (all_pairs test xs && list_all (λ x. test x y) xs)
all_pairs_push test [] y = refl
all_pairs_push test (x ∷ xs) y =
    ap (λ b. b && all_pairs test (xs ++ y ∷ [])) (list_all-append (test x) xs (y ∷ []))
    ∙ (ap (λ b. (list_all (test x) xs && b) && all_pairs test (xs ++ y ∷ [])) (and_true_right (test x y))
    ∙ (ap (λ b. (list_all (test x) xs && test x y) && b) (all_pairs_push test xs y)
    ∙ regroup (list_all (test x) xs) (test x y) (all_pairs test xs) (list_all (λ z. test z y) xs)))

all_append_false : {A : Type 0} (p : A → Bool) (xs ys : List A) → list_all p xs ≡ false → list_all p (xs ++ ys) ≡ false
all_append_false p xs ys h = list_all-append p xs ys ∙ ap (λ b. b && list_all p ys) h

-- what fails in front fails in all
pub all_pairs_front : {A : Type 0} (test : A → A → Bool) (xs ys : List A) → all_pairs test xs ≡ false → all_pairs test (xs ++ ys) ≡ false
all_pairs_front test [] ys h = absurd (false≢true (sym h))
all_pairs_front test (x ∷ xs) ys h =
    elim (list_all (test x) xs) as (λ b. list_all (test x) xs ≡ b → all_pairs test ((x ∷ xs) ++ ys) ≡ false) [
      | true ↦ λ t. ap (λ b. list_all (test x) (xs ++ ys) && b) (all_pairs_front test xs ys (sym (ap (λ b. b && all_pairs test xs) t) ∙ h)) ∙ and_false_right _
      | false ↦ λ f. ap (λ b. b && all_pairs test (xs ++ ys)) (all_append_false (test x) xs ys f)
    ] refl

pub bytes_eq-sym : (a b : List ℕ) → bytes_eq a b ≡ bytes_eq b a
bytes_eq-sym a b =
    elim (bytes_eq a b) as (λ r. bytes_eq a b ≡ r → r ≡ bytes_eq b a) [
      | true ↦ λ t. sym ((bytes_eq-Decides b a).1 (sym ((bytes_eq-Decides a b).0 t)))
      | false ↦ λ f. of (bytes_eq b a) f refl
    ] refl
  where
    of : (r : Bool) → bytes_eq a b ≡ false → bytes_eq b a ≡ r → false ≡ r
    of true f t = absurd (false≢true (sym f ∙ (bytes_eq-Decides a b).1 (sym ((bytes_eq-Decides b a).0 t))))
    of false f t = refl

not_or : (a b : Bool) → (not a && not b) ≡ not (a || b)
not_or true b = refl
not_or false b = refl

all_differ : (xs : List (List ℕ)) (y : List ℕ) → list_all (λ x. differ x y) xs ≡ not (is_among xs y)
all_differ [] y = refl
all_differ (x ∷ xs) y =
    ap (λ b. not b && list_all (λ z. differ z y) xs) (bytes_eq-sym x y)
    ∙ (ap (λ b. not (bytes_eq y x) && b) (all_differ xs y) ∙ not_or (bytes_eq y x) (is_among xs y))

pub distinct_push : (xs : List (List ℕ)) (y : List ℕ) → are_distinct (xs ++ y ∷ []) ≡ (are_distinct xs && not (is_among xs y))
distinct_push xs y = all_pairs_push differ xs y ∙ ap (λ b. are_distinct xs && b) (all_differ xs y)

or_false_right : (a : Bool) → (a || false) ≡ a
or_false_right true = refl
or_false_right false = refl

pub among_push : (xs : List (List ℕ)) (y z : List ℕ) → is_among (xs ++ y ∷ []) z ≡ (is_among xs z || bytes_eq z y)
among_push xs y z = list_any-append (bytes_eq z) xs (y ∷ []) ∙ ap (λ b. is_among xs z || b) (or_false_right (bytes_eq z y))
