-- The first of a list that is the same as one before it, one item after the other.
use Rattle.std.proofs.Common.{◌≡◌, ℕ, ◌+◌, ◌<◌, Bool, true, false, not, List, [], ◌∷◌, ◌++◌, length, map, take, drop, get_or, Option, Some, add-one, refl, arith, rules}
use Rattle.std.specs.List.{list_any}
use Rattle.std.proofs.Math.Seq.{drop-cons, take-suc}
use Rattle.pg_check.specs.inner.NumberFaults.{first_again, first_such}

pub item_and_rest : {A : Type 0} (xs : List A) (i : ℕ) (d : A) → i < length xs → drop i xs ≡ get_or xs i d ∷ drop (i + 1) xs
item_and_rest xs i d h = rw (add-one, drop-cons xs i d h) refl

pub take_item : {A : Type 0} (xs : List A) (i : ℕ) (d : A) → i < length xs → take (i + 1) xs ≡ take i xs ++ get_or xs i d ∷ []
take_item xs i d h = rw (add-one) (take-suc xs i d h)

pub new_item : {A : Type 0} (same : A → A → Bool) (place : A → ℕ) (before : List A) (x : A) (xs : List A) → list_any (same x) before ≡ false
    → first_again same place before (x ∷ xs) ≡ first_again same place (before ++ x ∷ []) xs
new_item same place before x xs h = rw h refl

pub old_item : {A : Type 0} (same : A → A → Bool) (place : A → ℕ) (before : List A) (x : A) (xs : List A) → list_any (same x) before ≡ true
    → first_again same place before (x ∷ xs) ≡ Some (place x)
old_item same place before x xs h = rw h refl

pub again_more : {A : Type 0} (same : A → A → Bool) (place : A → ℕ) (xs : List A) (i : ℕ) (d : A) (whole : Option ℕ) → i < length xs → list_any (same (get_or xs i d)) (take i xs) ≡ false
    → first_again same place (take i xs) (drop i xs) ≡ whole → first_again same place (take (i + 1) xs) (drop (i + 1) xs) ≡ whole
again_more same place xs i d whole h new left = search (rules, take_item, new_item, item_and_rest)

pub again_found : {A : Type 0} (same : A → A → Bool) (place : A → ℕ) (xs : List A) (i : ℕ) (d : A) (whole : Option ℕ) → i < length xs → list_any (same (get_or xs i d)) (take i xs) ≡ true
    → first_again same place (take i xs) (drop i xs) ≡ whole → Some (place (get_or xs i d)) ≡ whole
again_found same place xs i d whole h old left = search (rules, old_item, item_and_rest)

-- a set answered that the item is new, or that it isn't
pub was_new : (b held among : Bool) → b ≡ not held → held ≡ among → b ≡ true → among ≡ false
was_new b held among h e t = grind arith

pub was_old : (b held among : Bool) → b ≡ not held → held ≡ among → b ≡ false → among ≡ true
was_old b held among h e t = grind arith

new_such : {X : Type 0} (test : X → Bool) (place : X → ℕ) (x : X) (xs : List X) → test x ≡ false → first_such test place (x ∷ xs) ≡ first_such test place xs
new_such test place x xs h = rw h refl

-- past an item that doesn't pass the test
pub such_more : {A X : Type 0} (view : A → X) (test : X → Bool) (place : X → ℕ) (xs : List A) (i : ℕ) (d : A) (whole : Option ℕ) → i < length xs → test (view (get_or xs i d)) ≡ false
    → first_such test place (map view (drop i xs)) ≡ whole → first_such test place (map view (drop (i + 1) xs)) ≡ whole
such_more view test place xs i d whole h fails left = search (rules, new_such, item_and_rest)
