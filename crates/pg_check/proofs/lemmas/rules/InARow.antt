-- Reserved items that have a number in common: those in a row have none, and the fewest that have two are found by halves.
use Rattle.std.proofs.Common.{◌≡◌, ◌∙◌, ℕ, zero, suc, ◌+◌, ◌<◌, ◌≤◌, Bool, true, false, cond, not, ◌&&◌, nat_lt, nat_le, List, [], ◌∷◌, ◌++◌, length, take, drop, get_or, Option, Some, None, arith, add-one, sym, ap, subst, refl, rules}
use Rattle.std.specs.List.{filter, list_all, list_any}
use Rattle.std.specs.List.Sorted.{IsPermutation, IsNonDecreasingBy}
use Rattle.std.proofs.lemmas.Bool.{false≢true}
use Rattle.std.proofs.lemmas.Bool.Decides.{nat_tests}
use Rattle.std.proofs.lemmas.List.Folds.{list_all-append}
use Rattle.std.proofs.lemmas.List.Sorted.{IsPermutation-sym}
use Rattle.pg_schema.proofs.lemmas.rules.PairLemmas.{and_left, and_right, and_both, and_true_right}
use Rattle.pg_check.specs.declared.rules.numbers.Numbers.{Numbers}
use Rattle.pg_check.specs.rules.KeepsRules.{are_apart, rises}
use Rattle.pg_check.specs.inner.NumberFaults.{first_again}
use Rattle.pg_check.specs.rules.ReservedItems.{overlap}
use Rattle.pg_check.specs.inner.Rows.{follow, is_behind}
use Rattle.pg_check.proofs.lemmas.rules.FirstLaws.{again_found, again_more, take_item}
use Rattle.pg_check.proofs.lemmas.parts.Moved.{IsSymmetric, all_moved, all_weaker, pairs_moved}

-- ---- in a row

later : (end : Option ℕ) (a b c : ℕ) → is_behind end a ≡ true → not (nat_lt b a) ≡ true → nat_lt b c ≡ true → is_behind end c ≡ true
later end a b c h k m = grind (arith, nat_tests)

behind_apart : (a b c d : ℕ) → nat_lt b c ≡ true → not ((nat_le c d && nat_le a b) && (nat_le c b && nat_le a d)) ≡ true
behind_apart a b c d h = grind (arith, nat_tests)

row_apart : (end : Option ℕ) (rs : List Numbers) → list_all rises rs ≡ true → follow end rs ≡ true → (list_all (λ (q : Numbers). is_behind end q.first) rs ≡ true) × (are_apart overlap rs ≡ true)
row_apart end [] up h = (refl, refl)
row_apart end (r ∷ rs) up h =
    let first : is_behind end r.first ≡ true = and_left (is_behind end r.first) (follow (Some r.last) rs) h in
    let rise : rises r ≡ true = and_left (rises r) (list_all rises rs) up in
    let others = row_apart (Some r.last) rs (and_right (rises r) _ up) (and_right (is_behind end r.first) _ h) in (
      and_both _ _ first (all_weaker (λ (q : Numbers). is_behind (Some r.last) q.first) (λ (q : Numbers). is_behind end q.first) (λ q k. later end r.first r.last q.first first rise k) rs others.0),
      and_both _ _ (all_weaker (λ (q : Numbers). is_behind (Some r.last) q.first) (λ q. not (overlap q r)) (λ q k. behind_apart r.first r.last q.first q.last k) rs others.0) others.1,
    )

begins_behind : (a b c d : ℕ) → a ≤ c → not (nat_lt b a) ≡ true → not (nat_lt d c) ≡ true → not ((nat_le c d && nat_le a b) && (nat_le c b && nat_le a d)) ≡ true → nat_lt b c ≡ true
begins_behind a b c d le h k m = grind (arith, nat_tests)

abbrev first_behind : Option ℕ → List Numbers → Bool
first_behind end [] = true
first_behind end (r ∷ rs) = is_behind end r.first

next_behind : (r : Numbers) (rs : List Numbers) → IsNonDecreasingBy (λ (q : Numbers). q.first) (r ∷ rs) → list_all rises (r ∷ rs) ≡ true → are_apart overlap (r ∷ rs) ≡ true → first_behind (Some r.last) rs ≡ true
next_behind r [] order up h = refl
next_behind r (q ∷ qs) order up h =
    begins_behind r.first r.last q.first q.last (order 0 1 r (omega arith) (omega arith)) (and_left _ _ up) (and_left (rises q) (list_all rises qs) (and_right (rises r) _ up))
    (and_left (not (overlap q r)) (list_all (λ p. not (overlap p r)) qs) (and_left _ _ h))

apart_row : (end : Option ℕ) (rs : List Numbers) → IsNonDecreasingBy (λ (q : Numbers). q.first) rs → list_all rises rs ≡ true → are_apart overlap rs ≡ true → first_behind end rs ≡ true → follow end rs ≡ true
apart_row end [] order up h first = refl
apart_row end (r ∷ rs) order up h first =
    and_both _ _ first (apart_row (Some r.last) rs (λ i j d le lt. order (suc i) (suc j) d (omega (arith, le)) (omega (arith, lt))) (and_right (rises r) _ up)
    (and_right (list_all (λ q. not (overlap q r)) rs) _ h) (next_behind r rs order up h))

none_before : (rs : List Numbers) → first_behind None rs ≡ true
none_before rs = grind arith

same_tests : (p q : Bool) → (p ≡ true → q ≡ true) → (q ≡ true → p ≡ true) → p ≡ q
same_tests p q f g = grind arith

-- ---- items that fall have no number

no_overlap : (q r : Numbers) → rises q ≡ false → not (overlap q r) ≡ true
no_overlap q r h = grind (arith, nat_tests)

no_overlap_back : (q r : Numbers) → rises r ≡ false → not (overlap q r) ≡ true
no_overlap_back q r h = grind (arith, nat_tests)

all_without : (r : Numbers) (xs : List Numbers) → list_all (λ q. not (overlap q r)) (filter rises xs) ≡ list_all (λ q. not (overlap q r)) xs
all_without r [] = refl
all_without r (x ∷ xs) = search (rules, no_overlap, all_without r xs)

none_overlap : (x : Numbers) (xs : List Numbers) → rises x ≡ false → list_all (λ q. not (overlap q x)) xs ≡ true
none_overlap x [] h = refl
none_overlap x (y ∷ ys) h = and_both _ _ (no_overlap_back y x h) (none_overlap x ys h)

without_falling : (xs : List Numbers) → are_apart overlap (filter rises xs) ≡ are_apart overlap xs
without_falling [] = refl
without_falling (x ∷ xs) = by (rises x) refl (without_falling xs)
  where
    by : (b : Bool) → rises x ≡ b → are_apart overlap (filter rises xs) ≡ are_apart overlap xs
        → are_apart overlap (cond b (x ∷ filter rises xs) (filter rises xs)) ≡ (list_all (λ q. not (overlap q x)) xs && are_apart overlap xs)
    by true up others = ap (λ b. b && are_apart overlap (filter rises xs)) (all_without x xs) ∙ ap (λ b. list_all (λ q. not (overlap q x)) xs && b) others
    by false falls others = others ∙ sym (ap (λ b. b && are_apart overlap xs) (none_overlap x xs falls))

all_rise : (xs : List Numbers) → list_all rises (filter rises xs) ≡ true
all_rise [] = refl
all_rise (x ∷ xs) = search (rules, and_both, all_rise xs)

apart_symmetric : IsSymmetric (λ (a b : Numbers). not (overlap b a))
apart_symmetric a b h = grind (arith, nat_tests)

-- what a sort leaves in a row was apart before it
pub row_is : (items rising sorted : List Numbers) → rising ≡ filter rises items → IsPermutation rising sorted → IsNonDecreasingBy (λ (r : Numbers). r.first) sorted → follow None sorted ≡ are_apart overlap items
row_is items rising sorted is moved order =
    let up : list_all rises rising ≡ true = ap (list_all rises) is ∙ all_rise items in
    let up_sorted : list_all rises sorted ≡ true = all_moved rises rising sorted moved up in
    let row : follow None sorted ≡ are_apart overlap sorted =
    same_tests (follow None sorted) (are_apart overlap sorted) (λ h. (row_apart None sorted up_sorted h).1) (λ h. apart_row None sorted order up_sorted h (none_before sorted)) in
    let same : are_apart overlap sorted ≡ are_apart overlap rising =
    same_tests (are_apart overlap sorted) (are_apart overlap rising)
    (λ h. pairs_moved (λ a b. not (overlap b a)) apart_symmetric sorted rising (IsPermutation-sym rising sorted moved) h)
    (λ h. pairs_moved (λ a b. not (overlap b a)) apart_symmetric rising sorted moved h) in
    row ∙ (same ∙ (ap (are_apart overlap) is ∙ without_falling items))

-- ---- the first that isn't apart

regroup : (a b c d : Bool) → ((a && b) && (c && d)) ≡ ((a && c) && (b && d))
regroup a b c d = grind arith

-- one more item
apart_more : {X : Type 0} (same : X → X → Bool) (xs : List X) (y : X) → are_apart same (xs ++ y ∷ []) ≡ (are_apart same xs && not (list_any (same y) xs))
apart_more same [] y = refl
apart_more same (x ∷ xs) y = search (rules, list_all-append, and_true_right, regroup, apart_more same xs y)

apart_take : {X : Type 0} (same : X → X → Bool) (xs : List X) (k : ℕ) (d : X) → k < length xs → are_apart same (take (k + 1) xs) ≡ (are_apart same (take k xs) && not (list_any (same (get_or xs k d)) (take k xs)))
apart_take same xs k d h = ap (are_apart same) (take_item xs k d h) ∙ apart_more same (take k xs) (get_or xs k d)

not_any : (b : Bool) → not b ≡ true → b ≡ false
not_any b h = grind (arith, false≢true)

is_any : (a b : Bool) → (a && not b) ≡ false → a ≡ true → b ≡ true
is_any a b h k = grind (arith, false≢true)

-- up to an item before which all are apart none was the same
goes_on : {X : Type 0} (same : X → X → Bool) (place : X → ℕ) (xs : List X) (k : ℕ) (d : X) → k ≤ length xs → are_apart same (take k xs) ≡ true → first_again same place (take k xs) (drop k xs) ≡ first_again same place [] xs
goes_on same place xs zero d h apart = refl
goes_on same place xs (suc k) d h apart =
    let within : k < length xs = omega (arith, h) in
    let next : k + 1 ≡ suc k = add-one k in
    let both : (are_apart same (take k xs) && not (list_any (same (get_or xs k d)) (take k xs))) ≡ true = sym (apart_take same xs k d within) ∙ (ap (λ n. are_apart same (take n xs)) next ∙ apart) in
    subst (λ n. first_again same place (take n xs) (drop n xs) ≡ first_again same place [] xs) next
    (again_more same place xs k d (first_again same place [] xs) within (not_any (list_any (same (get_or xs k d)) (take k xs)) (and_right (are_apart same (take k xs)) _ both))
    (goes_on same place xs k d (omega (arith, within)) (and_left _ _ both)))

pub first_is : {X : Type 0} (same : X → X → Bool) (place : X → ℕ) (xs : List X) (k : ℕ) (d : X) → k < length xs → are_apart same (take k xs) ≡ true → are_apart same (take (k + 1) xs) ≡ false
    → Some (place (get_or xs k d)) ≡ first_again same place [] xs
first_is same place xs k d h apart again =
    again_found same place xs k d (first_again same place [] xs) h
    (is_any (are_apart same (take k xs)) (list_any (same (get_or xs k d)) (take k xs)) (sym (apart_take same xs k d h) ∙ again) apart)
    (goes_on same place xs k d (omega (arith, h)) apart)
