-- Fields by rising number, around an index.
use Rattle.std.proofs.Common.{Bool, Result, Ok, Err, is_ok, OnErr, if◌then◌else◌, ◌≡◌, ◌≢◌, ℕ, zero, suc, ◌+◌, ◌-◌, ◌<◌, ◌≤◌, List, [], ◌∷◌, ◌++◌, length, filter, take, drop, get_or, slice_set, nat_lt, ltb, true, false, refl, ap, sym, ◌∙◌, subst, arith, add-one, lt-ltb, le-ltb, rules}
use Rattle.pg_dyn.proofs.lemmas.message.KeptParts.{at_index}
use Rattle.std.proofs.lemmas.List.{append-nil, take-append-drop, take-set, drop-set, drop_all}
use Rattle.std.proofs.Math.Seq.{drop-cons}
use Rattle.std.proofs.lemmas.Bool.{ltb-true, ltb-false}
use Rattle.std.specs.List.{AllByRecursion, insert, remove, AllWithin}
use Rattle.std.specs.List.Sorted.{IsNonDecreasingBy}
use Rattle.pg_dyn.specs.message.Seen.{Rises}
use Rattle.pg_dyn.specs.message.FieldList.{fields_below, fields_above, put_field, remove_field}
use Rattle.pg_dyn.proofs.Lists.{filter_all, filter_none, filter-append', each_weaker, each-append, each-filter, each_of_all}
use Rattle.pg_dyn.proofs.lemmas.fitting.FitsSteps.{same_default}

abbrev pub AllBelow : {A : Type 0} → ℕ → List (ℕ × A) → Type 0
AllBelow {A} n fs = AllByRecursion (λ (f : ℕ × A). f.0 < n) fs

abbrev pub AllFrom : {A : Type 0} → ℕ → List (ℕ × A) → Type 0
AllFrom {A} n fs = AllByRecursion (λ (f : ℕ × A). n ≤ f.0) fs

abbrev pub AllAbove : {A : Type 0} → ℕ → List (ℕ × A) → Type 0
AllAbove {A} n fs = AllByRecursion (λ (f : ℕ × A). n < f.0) fs

below_all : {A : Type 0} (n : ℕ) (xs : List (ℕ × A)) → AllBelow n xs → fields_below n xs ≡ xs
below_all {A} n xs h = filter_all (λ (f : ℕ × A). nat_lt f.0 n) xs (each_weaker (λ (f : ℕ × A). f.0 < n) (λ (f : ℕ × A). nat_lt f.0 n ≡ true) (λ f low. lt-ltb f.0 n low) xs h)

pub below_none : {A : Type 0} (n : ℕ) (ys : List (ℕ × A)) → AllFrom n ys → fields_below n ys ≡ []
below_none {A} n ys h = filter_none (λ (f : ℕ × A). nat_lt f.0 n) ys (each_weaker (λ (f : ℕ × A). n ≤ f.0) (λ (f : ℕ × A). nat_lt f.0 n ≡ false) (λ f high. le-ltb f.0 n high) ys h)

above_none : {A : Type 0} (n : ℕ) (xs : List (ℕ × A)) → AllBelow n xs → fields_above n xs ≡ []
above_none {A} n xs h = search (rules, arith, filter_none, each_weaker, le-ltb)

above_all : {A : Type 0} (n : ℕ) (ys : List (ℕ × A)) → AllAbove n ys → fields_above n ys ≡ ys
above_all {A} n ys h = filter_all (λ (f : ℕ × A). nat_lt n f.0) ys (each_weaker (λ (f : ℕ × A). n < f.0) (λ (f : ℕ × A). nat_lt n f.0 ≡ true) (λ f high. lt-ltb n f.0 high) ys h)

above_head : {A : Type 0} (n : ℕ) (y : ℕ × A) (ys : List (ℕ × A)) → y.0 ≡ n → AllAbove n ys → fields_above n (y ∷ ys) ≡ ys
above_head {A} n y ys same h = let not_above : y.0 ≤ n = omega arith in rw (le-ltb n y.0 not_above, above_all n ys h)

-- what is below and above, where the fields are split at the number
module _ {A : Type 0} (n : ℕ) (xs ys : List (ℕ × A)) (low : AllBelow n xs) (high : AllFrom n ys) where
  pub split_below : fields_below n (xs ++ ys) ≡ xs
  split_below = filter-append' (λ (f : ℕ × A). nat_lt f.0 n) xs ys ∙ ap (λ zs. zs ++ fields_below n ys) (below_all n xs low) ∙ rw (below_none n ys high) (append-nil xs)

  pub split_above : fields_above n (xs ++ ys) ≡ fields_above n ys
  split_above = filter-append' (λ (f : ℕ × A). nat_lt n f.0) xs ys ∙ ap (λ zs. zs ++ fields_above n ys) (above_none n xs low)

rises_drop : {A : Type 0} (i : ℕ) (fs : List (ℕ × A)) → Rises fs → Rises (drop i fs)
rises_drop {A} zero fs h = h
rises_drop {A} (suc i) [] h = tt
rises_drop {A} (suc i) (f ∷ fs) h = rises_drop i fs h.1

strictly_above : {A : Type 0} (n : ℕ) (ys : List (ℕ × A)) → Rises ys → AllFrom n ys → ((y : ℕ × A) (zs : List (ℕ × A)) → ys ≡ y ∷ zs → y.0 ≢ n) → AllAbove n ys
strictly_above {A} n [] rises high apart = tt
strictly_above {A} n (y ∷ ys) rises high apart =
    let not_it = apart y ys refl in
    let over : n < y.0 = let low = high.0 in omega arith in
    (over, each_weaker (λ (f : ℕ × A). y.0 < f.0) (λ (f : ℕ × A). n < f.0) (λ f above. let k : n < f.0 = omega arith in k) ys rises.0)

module _ {A : Type 0} (fs : List (ℕ × A)) (i n : ℕ) (rises : Rises fs) (low : AllBelow n (take i fs)) (high : AllFrom n (drop i fs)) where
  below_is : fields_below n fs ≡ take i fs
  below_is = ap (fields_below n) (sym (take-append-drop i fs)) ∙ split_below n (take i fs) (drop i fs) low high

  above_is : fields_above n fs ≡ fields_above n (drop i fs)
  above_is = ap (fields_above n) (sym (take-append-drop i fs)) ∙ split_above n (take i fs) (drop i fs) low high

  -- where the field of the number is at the index
  module _ (inside : i < length fs) (d : ℕ × A) (here : (get_or fs i d).0 ≡ n) where
    above_here : fields_above n fs ≡ drop (i + 1) fs
    above_here =
        let shape : drop i fs ≡ get_or fs i d ∷ drop (suc i) fs = drop-cons fs i d inside in
        let rest = subst Rises shape (rises_drop i fs rises) in
        let above = subst (λ k. AllAbove k (drop (suc i) fs)) here rest.0 in
        above_is ∙ ap (fields_above n) shape ∙ above_head n (get_or fs i d) (drop (suc i) fs) here above ∙ ap (λ k. drop k fs) (sym (add-one i))

    pub put_there : (m : ℕ) (c : A) → m ≡ n → slice_set fs i (m, c) ≡ put_field n c fs
    put_there m c same =
        sym (take-append-drop i (slice_set fs i (m, c))) ∙ ap (λ xs. xs ++ drop i (slice_set fs i (m, c))) (take-set fs i (m, c))
        ∙ ap (λ ys. take i fs ++ ys) (drop-set fs i (m, c) inside) ∙ ap (λ k. take i fs ++ (k, c) ∷ drop (i + 1) fs) same
        ∙ ap (λ xs. xs ++ (n, c) ∷ drop (i + 1) fs) (sym below_is) ∙ ap (λ ys. fields_below n fs ++ (n, c) ∷ ys) (sym above_here)

    pub removed_there : remove fs i ≡ remove_field n fs
    removed_there = ap (λ k. take i fs ++ drop k fs) (sym (add-one i)) ∙ ap (λ xs. xs ++ drop (i + 1) fs) (sym below_is) ∙ ap (λ ys. fields_below n fs ++ ys) (sym above_here)

  -- where it doesn't
  module _ (apart : (y : ℕ × A) (zs : List (ℕ × A)) → drop i fs ≡ y ∷ zs → y.0 ≢ n) where
    above_rest : fields_above n fs ≡ drop i fs
    above_rest = above_is ∙ above_all n (drop i fs) (strictly_above n (drop i fs) (rises_drop i fs rises) high apart)

    pub inserted : (c : A) → insert fs i (n, c) ≡ put_field n c fs
    inserted c = ap (λ xs. xs ++ (n, c) ∷ drop i fs) (sym below_is) ∙ ap (λ ys. fields_below n fs ++ (n, c) ∷ ys) (sym above_rest)

    pub nothing_removed : fs ≡ remove_field n fs
    nothing_removed = sym (take-append-drop i fs) ∙ ap (λ xs. xs ++ drop i fs) (sym below_is) ∙ ap (λ ys. fields_below n fs ++ ys) (sym above_rest)

-- the index is past the end, or the field there has another number
pub apart_past_end : {A : Type 0} (fs : List (ℕ × A)) (i n : ℕ) → length fs ≤ i → (y : ℕ × A) (zs : List (ℕ × A)) → drop i fs ≡ y ∷ zs → y.0 ≢ n
apart_past_end {A} fs i n past y zs e = search (rules, drop_all)

pub apart_there : {A : Type 0} (fs : List (ℕ × A)) (i n : ℕ) (d : ℕ × A) → i < length fs → (get_or fs i d).0 ≢ n → (y : ℕ × A) (zs : List (ℕ × A)) → drop i fs ≡ y ∷ zs → y.0 ≢ n
apart_there {A} fs i n d inside other y zs e = search (rules, drop-cons)

-- the numbers don't fall, index by index
pub non_decreasing : {A : Type 0} (fs : List (ℕ × A)) → Rises fs → IsNonDecreasingBy (λ (f : ℕ × A). f.0) fs
non_decreasing {A} [] h i j d le inside = absurd (omega arith)
non_decreasing {A} (f ∷ fs) h zero zero d le inside = omega arith
non_decreasing {A} (f ∷ fs) h zero (suc j) d le inside = let above = at_index (λ (g : ℕ × A). f.0 < g.0) fs j d (omega arith) h.0 in omega arith
non_decreasing {A} (f ∷ fs) h (suc i) zero d le inside = absurd (omega arith)
non_decreasing {A} (f ∷ fs) h (suc i) (suc j) d le inside = non_decreasing fs h.1 i j d (omega arith) (omega arith)

pub take_all_within : {A : Type 0} (P : ℕ × A → Type 0) (fs : List (ℕ × A)) (i : ℕ) → i ≤ length fs → AllWithin P fs 0 i → AllByRecursion P (take i fs)
take_all_within {A} P fs zero inside h = tt
take_all_within {A} P [] (suc i) inside h = tt
take_all_within {A} P (f ∷ fs) (suc i) inside h = (h 0 f (omega arith) (omega arith), take_all_within P fs i (omega arith) (λ k d low high. h (suc k) d (omega arith) (omega arith)))

pub drop_all_within : {A : Type 0} (P : ℕ × A → Type 0) (fs : List (ℕ × A)) (i : ℕ) → AllWithin P fs i (length fs) → AllByRecursion P (drop i fs)
drop_all_within {A} P [] zero h = tt
drop_all_within {A} P (f ∷ fs) zero h = (h 0 f (omega arith) (omega arith), drop_all_within P fs zero (λ k d low high. h (suc k) d (omega arith) (omega arith)))
drop_all_within {A} P [] (suc i) h = tt
drop_all_within {A} P (f ∷ fs) (suc i) h = drop_all_within P fs i (λ k d low high. h (suc k) d (omega arith) (omega arith))

pub ltb-less : (a b : ℕ) → ltb a b ≡ true → a < b
ltb-less a b h = ltb-true a b h

pub ltb-not_less : (a b : ℕ) → ltb a b ≡ false → b ≤ a
ltb-not_less a b h = ltb-false a b h

-- the last field is below the number, and so are all
pub all_below_last : {A : Type 0} (fs : List (ℕ × A)) (n : ℕ) (x : ℕ × A) → Rises fs → ((d : ℕ × A) → get_or fs (length fs - 1) d ≡ x) → x.0 < n → AllBelow n (take (length fs) fs)
all_below_last {A} fs n x rises last low =
    take_all_within (λ (f : ℕ × A). f.0 < n) fs (length fs) (omega arith)
    (λ k d above inside.
    let below = non_decreasing fs rises k (length fs - 1) d (omega arith) (omega arith) in
    let number = ap (λ (f : ℕ × A). f.0) (last d) in
    omega arith)

-- whether a field of the number is there
pub none_there : {A : Type 0} (fs : List (ℕ × A)) (i n : ℕ) → Rises fs → AllBelow n (take i fs) → AllFrom n (drop i fs) → ((y : ℕ × A) (zs : List (ℕ × A)) → drop i fs ≡ y ∷ zs → y.0 ≢ n) → AllByRecursion (λ (f : ℕ × A). f.0 ≢ n) fs
none_there {A} fs i n rises low high apart =
    subst (AllByRecursion (λ (f : ℕ × A). f.0 ≢ n)) (take-append-drop i fs)
    (each-append (λ (f : ℕ × A). f.0 ≢ n) (take i fs) (drop i fs)
    (each_weaker (λ (f : ℕ × A). f.0 < n) (λ (f : ℕ × A). f.0 ≢ n) (λ f below e. absurd (omega arith)) (take i fs) low)
    (each_weaker (λ (f : ℕ × A). n < f.0) (λ (f : ℕ × A). f.0 ≢ n) (λ f above e. absurd (omega arith)) (drop i fs) (strictly_above n (drop i fs) (rises_drop i fs rises) high apart)))

-- the number of the field that was read at an index
pub number_at : {A : Type 0} (fs : List (ℕ × A)) (i n : ℕ) (x d : ℕ × A) → i < length fs → x ≡ get_or fs i x → x.0 ≡ n → (get_or fs i d).0 ≡ n
number_at {A} fs i n x d inside is number = ap (λ (f : ℕ × A). f.0) (same_default fs i d x inside ∙ sym is) ∙ number

-- a call that fails only without room
pub with_room : {T E X : Type 0} {len cap : ℕ} {new done : X} (r : Result T E) (old : X) → OnErr r (cap ≤ len) → len < cap → new ≡ (if is_ok r then done else old) → new ≡ done
with_room (Ok x) old full room h = h
with_room (Err e) old full room h = absurd (omega arith)

-- Fields put in and taken out still rise, and facts of all stay.

pub rises-filter : {A : Type 0} (test : ℕ × A → Bool) (fs : List (ℕ × A)) → Rises fs → Rises (filter test fs)
rises-filter {A} test [] h = tt
rises-filter {A} test (f ∷ fs) h =
    search (rules, each_weaker, each-filter, rises-filter test fs h.1)

rises-append : {A : Type 0} (n : ℕ) (xs ys : List (ℕ × A)) → Rises xs → AllBelow n xs → AllFrom n ys → Rises ys → Rises (xs ++ ys)
rises-append {A} n [] ys rises low high h = h
rises-append {A} n (x ∷ xs) ys rises low high h =
    search (rules, arith, each-append, each_weaker, rises-append n xs ys rises.1 low.1 high h)

abbrev Anything : {A : Type 0} → ℕ × A → Type 0
Anything {A} f = Unit {0}

are_below : {A : Type 0} (n : ℕ) (fs : List (ℕ × A)) → AllBelow n (fields_below n fs)
are_below {A} n fs =
    each_weaker (λ (f : ℕ × A). Anything f × (nat_lt f.0 n ≡ true)) (λ (f : ℕ × A). f.0 < n) (λ f k. ltb-true f.0 n k.1) (fields_below n fs)
    (each-filter Anything (λ (f : ℕ × A). nat_lt f.0 n) fs (each_of_all Anything (λ f. tt) fs))

are_above : {A : Type 0} (n : ℕ) (fs : List (ℕ × A)) → AllAbove n (fields_above n fs)
are_above {A} n fs =
    each_weaker (λ (f : ℕ × A). Anything f × (nat_lt n f.0 ≡ true)) (λ (f : ℕ × A). n < f.0) (λ f k. ltb-true n f.0 k.1) (fields_above n fs)
    (each-filter Anything (λ (f : ℕ × A). nat_lt n f.0) fs (each_of_all Anything (λ f. tt) fs))

from_above : {A : Type 0} (n : ℕ) (fs : List (ℕ × A)) → AllAbove n fs → AllFrom n fs
from_above {A} n fs h = each_weaker (λ (f : ℕ × A). n < f.0) (λ (f : ℕ × A). n ≤ f.0) (λ f k. let le : n ≤ f.0 = omega arith in le) fs h

pub rises_put : {A : Type 0} (n : ℕ) (c : A) (fs : List (ℕ × A)) → Rises fs → Rises (put_field n c fs)
rises_put {A} n c fs h =
    search (rules, arith, rises-append, rises-filter, are_below, from_above, are_above)

pub rises_remove : {A : Type 0} (n : ℕ) (fs : List (ℕ × A)) → Rises fs → Rises (remove_field n fs)
rises_remove {A} n fs h =
    search (rules, rises-append, rises-filter, are_below, from_above, are_above)

module _ {A : Type 0} (P : ℕ × A → Type 0) (n : ℕ) where
  each_kept : (test : ℕ × A → Bool) (fs : List (ℕ × A)) → AllByRecursion P fs → AllByRecursion P (filter test fs)
  each_kept test fs h = each_weaker (λ f. P f × (test f ≡ true)) P (λ f k. k.0) (filter test fs) (each-filter P test fs h)

  pub each_put : (c : A) (fs : List (ℕ × A)) → P (n, c) → AllByRecursion P fs → AllByRecursion P (put_field n c fs)
  each_put c fs new h = search (rules, each-append, each_kept)

  pub each_removed : (fs : List (ℕ × A)) → AllByRecursion P fs → AllByRecursion P (remove_field n fs)
  each_removed fs h = each-append P (fields_below n fs) (fields_above n fs) (each_kept (λ (f : ℕ × A). nat_lt f.0 n) fs h) (each_kept (λ (f : ℕ × A). nat_lt n f.0) fs h)
