-- What stays of records in another order.
use Rattle.std.proofs.Common.{◌≡◌, ℕ, ◌+◌, ◌≤◌, List, [], ◌∷◌, map, filter, flat_map, fold, length, Bool, true, false, ◌&&◌, Option, Some, option_map, unwrap_or, refl, ap, sym, subst, ◌∙◌, arith, length-append, rules}
use Rattle.std.specs.Prelude.{IsPermutation}
use Rattle.std.specs.List.{AllByRecursion}
use Rattle.std.proofs.lemmas.List.Sorted.{sum_by-IsPermutation}
use Rattle.std.proofs.lemmas.List.{length-map}
use Rattle.pg_dyn.specs.reading.Optional.{all_some}
use Rattle.pg_dyn.proofs.Lists.{all_some-map, and_then_some, each_passing, each_passed, filtered_out, filter-map, filter_none, option_map_some}
use Rattle.pg_dyn.proofs.lemmas.message.KeyLaws.{count_moved, each_moved}

length-flat_more : {A B : Type 0} (h : A → List B) (n : ℕ) (xs : List A) → fold (λ a x. a + length (h x)) n xs ≡ n + length (flat_map h xs)
length-flat_more h n [] = omega arith
length-flat_more h n (x ∷ xs) = length-flat_more h (n + length (h x)) xs ∙ omega (arith, length-append (h x) (flat_map h xs))

-- what is made of each is as long in another order
pub length-flat_moved : {A B : Type 0} (h : A → List B) (xs ys : List A) → IsPermutation xs ys → length (flat_map h ys) ≡ length (flat_map h xs)
length-flat_moved h xs ys moved =
    let one = length-flat_more h 0 xs in
    let two = length-flat_more h 0 ys in
    let same = sum_by-IsPermutation (λ x. length (h x)) xs ys moved in
    omega arith

-- what no element passes none passes in another order
pub none_moved : {A : Type 0} (test : A → Bool) (xs ys : List A) → IsPermutation xs ys → filter test xs ≡ [] → filter test ys ≡ []
none_moved test xs ys moved none = filter_none test ys (each_moved (λ x. test x ≡ false) xs ys moved (filtered_out test xs none))

-- what holds of all that pass holds of them in another order
pub passing_moved : {A : Type 0} (P : A → Type 0) (test : A → Bool) (xs ys : List A) → IsPermutation xs ys → AllByRecursion P (filter test xs) → AllByRecursion P (filter test ys)
passing_moved P test xs ys moved h = each_passed P test ys (each_moved (λ x. test x ≡ true → P x) xs ys moved (each_passing P test xs h))

-- where at most one element passes, the same does in another order
module _ {A : Type 0} (test : A → Bool) (xs ys : List A) (moved : IsPermutation xs ys) where
  one_of : (ps qs : List A) → filter test xs ≡ ps → filter test ys ≡ qs → length qs ≡ length ps → length ps ≤ 1 → ps ≡ qs
  one_of [] [] e f same few = refl
  one_of [] (q ∷ qs) e f same few = absurd (omega arith)
  one_of (p ∷ []) [] e f same few = absurd (omega arith)
  one_of (p ∷ []) (q ∷ []) e f same few =
      let each : AllByRecursion (λ x. x ≡ p) (filter test ys) =
      passing_moved (λ x. x ≡ p) test xs ys moved (subst (AllByRecursion (λ x. x ≡ p)) (sym e) (refl, tt)) in
      let one : AllByRecursion (λ x. x ≡ p) (q ∷ []) = subst (AllByRecursion (λ x. x ≡ p)) f each in
      ap (λ x. x ∷ []) (sym one.0)
  one_of (p ∷ []) (q ∷ r ∷ qs) e f same few = absurd (omega arith)
  one_of (p ∷ o ∷ ps) qs e f same few = absurd (omega arith)

  pub one_moved : length (filter test xs) ≤ 1 → filter test xs ≡ filter test ys
  one_moved few = one_of (filter test xs) (filter test ys) refl refl (count_moved test xs ys moved) few

-- two tests, one after the other
pub filter-filter : {A : Type 0} (t u : A → Bool) (xs : List A) → filter u (filter t xs) ≡ filter (λ x. t x && u x) xs
filter-filter t u [] = refl
filter-filter t u (x ∷ xs) = search (rules, filter-filter t u xs)

-- What is read of each that passes, in another order.

abbrev pub read_or : {A B : Type 0} → B → (A → Option B) → A → B
read_or d read x = unwrap_or (read x) d

module _ {A B : Type 0} (d : B) (read : A → Option B) (test : A → Bool) where
  abbrev or_default : A → B
  or_default x = read_or d read x

  each_is_read : (xs : List A) (ys : List B) → all_some (map read xs) ≡ Some ys → AllByRecursion (λ x. read x ≡ Some (or_default x)) xs
  each_is_read [] ys h = tt
  each_is_read (x ∷ xs) ys h =
      let (y, at, rest) = and_then_some (λ z. option_map (λ zs. z ∷ zs) (all_some (map read xs))) (read x) ys h in
      let (zs, later, made) = option_map_some (λ zs. y ∷ zs) (all_some (map read xs)) ys rest in
      (at ∙ ap Some (sym (ap (λ o. unwrap_or o d) at)), each_is_read xs zs later)

  module _ (xs ys : List A) (moved : IsPermutation xs ys) (es : List B) (h : all_some (map read (filter test xs)) ≡ Some es) where
    pub entries_are : es ≡ map or_default (filter test xs)
    entries_are =
        let whole : ◌≡◌ {A = Option (List B)} (Some (map or_default (filter test xs))) (Some es) =
        sym (all_some-map read or_default (filter test xs) (each_is_read (filter test xs) es h)) ∙ h in
        cc

    pub read_moved : all_some (map read (filter test ys)) ≡ Some (map or_default (filter test ys))
    read_moved =
        all_some-map read or_default (filter test ys)
        (passing_moved (λ x. read x ≡ Some (or_default x)) test xs ys moved (each_is_read (filter test xs) es h))

    -- of those that pass another test, where there is at most one
    pub one_read : (u : B → Bool) → length (filter u es) ≤ 1 → filter u es ≡ filter u (map or_default (filter test ys))
    one_read u few =
        ap (filter u) entries_are ∙ as_map xs
        ∙ ap (map or_default) (one_moved (λ x. test x && u (or_default x)) xs ys moved (omega (arith, few, ap (λ ls. length (filter u ls)) entries_are, ap length (as_map xs), length-map (filter (λ x. test x && u (or_default x)) xs) or_default)))
        ∙ sym (as_map ys)
      where
        as_map : (zs : List A) → filter u (map or_default (filter test zs)) ≡ map or_default (filter (λ x. test x && u (or_default x)) zs)
        as_map zs = filter-map u or_default (filter test zs) ∙ ap (map or_default) (filter-filter test (λ x. u (or_default x)) zs)
