-- Fields that were sorted by their numbers.
use Rattle.std.proofs.Common.{◌≡◌, ℕ, Bool, cond, not, ◌&&◌, nat_eq, List, [], ◌∷◌, filter, length, map, refl, ap, sym, ◌∙◌, arith, rules}
use Rattle.std.proofs.lemmas.Bool.Decides.{nat_tests}
use Rattle.std.specs.List.Sorted.{IsNonDecreasingBy, IsStableByKey, ties}
use Rattle.std.specs.Ordering.{is_lt, nat_cmp}
use Rattle.pg_schema.specs.declared.parts.field.Field.{Field}
use Rattle.pg_set.specs.stated.StatedTypes.{by_key, number_of}
use Rattle.pg_set.specs.stated.Views.{field_view}
use Rattle.pg_set.proofs.lemmas.lists.SameSorted.{AtLeast, InOrder, in_order}
use Rattle.pg_set.proofs.lemmas.lists.Sorting.{of_key, sorted_is}

abbrev number : Field → ℕ
number f = f.number

abbrev below : Field → Field → Bool
below x y = is_lt (nat_cmp (number x) (number y))

views_least : (f : Field) (fs : List Field) → AtLeast number f fs → AtLeast number_of (field_view f) (map field_view fs)
views_least f [] least = tt
views_least f (g ∷ gs) least = (least.0, views_least f gs least.1)

views_in_order : (fs : List Field) → InOrder number fs → InOrder number_of (map field_view fs)
views_in_order [] up = tt
views_in_order (f ∷ fs) up = (views_least f fs up.0, views_in_order fs up.1)

same_test : (a b : ℕ) → (not (is_lt (nat_cmp a b)) && not (is_lt (nat_cmp b a))) ≡ nat_eq b a
same_test a b = grind (arith, nat_tests)

filter_same : (p q : Field → Bool) → ((f : Field) → p f ≡ q f) → (fs : List Field) → filter p fs ≡ filter q fs
filter_same p q same [] = refl
filter_same p q same (f ∷ fs) = ap (λ b. cond b (f ∷ filter p fs) (filter p fs)) (same f) ∙ ap (λ gs. cond (q f) (f ∷ gs) gs) (filter_same p q same fs)

filter_views : (n : ℕ) (fs : List Field) → filter (of_key number_of n) (map field_view fs) ≡ map field_view (filter (of_key number n) fs)
filter_views n [] = refl
filter_views n (f ∷ fs) = search (rules, filter_views n fs, of_key)

same_of : (xs ys : List Field) → length ys ≡ length xs → IsStableByKey number nat_cmp xs ys → (n : ℕ) → filter (of_key number n) ys ≡ filter (of_key number n) xs
same_of [] [] many stable n = refl
same_of [] (y ∷ ys) many stable n = absurd (omega (arith, many))
same_of (x ∷ xs) ys many stable n =
    let at : Field = record x { number = n } in
    filter_same (of_key number n) (ties below at) (λ f. sym (same_test n f.number)) ys ∙ (stable at ∙ filter_same (ties below at) (of_key number n) (λ f. same_test n f.number) (x ∷ xs))

-- they are those by rising number
pub sorted_fields : (xs ys : List Field) → length ys ≡ length xs → IsNonDecreasingBy number ys → IsStableByKey number nat_cmp xs ys → map field_view ys ≡ by_key number_of (map field_view xs)
sorted_fields xs ys many up stable = search (rules, sorted_is, views_in_order, in_order, filter_views, same_of)
