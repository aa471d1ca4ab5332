-- Uses by rising first numbers: each comes before the next exactly where no two clash.
use Rattle.std.proofs.Common.{◌≡◌, ℕ, zero, suc, ◌^◌, ◌<◌, ◌≤◌, Bool, true, false, not, ◌&&◌, ◌||◌, nat_lt, nat_le, nat_eq, cond, List, [], ◌∷◌, ◌++◌, length, map, get_or, arith, sym, ◌∙◌, ap, subst, refl}
use Rattle.std.specs.List.{list_all, swap}
use Rattle.std.specs.List.Sorted.{IsPermutation, IsNonDecreasingBy}
use Rattle.std.proofs.lemmas.Bool.{false≢true}
use Rattle.std.proofs.lemmas.Bool.Decides.{nat_tests}
use Rattle.std.proofs.lemmas.List.Sorted.{IsPermutation-keeps, IsPermutation-sym}
use Rattle.std.proofs.lemmas.List.Edits.{length-swap}
use Rattle.std.proofs.lemmas.Grind.{elements}
use Rattle.pg_schema.specs.declared.rules.uses.Use.{Use}
use Rattle.pg_schema.specs.rules.Pairs.{all_pairs}
use Rattle.pg_schema.specs.inner.Steps.{all_neighbours}
use Rattle.pg_schema.specs.inner.Steps.{place_use}
use Rattle.pg_schema.specs.declared.parts.enum_type.EnumValue.{EnumValue}
use Rattle.pg_schema.specs.declared.parts.enum_type.ReservedValues.{ReservedValues}
use Rattle.pg_schema.specs.declared.parts.field.Field.{Field}
use Rattle.pg_schema.specs.declared.parts.message_type.ReservedFields.{ReservedFields}
use Rattle.pg_schema.specs.rules.Uses.{are_apart, are_aliases, enum_uses, field_use, from_lowest, is_reserved_range, is_used_once, is_value_range, message_uses, reserved_use, reserved_values_use, value_use}
use Rattle.pg_schema.specs.inner.Steps.{comes_before, is_whole}
use Rattle.pg_schema.proofs.lemmas.rules.PairLemmas.{and_left, and_right, and_both}

abbrev pub fits : Bool → Use → Use → Bool
fits aliases a b = are_apart a b || are_aliases aliases a b

-- one comes before another, and that before a third
transitive : (al : Bool) (a b c : Use) → is_whole b ≡ true → comes_before al a b ≡ true → comes_before al b c ≡ true → comes_before al a c ≡ true
transitive al a b c whole h k = grind (arith, nat_tests)

before_fits : (al : Bool) (a b : Use) → comes_before al a b ≡ true → fits al a b ≡ true
before_fits al a b h = grind (arith, nat_tests)

fits_before : (al : Bool) (a b : Use) → is_whole a ≡ true → is_whole b ≡ true → a.first ≤ b.first → fits al a b ≡ true → comes_before al a b ≡ true
fits_before al a b p q le h = grind (arith, nat_tests)

symmetric : (al : Bool) (a b : Use) → fits al a b ≡ true → fits al b a ≡ true
symmetric al a b h = grind (arith, nat_tests)

comes_first : (al : Bool) (a b : Use) (bs : List Use) → list_all is_whole (b ∷ bs) ≡ true → comes_before al a b ≡ true → list_all (comes_before al b) bs ≡ true → list_all (comes_before al a) bs ≡ true
comes_first al a b [] whole h all = refl
comes_first al a b (x ∷ xs) whole h all =
    and_both _ _ (transitive al a b x (and_left _ _ whole) h (and_left _ _ all))
    (comes_first al a b xs (and_both _ _ (and_left _ _ whole) (and_right (is_whole x) _ (and_right (is_whole b) _ whole))) h (and_right (comes_before al b x) _ all))

pairs_from_neighbours : (al : Bool) (xs : List Use) → list_all is_whole xs ≡ true → all_neighbours (comes_before al) xs ≡ true → all_pairs (comes_before al) xs ≡ true
pairs_from_neighbours al [] whole h = refl
pairs_from_neighbours al (x ∷ []) whole h = refl
pairs_from_neighbours al (x ∷ y ∷ ys) whole h =
    let later = pairs_from_neighbours al (y ∷ ys) (and_right (is_whole x) _ whole) (and_right (comes_before al x y) _ h) in
    let first = and_left (comes_before al x y) _ h in
    and_both _ _ (and_both _ _ first (comes_first al x y ys (and_right (is_whole x) _ whole) first (and_left (list_all (comes_before al y) ys) _ later))) later

all_fit : (al : Bool) (x : Use) (xs : List Use) → list_all (comes_before al x) xs ≡ true → list_all (fits al x) xs ≡ true
all_fit al x [] h = refl
all_fit al x (y ∷ ys) h = and_both _ _ (before_fits al x y (and_left _ _ h)) (all_fit al x ys (and_right (comes_before al x y) _ h))

pairs_fit : (al : Bool) (xs : List Use) → all_pairs (comes_before al) xs ≡ true → all_pairs (fits al) xs ≡ true
pairs_fit al [] h = refl
pairs_fit al (x ∷ xs) h = and_both _ _ (all_fit al x xs (and_left _ _ h)) (pairs_fit al xs (and_right (list_all (comes_before al x) xs) _ h))

neighbours_from_pairs : (al : Bool) (xs : List Use) → list_all is_whole xs ≡ true → IsNonDecreasingBy (λ (u : Use). u.first) xs → all_pairs (fits al) xs ≡ true → all_neighbours (comes_before al) xs ≡ true
neighbours_from_pairs al [] whole up h = refl
neighbours_from_pairs al (x ∷ []) whole up h = refl
neighbours_from_pairs al (x ∷ y ∷ ys) whole up h =
    and_both _ _
    (fits_before al x y (and_left _ _ whole) (and_left (is_whole y) _ (and_right (is_whole x) _ whole)) (up 0 1 x (omega arith) (omega arith)) (and_left (fits al x y) _ (and_left (list_all (fits al x) (y ∷ ys)) _ h)))
    (neighbours_from_pairs al (y ∷ ys) (and_right (is_whole x) _ whole) (λ i j d le lt. up (suc i) (suc j) d (omega (arith, le)) (omega (arith, lt))) (and_right (list_all (fits al x) (y ∷ ys)) _ h))

-- the test holds of the items at each two indices
abbrev EachTwo : (Use → Use → Bool) → List Use → Type 0
EachTwo test xs = (i j : ℕ) (d : Use) → i < length xs → j < length xs → (i ≡ j → ⊥) → test (get_or xs i d) (get_or xs j d) ≡ true

all_at : (test : Use → Bool) (xs : List Use) (i : ℕ) (d : Use) → list_all test xs ≡ true → i < length xs → test (get_or xs i d) ≡ true
all_at test [] i d h lt = absurd (omega (arith, lt))
all_at test (x ∷ xs) zero d h lt = and_left _ _ h
all_at test (x ∷ xs) (suc i) d h lt = all_at test xs i d (and_right (test x) _ h) (omega (arith, lt))

each_from_pairs : (al : Bool) (xs : List Use) → all_pairs (fits al) xs ≡ true → EachTwo (fits al) xs
each_from_pairs al [] h i j d li lj ne = absurd (omega (arith, li))
each_from_pairs al (x ∷ xs) h zero zero d li lj ne = absurd (ne refl)
each_from_pairs al (x ∷ xs) h zero (suc j) d li lj ne = all_at (fits al x) xs j d (and_left _ _ h) (omega (arith, lj))
each_from_pairs al (x ∷ xs) h (suc i) zero d li lj ne = symmetric al x (get_or xs i d) (all_at (fits al x) xs i d (and_left _ _ h) (omega (arith, li)))
each_from_pairs al (x ∷ xs) h (suc i) (suc j) d li lj ne =
    each_from_pairs al xs (and_right (list_all (fits al x) xs) _ h) i j d (omega (arith, li)) (omega (arith, lj)) (λ e. ne (ap suc e))

all_from : (test : Use → Bool) (xs : List Use) → ((i : ℕ) (d : Use) → i < length xs → test (get_or xs i d) ≡ true) → list_all test xs ≡ true
all_from test [] h = refl
all_from test (x ∷ xs) h = and_both _ _ (h 0 x (omega arith)) (all_from test xs (λ i d lt. h (suc i) d (omega (arith, lt))))

pairs_from_each : (al : Bool) (xs : List Use) → EachTwo (fits al) xs → all_pairs (fits al) xs ≡ true
pairs_from_each al [] h = refl
pairs_from_each al (x ∷ xs) h =
    and_both _ _ (all_from (fits al x) xs (λ i d lt. h 0 (suc i) d (omega arith) (omega (arith, lt)) (λ e. absurd (omega (arith, e)))))
    (pairs_from_each al xs (λ i j d li lj ne. h (suc i) (suc j) d (omega (arith, li)) (omega (arith, lj)) (λ e. ne (omega (arith, e)))))

-- the index whose item comes to an index by a swap
abbrev origin : ℕ → ℕ → ℕ → ℕ
origin a b k = cond (nat_eq k a) b (cond (nat_eq k b) a k)

swapped_at : (xs : List Use) (a b k : ℕ) (d : Use) → a < length xs → b < length xs → k < length xs → get_or (swap xs a b) k d ≡ get_or xs (origin a b k) d
swapped_at xs a b k d la lb lk = grind (arith, elements, nat_tests)

origin_within : (n a b k : ℕ) → a < n → b < n → k < n → origin a b k < n
origin_within n a b k la lb lk = grind (arith, nat_tests)

origin_apart : (a b i j : ℕ) → (i ≡ j → ⊥) → origin a b i ≡ origin a b j → ⊥
origin_apart a b i j ne e = grind (arith, nat_tests)

swap_keeps : (al : Bool) (xs : List Use) (a b : ℕ) → a < length xs → b < length xs → EachTwo (fits al) xs → EachTwo (fits al) (swap xs a b)
swap_keeps al xs a b la lb h i j d li lj ne =
    let within_i : i < length xs = subst (λ n. i < n) (length-swap xs a b) li in
    let within_j : j < length xs = subst (λ n. j < n) (length-swap xs a b) lj in
    subst (λ u. fits al u (get_or (swap xs a b) j d) ≡ true) (sym (swapped_at xs a b i d la lb within_i))
    (subst (λ u. fits al (get_or xs (origin a b i) d) u ≡ true) (sym (swapped_at xs a b j d la lb within_j))
    (h (origin a b i) (origin a b j) d (origin_within (length xs) a b i la lb within_i) (origin_within (length xs) a b j la lb within_j) (origin_apart a b i j ne)))

pairs_moved : (al : Bool) (xs ys : List Use) → IsPermutation xs ys → all_pairs (fits al) xs ≡ true → all_pairs (fits al) ys ≡ true
pairs_moved al xs ys moved h =
    pairs_from_each al ys (IsPermutation-keeps xs (EachTwo (fits al)) (each_from_pairs al xs h) (λ zs a b la lb each. swap_keeps al zs a b la lb each) ys moved)

whole_swapped : (xs : List Use) (a b : ℕ) → a < length xs → b < length xs → list_all is_whole xs ≡ true → list_all is_whole (swap xs a b) ≡ true
whole_swapped xs a b la lb h = all_from is_whole (swap xs a b) (λ i d li.
    let within : i < length xs = subst (λ n. i < n) (length-swap xs a b) li in
    subst (λ u. is_whole u ≡ true) (sym (swapped_at xs a b i d la lb within)) (all_at is_whole xs (origin a b i) d h (origin_within (length xs) a b i la lb within)))

whole_moved : (xs ys : List Use) → IsPermutation xs ys → list_all is_whole xs ≡ true → list_all is_whole ys ≡ true
whole_moved xs ys moved h = IsPermutation-keeps xs (λ zs. list_all is_whole zs ≡ true) h (λ zs a b la lb whole. whole_swapped zs a b la lb whole) ys moved

same_tests : (p q : Bool) → (p ≡ true → q ≡ true) → (q ≡ true → p ≡ true) → p ≡ q
same_tests true q f g = sym (f refl)
same_tests false true f g = g refl
same_tests false false f g = refl

-- what is in order after a sort was used once before it
pub used_once_is : (al : Bool) (xs ys : List Use) → list_all is_whole xs ≡ true → IsPermutation xs ys → IsNonDecreasingBy (λ (u : Use). u.first) ys → all_neighbours (comes_before al) ys ≡ is_used_once al xs
used_once_is al xs ys whole moved up =
    let whole_ys = whole_moved xs ys moved whole in
    same_tests (all_neighbours (comes_before al) ys) (is_used_once al xs)
    (λ h. pairs_moved al ys xs (IsPermutation-sym xs ys moved) (pairs_fit al ys (pairs_from_neighbours al ys whole_ys h)))
    (λ h. neighbours_from_pairs al ys whole_ys up (pairs_moved al xs ys moved h))

all_of_append : (test : Use → Bool) (xs ys : List Use) → list_all test xs ≡ true → list_all test ys ≡ true → list_all test (xs ++ ys) ≡ true
all_of_append test [] ys h k = k
all_of_append test (x ∷ xs) ys h k = and_both _ _ (and_left _ _ h) (all_of_append test xs ys (and_right (test x) _ h) k)

one_is_whole : (n : ℕ) → (nat_le n n && (false || nat_le n n)) ≡ true
one_is_whole n = grind (arith, nat_tests)

fields_whole : (fs : List Field) → list_all is_whole (map field_use fs) ≡ true
fields_whole [] = refl
fields_whole (f ∷ fs) = and_both _ _ (one_is_whole f.number) (fields_whole fs)

values_whole : (vs : List EnumValue) → list_all is_whole (map value_use vs) ≡ true
values_whole [] = refl
values_whole (v ∷ vs) = and_both _ _ (one_is_whole (from_lowest v.number)) (values_whole vs)

range_is_whole : (a b : ℕ) → (nat_le 1 a && nat_le a b && nat_lt b (2 ^ 29)) ≡ true → (nat_le a b && (true || nat_le b a)) ≡ true
range_is_whole a b h = grind (arith, nat_tests)

value_range_is_whole : (a b : ℕ) → nat_le a b ≡ true → (nat_le a b && (true || nat_le b a)) ≡ true
value_range_is_whole a b h = and_both _ _ h refl

ranges_whole : (rs : List ReservedFields) → list_all is_reserved_range rs ≡ true → list_all is_whole (map reserved_use rs) ≡ true
ranges_whole [] h = refl
ranges_whole (r ∷ rs) h = and_both _ _ (range_is_whole r.first r.last (and_left _ _ h)) (ranges_whole rs (and_right (is_reserved_range r) _ h))

value_ranges_whole : (rs : List ReservedValues) → list_all is_value_range rs ≡ true → list_all is_whole (map reserved_values_use rs) ≡ true
value_ranges_whole [] h = refl
value_ranges_whole (r ∷ rs) h = and_both _ _ (value_range_is_whole (from_lowest r.first) (from_lowest r.last) (and_left _ _ h)) (value_ranges_whole rs (and_right (is_value_range r) _ h))

-- what fields and reserved items use is whole where no item falls
pub message_whole : (fs : List Field) (rs : List ReservedFields) → list_all is_reserved_range rs ≡ true → list_all is_whole (message_uses fs rs) ≡ true
message_whole fs rs h = all_of_append is_whole (map field_use fs) (map reserved_use rs) (fields_whole fs) (ranges_whole rs h)

pub enum_whole : (vs : List EnumValue) (rs : List ReservedValues) → list_all is_value_range rs ≡ true → list_all is_whole (enum_uses vs rs) ≡ true
enum_whole vs rs h = all_of_append is_whole (map value_use vs) (map reserved_values_use rs) (values_whole vs) (value_ranges_whole rs h)

pub places_whole : (places : List ℕ) → list_all is_whole (map place_use places) ≡ true
places_whole [] = refl
places_whole (n ∷ ns) = and_both _ _ (one_is_whole n) (places_whole ns)

places_differ : (m n : ℕ) → ((nat_lt m n || nat_lt n m) || false) ≡ not (nat_eq m n)
places_differ m n = grind (arith, nat_tests)

each_differs : (m : ℕ) (ns : List ℕ) → list_all (λ (u : Use). fits false (place_use m) u) (map place_use ns) ≡ list_all (λ n. not (nat_eq m n)) ns
each_differs m [] = refl
each_differs m (n ∷ ns) =
    ap (λ b. b && list_all (λ (u : Use). fits false (place_use m) u) (map place_use ns)) (places_differ m n)
    ∙ ap (λ b. not (nat_eq m n) && b) (each_differs m ns)

-- indices are used once exactly where no two are equal
pub places_once : (places : List ℕ) → is_used_once false (map place_use places) ≡ all_pairs (λ a b. not (nat_eq a b)) places
places_once [] = refl
places_once (n ∷ ns) =
    ap (λ b. b && is_used_once false (map place_use ns)) (each_differs n ns)
    ∙ ap (λ b. list_all (λ m. not (nat_eq n m)) ns && b) (places_once ns)

pub all_three : (a b c : Bool) → a ≡ true → b ≡ true → c ≡ (a && b && c)
all_three true true c h k = refl
all_three true false c h k = absurd (false≢true k)
all_three false b c h k = absurd (false≢true h)
