-- Rows of what is at indices, one by one, and indices that follow one another.
use Rattle.std.proofs.Common.{◌≡◌, ℕ, zero, suc, ◌+◌, Bool, true, List, [], ◌∷◌, ◌++◌, filter_map, length, map, Option, Some, option_map, slice_get, refl, ap, ap₂, sym, subst, ◌∙◌, arith, rules}
use Rattle.std.proofs.lemmas.List.{length-map, map-append}
use Rattle.std.proofs.lemmas.Option.{none-some, same_Some}
use Rattle.std.specs.List.{list_all}
use Rattle.pg_schema.proofs.lemmas.rules.PairLemmas.{and_left, and_right}
use Rattle.pg_schema.specs.standing.Places.{places_from}

-- ---- what is at indices

-- what holds of all holds of each
pub test_at : {A : Type 0} (test : A → Bool) (xs : List A) (i : ℕ) (x : A) → list_all test xs ≡ true → slice_get xs i ≡ Some x → test x ≡ true
test_at test [] i x all is = absurd (none-some x is)
test_at test (y ∷ ys) zero x all is = subst (λ z. test z ≡ true) (same_Some y x is) (and_left (test y) (list_all test ys) all)
test_at test (y ∷ ys) (suc i) x all is = test_at test ys i x (and_right (test y) (list_all test ys) all) is

module _ {R : Type 0} where
  abbrev there : List R → List (Option R)
  there rows = map (λ r. Some r) rows

  all_there : (rows : List R) → filter_map (λ (o : Option R). o) (there rows) ≡ rows
  all_there [] = refl
  all_there (r ∷ rows) = ap (λ rs. r ∷ rs) (all_there rows)

module _ {A R : Type 0} (row : A → R) (xs : List A) where
  abbrev row_at : ℕ → Option R
  row_at place = option_map row (slice_get xs place)

  -- the rows are those of what is at these indices
  abbrev pub AreAt : List R → List ℕ → Type 0
  AreAt rows places = there rows ≡ map row_at places

  pub at_one : (x : A) (r : R) (place : ℕ) (rows : List R) (places : List ℕ) → slice_get xs place ≡ Some x → r ≡ row x → AreAt rows places → AreAt (r ∷ rows) (place ∷ places)
  at_one x r place rows places at is later = ap₂ (λ o os. o ∷ os) (ap Some is ∙ sym (ap (option_map row) at)) later

  pub at_both : (rows more : List R) (places later : List ℕ) → AreAt rows places → AreAt more later → AreAt (rows ++ more) (places ++ later)
  at_both rows more places later front back = map-append (λ r. Some r) rows more ∙ (ap₂ (λ os ps. os ++ ps) front back ∙ sym (map-append row_at places later))

  pub as_long : (rows : List R) (places : List ℕ) → AreAt rows places → length rows ≡ length places
  as_long rows places are = sym (length-map rows (λ r. Some r)) ∙ (ap length are ∙ length-map places row_at)

module _ {A R : Type 0} (row : A → R) where
  from_place : (at : ℕ → Option A) (start : ℕ) (xs : List A) → ((k : ℕ) → at (start + k) ≡ slice_get xs k) → map (λ place. option_map row (at place)) (places_from start (length xs)) ≡ there (map row xs)
  from_place at start [] same = refl
  from_place at start (x ∷ xs) same =
      let here : start ≡ start + 0 = omega arith in
      ap₂ (λ o os. o ∷ os) (ap (option_map row) (ap at here ∙ same 0)) (from_place at (suc start) xs (λ k. ap at (moved k) ∙ same (suc k)))
    where
      moved : (k : ℕ) → suc start + k ≡ start + suc k
      moved k = omega arith

  -- rows of all indices, from the first on, are those of all that is there
  pub at_all : (xs : List A) (rows : List R) (places : List ℕ) → places ≡ places_from 0 (length xs) → AreAt row xs rows places → rows ≡ map row xs
  at_all xs rows places all are =
      sym (all_there rows)
      ∙ (ap (filter_map (λ (o : Option R). o)) (are ∙ (ap (map (row_at row xs)) all ∙ from_place (slice_get xs) 0 xs (λ k. ap (slice_get xs) (plain k)))) ∙ all_there (map row xs))
    where
      plain : (k : ℕ) → 0 + k ≡ k
      plain k = omega arith

-- ---- indices one after the other

-- they follow one another, from the first on
abbrev pub AreFrom : (first : ℕ) → List ℕ → Type 0
AreFrom first places = places ≡ places_from first (length places)

pub first_and_later : (first place : ℕ) (places : List ℕ) → AreFrom first (place ∷ places) → (place ≡ first) × AreFrom (suc first) places
first_and_later first place places are = search rules

pub front_and_rest : (first : ℕ) (front rest : List ℕ) → AreFrom first (front ++ rest) → AreFrom first front × AreFrom (first + length front) rest
front_and_rest first [] rest are = search rules
front_and_rest first (place ∷ front) rest are =
    let one = first_and_later first place (front ++ rest) are in
    let both = front_and_rest (suc first) front rest one.1 in
    let moved : suc first + length front ≡ first + suc (length front) = omega arith in
    (ap₂ (λ x xs. x ∷ xs) one.0 both.0, subst (λ n. AreFrom n rest) moved both.1)

pub all_from : (first n : ℕ) (places : List ℕ) → places ≡ places_from first n → AreFrom first places
all_from first n places is = is ∙ ap (places_from first) (sym (ap length is ∙ many first n))
  where
    many : (start count : ℕ) → length (places_from start count) ≡ count
    many start zero = refl
    many start (suc count) = ap suc (many (suc start) count)
