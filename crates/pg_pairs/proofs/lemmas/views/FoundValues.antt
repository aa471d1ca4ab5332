-- Where a value is found among others: at an index, or among those of its number, which are next to each other.
use Rattle.std.proofs.Common.{◌≡◌, ℕ, zero, suc, ℤ, ◌+◌, ◌-◌, ◌<◌, ◌≤◌, List, [], ◌∷◌, length, get_or, map, take, drop, length-drop, get_or-drop, Bool, true, false, not, ◌&&◌, ◌||◌, ltb, leb, ltb-true, ap, refl, ◌∙◌, arith, rules}
use Rattle.std.specs.List.{list_any}
use Rattle.std.specs.List.Sorted.{IsPartitionPoint}
use Rattle.std.specs.Ordering.{int_eq}
use Rattle.std.specs.Str.{bytes_eq}
use Rattle.std.specs.String.{string_bytes}
use Rattle.std.proofs.lemmas.Bool.{leb-false, and_left, and_right, or_left, or_right}
use Rattle.std.proofs.lemmas.Bool.Decides.{Decides-int_eq}
use Rattle.pg_schema.specs.declared.parts.enum_type.EnumValue.{EnumValue}
use Rattle.pg_dyn.specs.views.ViewNames.{NamedNumber, named, declares, has_name}
use Rattle.pg_pairs.specs.views.LeastNumbers.{number_word}
use Rattle.pg_pairs.specs.inner.MissingNames.{is_missing}

-- What none passes outside of a part passes in the part or nowhere.

module _ {A B : Type 0} (f : A → B) (test : B → Bool) where
  any_within : (xs : List A) (s n : ℕ) → s + n ≤ length xs → ((k : ℕ) (d : A) → k < s → test (f (get_or xs k d)) ≡ false)
      → ((k : ℕ) (d : A) → s + n ≤ k → k < length xs → test (f (get_or xs k d)) ≡ false) → list_any test (map f (take n (drop s xs))) ≡ list_any test (map f xs)
  any_within [] zero zero within below above = refl
  any_within [] (suc s) n within below above = absurd (omega arith)
  any_within [] zero (suc n) within below above = absurd (omega arith)
  any_within (x ∷ xs) zero zero within below above =
      rw (above zero x (omega arith) (omega arith)) (any_within xs zero zero (omega arith) (λ k d h. absurd (omega arith)) (λ k d h i. above (suc k) d (omega arith) (omega arith)))
  any_within (x ∷ xs) zero (suc n) within below above =
      ap (λ b. test (f x) || b) (any_within xs zero n (omega arith) (λ k d h. absurd (omega arith)) (λ k d h i. above (suc k) d (omega arith) (omega arith)))
  any_within (x ∷ xs) (suc s) n within below above =
      rw (below zero x (omega arith)) (any_within xs s n (omega arith) (λ k d h. below (suc k) d (omega arith)) (λ k d h i. above (suc k) d (omega arith) (omega arith)))

apart_below : (u v : NamedNumber) → number_word u.number < number_word v.number → int_eq u.number v.number ≡ false
apart_below u v below = search (rules, Decides-int_eq)

apart_above : (u v : NamedNumber) → number_word v.number < number_word u.number → int_eq u.number v.number ≡ false
apart_above u v above = search (rules, Decides-int_eq)

module _ (xs : List EnumValue) (v : NamedNumber) (s n : ℕ) (within : s + n ≤ length xs) (below : (k : ℕ) (d : EnumValue) → k < s → int_eq (get_or xs k d).number v.number ≡ false)
    (above : (k : ℕ) (d : EnumValue) → s + n ≤ k → k < length xs → int_eq (get_or xs k d).number v.number ≡ false) where
  abbrev part : List EnumValue
  part = take n (drop s xs)

  same_numbers : declares (map named part) v.number ≡ declares (map named xs) v.number
  same_numbers = any_within named (λ u. int_eq u.number v.number) xs s n within below above

  same_names_there : has_name (map named part) v.number v.name ≡ has_name (map named xs) v.number v.name
  same_names_there = search (rules, any_within, and_left)

  same_missing : is_missing (map named part) v ≡ is_missing (map named xs) v
  same_missing = ap (λ b. b && not (has_name (map named part) v.number v.name)) same_numbers ∙ ap (λ b. declares (map named xs) v.number && not b) same_names_there

-- what is left at the first whose word isn't below, up to the last whose word isn't above
pub cut : (xs : List EnumValue) (v : NamedNumber) (s n : ℕ) → s ≤ length xs → n ≤ length (drop s xs)
    → IsPartitionPoint (λ (y : EnumValue). ltb (number_word y.number) (number_word v.number) ≡ true) (λ (y : EnumValue). ltb (number_word y.number) (number_word v.number) ≡ false) xs s
    → IsPartitionPoint (λ (y : EnumValue). leb (number_word y.number) (number_word v.number) ≡ true) (λ (y : EnumValue). leb (number_word y.number) (number_word v.number) ≡ false) (drop s xs) n
    → is_missing (map named (take n (drop s xs))) v ≡ is_missing (map named xs) v
cut xs v s n inside within lower upper =
    search (rules, length-drop, same_missing, apart_below, ltb-true, apart_above, leb-false, leb, from_start)
  where
    from_start : (k : ℕ) (d : EnumValue) → s ≤ k → get_or (drop s xs) (k - s) d ≡ get_or xs k d
    from_start k d h = get_or-drop s xs (k - s) d ∙ ap (λ i. get_or xs i d) (let same : s + (k - s) ≡ k = omega arith in same)

-- A value at an index of the others isn't missing there.

is_there : (n : ℤ) (name : List ℕ) (others : List EnumValue) (place : ℕ) (o : EnumValue) → place < length others → o ≡ get_or others place o → (int_eq o.number n && bytes_eq (string_bytes o.name) name) ≡ true → has_name (map named others) n name ≡ true
is_there n name [] place o h is named_so = absurd (omega (arith, h))
is_there n name (u ∷ others) zero o h is named_so = search (rules, or_left)
is_there n name (u ∷ others) (suc place) o h is named_so =
    or_right (int_eq u.number n && bytes_eq (string_bytes u.name) name) (has_name (map named others) n name) (is_there n name others place o (omega (arith, h)) is named_so)

pub not_missing : (others : List EnumValue) (place : ℕ) (o v : EnumValue) → place < length others → o ≡ get_or others place o → (int_eq o.number v.number && bytes_eq (string_bytes o.name) (string_bytes v.name)) ≡ true → is_missing (map named others) (named v) ≡ false
not_missing others place o v h is named_so = search (rules, is_there, and_right)
