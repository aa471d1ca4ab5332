-- The field of a number among fields by rising number.
use Rattle.std.proofs.Common.{◌≡◌, ℕ, zero, suc, ◌≤◌, ◌<◌, Bool, true, false, cond, List, [], ◌∷◌, length, map, get_or, find, nat_eq, nat_lt, ◌⊎◌, inl, inr, Option, Some, None, arith, sym, ◌∙◌, ap, subst, refl}
use Rattle.std.specs.List.{AllByRecursion, AllWithin}
use Rattle.std.specs.List.Sorted.{IsNonDecreasingBy}
use Rattle.std.specs.Option.{option_map}
use Rattle.std.specs.Ordering.{nat_cmp, ordering_index}
use Rattle.std.specs.declared.cmp.Ordering.TheVariants.{Less, Equal, Greater}
use Rattle.std.proofs.lemmas.Bool.Decides.{nat_tests}
use Rattle.pg_schema.specs.declared.parts.field.Field.{Field}
use Rattle.pg_schema.specs.Parts.{field_shape}
use Rattle.pg_schema.specs.Shape.{FieldShape, field_at}
use Rattle.pg_schema.specs.ShapeRules.{Rising}

abbrev pub has_number : ℕ → Field → Bool
has_number n f = nat_eq f.number n

above_at : (fs : List Field) (n i : ℕ) (d : Field) → AllByRecursion (λ (g : FieldShape). n < g.number) (map field_shape fs) → i < length fs → n < (get_or fs i d).number
above_at [] n i d all h = absurd (omega (arith, h))
above_at (f ∷ fs) n zero d all h = all.0
above_at (f ∷ fs) n (suc i) d all h = above_at fs n i d all.1 (omega (arith, h))

rises : (fs : List Field) (i j : ℕ) (d : Field) → Rising (map field_shape fs) → i ≤ j → j < length fs → (get_or fs i d).number ≤ (get_or fs j d).number
rises [] i j d rising le h = absurd (omega (arith, h))
rises (f ∷ fs) zero zero d rising le h = omega arith
rises (f ∷ fs) zero (suc j) d rising le h = let above = above_at fs f.number j d rising.0 (omega (arith, h)) in omega (arith, above)
rises (f ∷ fs) (suc i) zero d rising le h = absurd (omega (arith, le))
rises (f ∷ fs) (suc i) (suc j) d rising le h = rises fs i j d rising.1 (omega (arith, le)) (omega (arith, h))

index_rises : (a b n : ℕ) → a ≤ b → ordering_index (nat_cmp a n) ≤ ordering_index (nat_cmp b n)
index_rises a b n le = grind (arith, nat_tests)

pub searchable : (fs : List Field) (n : ℕ) → Rising (map field_shape fs) → IsNonDecreasingBy (λ (f : Field). ordering_index (nat_cmp f.number n)) fs
searchable fs n rising i j d le h = index_rises (get_or fs i d).number (get_or fs j d).number n (rises fs i j d rising le h)

-- the first that passes, and those after it
first_is : (p : Field → Bool) (f : Field) (fs : List Field) → p f ≡ true → find p (f ∷ fs) ≡ Some f
first_is p f fs h = subst (λ b. cond b (Some f) (find p fs) ≡ Some f) (sym h) refl

later_is : (p : Field → Bool) (f : Field) (fs : List Field) (r : Option Field) → p f ≡ false → find p fs ≡ r → find p (f ∷ fs) ≡ r
later_is p f fs r h is = subst (λ b. cond b (Some f) (find p fs) ≡ r) (sym h) is

same_number : (m n : ℕ) → m ≡ n → nat_eq m n ≡ true
same_number m n h = grind (arith, nat_tests)

below_number : (m n : ℕ) → m < n → nat_eq m n ≡ false
below_number m n h = grind (arith, nat_tests)

other_number : (m n : ℕ) → (m ≡ n → ⊥) → nat_eq m n ≡ false
other_number m n h = grind (arith, nat_tests)

pub found_at : (n i : ℕ) (fs : List Field) (x : Field) → Rising (map field_shape fs) → i < length fs → x ≡ get_or fs i x → x.number ≡ n → find (has_number n) fs ≡ Some x
found_at n i [] x rising h is e = absurd (omega (arith, h))
found_at n zero (f ∷ fs) x rising h is e =
    subst (λ y. find (has_number n) (f ∷ fs) ≡ Some y) (sym is) (first_is (has_number n) f fs (same_number f.number n (ap (λ (y : Field). y.number) (sym is) ∙ e)))
found_at n (suc i) (f ∷ fs) x rising h is e =
    let within : i < length fs = omega (arith, h) in
    let above : f.number < (get_or fs i x).number = above_at fs f.number i x rising.0 within in
    let number : (get_or fs i x).number ≡ n = ap (λ (y : Field). y.number) (sym is) ∙ e in
    later_is (has_number n) f fs (Some x) (below_number f.number n (subst (λ m. f.number < m) number above)) (found_at n i fs x rising.1 within is e)

pub none_found : (n : ℕ) (fs : List Field) → ((k : ℕ) (d : Field) → k < length fs → (get_or fs k d).number ≡ n → ⊥) → find (has_number n) fs ≡ None
none_found n [] none = refl
none_found n (f ∷ fs) none =
    later_is (has_number n) f fs None (other_number f.number n (none zero f (omega arith))) (none_found n fs (λ k d h. none (suc k) d (omega (arith, h))))

pub equal_number : (m n : ℕ) → nat_cmp m n ≡ Equal → m ≡ n
equal_number m n h = grind (arith, nat_tests)

less_apart : (m n : ℕ) → nat_cmp m n ≡ Less → m ≡ n → ⊥
less_apart m n h e = grind (arith, nat_tests)

greater_apart : (m n : ℕ) → nat_cmp m n ≡ Greater → m ≡ n → ⊥
greater_apart m n h e = grind (arith, nat_tests)

below_or_from : (k i : ℕ) → (k < i) ⊎ (i ≤ k)
below_or_from k i = elim (nat_lt k i) as (λ b. nat_lt k i ≡ b → (k < i) ⊎ (i ≤ k)) [ true ↦ λ t. inl (grind (arith, nat_tests)) | false ↦ λ f. inr (grind (arith, nat_tests)) ] refl

-- the fields below an index have lower numbers and the others higher ones
pub apart : (n i : ℕ) (fs : List Field) → AllWithin (λ (f : Field). nat_cmp f.number n ≡ Less) fs 0 i → AllWithin (λ (f : Field). nat_cmp f.number n ≡ Greater) fs i (length fs)
    → (k : ℕ) (d : Field) → k < length fs → (get_or fs k d).number ≡ n → ⊥
apart n i fs less greater k d h e =
    elim (below_or_from k i) [
      | inl below ↦ less_apart (get_or fs k d).number n (less k d (omega arith) below) e
      | inr from ↦ greater_apart (get_or fs k d).number n (greater k d from h) e
    ]

-- a field's shape is found by its number where the field is
pub shape_found : (n : ℕ) (fs : List Field) → option_map field_shape (find (has_number n) fs) ≡ field_at (map field_shape fs) n
shape_found n [] = refl
shape_found n (f ∷ fs) =
    elim (nat_eq f.number n) as (λ b. option_map field_shape (cond b (Some f) (find (has_number n) fs)) ≡ cond b (Some (field_shape f)) (field_at (map field_shape fs) n)) [
      | true ↦ refl
      | false ↦ shape_found n fs
    ]
