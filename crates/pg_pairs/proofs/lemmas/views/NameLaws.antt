-- The view by names keeps its law: the least of the old numbers that differ is the least of all.
use Rattle.std.proofs.Common.{◌≡◌, ◌^◌, ℤ, pos, negsuc, List, [], ◌∷◌, ◌++◌, map, filter, Bool, true, false, not, ◌&&◌, ◌||◌, cond, ◌⊎◌, inl, inr, ⊎_elim, refl, ap, sym, ◌∙◌, true≢false, rules}
use Rattle.std.specs.Ordering.{int_eq}
use Rattle.std.proofs.lemmas.Bool.{and_parts, and_from, ltb-true, lt-ltb, not_from_false}
use Rattle.std.proofs.lemmas.Bool.Decides.{Decides-int_eq}
use Rattle.pg_schema.specs.declared.parts.enum_type.EnumType.{EnumType}
use Rattle.pg_wire.specs.Words.{IsBetween}
use Rattle.pg_dyn.specs.views.ViewNames.{NamedNumber, named_numbers, declares, names_within, same_names}
use Rattle.pg_pairs.specs.bounds.Covering.{IsAmong}
use Rattle.pg_pairs.specs.views.ViewLaws.{Counts, Differs, IsLeastOf}
use Rattle.pg_pairs.specs.views.LeastNumbers.{least_number, has_32_bits, number_counts}
use Rattle.pg_pairs.proofs.lemmas.views.LeastNumberLaws.{least_of_those}
use Rattle.pg_pairs.specs.views.NamedView.{alike_by_name, differing, least_by_name}

-- What is in a list that is made of another.

module _ {A : Type 0} (test : A → Bool) where
  pub among_filter : (x : A) (xs : List A) → IsAmong x xs → test x ≡ true → IsAmong x (filter test xs)
  among_filter x [] h passes = h
  among_filter x (y ∷ ys) h passes =
      elim (test y) as (λ b. test y ≡ b → IsAmong x (cond b (y ∷ filter test ys) (filter test ys))) [
        | true ↦ λ e. ⊎_elim (λ same. inl same) (λ later. inr (among_filter x ys later passes)) h
        | false ↦ λ e. ⊎_elim (λ same. absurd (true≢false (sym passes ∙ ap test same ∙ e)))
            (λ later. among_filter x ys later passes) h
      ] refl

  pub filter_among : (x : A) (xs : List A) → IsAmong x (filter test xs) → IsAmong x xs × (test x ≡ true)
  filter_among x [] = λ h. absurd h
  filter_among x (y ∷ ys) =
      elim (test y) as (λ b. test y ≡ b → IsAmong x (cond b (y ∷ filter test ys) (filter test ys)) →
      IsAmong x (y ∷ ys) × (test x ≡ true)) [
        | true ↦ λ e h. ⊎_elim (λ same. (inl same, ap test same ∙ e))
            (λ later. let rest = filter_among x ys later in (inr rest.0, rest.1)) h
        | false ↦ λ e h. let rest = filter_among x ys h in (inr rest.0, rest.1)
      ] refl

module _ {A B : Type 0} (f : A → B) where
  pub among_map : (x : A) (xs : List A) → IsAmong x xs → IsAmong (f x) (map f xs)
  among_map x [] h = h
  among_map x (y ∷ ys) h = ⊎_elim (λ same. inl (ap f same)) (λ later. inr (among_map x ys later)) h

  pub map_among : (y : B) (xs : List A) → IsAmong y (map f xs) → (x : A) × IsAmong x xs × (y ≡ f x)
  map_among y [] h = absurd h
  map_among y (x ∷ xs) h =
      ⊎_elim (λ same. (x, inl refl, same)) (λ later. let rest = map_among y xs later in (rest.0, inr rest.1, rest.2)) h

module _ {A : Type 0} (x : A) where
  pub among_left : (xs ys : List A) → IsAmong x xs → IsAmong x (xs ++ ys)
  among_left [] ys h = absurd h
  among_left (z ∷ zs) ys h = ⊎_elim (λ same. inl same) (λ later. inr (among_left zs ys later)) h

  pub among_right : (xs ys : List A) → IsAmong x ys → IsAmong x (xs ++ ys)
  among_right [] ys h = h
  among_right (z ∷ zs) ys h = inr (among_right zs ys h)

  pub among_cases : (xs ys : List A) → IsAmong x (xs ++ ys) → IsAmong x xs ⊎ IsAmong x ys
  among_cases [] ys h = inr h
  among_cases (z ∷ zs) ys h =
      ⊎_elim (λ same. inl (inl same))
      (λ later. ⊎_elim (λ first. inl (inr first)) (λ second. inr second) (among_cases zs ys later)) h

-- Numbers that count.

fits_32 : (n : ℤ) → has_32_bits n ≡ true → IsBetween (2 ^ 31) (2 ^ 31) n
fits_32 (pos n) h = ltb-true n (2 ^ 31) h
fits_32 (negsuc n) h = ltb-true n (2 ^ 31) h

pub has_32 : (n : ℤ) → IsBetween (2 ^ 31) (2 ^ 31) n → has_32_bits n ≡ true
has_32 (pos n) h = lt-ltb n (2 ^ 31) h
has_32 (negsuc n) h = lt-ltb n (2 ^ 31) h

counted : (zero : Bool) (n : ℤ) → (zero || not (int_eq n (pos 0))) ≡ true → Counts zero n
counted true n h = tt
counted false n h = search (rules, pos)

counts_so : (zero : Bool) (n : ℤ) → Counts zero n → (zero || not (int_eq n (pos 0))) ≡ true
counts_so true n h = refl
counts_so false n h = not_from_false (int_eq n (pos 0)) h

pub counting : (alike : ℤ → Bool) (zero : Bool) (n : ℤ) → number_counts zero n ≡ true → alike n ≡ false →
    Differs alike zero n
counting alike zero n h unlike = search (rules, and_parts, pos, fits_32, counted)

pub counted_so : (alike : ℤ → Bool) (zero : Bool) (n : ℤ) → Differs alike zero n → number_counts zero n ≡ true
counted_so alike zero n d = search (rules, and_from, pos, has_32, counts_so)

-- A number that isn't alike is declared on both sides, and has a name on one that it hasn't on the other.

pub unlike_parts : (old new : List NamedNumber) (n : ℤ) → same_names old new n ≡ false →
    (declares old n ≡ true) × (declares new n ≡ true) × ((names_within old new n && names_within new old n) ≡ false)
unlike_parts old new n h = search (rules, and_parts)

pub declared : (values : List NamedNumber) (n : ℤ) → declares values n ≡ true →
    IsAmong n (map (λ (v : NamedNumber). v.number) values)
declared [] n = λ h. absurd (true≢false (sym h))
declared (v ∷ values) n =
    elim (int_eq v.number n) as
    (λ b. int_eq v.number n ≡ b → (b || declares values n) ≡ true →
    (n ≡ v.number) ⊎ IsAmong n (map (λ (v : NamedNumber). v.number) values)) [
      | true ↦ λ e h. inl (sym ((Decides-int_eq v.number n).0 e))
      | false ↦ λ e h. inr (declared values n h)
    ] refl

module _ (old new : List NamedNumber) (zero : Bool) where
  sound : (n : ℤ) → IsAmong n (differing zero old new) → Differs (same_names old new) zero n
  sound n h = search (rules, filter_among, and_parts, counting)

  complete : (n : ℤ) → Differs (same_names old new) zero n → IsAmong n (differing zero old new)
  complete n d =
      search (rules, among_filter, declared, unlike_parts, and_from, counted_so, not_from_false)

  pub least_differing_is : IsLeastOf (same_names old new) zero (least_number (differing zero old new))
  least_differing_is = least_of_those (same_names old new) zero (differing zero old new) sound complete

pub least_by_name_is : (old new : EnumType) (zero : Bool) →
    IsLeastOf (alike_by_name old new) zero (least_by_name old new zero)
least_by_name_is old new zero = least_differing_is (named_numbers old) (named_numbers new) zero
