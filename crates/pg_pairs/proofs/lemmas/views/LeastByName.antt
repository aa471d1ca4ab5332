-- The least number that one of two enums names and the other doesn't is the least that differs.
use Rattle.std.proofs.Common.{◌≡◌, ◌+◌, ◌<◌, ◌^◌, ℕ, suc, ℤ, pos, negsuc, List, [], ◌∷◌, ◌++◌, length, get_or, drop, map, arith, Bool, true, false, not, ◌&&◌, ◌||◌, Option, Some, None, inl, inr, ⊎_elim, refl, ap, sym, ◌∙◌, subst, true≢false, rules}
use Rattle.std.specs.Ordering.{int_eq}
use Rattle.std.proofs.Math.Seq.{drop-cons}
use Rattle.std.proofs.lemmas.Bool.{and_parts, and_from, and_cases, and_left, and_right, or_from, or_left, or_right, lt-ltb}
use Rattle.std.proofs.lemmas.Bool.Decides.{Decides-int_eq}
use mir.Syntax.{w32}
use mir.Val.{SFits}
use Rattle.pg_schema.specs.declared.parts.enum_type.EnumValue.{EnumValue}
use Rattle.pg_dyn.specs.views.ViewNames.{NamedNumber, named, declares, has_name, names_within, same_names}
use Rattle.pg_pairs.specs.bounds.Covering.{IsAmong}
use Rattle.pg_pairs.specs.views.ViewLaws.{Differs}
use Rattle.pg_pairs.specs.views.LeastNumbers.{least_number, lesser, lesser_of, has_32_bits, number_counts}
use Rattle.pg_pairs.proofs.lemmas.views.LeastNumberLaws.{least_of_those, one_least, least_of_both, lesser_of-some}
use Rattle.pg_pairs.specs.views.NamedView.{differing}
use Rattle.pg_pairs.specs.inner.MissingNames.{is_missing, missing_numbers}
use Rattle.pg_pairs.proofs.lemmas.views.NameLaws.{among_filter, filter_among, among_map, map_among, among_left, among_right, among_cases, counting, counted_so, unlike_parts, least_differing_is}

-- A value of the former with a number that is missing among the latter shows that the number differs.

int_eq_self : (n : ℤ) → int_eq n n ≡ true
int_eq_self n = (Decides-int_eq n n).1 refl

declared_there : (v : NamedNumber) (values : List NamedNumber) → IsAmong v values → declares values v.number ≡ true
declared_there v [] h = absurd h
declared_there v (u ∷ values) h =
    ⊎_elim
    (λ same. or_left (int_eq u.number v.number) (declares values v.number) ((Decides-int_eq u.number v.number).1 (sym (ap (λ (w : NamedNumber). w.number) same))))
    (λ later. or_right (int_eq u.number v.number) (declares values v.number) (declared_there v values later))
    h

not_within : (v : NamedNumber) (values others : List NamedNumber) → IsAmong v values → has_name others v.number v.name ≡ false → names_within values others v.number ≡ false
not_within v [] others h lacks = absurd h
not_within v (u ∷ values) others h lacks =
    ⊎_elim
    (λ same.
    and_left (not (int_eq u.number v.number) || has_name others v.number u.name) (names_within values others v.number)
    (subst (λ (w : NamedNumber). (not (int_eq w.number v.number) || has_name others v.number w.name) ≡ false) same
    (or_from (not (int_eq v.number v.number)) (has_name others v.number v.name) (ap not (int_eq_self v.number)) lacks)))
    (λ later. and_right (not (int_eq u.number v.number) || has_name others v.number u.name) (names_within values others v.number) (not_within v values others later lacks))
    h

-- and the other way round
missing_value : (values others : List NamedNumber) (n : ℤ) → names_within values others n ≡ false →
    (v : NamedNumber) × IsAmong v values × (v.number ≡ n) × (has_name others n v.name ≡ false)
missing_value [] others n h = absurd (true≢false h)
missing_value (u ∷ values) others n h =
    ⊎_elim (λ here. let own = of here in (u, inl refl, own.0, own.1))
    (λ later. let rest = missing_value values others n later in (rest.0, inr rest.1, rest.2, rest.3))
    (and_cases (not (int_eq u.number n) || has_name others n u.name) (names_within values others n) h)
  where
    of : (not (int_eq u.number n) || has_name others n u.name) ≡ false → (u.number ≡ n) × (has_name others n u.name ≡ false)
    of h = search (rules, Decides-int_eq, true≢false)

module _ (zero : Bool) (values others : List NamedNumber) where
  -- what a missing number comes from
  comes_from : (n : ℤ) → IsAmong n (missing_numbers zero values others) →
      (number_counts zero n ≡ true) × (declares values n ≡ true) × (declares others n ≡ true) × (names_within values others n ≡ false)
  comes_from n h = search (rules, map_among, filter_among, and_parts, declared_there, not_within)

  is_there : (n : ℤ) → number_counts zero n ≡ true → declares others n ≡ true → names_within values others n ≡ false → IsAmong n (missing_numbers zero values others)
  is_there n counts there lacks = search (rules, missing_value, and_from, among_filter, among_map)

module _ (zero : Bool) (old new : List NamedNumber) where
  abbrev both_ways : List ℤ
  both_ways = missing_numbers zero old new ++ missing_numbers zero new old

  unlike : (n : ℤ) → declares old n ≡ true → declares new n ≡ true → (names_within old new n && names_within new old n) ≡ false → same_names old new n ≡ false
  unlike n there here h = or_from (not (declares old n && declares new n)) (names_within old new n && names_within new old n) (ap not (and_from (declares old n) (declares new n) there here)) h

  sound : (n : ℤ) → IsAmong n both_ways → Differs (same_names old new) zero n
  sound n h =
      ⊎_elim
      (λ first.
      let from = comes_from zero old new n first in
      counting (same_names old new) zero n from.0 (unlike n from.1 from.2 (and_left (names_within old new n) (names_within new old n) from.3)))
      (λ second.
      let from = comes_from zero new old n second in
      counting (same_names old new) zero n from.0 (unlike n from.2 from.1 (and_right (names_within old new n) (names_within new old n) from.3)))
      (among_cases n (missing_numbers zero old new) (missing_numbers zero new old) h)

  complete : (n : ℤ) → Differs (same_names old new) zero n → IsAmong n both_ways
  complete n d =
      search (rules, unlike_parts, counted_so, among_left, is_there, among_right, and_cases)

  pub least_both_ways : lesser_of (least_number (missing_numbers zero old new)) (least_number (missing_numbers zero new old)) ≡ least_number (differing zero old new)
  least_both_ways =
      least_of_both (missing_numbers zero old new) (missing_numbers zero new old)
      ∙ one_least (same_names old new) zero (least_number both_ways) (least_number (differing zero old new)) (least_of_those (same_names old new) zero both_ways sound complete) (least_differing_is old new zero)

-- A number of an enum has 32 bits.

has_32_bits_so : (n : ℤ) → SFits w32 n → has_32_bits n ≡ true
has_32_bits_so (pos n) h = lt-ltb n (2 ^ 31) h.sfits
has_32_bits_so (negsuc n) h = lt-ltb n (2 ^ 31) h.sfits

pub counts_so : (zero : Bool) (n : ℤ) → SFits w32 n → (zero || not (int_eq n (pos 0))) ≡ number_counts zero n
counts_so zero n h = let fits = has_32_bits_so n h in rw fits refl

-- The step of the loop: one value more.

pub lesser_step : (o : Option ℤ) (n : ℤ) (rest : Option ℤ) → lesser_of (lesser_of o (Some n)) rest ≡ lesser_of o (Some (lesser n rest))
lesser_step None n rest = refl
lesser_step (Some k) n rest = lesser_of-some k (Some n) rest

module _ (zero : Bool) (v : NamedNumber) (values others : List NamedNumber) (o : Option ℤ) where
  pub counted_step : (number_counts zero v.number && is_missing others v) ≡ true →
      lesser_of (lesser_of o (Some v.number)) (least_number (missing_numbers zero values others)) ≡ lesser_of o (least_number (missing_numbers zero (v ∷ values) others))
  counted_step h = rw h (lesser_step o v.number (least_number (missing_numbers zero values others)))

  pub left_out_step : (number_counts zero v.number && is_missing others v) ≡ false →
      lesser_of o (least_number (missing_numbers zero values others)) ≡ lesser_of o (least_number (missing_numbers zero (v ∷ values) others))
  left_out_step h = rw h refl

-- A number that isn't the lesser one may be passed over, whether its name is missing or not.

module _ (zero : Bool) (v : NamedNumber) (values others : List NamedNumber) (o : Option ℤ) where
  pub passed_over_step : lesser_of o (Some v.number) ≡ o →
      lesser_of o (least_number (missing_numbers zero values others)) ≡ lesser_of o (least_number (missing_numbers zero (v ∷ values) others))
  passed_over_step h = search (rules, counted_step, left_out_step)

-- What is left of the values, the next one first.
pub next_left : (zero : Bool) (values : List EnumValue) (others : List NamedNumber) (i : ℕ) (v : EnumValue) (o : Option ℤ) → i < length values → v ≡ get_or values i v
    → lesser_of o (least_number (missing_numbers zero (map named (drop i values)) others)) ≡ lesser_of o (least_number (missing_numbers zero (named v ∷ map named (drop (i + 1) values)) others))
next_left zero values others i v o h is =
    ap (λ (vs : List EnumValue). lesser_of o (least_number (missing_numbers zero (map named vs) others)))
    (drop-cons values i v h ∙ ap (λ (w : EnumValue). w ∷ drop (suc i) values) (sym is) ∙ ap (λ k. v ∷ drop k values) (let e : suc i ≡ i + 1 = omega arith in e))
