-- Fields without the oneof that they have to be in: just those with a cause.
use Rattle.std.proofs.Common.{◌≡◌, ◌≢◌, ℕ, ◌<◌, ◌≤◌, ◌^◌, ℤ, pos, negsuc, Bool, true, false, cond, nat_eq, nat_lt, List, [], ◌∷◌, filter, Option, Some, None, slice_get, option_map, option_and_then, refl, ap, sym, subst, ◌∙◌, rules}
use Rattle.std.proofs.lemmas.Option.{get_or_from_slice_get, none-some}
use Rattle.std.specs.Prelude.{filter_map, slice_index}
use Rattle.std.specs.List.{Any, cons_option}
use Rattle.pg_dyn.specs.message.Message.{Message}
use Rattle.pg_set.specs.refusals.BadReferences.{HasBadOneof}
use Rattle.pg_set.specs.refusals.BadReferences as causes
use Rattle.pg_set.specs.declared.descriptor.proto.TheConstants as proto
use Rattle.pg_set.specs.stated.SetMessages.{children_at, maybe_number_at}
use Rattle.pg_set.specs.stated.FileMessages.{is_place}
use Rattle.pg_set.specs.stated.TypeMessages.{is_at, is_marked, is_optional, members_at, synthetic_places}
use Rattle.pg_set.specs.stated.StatedNames.{only_if}
use Rattle.pg_set.specs.stated.StatedOneofs.{members_in, oneof, own_oneof, place_marked, real_oneof, real_place, small, synthetic_in, unmarked}
use Rattle.pg_set.specs.stated.StatedTypes.{oneof_count}
use Rattle.pg_set.proofs.lemmas.lists.Tests.{below, differs, itself, not_below, or_right, too_great, unequal}
use Rattle.pg_set.proofs.lemmas.reading.OwnerLaws.{got_at, length_places, no_oneof}
use Rattle.pg_set.proofs.lemmas.refusals.Steps.{any_of, any_weaker, by_test, map_none, none_any, of_cond, test_none}

-- ---- what is known of the oneof at an index

abbrev Says : Message → ℕ → Type 0
Says m place = maybe_number_at proto.FIELD_ONEOF_INDEX m ≡ Some (pos place)

abbrev Marks : ℕ → Message → Type 0
Marks place m = (is_optional m ≡ true) × Says m place

-- an `optional` field marks the oneof that it names
is_marked_by : (fields : List Message) (place : ℕ) → Any (Marks place) fields → is_marked (synthetic_places fields) place ≡ true
is_marked_by [] place a = none_any (Marks place) a
is_marked_by (f ∷ fields) place a = any_of (Marks place) f fields a here (λ later. of (is_optional f) (is_marked_by fields place later))
  where
    numbers : List ℤ
    numbers = synthetic_places fields

    here : Marks place f → is_marked (synthetic_places (f ∷ fields)) place ≡ true
    here (optional, says) = cc (itself place)

    -- what is marked without it still is with it
    more : (o : Option ℤ) → is_marked numbers place ≡ true → is_marked (cons_option o numbers) place ≡ true
    more None h = h
    more (Some n) h = or_right (is_at place n) (is_marked numbers place) h

    of : (b : Bool) → is_marked numbers place ≡ true → is_marked (filter_map (maybe_number_at 9) (cond b (f ∷ filter is_optional fields) (filter is_optional fields))) place ≡ true
    of true h = more (maybe_number_at 9 f) h
    of false h = h

-- ---- fields

module _ (type m : Message) where
  abbrev fields : List Message
  fields = children_at proto.MESSAGE_FIELD type

  abbrev count : ℕ
  count = oneof_count type

  abbrev marks : List Bool
  marks = synthetic_in fields count

  abbrev members : List ℕ
  members = members_in fields count

  abbrev number : Option ℤ
  number = maybe_number_at proto.FIELD_ONEOF_INDEX m

  abbrev marked : ℕ → Bool
  marked place = is_marked (synthetic_places fields) place

  counted_at : (place : ℕ) → place < count → slice_index members place ≡ members_at place fields
  counted_at place h = get_or_from_slice_get members place (members_at place fields) 0 (got_at (λ p. members_at p fields) count place h)

  marked_at : (place : ℕ) → place < count → slice_get marks place ≡ Some (marked place)
  marked_at place h = got_at marked count place h

  -- the index that a field says, which is there and has that mark
  placed : (mark : Bool) (place : ℕ) → place < count → marked place ≡ mark → place_marked marks mark (pos place) ≡ Some place
  placed mark place h is = search (rules, marked_at)

  abbrev only_one : ℕ → Option (Option ℕ)
  only_one place = only_if (nat_eq (slice_index members place) 1) (Some None)

  abbrev low : ℕ → Option ℕ
  low place = small (unmarked marks place)

  bad_own : is_optional m ≡ true → Any (λ y. y ≡ m) fields → (o : Option ℤ) → number ≡ o → own_oneof marks members o ≡ None → HasBadOneof type m
  bad_own optional one None is h = causes.without_oneof optional is
  bad_own optional one (Some (negsuc n)) is h = causes.out_of_range (negsuc n) is refl
  bad_own optional one (Some (pos place)) is h =
      by_test (nat_lt place count) (λ e. causes.not_alone place optional is (shared (below place count e))) (causes.out_of_range (pos place) is)
    where
      here : marked place ≡ true
      here = is_marked_by fields place (any_weaker (λ y. y ≡ m) (Marks place) fields (λ y one e. subst (Marks place) (sym e) (optional, is)) one)

      shared : place < count → members_at place fields ≢ 1
      shared within same =
          differs (slice_index members place) 1 (test_none (nat_eq (slice_index members place) 1) None (sym (ap (option_and_then only_one) (placed true place within here)) ∙ h))
          (counted_at place within ∙ same)

  bad_real : is_optional m ≡ false → (o : Option ℤ) → number ≡ o → real_oneof marks o ≡ None → HasBadOneof type m
  bad_real plain None is h = absurd (none-some None (sym h))
  bad_real plain (Some (negsuc n)) is h = causes.out_of_range (negsuc n) is refl
  bad_real plain (Some (pos place)) is h =
      by_test (nat_lt place count)
      (λ e. by_test (marked place) (causes.of_optional place plain is) (λ real. causes.too_many_oneofs place plain is (many (below place count e) real)))
      (causes.out_of_range (pos place) is)
    where
      many : place < count → marked place ≡ false → 2 ^ 32 ≤ unmarked marks place
      many within real =
          not_below (unmarked marks place) (2 ^ 32)
          (test_none (nat_lt (unmarked marks place) (2 ^ 32)) (unmarked marks place)
          (sym (ap (option_and_then low) (placed false place within real)) ∙ map_none Some (real_place marks (pos place)) h))

  pub bad_oneof : Any (λ y. y ≡ m) fields → oneof marks members m ≡ None → HasBadOneof type m
  bad_oneof one h = of_cond (is_optional m) (own_oneof marks members number) (real_oneof marks number) h (λ e. bad_own e one number refl) (λ e. bad_real e number refl)

  out_none : (n : ℤ) → number ≡ Some n → is_place count n ≡ false → oneof marks members m ≡ None
  out_none n says out = search (rules, no_oneof, length_places)

  -- an index that is there, or none
  within_none : (place : ℕ) → Says m place → (place < count → oneof marks members m ≡ None) → oneof marks members m ≡ None
  within_none place says h = by_test (nat_lt place count) (λ e. h (below place count e)) (out_none (pos place) says)

  -- whatever the mark is
  shared_none : (place : ℕ) → nat_eq (slice_index members place) 1 ≡ false → (b : Bool) → option_and_then only_one (only_if b (Some place)) ≡ None
  shared_none place other true = rw other
  shared_none place other false = refl

  many_none : (place : ℕ) → nat_lt (unmarked marks place) (2 ^ 32) ≡ false → (b : Bool) → option_and_then low (only_if b (Some place)) ≡ None
  many_none place many true = rw many
  many_none place many false = refl

  pub oneof_none : HasBadOneof type m → oneof marks members m ≡ None
  oneof_none (causes.out_of_range n says out) = out_none n says out
  oneof_none (causes.without_oneof optional none) = cc
  oneof_none (causes.not_alone place optional says other) = search (rules, within_none, shared_none, counted_at, unequal)
  oneof_none (causes.of_optional place plain says is) = within_none place says (λ within. cc (marked_at place within))
  oneof_none (causes.too_many_oneofs place plain says many) = search (rules, option_map, many_none, too_great)
