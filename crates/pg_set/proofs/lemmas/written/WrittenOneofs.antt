-- What is written of a message type's oneofs states them: the real ones, and after them one for each `optional` field.
use Rattle.std.proofs.Common.{◌≡◌, ℕ, zero, suc, ◌+◌, ◌<◌, ◌≤◌, ◌^◌, ℤ, pos, Bool, true, false, cond, not, nat_eq, ◌&&◌, ◌||◌, List, [], ◌∷◌, ◌++◌, map, filter, filter_map, length, take, Option, Some, None, is_some, option_map, option_and_then, slice_get, refl, ap, ap₂, sym, subst, ◌∙◌, arith, length-append, IfSome, rules}
use Rattle.std.proofs.lemmas.Bool.{false≢true}
use Rattle.std.proofs.lemmas.Bool.Decides.{nat_tests}
use Rattle.std.proofs.lemmas.List.{length-map, map-append}
use Rattle.std.proofs.lemmas.Option.{get_or_from_slice_get}
use Rattle.std.specs.Prelude.{slice_index}
use Rattle.std.specs.List.{AllByRecursion, list_all}
use Rattle.std.specs.String.{string_bytes}
use Rattle.pg_schema.specs.declared.parts.field.Element.{Element}
use Rattle.pg_schema.specs.declared.parts.field.Field.{Field}
use Rattle.pg_schema.specs.declared.parts.field.Presence.{Presence}
use Rattle.pg_schema.specs.declared.parts.field.Presence.TheVariants as presences
use Rattle.pg_schema.specs.rules.Fields.{has_presence, is_message, is_oneof}
use Rattle.pg_schema.proofs.lemmas.rules.PairLemmas.{and_right}
use Rattle.pg_dyn.specs.message.Message.{Message}
use Rattle.pg_schema.specs.standing.Places.{places_from}
use Rattle.pg_set.specs.writing.Fields.{field_items, fields_items}
use Rattle.pg_set.specs.writing.Messages.{oneof_items}
use Rattle.pg_set.specs.writing.Places.{Declared}
use Rattle.pg_set.specs.stated.SetMessages.{maybe_number_at, text_at}
use Rattle.pg_set.specs.stated.FileMessages.{is_place}
use Rattle.pg_set.specs.stated.TypeMessages.{is_marked, is_named, is_optional, members_at, real_oneofs, synthetic_places}
use Rattle.pg_set.specs.stated.StatedNames.{only_if}
use Rattle.pg_set.specs.stated.StatedOneofs.{has_mark, members_in, oneof, own_oneof, real_oneof, small, synthetic_in, unmarked}
use Rattle.pg_set.specs.writing.Synthetic.{synthetic_name, synthetic_names, synthetic_oneofs}
use Rattle.pg_set.proofs.lemmas.lists.Each.{not_some}
use Rattle.pg_set.proofs.lemmas.lists.Tests.{below, is_below, not_lower, or_all}
use Rattle.pg_set.proofs.lemmas.reading.OwnerLaws.{got_at}
use Rattle.pg_set.proofs.lemmas.written.Slots.{made, says, text_said, text_slot}
use Rattle.pg_set.proofs.lemmas.written.WrittenFields.{optional_said, place_said, written}

abbrev pub optional_fields : List Field → List Field
optional_fields fs = filter (λ (f : Field). f.states_optional) fs

-- so many indices from one on
abbrev pub from : (place : ℕ) → (count : ℕ) → List ℤ
from place zero = []
from place (suc count) = pos place ∷ from (suc place) count

-- ---- indices

-- what is no earlier, and another, is later
later_than : (a b : ℕ) → nat_eq a b ≡ false → a ≤ b → suc a ≤ b
later_than a b e l = grind (arith, nat_tests)

not_marked : (place start count : ℕ) → place < start → is_marked (from start count) place ≡ false
not_marked place start zero h = refl
not_marked place start (suc count) h = ap (λ b. b || is_marked (from (suc start) count) place) (not_lower place start h) ∙ not_marked place (suc start) count (omega (arith, h))

is_marked_place : (place start count : ℕ) → start ≤ place → place < start + count → is_marked (from start count) place ≡ true
is_marked_place place start zero h k = absurd (omega (arith, h, k))
is_marked_place place start (suc count) h k = search (rules, is_marked_place place (suc start) count, later_than, or_all)

-- the oneofs at indices that are marked are left out
none_real : (marks : List ℤ) (place : ℕ) (ms : List Message) → ((p : ℕ) → place ≤ p → p < place + length ms → is_marked marks p ≡ true) → real_oneofs marks place ms ≡ []
none_real marks place [] all = refl
none_real marks place (m ∷ ms) all =
    ap (λ b. cond b (real_oneofs marks (suc place) ms) (m ∷ real_oneofs marks (suc place) ms)) (all place (omega arith) (omega arith))
    ∙ none_real marks (suc place) ms (λ p h k. all p (omega (arith, h)) (omega (arith, k)))

all_real : (marks : List ℤ) (place : ℕ) (xs ys : List Message) → ((p : ℕ) → place ≤ p → p < place + length xs → is_marked marks p ≡ false)
    → ((p : ℕ) → place + length xs ≤ p → p < place + length xs + length ys → is_marked marks p ≡ true) → real_oneofs marks place (xs ++ ys) ≡ xs
all_real marks place [] ys front back = none_real marks place ys (λ p h k. back p (omega (arith, h)) (omega (arith, k)))
all_real marks place (x ∷ xs) ys front back =
    ap (λ b. cond b (real_oneofs marks (suc place) (xs ++ ys)) (x ∷ real_oneofs marks (suc place) (xs ++ ys))) (front place (omega arith) (omega arith))
    ∙ ap (λ ms. x ∷ ms) (all_real marks (suc place) xs ys (λ p h k. front p (omega (arith, h)) (omega (arith, k))) (λ p h k. back p (omega (arith, h)) (omega (arith, k))))

-- ---- fields

abbrev after : ℕ → Field → ℕ
after next f = cond f.states_optional (suc next) next

-- a field that is marked, and one that isn't
one_place : (m : Message) (ms : List Message) (n : ℤ) → is_optional m ≡ true → maybe_number_at 9 m ≡ Some n → synthetic_places (m ∷ ms) ≡ n ∷ synthetic_places ms
one_place m ms n marked placed = ap (λ b. filter_map (maybe_number_at 9) (cond b (m ∷ filter is_optional ms) (filter is_optional ms))) marked ∙ rw placed refl

no_place : (m : Message) (ms : List Message) → is_optional m ≡ false → synthetic_places (m ∷ ms) ≡ synthetic_places ms
no_place m ms plain = ap (λ b. filter_map (maybe_number_at 9) (cond b (m ∷ filter is_optional ms) (filter is_optional ms))) plain

pub places_are : (all : Declared) (scope : List ℕ) (next : ℕ) (fs : List Field) → synthetic_places (map made (fields_items all scope next fs)) ≡ from next (length (optional_fields fs))
places_are all scope next [] = refl
places_are all scope next (f ∷ fs) = of f.states_optional refl (λ k. places_are all scope k fs)
  where
    of : (b : Bool) → f.states_optional ≡ b → ((k : ℕ) → synthetic_places (map made (fields_items all scope k fs)) ≡ from k (length (optional_fields fs)))
        → synthetic_places (made (field_items all scope next f) ∷ map made (fields_items all scope (after next f) fs)) ≡ from next (length (cond f.states_optional (f ∷ optional_fields fs) (optional_fields fs)))
    of true is later =
        one_place (made (field_items all scope next f)) (map made (fields_items all scope (after next f) fs)) (pos next) (optional_said all scope next f ∙ is)
        (place_said all scope next f ∙ ap (λ b. option_map pos (cond b (Some next) f.oneof)) is)
        ∙ (ap (λ b. pos next ∷ synthetic_places (map made (fields_items all scope (cond b (suc next) next) fs))) is
        ∙ (ap (λ ns. pos next ∷ ns) (later (suc next)) ∙ sym (ap (λ b. from next (length (cond b (f ∷ optional_fields fs) (optional_fields fs)))) is)))
    of false is later =
        no_place (made (field_items all scope next f)) (map made (fields_items all scope (after next f) fs)) (optional_said all scope next f ∙ is)
        ∙ (ap (λ b. synthetic_places (map made (fields_items all scope (cond b (suc next) next) fs))) is
        ∙ (later next ∙ sym (ap (λ b. from next (length (cond b (f ∷ optional_fields fs) (optional_fields fs)))) is)))

-- ---- names

abbrev oneof_message : List ℕ → Message
oneof_message name = made (oneof_items name)

oneof_called : (name : List ℕ) → text_at 1 (oneof_message name) ≡ name
oneof_called name = text_said 1 (oneof_message name) name (says 1 (text_slot 1 name ∷ []) refl)

all_called : (names : List (List ℕ)) → map (text_at 1) (map made (map oneof_items names)) ≡ names
all_called [] = refl
all_called (name ∷ names) = ap₂ (λ n ns. n ∷ ns) (oneof_called name) (all_called names)

made_append : (xs ys : List (List ℕ)) → map made (map oneof_items (xs ++ ys)) ≡ map made (map oneof_items xs) ++ map made (map oneof_items ys)
made_append xs ys = ap (map made) (map-append oneof_items xs ys) ∙ map-append made (map oneof_items xs) (map oneof_items ys)

made_length : (xs : List (List ℕ)) → length (map made (map oneof_items xs)) ≡ length xs
made_length xs = length-map (map oneof_items xs) made ∙ length-map xs oneof_items

names_length : (names fields : List (List ℕ)) → length (synthetic_names names fields) ≡ length fields
names_length names [] = refl
names_length names (f ∷ fs) = ap suc (names_length (synthetic_name names f ∷ names) fs)

synthetic_length : (names : List (List ℕ)) (fs : List Field) → length (synthetic_oneofs names fs) ≡ length (optional_fields fs)
synthetic_length names fs = names_length names (map (λ (f : Field). string_bytes f.name) (optional_fields fs)) ∙ length-map (optional_fields fs) (λ (f : Field). string_bytes f.name)

-- ---- all of them

module _ (all : Declared) (scope : List ℕ) (oneofs : List (List ℕ)) (n : ℕ) (as_many : length oneofs ≡ n) (fs : List Field) (names : List (List ℕ)) where
  abbrev k : ℕ
  k = length (optional_fields fs)

  abbrev others : List (List ℕ)
  others = synthetic_oneofs names fs

  abbrev fields : List Message
  fields = map made (fields_items all scope n fs)

  -- the real ones come first, one for each `optional` field after them
  pub oneofs_called : map (text_at 1) (real_oneofs (synthetic_places fields) 0 (map made (map oneof_items (oneofs ++ others)))) ≡ oneofs
  oneofs_called =
      let front : length (map made (map oneof_items oneofs)) ≡ n = made_length oneofs ∙ as_many in
      let back : length (map made (map oneof_items others)) ≡ k = made_length others ∙ synthetic_length names fs in
      ap (map (text_at 1))
      (ap₂ (λ marks ms. real_oneofs marks 0 ms) (places_are all scope n fs) (made_append oneofs others)
      ∙ all_real (from n k) 0 (map made (map oneof_items oneofs)) (map made (map oneof_items others))
      (λ p h below. not_marked p n k (omega (arith, below, front))) (λ p h below. is_marked_place p n k (omega (arith, h, front)) (omega (arith, below, front, back))))
      ∙ all_called oneofs

  pub oneofs_count : length (map made (map oneof_items (oneofs ++ others))) ≡ n + k
  oneofs_count = omega (arith, made_length (oneofs ++ others), length-append oneofs others, as_many, synthetic_length names fs)

all_placed : (count start many : ℕ) → start + many ≤ count → list_all (is_place count) (from start many) ≡ true
all_placed count start zero h = refl
all_placed count start (suc many) h = ap (λ b. b && list_all (is_place count) (from (suc start) many)) (is_below start count (omega (arith, h))) ∙ all_placed count (suc start) many (omega (arith, h))

-- `optional` fields name oneofs that are there
pub oneofs_named : (all : Declared) (scope : List ℕ) (n : ℕ) (fs : List Field) → list_all (is_place (n + length (optional_fields fs))) (synthetic_places (map made (fields_items all scope n fs))) ≡ true
oneofs_named all scope n fs = search (rules, places_are, all_placed)

-- ---- how many fields name the oneof at an index

abbrev AreWithin : ℕ → List Field → Type 0
AreWithin n fs = AllByRecursion (λ (f : Field). is_oneof n f.oneof ≡ true) fs

abbrev naming : (place : ℕ) → List Message → List Message
naming place ms = filter (λ m. is_named place (maybe_number_at 9 m)) ms

module _ (all : Declared) (scope : List ℕ) (n q : ℕ) (above : n ≤ q) where
  abbrev made_from : (next : ℕ) → List Field → List Message
  made_from next fs = map made (fields_items all scope next fs)

  -- that of a synthetic one is named by its own field alone
  names_it : (next : ℕ) (f : Field) → is_oneof n f.oneof ≡ true → is_named q (maybe_number_at 9 (written all scope next f)) ≡ (f.states_optional && nat_eq next q)
  names_it next f within = search (rules, place_said, option_map)

  named_before : (next : ℕ) (fs : List Field) → AreWithin n fs → q < next → members_at q (made_from next fs) ≡ 0
  named_before next [] within before = refl
  named_before next (f ∷ fs) within before =
      ap (λ b. length (cond b (written all scope next f ∷ naming q (made_from (after next f) fs)) (naming q (made_from (after next f) fs)))) (names_it next f within.0)
      ∙ of f.states_optional (λ later h. named_before later fs within.1 h)
    where
      of : (b : Bool) → ((later : ℕ) → q < later → members_at q (made_from later fs) ≡ 0)
          → length (cond (b && nat_eq next q) (written all scope next f ∷ naming q (made_from (cond b (suc next) next) fs)) (naming q (made_from (cond b (suc next) next) fs))) ≡ 0
      of true later =
          ap (λ b. length (cond b (written all scope next f ∷ naming q (made_from (suc next) fs)) (naming q (made_from (suc next) fs)))) (not_lower q next before) ∙ later (suc next) (omega (arith, before))
      of false later = later next before

  named_once : (next : ℕ) (fs : List Field) → AreWithin n fs → next ≤ q → q < next + length (optional_fields fs) → members_at q (made_from next fs) ≡ 1
  named_once next [] within from_it before = absurd (omega (arith, from_it, before))
  named_once next (f ∷ fs) within from_it before =
      ap (λ b. length (cond b (written all scope next f ∷ naming q (made_from (after next f) fs)) (naming q (made_from (after next f) fs)))) (names_it next f within.0)
      ∙ of f.states_optional before (λ later h l. named_once later fs within.1 h l)
    where
      one : (b : Bool) → nat_eq next q ≡ b → (suc next ≤ q → members_at q (made_from (suc next) fs) ≡ 1)
          → length (cond b (written all scope next f ∷ naming q (made_from (suc next) fs)) (naming q (made_from (suc next) fs))) ≡ 1
      one true is later = ap suc (named_before (suc next) fs within.1 (here next q is))
        where
          here : (a b : ℕ) → nat_eq a b ≡ true → b < suc a
          here a b e = grind (arith, nat_tests)
      one false is later = later (later_than next q is from_it)

      of : (b : Bool) → q < next + length (cond b (f ∷ optional_fields fs) (optional_fields fs))
          → ((later : ℕ) → later ≤ q → q < later + length (optional_fields fs) → members_at q (made_from later fs) ≡ 1)
          → length (cond (b && nat_eq next q) (written all scope next f ∷ naming q (made_from (cond b (suc next) next) fs)) (naming q (made_from (cond b (suc next) next) fs))) ≡ 1
      of true before later = one (nat_eq next q) refl (λ h. later (suc next) h (omega (arith, before)))
      of false before later = later next from_it before

-- ---- a field marked `optional` is a member of none

or_last : (a b : Bool) → (a || b || true) ≡ true
or_last true b = refl
or_last false true = refl
or_last false false = refl

no_member : (p : Presence) (e : Element) (member : Bool) → has_presence p e member true ≡ true → member ≡ false
no_member presences.Implicit e member h = absurd (false≢true (sym (ap not (or_last (is_message e) member)) ∙ h))
no_member presences.Explicit e true h = absurd (false≢true (and_right (is_message e || true || true) false h))
no_member presences.Explicit e false h = refl
no_member (presences.Repeated packed) e true h = absurd (false≢true h)
no_member (presences.Repeated packed) e false h = refl
no_member (presences.Map key) e true h = absurd (false≢true h)
no_member (presences.Map key) e false h = refl

alone_none : (f : Field) → has_presence f.presence f.element (is_some f.oneof) f.states_optional ≡ true → f.states_optional ≡ true → f.oneof ≡ None
alone_none f has optional = not_some f.oneof (no_member f.presence f.element (is_some f.oneof) (subst (λ b. has_presence f.presence f.element (is_some f.oneof) b ≡ true) optional has))

-- ---- in which oneof each is

-- in front of so many that aren't marked
front_free : (f : ℕ → Bool) (start count p : ℕ) → p ≤ count → ((q : ℕ) → start ≤ q → q < start + p → f q ≡ false) → unmarked (map f (places_from start count)) p ≡ p
front_free f start zero zero h free = refl
front_free f start zero (suc p) h free = absurd (omega (arith, h))
front_free f start (suc count) zero h free = refl
front_free f start (suc count) (suc p) h free =
    ap (λ b. length (cond (not b) (b ∷ filter not (take p (map f (places_from (suc start) count)))) (filter not (take p (map f (places_from (suc start) count)))))) (free start (omega arith) (omega arith))
    ∙ ap suc (front_free f (suc start) count p (omega (arith, h)) (λ q l b. free q (omega (arith, l)) (omega (arith, b))))

module _ (all : Declared) (scope : List ℕ) (n : ℕ) (fs : List Field) (within : AreWithin n fs) where
  abbrev many : ℕ
  many = length (optional_fields fs)

  abbrev messages : List Message
  messages = map made (fields_items all scope n fs)

  abbrev synthetic : List Bool
  synthetic = synthetic_in messages (n + many)

  abbrev members : List ℕ
  members = members_in messages (n + many)

  mark_at : (place : ℕ) → place < n + many → slice_get synthetic place ≡ Some (is_marked (from n many) place)
  mark_at place h = search (rules, got_at, places_are)

  real_is : (own : Option ℕ) → is_oneof n own ≡ true → IfSome own (λ place. place < 2 ^ 32) → real_oneof synthetic (option_map pos own) ≡ Some own
  real_is None h few = refl
  real_is (Some place) h few =
      let low : place < n = below place n h in
      ap (λ o. option_map Some (option_and_then (λ p. small (unmarked synthetic p)) (only_if (has_mark false o) (Some place))))
      (mark_at place (omega (arith, low)) ∙ ap Some (not_marked place n many low))
      ∙ (ap (λ p. option_map Some (small p))
      (front_free (is_marked (synthetic_places messages)) 0 (n + many) place (omega (arith, low)) (λ q l b. ap (λ ns. is_marked ns q) (places_are all scope n fs) ∙ not_marked q n many (omega (arith, b, low))))
      ∙ ap (λ b. option_map Some (only_if b (Some place))) (is_below place (2 ^ 32) few))

  own_is : (next : ℕ) → n ≤ next → next < n + many → own_oneof synthetic members (Some (pos next)) ≡ Some None
  own_is next above inside =
      ap (λ o. option_and_then (λ p. only_if (nat_eq (slice_index members p) 1) (Some None)) (only_if (has_mark true o) (Some next))) (mark_at next inside ∙ ap Some (is_marked_place next n many above inside))
      ∙ ap (λ c. only_if (nat_eq c 1) (Some None))
      (get_or_from_slice_get members next 1 0
      (got_at (λ p. members_at p messages) (n + many) next inside ∙ ap Some (named_once all scope n next above n fs within above inside)))

  -- what is written of a field says its oneof
  pub oneof_is : (f : Field) (next : ℕ) → is_oneof n f.oneof ≡ true → IfSome f.oneof (λ place. place < 2 ^ 32) → has_presence f.presence f.element (is_some f.oneof) f.states_optional ≡ true
      → (f.states_optional ≡ true → (n ≤ next) × (next < n + many)) → oneof synthetic members (written all scope next f) ≡ Some f.oneof
  oneof_is f next h few has at = search (rules, optional_said, place_said, option_map, own_is, alone_none, real_is)
