-- The indices that message types and files keep, as loops come to them.
use Rattle.std.proofs.Common.{◌≡◌, ℕ, zero, suc, ◌+◌, ◌-◌, ◌<◌, List, [], ◌∷◌, ◌++◌, map, length, take, get_or, refl, ap, ap₂, sym, ◌∙◌, append_assoc, append-nil, rules}
use Rattle.std.proofs.Math.ListN.{set}
use Rattle.std.proofs.lemmas.List.{map-set}
use Rattle.pg_dyn.specs.message.Kept.{Kept, message_of}
use Rattle.pg_dyn.specs.message.Message.{Message}
use Rattle.pg_schema.specs.standing.Places.{places_from}
use Rattle.pg_set.specs.declared.reading.outline.OutlinedType.{OutlinedType}
use Rattle.pg_set.specs.inner.reading.OutlinedRows.{type_row}
use Rattle.pg_set.specs.stated.Numbering.{Counts, PlacedType, behind_type, each_from, inner_types, file_places, inside_file, inside_type, no_counts, placed_types, placed_with, places_of_types}
use Rattle.pg_set.specs.inner.reading.OutlinedPlaces.{counts_behind, placed_type}
use Rattle.pg_set.specs.stated.SetMessages.{children_at}
use Rattle.pg_set.specs.stated.SetNames.{file_scope, qualified}
use Rattle.pg_set.proofs.lemmas.outline.NameLoops.{seen}
use Rattle.pg_set.proofs.lemmas.order.OrderSteps.{one_step}

pub counts_are : (x y : Counts) → x.types ≡ y.types → x.enums ≡ y.enums → x.services ≡ y.services → x ≡ y
counts_are x y t e s = search rules

-- no message type, enum or service comes before
pub none_counted : {A B C : Type 0} (types : List A) (enums : List B) (services : List C) → types ≡ [] → enums ≡ [] → services ≡ [] → record { types = length types; enums = length enums; services = length services } ≡ no_counts
none_counted types enums services t e s = counts_are _ no_counts (ap length t) (ap length e) (ap length s)

-- ---- messages that move counts on

module _ {X : Type 0} (on : Counts → Message → Counts) (give : Counts → Message → List X) where
  pub each_more : (counts : Counts) (ms : List Message) (m : Message) → each_from on give counts (ms ++ m ∷ []) ≡ each_from on give counts ms ++ give (counts_behind on counts ms) m
  each_more counts [] m = append-nil (give counts m)
  each_more counts (x ∷ ms) m = ap (λ xs. give counts x ++ xs) (each_more (on counts x) ms m) ∙ sym (append_assoc (give counts x) (each_from on give (on counts x) ms) (give (counts_behind on (on counts x) ms) m))

pub behind_more : (on : Counts → Message → Counts) (counts : Counts) (ms : List Message) (m : Message) → counts_behind on counts (ms ++ m ∷ []) ≡ on (counts_behind on counts ms) m
behind_more on counts [] m = refl
behind_more on counts (x ∷ ms) m = behind_more on (on counts x) ms m

pub seen_more : (ms : List Kept) (i : ℕ) (m : Kept) → i < length ms → m ≡ get_or ms i m → seen (take (i + 1) ms) ≡ seen (take i ms) ++ message_of m ∷ []
seen_more ms i m h is = seen_as (take (i + 1) ms) ∙ (one_step (λ (b : Kept). message_of b) ms i m h is ∙ ap (λ xs. xs ++ message_of m ∷ []) (sym (seen_as (take i ms))))
  where
    seen_as : (xs : List Kept) → seen xs ≡ map (λ (b : Kept). message_of b) xs
    seen_as [] = refl
    seen_as (x ∷ xs) = ap (λ ys. message_of x ∷ ys) (seen_as xs)

-- what one message more gives
pub each_on : {X : Type 0} (on : Counts → Message → Counts) (give : Counts → Message → List X) (counts here : Counts) (before after : List Message) (m : Message) (start mid new : List X) → after ≡ before ++ m ∷ []
    → here ≡ counts_behind on counts before → mid ≡ start ++ each_from on give counts before → new ≡ mid ++ give here m → new ≡ start ++ each_from on give counts after
each_on on give counts here before after m start mid new more at is one = search (rules, append_assoc, each_more)

pub counts_on : (on : Counts → Message → Counts) (counts here new : Counts) (before after : List Message) (m : Message) → after ≡ before ++ m ∷ [] → here ≡ counts_behind on counts before → new ≡ on here m → new ≡ counts_behind on counts after
counts_on on counts here new before after m more at is = is ∙ (ap (λ c. on c m) at ∙ (sym (behind_more on counts before m) ∙ ap (counts_behind on counts) (sym more)))

-- ---- the message type at an index

set_middle : {A : Type 0} (front : List A) (x y : A) (behind : List A) → set (front ++ x ∷ behind) (length front) y ≡ front ++ y ∷ behind
set_middle [] x y behind = refl
set_middle (z ∷ front) x y behind = ap (λ xs. z ∷ xs) (set_middle front x y behind)

got_middle : {A : Type 0} (front : List A) (x d : A) (behind : List A) → get_or (front ++ x ∷ behind) (length front) d ≡ x
got_middle [] x d behind = refl
got_middle (z ∷ front) x d behind = got_middle front x d behind

got_map : {A B : Type 0} (f : A → B) (xs : List A) (i : ℕ) (d : A) → get_or (map f xs) i (f d) ≡ f (get_or xs i d)
got_map f [] i d = refl
got_map f (x ∷ xs) zero d = refl
got_map f (x ∷ xs) (suc i) d = got_map f xs i d

-- what is inside is added to a message type that was there
pub placed_inside : (old : List OutlinedType) (place : ℕ) (found grown : OutlinedType) (types enums : List ℕ) (front behind : List PlacedType) (r : PlacedType) → found ≡ get_or old place found
    → placed_type grown ≡ record { named = type_row found; types = types; enums = enums } → map placed_type old ≡ front ++ r ∷ behind → length front ≡ place
    → map placed_type (set old place grown) ≡ front ++ record { named = r.named; types = types; enums = enums } ∷ behind
placed_inside old place found grown types enums front behind r there made is at =
    let same : placed_type found ≡ r =
    ap placed_type there ∙ (sym (got_map placed_type old place found) ∙ (ap₂ (λ xs n. get_or xs n (placed_type found)) is (sym at) ∙ got_middle front r (placed_type found) behind)) in
    let row : record { named = type_row found; types = types; enums = enums } ≡ record { named = r.named; types = types; enums = enums } =
    ap (λ (p : PlacedType). record { named = p.named; types = types; enums = enums }) same in
    map-set placed_type old place grown ∙ (ap₂ (λ xs n. set xs n (placed_type grown)) is (sym at) ∙ (set_middle front r (placed_type grown) behind ∙ ap (λ p. front ++ p ∷ behind) (made ∙ row)))

-- a message type, with what is inside it
pub placed_on : (depth : ℕ) (scope at : List ℕ) (m : Message) (within : List Message) (mid a b new : List PlacedType) (counts : Counts) (types enums : List ℕ) (count own : ℕ) → at ≡ qualified scope m → within ≡ inner_types m
    → a ≡ mid ++ record { named = (at, m); types = []; enums = [] } ∷ [] → b ≡ a ++ placed_types depth at (inside_type counts m) within
    → types ≡ places_of_types depth at (inside_type counts m) within → enums ≡ places_from count own → count ≡ counts.enums → own ≡ length (children_at 4 m)
    → ((behind : List PlacedType) (r : PlacedType) → b ≡ mid ++ r ∷ behind → new ≡ mid ++ record { named = r.named; types = types; enums = enums } ∷ behind) → new ≡ mid ++ placed_with depth (placed_types depth) scope counts m
placed_on depth scope at m within mid a b new counts types enums count own here inner first more ts es counted many inside = search (rules, append_assoc)

-- ---- one level down

module _ (scope : List ℕ) (counts : Counts) (ms : List Message) where
  pub placed_below : (depth : ℕ) → (depth ≡ 0 → ⊥) → placed_types depth scope counts ms ≡ each_from (behind_type (depth - 1) scope) (placed_with (depth - 1) (placed_types (depth - 1)) scope) counts ms
  placed_below zero some = absurd (some refl)
  placed_below (suc depth) some = search rules

  pub places_below : (depth : ℕ) → (depth ≡ 0 → ⊥) → places_of_types depth scope counts ms ≡ each_from (behind_type (depth - 1) scope) (λ c m. c.types ∷ []) counts ms
  places_below zero some = absurd (some refl)
  places_below (suc depth) some = search rules

pub no_placed : (depth : ℕ) (scope : List ℕ) (counts : Counts) (ms : List Message) (old : List PlacedType) → depth ≡ 0 → old ≡ old ++ placed_types depth scope counts ms
no_placed depth scope counts ms old none = sym (append-nil old) ∙ ap (λ d. old ++ placed_types d scope counts ms) (sym none)

-- ---- a file

pub file_placed : (depth : ℕ) (m : Message) (at : List ℕ) (within : List Message) (counts : Counts) (types enums services : List ℕ) (enum_count own_enums service_count own_services : ℕ) → at ≡ file_scope m → within ≡ children_at 4 m
    → types ≡ places_of_types depth at (inside_file counts m) within → enums ≡ places_from enum_count own_enums → enum_count ≡ counts.enums → own_enums ≡ length (children_at 5 m)
    → services ≡ places_from service_count own_services → service_count ≡ counts.services → own_services ≡ length (children_at 6 m)
    → record { message = m; types = types; enums = enums; services = services } ≡ file_places depth counts m
file_placed depth m at within counts types enums services enum_count own_enums service_count own_services here inner ts es ecount eown ss scount sown = search rules
