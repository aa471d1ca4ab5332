-- A name that is declared once in all files is that of one message type.
use Rattle.std.proofs.Common.{◌≡◌, ℕ, zero, suc, Bool, true, not, List, [], ◌∷◌, ◌++◌, flat_map, map, Option, Some, sym, ◌∙◌, ap, refl}
use Rattle.std.specs.List.{list_all, slice_get}
use Rattle.std.specs.Option.{option_map}
use Rattle.std.specs.String.{string_bytes}
use Rattle.std.proofs.lemmas.Bool.{false≢true}
use Rattle.std.proofs.lemmas.List.Folds.{list_all-append}
use Rattle.std.proofs.lemmas.Option.{same_Some, none-some}
use Rattle.std.proofs.lemmas.Slice.Eq.{bytes_eq-Decides}
use Rattle.pg_schema.specs.declared.parts.enum_type.EnumType.{EnumType}
use Rattle.pg_schema.specs.declared.parts.message_type.MessageType.{MessageType}
use Rattle.pg_schema.specs.declared.parts.Parts.{Parts}
use Rattle.pg_schema.specs.rules.DeclaredNames.{declared_names, file_names, service_names, type_names}
use Rattle.pg_schema.specs.rules.Pairs.{all_pairs, are_distinct, differ}
use Rattle.pg_schema.specs.Invariant.{HasDistinctNames}
use Rattle.pg_schema.proofs.lemmas.schema.NameTables.{place, within_case}
use Rattle.pg_schema.proofs.lemmas.rules.PairLemmas.{and_both, and_left, and_right}

-- what holds of two lists joined holds of each of them

all_front : {A : Type 0} (p : A → Bool) (xs ys : List A) → list_all p (xs ++ ys) ≡ true → list_all p xs ≡ true
all_front p xs ys h = and_left _ _ (sym (list_all-append p xs ys) ∙ h)

all_behind : {A : Type 0} (p : A → Bool) (xs ys : List A) → list_all p (xs ++ ys) ≡ true → list_all p ys ≡ true
all_behind p xs ys h = and_right (list_all p xs) _ (sym (list_all-append p xs ys) ∙ h)

pairs_front : {A : Type 0} (test : A → A → Bool) (xs ys : List A) → all_pairs test (xs ++ ys) ≡ true → all_pairs test xs ≡ true
pairs_front test [] ys h = refl
pairs_front test (x ∷ xs) ys h = and_both _ _ (all_front (test x) xs ys (and_left _ _ h)) (pairs_front test xs ys (and_right (list_all (test x) (xs ++ ys)) _ h))

pairs_behind : {A : Type 0} (test : A → A → Bool) (xs ys : List A) → all_pairs test (xs ++ ys) ≡ true → all_pairs test ys ≡ true
pairs_behind test [] ys h = h
pairs_behind test (x ∷ xs) ys h = pairs_behind test xs ys (and_right (list_all (test x) (xs ++ ys)) _ h)

differ_apart : (a b : List ℕ) → differ a b ≡ true → a ≡ b → ⊥
differ_apart a b h same = false≢true (sym (ap not ((bytes_eq-Decides a b).1 same)) ∙ h)

module _ (enums : List EnumType) where
  abbrev name_of : MessageType → List ℕ
  name_of t = string_bytes t.name

  abbrev names_in : List MessageType → List (List ℕ)
  names_in types = flat_map (type_names enums) types

  later_differs : (name : List ℕ) (types : List MessageType) (i : ℕ) (t : MessageType) → list_all (differ name) (names_in types) ≡ true → slice_get types i ≡ Some t → differ name (name_of t) ≡ true
  later_differs name [] i t h is = absurd (none-some t is)
  later_differs name (s ∷ types) zero t h is = ap (λ (u : MessageType). differ name (name_of u)) (sym (same_Some s t is)) ∙ and_left _ _ h
  later_differs name (s ∷ types) (suc i) t h is = later_differs name types i t (all_behind (differ name) (type_names enums s) (names_in types) h) is

  -- a type and a later one
  first_differs : (s : MessageType) (types : List MessageType) (j : ℕ) (u : MessageType) → all_pairs differ (names_in (s ∷ types)) ≡ true → slice_get types j ≡ Some u → name_of s ≡ name_of u → ⊥
  first_differs s types j u h is =
      differ_apart (name_of s) (name_of u) (later_differs (name_of s) types j u (all_behind (differ (name_of s)) _ (names_in types) (and_left _ _ h)) is)

  one_place : (types : List MessageType) (i j : ℕ) (t u : MessageType) → all_pairs differ (names_in types) ≡ true
      → slice_get types i ≡ Some t → slice_get types j ≡ Some u → name_of t ≡ name_of u → i ≡ j
  one_place [] i j t u h is_t is_u same = absurd (none-some t is_t)
  one_place (s ∷ types) zero zero t u h is_t is_u same = refl
  one_place (s ∷ types) zero (suc j) t u h is_t is_u same = absurd (first_differs s types j u h is_u (ap name_of (same_Some s t is_t) ∙ same))
  one_place (s ∷ types) (suc i) zero t u h is_t is_u same = absurd (first_differs s types i t h is_t (ap name_of (same_Some s u is_u) ∙ sym same))
  one_place (s ∷ types) (suc i) (suc j) t u h is_t is_u same = ap suc (one_place types i j t u (pairs_behind differ (type_names enums s) (names_in types) h) is_t is_u same)

-- the names of message types come before all others
first_names : (parts : Parts) → are_distinct (declared_names parts) ≡ true → all_pairs differ (names_in parts.enums.items parts.types.items) ≡ true
first_names parts h =
    pairs_front differ (names_in parts.enums.items parts.types.items) (map (λ (e : EnumType). string_bytes e.name) parts.enums.items)
    (pairs_front differ (names_in parts.enums.items parts.types.items ++ map (λ (e : EnumType). string_bytes e.name) parts.enums.items) (flat_map service_names parts.services.items)
    (pairs_front differ (names_in parts.enums.items parts.types.items ++ map (λ (e : EnumType). string_bytes e.name) parts.enums.items ++ flat_map service_names parts.services.items)
    (flat_map (file_names parts.enums.items) parts.files.items) h))

named : Option MessageType → Option (List ℕ)
named o = option_map (λ (t : MessageType). string_bytes t.name) o

pub distinct_from_sound : (parts : Parts) → are_distinct (declared_names parts) ≡ true → HasDistinctNames parts.types.items
unfolding named
distinct_from_sound parts h a b name is_a is_b =
    within_case (slice_get parts.types.items a.index) a.index name (a ≡ b) (λ t found_t.
    within_case (slice_get parts.types.items b.index) b.index name (a ≡ b) (λ u found_u.
    ap place (one_place parts.enums.items parts.types.items a.index b.index t u (first_names parts h) found_t found_u
    (same_Some (string_bytes t.name) (string_bytes u.name) (sym (ap named found_t) ∙ (is_a ∙ (sym is_b ∙ ap named found_u)))))) is_b) is_a
