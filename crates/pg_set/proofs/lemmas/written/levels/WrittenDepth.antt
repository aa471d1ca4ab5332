-- Message types are nested no deeper than there are types: the name of each is longer than that of the one that holds it.
use Rattle.std.proofs.Common.{◌≡◌, ℕ, zero, suc, ◌+◌, ◌<◌, true, inl, inr, List, [], ◌∷◌, length, Some, slice_get, refl, ap, sym, subst, ◌∙◌, arith, rules}
use Rattle.std.proofs.lemmas.Bool.{false≢true}
use Rattle.std.proofs.lemmas.Option.{none-some, same_Some}
use Rattle.std.specs.String.{string_bytes}
use Rattle.pg_schema.specs.declared.parts.field.TypeId.{TypeId}
use Rattle.pg_schema.specs.declared.parts.message_type.MessageType.{MessageType}
use Rattle.pg_schema.specs.declared.parts.Parts.{Parts}
use Rattle.pg_schema.specs.rules.Scopes.{are_enums_in, are_types_in, is_in, is_named_in, is_type_scope, type_name}
use Rattle.pg_schema.specs.rules.Sound.{IsSound}
use Rattle.pg_schema.proofs.lemmas.rules.PairLemmas.{and_both, and_left, and_right}
use Rattle.pg_schema.specs.standing.Nesting.{holds_inside, nest_within}
use Rattle.pg_schema.specs.standing.Places.{places_from}
use Rattle.pg_set.proofs.lemmas.lists.Matched.{Has, rest, rest_length, still}
use Rattle.pg_set.proofs.lemmas.written.names.WrittenNames.{named_there}
use Rattle.pg_set.proofs.lemmas.rows.RowPlaces.{test_at}
use Rattle.pg_set.proofs.lemmas.writing.SoundPlaces.{longer}

places_length : (start count : ℕ) → length (places_from start count) ≡ count
places_length start zero = refl
places_length start (suc count) = ap suc (places_length (suc start) count)

has_place : (types : List MessageType) (start i : ℕ) (t : MessageType) → slice_get types i ≡ Some t → Has (λ k. k ≡ start + i) (places_from start (length types))
has_place [] start i t is = absurd (none-some t is)
has_place (s ∷ types) start zero t is = inl (omega arith)
has_place (s ∷ types) start (suc i) t is =
    inr (subst (λ n. Has (λ k. k ≡ n) (places_from (suc start) (length types))) (moved start i) (has_place types (suc start) i t is))
  where
    moved : (a b : ℕ) → suc a + b ≡ a + suc b
    moved a b = omega arith

module _ (parts : Parts) (sound : IsSound parts) where
  abbrev types : List MessageType
  types = parts.types.items

  -- the types that have a longer name than the scope are among these indices
  abbrev HaveRoom : List ℕ → List ℕ → Type 0
  HaveRoom left scope = (i : ℕ) (t : MessageType) → slice_get types i ≡ Some t → length scope < length (string_bytes t.name) → Has (λ k. k ≡ i) left

  abbrev Fits : ℕ → Type 0
  Fits depth = (left : List ℕ) (scope : List ℕ) (ids : List TypeId) → HaveRoom left scope → are_types_in types scope ids ≡ true → nest_within depth types ids ≡ true → nest_within (length left) types ids ≡ true

  inside : (depth : ℕ) → Fits depth → (left : List ℕ) (n : ℕ) → suc n ≡ length left → (scope : List ℕ) → HaveRoom left scope → (i : ℕ) (t : MessageType) → slice_get types i ≡ Some t
      → is_in scope (string_bytes t.name) ≡ true → nest_within depth types t.nested_types.items ≡ true → nest_within n types t.nested_types.items ≡ true
  inside depth deeper left n long scope room i t is stands shallow =
      let name : List ℕ = string_bytes t.name in
      let far : length scope < length name = longer scope name stands in
      let has = room i t is far in
      let less : suc (length (rest (λ k. k ≡ i) left has)) ≡ suc n = rest_length (λ k. k ≡ i) left has ∙ sym long in
      let same : length (rest (λ k. k ≡ i) left has) ≡ n = omega (arith, less) in
      subst (λ k. nest_within k types t.nested_types.items ≡ true) same
      (deeper (rest (λ k. k ≡ i) left has) name t.nested_types.items
      (λ j u there further. still (λ k. k ≡ i) (λ k. k ≡ j) (λ k a b. apart i j t u is there (sym a ∙ b) further) left has (room j u there (omega (arith, far, further))))
      (and_left (are_types_in types name t.nested_types.items) (are_enums_in parts.enums.items name t.nested_enums.items) (test_at (is_type_scope types parts.enums.items) types i t sound.type_scopes is))
      shallow)
    where
      same_length : (a b : ℕ) → a ≡ b → a < b → ⊥
      same_length a b e h = absurd (omega (arith, e, h))

      apart : (i j : ℕ) (t u : MessageType) → slice_get types i ≡ Some t → slice_get types j ≡ Some u → i ≡ j → length (string_bytes t.name) < length (string_bytes u.name) → ⊥
      apart i j t u is_t is_u same h =
          same_length (length (string_bytes t.name)) (length (string_bytes u.name)) (ap (λ (x : MessageType). length (string_bytes x.name)) (same_Some t u (sym is_t ∙ (ap (slice_get types) same ∙ is_u)))) h

  each_inside : (depth : ℕ) → Fits depth → (left : List ℕ) (n : ℕ) → suc n ≡ length left → (scope : List ℕ) → HaveRoom left scope → (ids : List TypeId) → are_types_in types scope ids ≡ true
      → nest_within (suc depth) types ids ≡ true → nest_within (suc n) types ids ≡ true
  each_inside depth deeper left n long scope room [] stand shallow = refl
  each_inside depth deeper left n long scope room (id ∷ ids) stand shallow =
      and_both (holds_inside (nest_within n types) (slice_get types id.index)) (nest_within (suc n) types ids)
      (named_there (λ (t : MessageType). string_bytes t.name) scope (slice_get types id.index) (holds_inside (nest_within n types) (slice_get types id.index) ≡ true)
      (λ t is here. ap (holds_inside (nest_within n types)) is ∙ inside depth deeper left n long scope room id.index t is here
      (sym (ap (holds_inside (nest_within depth types)) is) ∙ and_left (holds_inside (nest_within depth types) (slice_get types id.index)) (nest_within (suc depth) types ids) shallow))
      (and_left (is_named_in scope (type_name types id)) (are_types_in types scope ids) stand))
      (each_inside depth deeper left n long scope room ids (and_right (is_named_in scope (type_name types id)) (are_types_in types scope ids) stand)
      (and_right (holds_inside (nest_within depth types) (slice_get types id.index)) (nest_within (suc depth) types ids) shallow))

  nothing_nested : (n : ℕ) → nest_within n types [] ≡ true
  nothing_nested zero = refl
  nothing_nested (suc n) = refl

  fits : (depth : ℕ) → Fits depth
  fits zero left scope [] room stand shallow = nothing_nested (length left)
  fits zero left scope (id ∷ ids) room stand shallow = absurd (false≢true shallow)
  fits (suc depth) [] scope [] room stand shallow = refl
  fits (suc depth) [] scope (id ∷ ids) room stand shallow = search (rules, named_there, longer, and_left)
  fits (suc depth) (x ∷ left) scope ids room stand shallow = each_inside depth (fits depth) (x ∷ left) (length left) refl scope room ids stand shallow

  -- nested at most as deep as there are types
  pub nest_enough : (depth : ℕ) (scope : List ℕ) (ids : List TypeId) → are_types_in types scope ids ≡ true → nest_within depth types ids ≡ true → nest_within (length types) types ids ≡ true
  nest_enough depth scope ids stand shallow =
      subst (λ n. nest_within n types ids ≡ true) (places_length 0 (length types))
      (fits depth (places_from 0 (length types)) scope ids (λ i t is far. subst (λ n. Has (λ k. k ≡ n) (places_from 0 (length types))) (from_zero i) (has_place types 0 i t is)) stand shallow)
    where
      from_zero : (i : ℕ) → 0 + i ≡ i
      from_zero i = omega arith
