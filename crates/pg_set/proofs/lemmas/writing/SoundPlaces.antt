-- In a sound schema each message type, enum and service has an index of its own, each message type in one that files lead to.
use Rattle.std.proofs.Common.{◌≡◌, ◌⊎◌, inl, inr, ℕ, zero, suc, ◌<◌, Bool, true, ◌&&◌, List, [], ◌∷◌, drop, flat_map, length, Option, Some, None, option_map, slice_get, subst, arith, rules}
use Rattle.std.proofs.lemmas.Bool.{and_parts, false≢true}
use Rattle.std.proofs.lemmas.Option.{none-some, same_Some, slice_get_within}
use Rattle.std.specs.List.{AllByRecursion}
use Rattle.std.specs.String.{string_bytes}
use Rattle.pg_schema.specs.declared.parts.field.TypeId.{TypeId}
use Rattle.pg_schema.specs.declared.parts.file.File.{File}
use Rattle.pg_schema.specs.declared.parts.message_type.MessageType.{MessageType}
use Rattle.pg_schema.specs.declared.parts.Parts.{Parts}
use Rattle.pg_schema.specs.rules.Scopes.{are_each_once, are_enums_in, are_types_in, declared_enums, declared_services, declared_types, enum_places, is_in, is_named_in, is_type_scope, type_name, type_places}
use Rattle.pg_schema.specs.rules.Sound.{IsSound}
use Rattle.pg_schema.proofs.lemmas.rules.PairLemmas.{and_right}
use Rattle.pg_set.proofs.lemmas.rows.RowPlaces.{test_at}
use Rattle.pg_set.proofs.lemmas.lists.PlacesOnce.{IsAmong, among, among_either, each_place, lists}
use Rattle.pg_set.proofs.lemmas.lists.Marks.{all_at}

-- ---- names grow inwards

some_left : {A : Type 0} (n : ℕ) (xs : List A) (y : A) (ys : List A) → drop n xs ≡ y ∷ ys → n < length xs
some_left zero [] y ys is = absurd cc
some_left zero (x ∷ xs) y ys is = omega arith
some_left (suc n) [] y ys is = absurd cc
some_left (suc n) (x ∷ xs) y ys is = omega (arith, some_left n xs y ys is)

pub longer : (scope name : List ℕ) → is_in scope name ≡ true → length scope < length name
longer [] [] is = absurd (false≢true is)
longer [] (b ∷ name) is = omega arith
longer (byte ∷ bytes) name is = search (rules, and_right, false≢true, some_left)

module _ (types : List MessageType) where
  -- a message type that one of that name declares has a longer name
  inner_longer : (scope : List ℕ) (k : ℕ) (t : MessageType) (ids : List TypeId) → slice_get types k ≡ Some t → are_types_in types scope ids ≡ true
      → IsAmong k (type_places ids) → length scope < length (string_bytes t.name)
  inner_longer scope k t ids there are listed = among Named k (type_places ids) (all_named ids are) listed t there
    where
      Named : ℕ → Type 0
      Named n = (u : MessageType) → slice_get types n ≡ Some u → length scope < length (string_bytes u.name)

      named : (o : Option MessageType) → is_named_in scope (option_map (λ (t : MessageType). string_bytes t.name) o) ≡ true → (u : MessageType) → o ≡ Some u
          → length scope < length (string_bytes u.name)
      named None is u at = absurd (none-some u at)
      named (Some v) is u at =
          subst (λ (w : MessageType). length scope < length (string_bytes w.name)) (same_Some v u at) (longer scope (string_bytes v.name) is)

      all_named : (xs : List TypeId) → are_types_in types scope xs ≡ true → AllByRecursion Named (type_places xs)
      all_named [] is = tt
      all_named (id ∷ xs) is =
          let both = and_parts (is_named_in scope (type_name types id)) (are_types_in types scope xs) is in
          (named (slice_get types id.index) both.0, all_named xs both.1)

-- ---- message types

abbrev pub types_in : File → List ℕ
types_in f = type_places f.types.items

abbrev pub types_inside : MessageType → List ℕ
types_inside t = type_places t.nested_types.items

abbrev pub enums_in : File → List ℕ
enums_in f = enum_places f.enums.items

abbrev pub enums_inside : MessageType → List ℕ
enums_inside t = enum_places t.nested_enums.items

module _ (parts : Parts) (sound : IsSound parts) where
  abbrev are_types_once : Bool
  are_types_once = are_each_once (length parts.types.items) (declared_types parts.files.items parts.types.items)

  abbrev are_enums_once : Bool
  are_enums_once = are_each_once (length parts.enums.items) (declared_enums parts.files.items parts.types.items)

  abbrev are_services_once : Bool
  are_services_once = are_each_once (length parts.services.items) (declared_services parts.files.items)

  types_once : are_types_once ≡ true
  types_once = (and_parts are_types_once are_enums_once (and_parts (are_types_once && are_enums_once) are_services_once sound.declared_once).0).0

  pub enums_once : are_enums_once ≡ true
  enums_once = (and_parts are_types_once are_enums_once (and_parts (are_types_once && are_enums_once) are_services_once sound.declared_once).0).1

  pub services_once : are_services_once ≡ true
  services_once = (and_parts (are_types_once && are_enums_once) are_services_once sound.declared_once).1

  -- What holds of the message types that files declare, and with one of those inside it, holds of each.
  module _ (P : ℕ → Type 0) (in_files : AllByRecursion (λ (f : File). AllByRecursion P (types_in f)) parts.files.items)
      (inside : (k : ℕ) (t : MessageType) → slice_get parts.types.items k ≡ Some t → P k → AllByRecursion P (types_inside t)) where
    by_length : (size k : ℕ) (t : MessageType) → slice_get parts.types.items k ≡ Some t → length (string_bytes t.name) < size → P k
    by_length zero k t there short = absurd (omega (arith, short))
    by_length (suc size) k t there short =
        of (among_either k (flat_map types_in parts.files.items) (flat_map types_inside parts.types.items)
        (each_place (length parts.types.items) (declared_types parts.files.items parts.types.items) types_once k
        (slice_get_within parts.types.items k t there)))
        (λ j u at less. by_length size j u at less)
      where
        of : IsAmong k (flat_map types_in parts.files.items) ⊎ IsAmong k (flat_map types_inside parts.types.items)
            → ((j : ℕ) (u : MessageType) → slice_get parts.types.items j ≡ Some u → length (string_bytes u.name) < size → P j) → P k
        of (inl here) shorter =
            let found = lists types_in k parts.files.items here in
            let all = all_at (λ (f : File). AllByRecursion P (types_in f)) parts.files.items found.at found.item in_files found.there in
            among P k (types_in found.item) all found.among
        of (inr here) shorter =
            let found = lists types_inside k parts.types.items here in
            let u = found.item in
            let scope = test_at (is_type_scope parts.types.items parts.enums.items) parts.types.items found.at u sound.type_scopes found.there in
            let types_are = are_types_in parts.types.items (string_bytes u.name) u.nested_types.items in
            let enums_are = are_enums_in parts.enums.items (string_bytes u.name) u.nested_enums.items in
            let are = (and_parts types_are enums_are scope).0 in
            let less = inner_longer parts.types.items (string_bytes u.name) k t u.nested_types.items there are found.among in
            among P k (types_inside u) (inside found.at u found.there (shorter found.at u found.there (omega (arith, less, short)))) found.among

    pub each_type : (k : ℕ) (t : MessageType) → slice_get parts.types.items k ≡ Some t → P k
    each_type k t there = by_length (suc (length (string_bytes t.name))) k t there (omega arith)
