-- The message types and services of a sound schema are in scopes, so they have names, which are scopes.
use Rattle.std.proofs.Common.{◌≡◌, ℕ, Bool, ◌&&◌, true, List, [], ◌∷◌, length, Some, option_map, slice_get, ap, sym, ◌∙◌}
use Rattle.std.proofs.lemmas.Option.{slice_get_within}
use Rattle.std.specs.List.{AllByRecursion, list_all}
use Rattle.std.specs.String.{string_bytes}
use Rattle.pg_schema.specs.declared.parts.field.TypeId.{TypeId}
use Rattle.pg_schema.specs.declared.parts.file.File.{File}
use Rattle.pg_schema.specs.declared.parts.message_type.MessageType.{MessageType}
use Rattle.pg_schema.specs.declared.parts.Parts.{Parts}
use Rattle.pg_schema.specs.declared.parts.service.Service.{Service}
use Rattle.pg_schema.specs.declared.parts.service.ServiceId.{ServiceId}
use Rattle.pg_schema.specs.rules.Scopes.{are_enums_in, are_services_in, are_types_in, declared_services, is_file_scope, is_named_in, is_type_scope, service_name, service_places, type_name, type_places}
use Rattle.pg_schema.specs.rules.Sound.{IsSound}
use Rattle.pg_schema.proofs.lemmas.rules.PairLemmas.{and_left, and_right}
use Rattle.pg_set.specs.writing.Fields.{dotted}
use Rattle.pg_set.proofs.lemmas.lists.Marks.{all_at}
use Rattle.pg_set.proofs.lemmas.lists.PlacesOnce.{among, each_place, lists}
use Rattle.pg_set.proofs.lemmas.rows.RowPlaces.{test_at}
use Rattle.pg_set.proofs.lemmas.writing.SoundPlaces.{each_type, services_once, types_in}
use Rattle.pg_set.proofs.lemmas.written.names.QualifiedNames.{scope_of}
use Rattle.pg_set.proofs.lemmas.written.names.WrittenNames.{is_scope}

-- the name of what is at the index is a scope
abbrev IsScope : {A : Type 0} (name : A → List ℕ) (xs : List A) → ℕ → Type 0
IsScope {A = A} name xs place = (x : A) → slice_get xs place ≡ Some x → scope_of (name x) ≡ dotted (name x)

scope_at : {A : Type 0} (name : A → List ℕ) (xs : List A) (scope : List ℕ) (place : ℕ) → is_named_in scope (option_map name (slice_get xs place)) ≡ true → IsScope name xs place
scope_at name xs scope place inside x at = is_scope scope (name x) (sym (ap (λ o. is_named_in scope (option_map name o)) at) ∙ inside)

module _ (types : List MessageType) where
  abbrev IsType : ℕ → Type 0
  IsType = IsScope (λ (t : MessageType). string_bytes t.name) types

  types_scoped : (scope : List ℕ) (ids : List TypeId) → are_types_in types scope ids ≡ true → AllByRecursion IsType (type_places ids)
  types_scoped scope [] inside = tt
  types_scoped scope (id ∷ ids) inside = (
    scope_at (λ (t : MessageType). string_bytes t.name) types scope id.index (and_left (is_named_in scope (type_name types id)) (are_types_in types scope ids) inside),
    types_scoped scope ids (and_right (is_named_in scope (type_name types id)) (are_types_in types scope ids) inside),
  )

module _ (services : List Service) where
  abbrev IsService : ℕ → Type 0
  IsService = IsScope (λ (s : Service). string_bytes s.name) services

  services_scoped : (scope : List ℕ) (ids : List ServiceId) → are_services_in services scope ids ≡ true → AllByRecursion IsService (service_places ids)
  services_scoped scope [] inside = tt
  services_scoped scope (id ∷ ids) inside = (
    scope_at (λ (s : Service). string_bytes s.name) services scope id.index (and_left (is_named_in scope (service_name services id)) (are_services_in services scope ids) inside),
    services_scoped scope ids (and_right (is_named_in scope (service_name services id)) (are_services_in services scope ids) inside),
  )

abbrev services_in : File → List ℕ
services_in f = service_places f.services.items

module _ (parts : Parts) (sound : IsSound parts) where
  abbrev types_are : File → Bool
  types_are f = are_types_in parts.types.items (string_bytes f.package) f.types.items

  abbrev enums_are : File → Bool
  enums_are f = are_enums_in parts.enums.items (string_bytes f.package) f.enums.items

  abbrev services_are : File → Bool
  services_are f = are_services_in parts.services.items (string_bytes f.package) f.services.items

  abbrev is_scoped : File → Bool
  is_scoped = is_file_scope parts.types.items parts.enums.items parts.services.items

  types_of_files : (fs : List File) → list_all is_scoped fs ≡ true → AllByRecursion (λ (f : File). AllByRecursion (IsType parts.types.items) (types_in f)) fs
  types_of_files [] scoped = tt
  types_of_files (f ∷ fs) scoped = (
    types_scoped parts.types.items (string_bytes f.package) f.types.items (and_left (types_are f) (enums_are f) (and_left (types_are f && enums_are f) (services_are f) (and_left (is_scoped f) (list_all is_scoped fs) scoped))),
    types_of_files fs (and_right (is_scoped f) (list_all is_scoped fs) scoped),
  )

  services_of_files : (fs : List File) → list_all is_scoped fs ≡ true → AllByRecursion (λ (f : File). AllByRecursion (IsService parts.services.items) (services_in f)) fs
  services_of_files [] scoped = tt
  services_of_files (f ∷ fs) scoped = (
    services_scoped parts.services.items (string_bytes f.package) f.services.items (and_right (types_are f && enums_are f) (services_are f) (and_left (is_scoped f) (list_all is_scoped fs) scoped)),
    services_of_files fs (and_right (is_scoped f) (list_all is_scoped fs) scoped),
  )

  pub type_is_scope : (place : ℕ) (t : MessageType) → slice_get parts.types.items place ≡ Some t → scope_of (string_bytes t.name) ≡ dotted (string_bytes t.name)
  type_is_scope place t at =
      each_type parts sound (IsType parts.types.items) (types_of_files parts.files.items sound.file_scopes)
      (λ k u there is.
      types_scoped parts.types.items (string_bytes u.name) u.nested_types.items
      (and_left (are_types_in parts.types.items (string_bytes u.name) u.nested_types.items) (are_enums_in parts.enums.items (string_bytes u.name) u.nested_enums.items)
      (test_at (is_type_scope parts.types.items parts.enums.items) parts.types.items k u sound.type_scopes there)))
      place t at t at

  pub service_is_scope : (place : ℕ) (s : Service) → slice_get parts.services.items place ≡ Some s → scope_of (string_bytes s.name) ≡ dotted (string_bytes s.name)
  service_is_scope place s at =
      let here = each_place (length parts.services.items) (declared_services parts.files.items) (services_once parts sound) place (slice_get_within parts.services.items place s at) in
      let found = lists services_in place parts.files.items here in
      let all = all_at (λ (f : File). AllByRecursion (IsService parts.services.items) (services_in f)) parts.files.items found.at found.item (services_of_files parts.files.items sound.file_scopes) found.there in
      among (IsService parts.services.items) place (services_in found.item) all found.among s at
