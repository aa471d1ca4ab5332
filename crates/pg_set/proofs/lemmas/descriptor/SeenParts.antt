-- The rules of a schema for all parts together, as tests of what the parts say.
use Rattle.std.proofs.Common.{◌≡◌, ℕ, Bool, ◌&&◌, List, [], ◌∷◌, ◌++◌, map, flat_map, length, Option, Some, None, option_map, slice_get, if◌then◌else◌, refl, ap, ap₂, ◌∙◌, rules}
use Rattle.std.specs.List.{list_all}
use Rattle.std.specs.String.{string_bytes}
use Rattle.pg_schema.specs.declared.parts.enum_type.EnumType.{EnumType}
use Rattle.pg_schema.specs.declared.parts.field.EnumId.{EnumId}
use Rattle.pg_schema.specs.declared.parts.field.TypeId.{TypeId}
use Rattle.pg_schema.specs.declared.parts.message_type.MessageType.{MessageType}
use Rattle.pg_schema.specs.declared.parts.Parts.{Parts}
use Rattle.pg_schema.specs.declared.parts.service.Service.{Service}
use Rattle.pg_schema.specs.declared.parts.service.ServiceId.{ServiceId}
use Rattle.pg_schema.specs.rules.DeclaredNames.{declared_names, entry_name, service_names, type_names, values_at, values_of, within}
use Rattle.pg_schema.specs.rules.Packages.{are_free_of, is_free_of}
use Rattle.pg_schema.specs.rules.Scopes.{are_declared_once, are_each_once, are_enums_in, are_services_in, are_types_in, enum_places, is_file_scope, is_named_in, is_type_scope, service_places, type_places}
use Rattle.pg_schema.specs.Shape.{is_map}
use Rattle.pg_set.specs.stated.Views.{EnumView, FieldView, FileView, MethodView, PartsView, ServiceView, TypeView, ValueView, enum_view, file_view, parts_view, service_view, type_view, value_view}
use Rattle.pg_set.proofs.lemmas.lists.Alike.{all_agree, flat_agree}
use Rattle.pg_set.proofs.lemmas.lists.Seen.{all_seen, at_seen, flat_seen, length_seen, map_seen, option_seen}

-- ---- indices

abbrev pub types_declared : PartsView → List ℕ
types_declared v = flat_map (λ (f : FileView). type_places f.types) v.files ++ flat_map (λ (t : TypeView). type_places t.nested_types) v.types

abbrev pub enums_declared : PartsView → List ℕ
enums_declared v = flat_map (λ (f : FileView). enum_places f.enums) v.files ++ flat_map (λ (t : TypeView). enum_places t.nested_enums) v.types

abbrev pub services_declared : PartsView → List ℕ
services_declared v = flat_map (λ (f : FileView). service_places f.services) v.files

abbrev pub stand_once : PartsView → Bool
stand_once v =
    are_each_once (length v.types) (types_declared v) && are_each_once (length v.enums) (enums_declared v)
    && are_each_once (length v.services) (services_declared v)

-- ---- scopes

abbrev named : {V : Type 0} → (V → List ℕ) → List V → List ℕ → ℕ → Bool
named name views scope place = is_named_in scope (option_map name (slice_get views place))

abbrev pub types_in : List TypeView → List ℕ → List TypeId → Bool
types_in types scope ids = list_all (λ (id : TypeId). named (λ (t : TypeView). t.name) types scope id.index) ids

abbrev pub enums_in : List EnumView → List ℕ → List EnumId → Bool
enums_in enums scope ids = list_all (λ (id : EnumId). named (λ (e : EnumView). e.name) enums scope id.index) ids

abbrev pub services_in : List ServiceView → List ℕ → List ServiceId → Bool
services_in services scope ids = list_all (λ (id : ServiceId). named (λ (s : ServiceView). s.name) services scope id.index) ids

abbrev pub type_stands : PartsView → TypeView → Bool
type_stands v t = types_in v.types t.name t.nested_types && enums_in v.enums t.name t.nested_enums

abbrev pub file_stands : PartsView → FileView → Bool
file_stands v f =
    types_in v.types f.package_name f.types && enums_in v.enums f.package_name f.enums && services_in v.services f.package_name f.services

-- ---- full names

abbrev pub names_of_values : Option EnumView → List (List ℕ)
names_of_values None = []
names_of_values (Some e) = map (λ (v : ValueView). v.name) e.values

abbrev pub values_within : List EnumView → List EnumId → List (List ℕ)
values_within enums ids = flat_map (λ (id : EnumId). names_of_values (slice_get enums id.index)) ids

abbrev pub entry_within : FieldView → List (List ℕ)
entry_within f = if is_map f.presence then entry_name f.name ∷ [] else []

abbrev pub words_of : List EnumView → TypeView → List (List ℕ)
words_of enums t = map (λ (f : FieldView). f.name) t.fields ++ t.oneofs ++ flat_map entry_within t.fields ++ values_within enums t.nested_enums

abbrev pub names_of_type : List EnumView → TypeView → List (List ℕ)
names_of_type enums t = t.name ∷ map (within t.name) (words_of enums t)

abbrev pub names_of_service : ServiceView → List (List ℕ)
names_of_service s = s.name ∷ map (within s.name) (map (λ (m : MethodView). m.name) s.methods)

abbrev pub names_of_file : List EnumView → FileView → List (List ℕ)
names_of_file enums f = map (within f.package_name) (values_within enums f.enums)

abbrev pub all_names : PartsView → List (List ℕ)
all_names v =
    flat_map (names_of_type v.enums) v.types ++ map (λ (e : EnumView). e.name) v.enums ++ flat_map names_of_service v.services
    ++ flat_map (names_of_file v.enums) v.files

abbrev pub packages_free : PartsView → Bool
packages_free v = list_all (λ (f : FileView). is_free_of (all_names v) f.package_name) v.files

-- ---- of parts

named_kept : {A V : Type 0} (view : A → V) (name : V → List ℕ) (xs : List A) (scope : List ℕ) (place : ℕ)
    → is_named_in scope (option_map (λ x. name (view x)) (slice_get xs place)) ≡ named name (map view xs) scope place
named_kept view name xs scope place =
    ap (is_named_in scope) (option_seen view (λ x. name (view x)) name (λ x. refl) (slice_get xs place)
    ∙ ap (option_map name) (at_seen view xs place))

values_kept : (e : Option EnumType) → values_of e ≡ names_of_values (option_map enum_view e)
values_kept None = refl
values_kept (Some e) = map_seen value_view (λ v. string_bytes v.name) (λ v. v.name) (λ v. refl) e.values.items

service_names_kept : (s : Service) → service_names s ≡ names_of_service (service_view s)
service_names_kept s = search (rules, map_seen)

module _ (p : Parts) where
  pub once_kept : are_declared_once p.files.items p.types.items (length p.enums.items) (length p.services.items) ≡ stand_once (parts_view p)
  once_kept =
      ap₂ ◌&&◌
      (ap₂ ◌&&◌
      (ap₂ are_each_once (length_seen type_view p.types.items)
      (ap₂ ◌++◌ (flat_seen file_view (λ f. type_places f.types.items) (λ f. type_places f.types) (λ f. refl) p.files.items)
      (flat_seen type_view (λ t. type_places t.nested_types.items) (λ t. type_places t.nested_types) (λ t. refl) p.types.items)))
      (ap₂ are_each_once (length_seen enum_view p.enums.items)
      (ap₂ ◌++◌ (flat_seen file_view (λ f. enum_places f.enums.items) (λ f. enum_places f.enums) (λ f. refl) p.files.items)
      (flat_seen type_view (λ t. enum_places t.nested_enums.items) (λ t. enum_places t.nested_enums) (λ t. refl) p.types.items))))
      (ap₂ are_each_once (length_seen service_view p.services.items)
      (flat_seen file_view (λ f. service_places f.services.items) (λ f. service_places f.services) (λ f. refl) p.files.items))

  types_kept : (scope : List ℕ) (ids : List TypeId) → are_types_in p.types.items scope ids ≡ types_in (map type_view p.types.items) scope ids
  types_kept scope ids = search (rules, all_agree, named_kept)

  enums_kept : (scope : List ℕ) (ids : List EnumId) → are_enums_in p.enums.items scope ids ≡ enums_in (map enum_view p.enums.items) scope ids
  enums_kept scope ids = search (rules, all_agree, named_kept)

  services_kept : (scope : List ℕ) (ids : List ServiceId)
      → are_services_in p.services.items scope ids ≡ services_in (map service_view p.services.items) scope ids
  services_kept scope ids = search (rules, all_agree, named_kept)

  pub scopes_of_types : list_all (is_type_scope p.types.items p.enums.items) p.types.items ≡ list_all (type_stands (parts_view p)) (map type_view p.types.items)
  scopes_of_types = search (rules, all_seen, types_kept, enums_kept)

  pub scopes_of_files : list_all (is_file_scope p.types.items p.enums.items p.services.items) p.files.items
      ≡ list_all (file_stands (parts_view p)) (map file_view p.files.items)
  scopes_of_files = search (rules, all_seen, types_kept, enums_kept, services_kept)

  values_at_kept : (ids : List EnumId) → values_at p.enums.items ids ≡ values_within (map enum_view p.enums.items) ids
  values_at_kept ids = search (rules, flat_agree, values_kept, at_seen)

  type_names_kept : (t : MessageType) → type_names p.enums.items t ≡ names_of_type (map enum_view p.enums.items) (type_view t)
  type_names_kept t = search (rules, map_seen, flat_seen, values_at_kept)

  pub names_kept : declared_names p ≡ all_names (parts_view p)
  names_kept = search (rules, flat_seen, type_names_kept, map_seen, service_names_kept, values_at_kept)

  pub packages_kept : are_free_of (declared_names p) p.files.items ≡ packages_free (parts_view p)
  packages_kept = search (rules, names_kept, all_seen)
