-- Whether parts keep to the rules goes by what they say: parts that say the same keep to the same rules.
use Rattle.std.proofs.Common.{◌≡◌, ◌≤◌, true, map, length, ap, ap₂, sym, subst, ◌∙◌}
use Rattle.std.specs.List.{list_all}
use Rattle.pg_schema.specs.declared.parts.Parts.{Parts}
use Rattle.pg_schema.specs.rules.Enums.{is_enum}
use Rattle.pg_schema.specs.rules.Files.{is_file, is_service}
use Rattle.pg_schema.specs.rules.Messages.{is_message_type}
use Rattle.pg_schema.specs.rules.Pairs.{are_distinct}
use Rattle.pg_schema.specs.rules.Sound.{IsSound}
use Rattle.pg_set.specs.stated.Views.{PartsView, enum_view, file_view, parts_view, service_view, type_view}
use Rattle.pg_set.proofs.lemmas.lists.Seen.{all_seen, length_seen}
use Rattle.pg_set.proofs.lemmas.descriptor.SeenParts.{all_names, file_stands, names_kept, once_kept, packages_free, packages_kept, scopes_of_files, scopes_of_types, stand_once, type_stands}
use Rattle.pg_set.proofs.lemmas.descriptor.SeenRules.{enum_holds, enum_kept, file_holds, file_kept, service_holds, service_kept, type_holds, type_kept}

-- what parts say keeps to the rules
pub record KeepsRules (v : PartsView) : Type 0 where
  pub few_types : length v.types ≤ 4096
  pub files : list_all file_holds v.files ≡ true
  pub message_types : list_all (type_holds (length v.types) (length v.enums)) v.types ≡ true
  pub enums : list_all enum_holds v.enums ≡ true
  pub services : list_all (service_holds (length v.types)) v.services ≡ true
  pub declared_once : stand_once v ≡ true
  pub file_scopes : list_all (file_stands v) v.files ≡ true
  pub type_scopes : list_all (type_stands v) v.types ≡ true
  pub names : are_distinct (all_names v) ≡ true
  pub packages : packages_free v ≡ true

module _ (p : Parts) where
  types_length : length p.types.items ≡ length (map type_view p.types.items)
  types_length = length_seen type_view p.types.items

  files_kept : list_all is_file p.files.items ≡ list_all file_holds (map file_view p.files.items)
  files_kept = all_seen file_view is_file file_holds file_kept p.files.items

  all_types_kept :
      list_all (is_message_type (length p.types.items) (length p.enums.items)) p.types.items
      ≡ list_all (type_holds (length (map type_view p.types.items)) (length (map enum_view p.enums.items))) (map type_view p.types.items)
  all_types_kept =
      ap₂ (λ m n. list_all (is_message_type m n) p.types.items) types_length (length_seen enum_view p.enums.items)
      ∙ all_seen type_view (is_message_type (length (map type_view p.types.items)) (length (map enum_view p.enums.items)))
      (type_holds (length (map type_view p.types.items)) (length (map enum_view p.enums.items)))
      (λ t. type_kept t (length (map type_view p.types.items)) (length (map enum_view p.enums.items))) p.types.items

  enums_kept : list_all is_enum p.enums.items ≡ list_all enum_holds (map enum_view p.enums.items)
  enums_kept = all_seen enum_view is_enum enum_holds enum_kept p.enums.items

  services_kept :
      list_all (is_service (length p.types.items)) p.services.items
      ≡ list_all (service_holds (length (map type_view p.types.items))) (map service_view p.services.items)
  services_kept =
      ap (λ n. list_all (is_service n) p.services.items) types_length
      ∙ all_seen service_view (is_service (length (map type_view p.types.items))) (service_holds (length (map type_view p.types.items)))
      (service_kept (length (map type_view p.types.items))) p.services.items

  pub sound_by_view : KeepsRules (parts_view p) → IsSound p
  sound_by_view keeps = record {
    few_types = subst (λ n. n ≤ 4096) (sym types_length) keeps.few_types;
    files = files_kept ∙ keeps.files;
    message_types = all_types_kept ∙ keeps.message_types;
    enums = enums_kept ∙ keeps.enums;
    services = services_kept ∙ keeps.services;
    declared_once = once_kept p ∙ keeps.declared_once;
    file_scopes = scopes_of_files p ∙ keeps.file_scopes;
    type_scopes = scopes_of_types p ∙ keeps.type_scopes;
    names = ap are_distinct (names_kept p) ∙ keeps.names;
    packages = packages_kept p ∙ keeps.packages;
  }

  pub view_of_sound : IsSound p → KeepsRules (parts_view p)
  view_of_sound sound = record {
    few_types = subst (λ n. n ≤ 4096) types_length sound.few_types;
    files = sym files_kept ∙ sound.files;
    message_types = sym all_types_kept ∙ sound.message_types;
    enums = sym enums_kept ∙ sound.enums;
    services = sym services_kept ∙ sound.services;
    declared_once = sym (once_kept p) ∙ sound.declared_once;
    file_scopes = sym (scopes_of_files p) ∙ sound.file_scopes;
    type_scopes = sym (scopes_of_types p) ∙ sound.type_scopes;
    names = ap are_distinct (sym (names_kept p)) ∙ sound.names;
    packages = sym (packages_kept p) ∙ sound.packages;
  }

-- so the ones are a schema's where others that say the same are
pub sound_same : (a b : Parts) → parts_view a ≡ parts_view b → IsSound a → IsSound b
sound_same a b same sound = sound_by_view b (subst KeepsRules same (view_of_sound a sound))
