-- What is written of the files of a schema whose parts are in order declares its parts.
use Rattle.std.proofs.Common.{◌≡◌, true, false, List, [], ◌∷◌, map, flat_map, length, Some, refl, ap, ◌∙◌, rules}
use Rattle.std.specs.List.{list_all}
use Rattle.pg_schema.specs.declared.parts.file.File.{File}
use Rattle.pg_schema.specs.declared.parts.Parts.{Parts}
use Rattle.pg_schema.specs.rules.Files.{is_file}
use Rattle.pg_schema.specs.rules.Messages.{is_message_type}
use Rattle.pg_schema.specs.rules.Sound.{IsSound}
use Rattle.pg_dyn.specs.message.Message.{Message}
use Rattle.pg_schema.specs.standing.InOrder.{StandInOrder}
use Rattle.pg_schema.specs.standing.Nesting.{nest_within}
use Rattle.pg_schema.specs.standing.Places.{most_deep}
use Rattle.pg_set.specs.stated.Numbering.{no_counts, placed_files, types_of_files}
use Rattle.pg_set.specs.stated.Outlines.{Row, file_enums, file_services, file_types}
use Rattle.pg_set.specs.writing.Places.{Declared, declared_in}
use Rattle.pg_set.specs.stated.Stated.{declared_by}
use Rattle.pg_set.specs.stated.StatedEnums.{enum_type}
use Rattle.pg_set.specs.stated.StatedFiles.{file}
use Rattle.pg_set.specs.stated.StatedNames.{NameLookup, each}
use Rattle.pg_set.specs.stated.StatedServices.{service}
use Rattle.pg_set.specs.stated.StatedTable.{meaning}
use Rattle.pg_set.specs.stated.StatedTypes.{message_type}
use Rattle.pg_set.specs.stated.Views.{enum_view, file_view, parts_view, service_view, type_view}
use Rattle.pg_set.proofs.lemmas.lists.Each.{each_of}
use Rattle.pg_set.proofs.lemmas.rows.MeaningLaws.{files_meant}
use Rattle.pg_set.proofs.lemmas.rows.PartsMade.{parts_there}
use Rattle.pg_set.proofs.lemmas.rows.RowNames.{AreMeant, entries_mean, has_names}
use Rattle.pg_set.proofs.lemmas.rows.RowPlaces.{all_from, at_all, test_at}
use Rattle.pg_set.proofs.lemmas.written.names.NamedScopes.{type_is_scope}
use Rattle.pg_set.proofs.lemmas.written.WrittenDeclared.{its_entries_once, may_be_declared, names_once}
use Rattle.pg_set.proofs.lemmas.written.WrittenEnums.{enum_is}
use Rattle.pg_set.proofs.lemmas.written.WrittenFileRows.{AreFileRows, StandBehind, enums_in, file_rows, services_in, types_in}
use Rattle.pg_set.proofs.lemmas.written.WrittenFiles.{file_is, file_written, placed_file}
use Rattle.pg_set.proofs.lemmas.written.levels.WrittenNesting.{files_nest}
use Rattle.pg_set.proofs.lemmas.written.WrittenRows.{enum_row, service_row}
use Rattle.pg_set.proofs.lemmas.written.WrittenServices.{HasNames, service_is}
use Rattle.pg_set.proofs.lemmas.written.WrittenTypes.{placed_row, type_is, type_row}

map_same : {A B V : Type 0} (f : A → V) (row : B → A) (view : B → V) → ((x : B) → f (row x) ≡ view x) → (xs : List B) → map f (map row xs) ≡ map view xs
map_same f row view one [] = refl
map_same f row view one (x ∷ xs) = ap (λ v. v ∷ map f (map row xs)) (one x) ∙ ap (λ vs. view x ∷ vs) (map_same f row view one xs)

module _ (parts : Parts) (sound : IsSound parts) (stand : StandInOrder parts) (shallow : list_all (λ (f : File). nest_within most_deep parts.types.items f.types.items) parts.files.items ≡ true) where
  abbrev all : Declared
  all = declared_in parts

  abbrev fs : List File
  fs = parts.files.items

  abbrev ms : List Message
  ms = map (file_written all) fs

  -- ---- rows and indices

  rows : AreFileRows all most_deep ms fs
  rows = file_rows parts sound most_deep fs sound.files sound.file_scopes shallow

  first : StandBehind all most_deep no_counts fs
  first = search (rules, all_from, types_in, enums_in, services_in)

  abbrev type_rows : List Row
  type_rows = flat_map (file_types most_deep) ms

  abbrev enum_rows : List Row
  enum_rows = flat_map (file_enums most_deep) ms

  abbrev service_rows : List Row
  service_rows = flat_map file_services ms

  types_are : type_rows ≡ map (type_row all) all.types
  types_are = at_all (type_row all) all.types type_rows (flat_map (types_in all most_deep) fs) stand.types rows.types

  enums_are : enum_rows ≡ map enum_row all.enums
  enums_are = at_all enum_row all.enums enum_rows (flat_map (enums_in all most_deep) fs) stand.enums rows.enums

  services_are : service_rows ≡ map (service_row all) all.services
  services_are = at_all (service_row all) all.services service_rows (flat_map (services_in all most_deep) fs) stand.services rows.services

  placed_are : types_of_files most_deep no_counts ms ≡ map (placed_row all) all.types
  placed_are = at_all (placed_row all) all.types (types_of_files most_deep no_counts ms) (flat_map (types_in all most_deep) fs) stand.types (rows.placed no_counts first)

  -- ---- what is made of them

  abbrev means : NameLookup
  means = meaning type_rows enum_rows

  meant : AreMeant means type_rows enum_rows
  meant = files_meant most_deep ms (names_once parts sound types_are enums_are services_are)

  has : HasNames all means
  has = has_names means all type_rows enum_rows types_are enums_are meant

  files_made : each (file false) (placed_files most_deep no_counts ms) ≡ Some (map file_view fs)
  files_made = ap (each (file false)) (rows.files no_counts first) ∙ each_of (file false) (placed_file all) file_view fs (λ place f at. file_is all f (test_at is_file fs place f sound.files at))

  types_made : each (message_type means) (types_of_files most_deep no_counts ms) ≡ Some (map type_view all.types)
  types_made =
      ap (each (message_type means)) placed_are
      ∙ each_of (message_type means) (placed_row all) type_view all.types
      (λ place t at.
      type_is all means has t (test_at (is_message_type (length all.types) (length all.enums)) all.types place t sound.message_types at) (type_is_scope parts sound place t at) (its_entries_once parts sound place t at)
      (entries_mean means all type_rows enum_rows types_are enums_are meant place t at))

  enums_made : map enum_type enum_rows ≡ map enum_view all.enums
  enums_made = ap (map enum_type) enums_are ∙ map_same enum_type enum_row enum_view enum_is all.enums

  services_made : each (service means) service_rows ≡ Some (map service_view all.services)
  services_made = search (rules, services_are, each_of, service_row, service_is, has, test_at)

  -- they are the schema's
  pub declared_are : declared_by false ms ≡ Some (parts_view parts)
  declared_are = search (rules, may_be_declared, types_are, enums_are, services_are, files_nest, parts_there, files_made, types_made, services_made, enums_made)
