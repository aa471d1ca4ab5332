-- The schema that a set states, as a function of its message (descriptor.proto; docs/PROOFS.md, "Descriptor sets").
-- Nothing where an import or a name isn't there, occurs twice or is of another kind, or where a form isn't kept. Which
-- rules the parts keep isn't asked here.
use Rattle.std.specs.Prelude.{Bool, ◌&&◌, List, flat_map, map, Option, option_map}
use Rattle.std.specs.List.{list_all}
use Rattle.std.specs.Option.{option_and_then}
use Rattle.pg_dyn.specs.message.Message.{Message}
use Rattle.pg_schema.specs.standing.Places.{most_deep}
use Rattle.pg_set.specs.stated.Codes.{file_has_types}
use Rattle.pg_set.specs.stated.Numbering.{PlacedFile, PlacedType, no_counts, placed_files, types_of_files}
use Rattle.pg_set.specs.stated.Outlines.{Row, file_enums, file_services, file_types}
use Rattle.pg_set.specs.stated.FileMessages.{is_proto3, kept_files, skips}
use Rattle.pg_set.specs.stated.StatedEnums.{enum_type}
use Rattle.pg_set.specs.stated.StatedFiles.{file}
use Rattle.pg_set.specs.stated.StatedNames.{NameLookup, each, only_if}
use Rattle.pg_set.specs.stated.StatedOrder.{in_post_order}
use Rattle.pg_set.specs.stated.StatedServices.{service}
use Rattle.pg_set.specs.stated.StatedTable.{may_declare, meaning}
use Rattle.pg_set.specs.stated.StatedTypes.{message_type}
use Rattle.pg_set.specs.stated.Views.{EnumView, FileView, PartsView, ServiceView, TypeView}

-- ---- what files declare

abbrev pub parts_of : List TypeView → List EnumView → List ServiceView → List FileView → PartsView
parts_of types enums services files = record { files = files; types = types; enums = enums; services = services }

-- the parts of these files, message types, enums and services, by what names mean
abbrev pub parts_by : NameLookup → (skips : Bool) → List PlacedFile → List PlacedType → (enums services : List Row)
    → Option PartsView
parts_by means skips files types enums services =
    option_and_then (λ made. option_and_then (λ named. option_map (λ called. parts_of named (map enum_type enums) called made)
    (each (service means) services)) (each (message_type means) types)) (each (file skips) files)

-- What the files declare, taken in this order. Indices are counted: those of message types and services in order of
-- declaration, of enums scope by scope.
abbrev pub declared_by : (skips : Bool) → List Message → Option PartsView
declared_by skips files =
    only_if (may_declare most_deep files)
    (parts_by (meaning (flat_map (file_types most_deep) files) (flat_map (file_enums most_deep) files)) skips (placed_files most_deep no_counts files)
    (types_of_files most_deep no_counts files) (flat_map (file_enums most_deep) files) (flat_map file_services files))

-- ---- the set

-- what the files state, taken in post-order of imports
abbrev pub stated_of : (skips : Bool) → List Message → Option PartsView
stated_of skips files = option_and_then (declared_by skips) (in_post_order skips files)

-- all of them are proto3, and their fields have types and labels that are taken
abbrev pub are_taken : List Message → Bool
are_taken files = list_all is_proto3 files && list_all file_has_types files

abbrev pub stated_files : (skips : Bool) → List Message → Option PartsView
stated_files skips files = only_if (are_taken files) (stated_of skips files)

abbrev pub stated : Message → Option PartsView
stated set = stated_files (skips set) (kept_files set)
