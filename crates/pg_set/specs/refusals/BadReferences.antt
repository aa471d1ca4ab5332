-- Why files state no schema, though each is proto3 and has types and labels that are taken: the causes of a bad
-- reference, each with the file, message type, field or method that has it (descriptor.proto; proto3 language guide,
-- "Importing Definitions", "Oneof", "Maps").
use Rattle.std.specs.Prelude.{◌≡◌, ◌≢◌, ◌↔◌, ◌⊎◌, ◌<◌, ◌≤◌, ◌^◌, ℕ, ⊤, ℤ, pos, Bool, true, false, ◌&&◌, List, [], ◌∷◌, ◌++◌, filter, flat_map, length, map, codes, Option, Some, None, IsSomeAnd}
use Rattle.std.specs.List.{Any}
use Rattle.std.specs.Ordering.{int_eq}
use Rattle.std.specs.Str.{bytes_eq}
use Rattle.pg_schema.specs.declared.parts.field.Element.{Element}
use Rattle.pg_schema.specs.rules.DeclaredNames.{entry_name}
use Rattle.pg_schema.specs.rules.Packages.{is_free_of}
use Rattle.pg_schema.specs.rules.Pairs.{are_distinct}
use Rattle.pg_schema.specs.rules.TextSets.{is_among}
use Rattle.pg_dyn.specs.message.Message.{Message}
use Rattle.pg_schema.specs.standing.Places.{most_deep}
use Rattle.pg_set.specs.declared.reading.outline.Named.{Named}
use Rattle.pg_set.specs.writing.Fields.{element_code}
use Rattle.pg_set.specs.stated.Outlines.{Row, file_enums, file_services, file_types}
use Rattle.pg_set.specs.stated.PostOrder.{importer_of, imports_at, kept_paths}
use Rattle.pg_set.specs.declared.descriptor.proto.TheConstants as proto
use Rattle.pg_set.specs.stated.SetMessages.{children_at, maybe_number_at, maybe_text_at, number_at, numbers_at, text_at, texts_at}
use Rattle.pg_set.specs.stated.FileMessages.{is_place}
use Rattle.pg_set.specs.stated.TypeMessages.{is_entry, is_marked, is_optional, label_at, members_at, synthetic_places}
use Rattle.pg_set.specs.stated.SetNames.{files_names, name_in}
use Rattle.pg_set.specs.stated.Stated.{stated_of}
use Rattle.pg_set.specs.stated.StatedEntries.{has_fields_alone, is_entry_field, says, scalar_of}
use Rattle.pg_set.specs.stated.StatedFields.{is_map_field}
use Rattle.pg_set.specs.stated.StatedNames.{NameLookup, element_of_named, meant, type_of_named}
use Rattle.pg_set.specs.stated.StatedOneofs.{synthetic_in, unmarked}
use Rattle.pg_set.specs.stated.StatedOrder.{Paths, in_post_order}
use Rattle.pg_set.specs.stated.StatedTable.{meaning, nests_within, packages_of}
use Rattle.pg_set.specs.stated.StatedTypes.{last_named, oneof_count, own_entries}

-- ---- names

-- what names mean in these files
abbrev pub means_in : List Message → NameLookup
means_in files = meaning (flat_map (file_types most_deep) files) (flat_map (file_enums most_deep) files)

-- no message type, enum or entry type has that qualified name, which begins with a dot
abbrev pub NamesNothing : NameLookup → List ℕ → Type 0
NamesNothing means name = means name ≡ None

-- What a method sends or answers is no message type: it isn't named, its name names nothing, or another thing.
pub data NamesNoType (means : NameLookup) (name : Option (List ℕ)) : Type 0 where
  unnamed : name ≡ None → NamesNoType means name
  unknown_type : (text : List ℕ) → name ≡ Some text → NamesNothing means text → NamesNoType means name
  no_type : (thing : Named) → meant means name ≡ Some thing → type_of_named thing ≡ None → NamesNoType means name

abbrev pub IsBadMethod : NameLookup → Message → Type 0
IsBadMethod means m =
    NamesNoType means (maybe_text_at proto.METHOD_INPUT_TYPE m)
    ⊎ NamesNoType means (maybe_text_at proto.METHOD_OUTPUT_TYPE m)

-- ---- fields

-- the type of a field that is no map: without a name, with one that names nothing, or that names what the code doesn't
-- say
pub data HasBadType (means : NameLookup) (field : Message) : Type 0 where
  -- the code is no scalar's, so a name is wanted
  without_name : maybe_text_at proto.FIELD_TYPE_NAME field ≡ None → scalar_of (number_at proto.FIELD_TYPE field) ≡ None
      → HasBadType means field
  unknown_name : (name : List ℕ) → maybe_text_at proto.FIELD_TYPE_NAME field ≡ Some name → NamesNothing means name
      → HasBadType means field
  -- an entry type
  no_element : (thing : Named) → meant means (maybe_text_at proto.FIELD_TYPE_NAME field) ≡ Some thing
      → element_of_named thing ≡ None → HasBadType means field
  -- the code is a scalar's, or that of the other kind
  other_kind : (thing : Named) (element : Element)
      → meant means (maybe_text_at proto.FIELD_TYPE_NAME field) ≡ Some thing → element_of_named thing ≡ Some element →
      int_eq (number_at proto.FIELD_TYPE field) (pos (element_code element)) ≡ false → HasBadType means field

-- the oneof of a field in a message type
pub data HasBadOneof (type field : Message) : Type 0 where
  out_of_range : (number : ℤ) → maybe_number_at proto.FIELD_ONEOF_INDEX field ≡ Some number
      → is_place (oneof_count type) number ≡ false → HasBadOneof type field
  -- of an `optional` field
  without_oneof : is_optional field ≡ true → maybe_number_at proto.FIELD_ONEOF_INDEX field ≡ None
      → HasBadOneof type field
  not_alone : (place : ℕ) → is_optional field ≡ true
      → maybe_number_at proto.FIELD_ONEOF_INDEX field ≡ Some (pos place) →
      members_at place (children_at proto.MESSAGE_FIELD type) ≢ 1 → HasBadOneof type field
  -- of another field: the oneof of an `optional` one, or one whose index 32 bits don't hold
  of_optional : (place : ℕ) → is_optional field ≡ false
      → maybe_number_at proto.FIELD_ONEOF_INDEX field ≡ Some (pos place) →
      is_marked (synthetic_places (children_at proto.MESSAGE_FIELD type)) place ≡ true → HasBadOneof type field
  too_many_oneofs : (place : ℕ) → is_optional field ≡ false
      → maybe_number_at proto.FIELD_ONEOF_INDEX field ≡ Some (pos place) →
      2 ^ 32 ≤ unmarked (synthetic_in (children_at proto.MESSAGE_FIELD type) (oneof_count type)) place
      → HasBadOneof type field

-- an entry type has two fields, `key` and `value`, and nothing else
pub data IsBadEntry (means : NameLookup) (entry : Message) : Type 0 where
  not_only_fields : has_fields_alone entry ≡ false → IsBadEntry means entry
  not_two : length (children_at proto.MESSAGE_FIELD entry) ≢ 2 → IsBadEntry means entry
  bad_key : (key value : Message) → children_at proto.MESSAGE_FIELD entry ≡ key ∷ value ∷ []
      → is_entry_field (codes "key") 1 key ≡ false → IsBadEntry means entry
  bad_value : (key value : Message) → children_at proto.MESSAGE_FIELD entry ≡ key ∷ value ∷ []
      → is_entry_field (codes "value") 2 value ≡ false → IsBadEntry means entry
  bad_item : Any (HasBadType means) (children_at proto.MESSAGE_FIELD entry) → IsBadEntry means entry

-- the qualified name of the field's own entry type
abbrev pub own_entry_name : Row → Message → List ℕ
own_entry_name r field = name_in r.0 (entry_name (text_at proto.FIELD_NAME field))

-- a field, in a message type, whose type is an entry type: it has to be that of its own name, and the field repeated
pub data IsBadMap (means : NameLookup) (r : Row) (field : Message) : Type 0 where
  not_repeated : int_eq (label_at field) (pos 3) ≡ false → IsBadMap means r field
  other_entry : says proto.FIELD_TYPE_NAME field (own_entry_name r field) ≡ false → IsBadMap means r field
  no_entry : is_among (map (text_at proto.MESSAGE_NAME) (own_entries r.1)) (entry_name (text_at proto.FIELD_NAME field))
      ≡ false → IsBadMap means r field
  bad_entry : (entry : Message)
      → last_named (own_entries r.1) (entry_name (text_at proto.FIELD_NAME field)) ≡ Some entry
      → IsBadEntry means entry →
      IsBadMap means r field

-- a field in a message type
pub data IsBadField (means : NameLookup) (r : Row) (field : Message) : Type 0 where
  bad_oneof : HasBadOneof r.1 field → IsBadField means r field
  repeated_optional : is_optional field ≡ true → int_eq (label_at field) (pos 3) ≡ true → IsBadField means r field
  bad_map : is_map_field means field ≡ true → IsBadMap means r field → IsBadField means r field
  bad_type : is_map_field means field ≡ false → HasBadType means field → IsBadField means r field

-- ---- declarations

-- the fields whose type is an entry type, by whose name it is that one
abbrev pub fields_of_entry : NameLookup → Row → (entry : Message) → List Message
fields_of_entry means r entry =
    filter (λ field. is_map_field means field && bytes_eq (entry_name (text_at proto.FIELD_NAME field)) (text_at proto.MESSAGE_NAME entry)) (children_at proto.MESSAGE_FIELD r.1)

-- a message type: one of its fields, or one of its entry types, which no field names, or more than one
pub data IsBadType (means : NameLookup) (r : Row) : Type 0 where
  bad_field : Any (IsBadField means r) (children_at proto.MESSAGE_FIELD r.1) → IsBadType means r
  spare_entry : Any (λ entry. length (fields_of_entry means r entry) ≡ 0) (own_entries r.1) → IsBadType means r
  shared_entry : Any (λ entry. 1 < length (fields_of_entry means r entry)) (own_entries r.1) → IsBadType means r

-- what files declare, in the order of their imports
pub data IsBadDeclaration (files : List Message) : Type 0 where
  name_twice : are_distinct (files_names most_deep files) ≡ false → IsBadDeclaration files
  part_of_package : Any (λ name. is_free_of (files_names most_deep files) name ≡ false) (packages_of files)
      → IsBadDeclaration files
  entry_outside : Any (λ m. Any (λ type. is_entry type ≡ true) (children_at proto.FILE_MESSAGE_TYPE m)) files
      → IsBadDeclaration files
  too_deep : Any (λ m. nests_within most_deep m ≡ false) files → IsBadDeclaration files
  too_many_types : 2 ^ 32 < length (flat_map (file_types most_deep) files) → IsBadDeclaration files
  bad_public_import : Any (λ m. Any (λ number. is_place (length (texts_at proto.FILE_DEPENDENCY m)) number ≡ false) (numbers_at proto.FILE_PUBLIC_DEPENDENCY m)) files →
      IsBadDeclaration files
  in_type : Any (IsBadType (means_in files)) (flat_map (file_types most_deep) files) → IsBadDeclaration files
  in_service : Any (λ (r : Row). Any (IsBadMethod (means_in files)) (children_at proto.SERVICE_METHOD r.1)) (flat_map file_services files) → IsBadDeclaration files

-- ---- files

-- each of the paths is an import of the file whose path comes before it
abbrev pub IsTrail : (leads : List ℕ → Option Paths) → List ℕ → Paths → Type 0
IsTrail leads path [] = ⊤
IsTrail leads path (next ∷ paths) =
    IsSomeAnd (leads path) (λ imports. is_among imports next ≡ true) × IsTrail leads next paths

-- The files' paths and imports, or what they declare.
pub data IsBadReference (skips : Bool) (files : List Message) : Type 0 where
  path_twice : are_distinct (map (text_at proto.FILE_NAME) files) ≡ false → IsBadReference skips files
  import_twice : Any (λ m. are_distinct (kept_paths skips (texts_at proto.FILE_DEPENDENCY m)) ≡ false) files
      → IsBadReference skips files
  import_missing : Any (λ m. Any (λ path. is_among (map (text_at proto.FILE_NAME) files) path ≡ false) (kept_paths skips (texts_at proto.FILE_DEPENDENCY m))) files →
      IsBadReference skips files
  imports_go_round : (path : List ℕ) (between : Paths)
      → IsTrail (imports_at (map (importer_of skips) files)) path (between ++ path ∷ []) → IsBadReference skips files
  bad_declaration : (ordered : List Message) → in_post_order skips files ≡ Some ordered → IsBadDeclaration ordered
      → IsBadReference skips files

-- files state nothing where they have a bad reference, and there alone
abbrev pub BadReferences : Type 0
BadReferences = (skips : Bool) (files : List Message) → (stated_of skips files ≡ None) ↔ IsBadReference skips files
