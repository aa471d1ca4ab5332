-- What the names of a set mean, and when all that its files declare may be in one table: names occur once, 32 bits hold
-- the indices of message types, `optional` fields name oneofs that are there, entry types are in message types, and no
-- message type is nested too deep.
use Rattle.std.specs.Prelude.{ℕ, zero, suc, ◌^◌, Bool, true, false, ◌&&◌, nat_eq, nat_lt, List, [], ◌∷◌, filter, flat_map, length, map, Option, Some, None, option_map, if◌then◌else◌}
use Rattle.std.specs.List.{list_all, position_from}
use Rattle.std.specs.Str.{bytes_eq}
use Rattle.pg_schema.specs.rules.Packages.{is_free_of}
use Rattle.pg_schema.specs.rules.Pairs.{are_distinct}
use Rattle.pg_schema.specs.rules.TextSets.{is_among}
use Rattle.pg_dyn.specs.message.Message.{Message}
use Rattle.pg_set.specs.declared.reading.outline.Named.{Named}
use Rattle.pg_set.specs.declared.reading.outline.Named.TheVariants as nameds
use Rattle.pg_set.specs.stated.Outlines.{Row, file_types}
use Rattle.pg_set.specs.declared.descriptor.proto.TheConstants as proto
use Rattle.pg_set.specs.stated.SetMessages.{children_at}
use Rattle.pg_set.specs.stated.SetNames.{file_scope, files_names, qualified_names}
use Rattle.pg_set.specs.stated.StatedNames.{NameLookup, first_of}
use Rattle.pg_set.specs.stated.FileMessages.{is_place}
use Rattle.pg_set.specs.stated.TypeMessages.{is_entry, is_no_entry, synthetic_places}

-- ---- what names mean

abbrev pub names_of : List Row → List (List ℕ)
names_of rows = map (λ (r : Row). r.0) rows

abbrev pub place_of : List (List ℕ) → List ℕ → Option ℕ
place_of names name = position_from (bytes_eq name) 0 names

abbrev pub entry_names : Row → List (List ℕ)
entry_names r = qualified_names r.0 (filter is_entry (children_at proto.MESSAGE_NESTED_TYPE r.1))

abbrev pub type_named : ℕ → Named
type_named place = nameds.Type (record { index = place })

abbrev pub enum_named : ℕ → Named
enum_named place = nameds.Enum (record { index = place })

-- What a name means where these are the message types and enums, in the order of their indices: one of them, or an
-- entry type.
abbrev pub meaning : (types enums : List Row) → NameLookup
meaning types enums name =
    first_of (option_map type_named (place_of (names_of types) name))
    (first_of (option_map enum_named (place_of (names_of enums) name))
    (if is_among (flat_map entry_names types) name then Some nameds.Entry else None))

-- ---- what files declare

abbrev pub has_name : List ℕ → Bool
has_name [] = false
has_name (byte ∷ bytes) = true

-- the scopes of the files that are in a package
abbrev pub packages_of : List Message → List (List ℕ)
packages_of files = filter has_name (map file_scope files)

-- all names of the files occur once, and none is a part of a package
abbrev pub are_free : (depth : ℕ) → List Message → Bool
are_free depth files =
    are_distinct (files_names depth files) && list_all (is_free_of (files_names depth files)) (packages_of files)

-- no entry type is outside of message types
abbrev pub has_no_entries : Message → Bool
has_no_entries m = nat_eq (length (filter is_entry (children_at proto.FILE_MESSAGE_TYPE m))) 0

-- message types are nested less deep than that
abbrev pub nest_within : (depth : ℕ) → List Message → Bool
nest_within zero ms = nat_eq (length ms) 0
nest_within (suc depth) ms =
    list_all (λ m. nest_within depth (filter is_no_entry (children_at proto.MESSAGE_NESTED_TYPE m))) ms

-- those of a file
abbrev pub nests_within : (depth : ℕ) → Message → Bool
nests_within depth m = nest_within depth (children_at proto.FILE_MESSAGE_TYPE m)

-- 32 bits hold so many indices
abbrev pub few : ℕ → Bool
few count = nat_lt count (suc (2 ^ 32))

-- the `optional` fields of a message type name oneofs of it
abbrev pub names_oneofs : Row → Bool
names_oneofs r = list_all (is_place (length (children_at proto.MESSAGE_ONEOF_DECL r.1))) (synthetic_places (children_at proto.MESSAGE_FIELD r.1))

-- all that the files declare may be in one table, and message types are nested less deep than that
abbrev pub may_declare : (depth : ℕ) → List Message → Bool
may_declare depth files =
    are_free depth files && list_all has_no_entries files && list_all (nests_within depth) files
    && list_all names_oneofs (flat_map (file_types depth) files)
    && few (length (flat_map (file_types depth) files))
