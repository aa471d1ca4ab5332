-- What messages of fields, oneofs and message types say: a field's label and JSON name, which oneofs are synthetic,
-- which types are entries (descriptor.proto).
use Rattle.std.specs.Prelude.{ℤ, pos, ℕ, List, negsuc, Bool, false, nat_eq, filter, filter_map, suc, [], ◌∷◌, if◌then◌else◌, Option, None, Some, length, not}
use Rattle.std.specs.Option.{unwrap_or}
use Rattle.std.specs.List.{list_any}
use Rattle.pg_schema.specs.JsonName.{default_json_name}
use Rattle.pg_dyn.specs.message.Message.{Message}
use Rattle.pg_set.specs.stated.SetMessages.{maybe_number_at, maybe_text_at, text_at, flag_at, options_at}
use Rattle.pg_set.specs.declared.descriptor.proto.TheConstants as proto

-- ---- fields

-- LABEL_OPTIONAL where it is missing
abbrev pub label_at : Message → ℤ
label_at m = unwrap_or (maybe_number_at proto.FIELD_LABEL m) (pos 1)

-- that of the field's name where it is missing
abbrev pub json_name_at : Message → List ℕ
json_name_at m = unwrap_or (maybe_text_at proto.FIELD_JSON_NAME m) (default_json_name (text_at proto.FIELD_NAME m))

-- ---- oneofs

-- the number is that of the index
abbrev pub is_at : (place : ℕ) → ℤ → Bool
is_at place (pos n) = nat_eq n place
is_at place (negsuc n) = false

-- the index is among these numbers
abbrev pub is_marked : List ℤ → (place : ℕ) → Bool
is_marked numbers place = list_any (is_at place) numbers

-- the field is marked `proto3_optional`
abbrev pub is_optional : Message → Bool
is_optional m = flag_at proto.FIELD_PROTO3_OPTIONAL m

-- the indices of synthetic oneofs: those that fields marked so name
abbrev pub synthetic_places : List Message → List ℤ
synthetic_places fields = filter_map (maybe_number_at proto.FIELD_ONEOF_INDEX) (filter is_optional fields)

-- the oneofs at indices that aren't marked, counted from that of the first
abbrev pub real_oneofs : List ℤ → (place : ℕ) → List Message → List Message
real_oneofs marked place [] = []
real_oneofs marked place (m ∷ ms) =
    if is_marked marked place then real_oneofs marked (suc place) ms else m ∷ real_oneofs marked (suc place) ms

-- the number, where there is one, is that of the index
abbrev pub is_named : (place : ℕ) → Option ℤ → Bool
is_named place None = false
is_named place (Some number) = is_at place number

-- how many of the fields name the oneof at the index
abbrev pub members_at : (place : ℕ) → List Message → ℕ
members_at place fields = length (filter (λ m. is_named place (maybe_number_at proto.FIELD_ONEOF_INDEX m)) fields)

-- ---- message types

-- marked `map_entry`
abbrev pub is_entry : Message → Bool
is_entry m = flag_at proto.MESSAGE_MAP_ENTRY (options_at proto.MESSAGE_OPTIONS m)

abbrev pub is_no_entry : Message → Bool
is_no_entry m = not (is_entry m)
