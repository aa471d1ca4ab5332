-- Small sets with a bad reference, each with its cause.
use Rattle.std.specs.Prelude.{◌≡◌, ℕ, true, false, List, [], ◌∷◌, codes, is_some}
use Rattle.pg_dyn.specs.message.Message.{Message}
use Rattle.pg_set.specs.refusals.BadReferences.{HasBadType, IsBadReference, means_in}
use Rattle.pg_set.specs.declared.descriptor.proto.TheConstants as proto
use Rattle.pg_set.specs.examples.Words.{child, count, nothing, text}
use Rattle.pg_set.specs.stated.Stated.{stated_of}

-- a file of that path, which imports that other one
abbrev pub importing : (path other : List ℕ) → Message
importing path other = text proto.FILE_NAME path (text proto.FILE_DEPENDENCY other nothing)

-- the field f of that label and type, whose type has that name
abbrev pub naming : (label type : ℕ) → (name : List ℕ) → Message → Message
naming label type name later =
    text proto.FIELD_NAME (codes "f") (count proto.FIELD_NUMBER 1 (count proto.FIELD_LABEL label (count proto.FIELD_TYPE type (text proto.FIELD_TYPE_NAME name later))))

-- a file with the message type M, which has that field
abbrev pub file_with : (field : Message) → List Message
file_with field = child proto.FILE_MESSAGE_TYPE (text proto.MESSAGE_NAME (codes "M") (child proto.MESSAGE_FIELD field nothing)) nothing ∷ []

-- `M f = 1;`
abbrev pub good : Message
good = naming 1 11 (codes ".M") nothing

abbrev pub without_dot : Message
without_dot = naming 1 11 (codes "M") nothing

abbrev pub of_enum_code : Message
of_enum_code = naming 1 14 (codes ".M") nothing

-- `M f = 1;`, marked `proto3_optional`
abbrev pub without_oneof : Message
without_oneof = naming 1 11 (codes ".M") (count proto.FIELD_PROTO3_OPTIONAL 1 nothing)

-- a map field of that name and number, whose type is `M.AEntry`
abbrev map_field : (name : List ℕ) → (number : ℕ) → Message
map_field name number =
    text proto.FIELD_NAME name (count proto.FIELD_NUMBER number (count proto.FIELD_LABEL 3 (count proto.FIELD_TYPE 11 (text proto.FIELD_TYPE_NAME (codes ".M.AEntry") nothing))))

-- an int32 field of an entry type
abbrev entry_field : (name : List ℕ) → (number : ℕ) → Message
entry_field name number = text proto.FIELD_NAME name (count proto.FIELD_NUMBER number (count proto.FIELD_LABEL 1 (count proto.FIELD_TYPE 5 nothing)))

-- that of `map<int32, int32> a = 1;`
abbrev entry_type : Message
entry_type =
    text proto.MESSAGE_NAME (codes "AEntry") (
    child proto.MESSAGE_FIELD (entry_field (codes "key") 1) (
    child proto.MESSAGE_FIELD (entry_field (codes "value") 2) (
    child proto.MESSAGE_OPTIONS (count proto.MESSAGE_MAP_ENTRY 1 nothing) nothing)))

-- a file with the message type M, which has the map field a, then these parts, and the entry type of a
abbrev with_map : (Message → Message) → List Message
with_map more = child proto.FILE_MESSAGE_TYPE (
    text proto.MESSAGE_NAME (codes "M") (child proto.MESSAGE_FIELD (map_field (codes "a") 1) (more (child proto.MESSAGE_NESTED_TYPE entry_type nothing)))) nothing ∷ []

abbrev pub one_map : List Message
one_map = with_map (λ later. later)

-- a second map field, whose name gives the same entry type
abbrev pub sharing : List Message
sharing = with_map (child proto.MESSAGE_FIELD (map_field (codes "A") 2))

pub record WorkedCauses : Type 0 where
  pub no_cause : is_some (stated_of false (file_with good)) ≡ true
  pub import_missing : IsBadReference false (importing (codes "a") (codes "b") ∷ [])
  pub imports_go_round : IsBadReference false (importing (codes "a") (codes "b") ∷ importing (codes "b") (codes "a") ∷ [])
  pub no_dot : HasBadType (means_in (file_with without_dot)) without_dot
  pub set_without_dot : IsBadReference false (file_with without_dot)
  pub other_kind : HasBadType (means_in (file_with of_enum_code)) of_enum_code
  pub set_of_other_kind : IsBadReference false (file_with of_enum_code)
  pub set_without_oneof : IsBadReference false (file_with without_oneof)
  pub no_sharing : is_some (stated_of false one_map) ≡ true
  pub set_sharing : IsBadReference false sharing
