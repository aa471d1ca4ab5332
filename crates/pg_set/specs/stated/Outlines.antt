-- What the message types, enums and services of a set are called, in the order of their indices.
use Rattle.std.specs.Prelude.{ℕ, List, map, ◌∷◌, filter, zero, suc, [], flat_map, ◌++◌}
use Rattle.pg_dyn.specs.message.Message.{Message}
use Rattle.pg_set.specs.stated.SetNames.{qualified, file_scope}
use Rattle.pg_set.specs.stated.SetMessages.{children_at}
use Rattle.pg_set.specs.stated.TypeMessages.{is_no_entry}
use Rattle.pg_set.specs.declared.descriptor.proto.TheConstants as proto

-- a qualified name, and the message of what has it
abbrev pub Row : Type 0
Row = List ℕ × Message

abbrev pub row_in : (scope : List ℕ) → Message → Row
row_in scope m = (qualified scope m, m)

abbrev pub rows_in : (scope : List ℕ) → List Message → List Row
rows_in scope ms = map (row_in scope) ms

-- a message type's, and then those of the types inside it
abbrev pub rows_of_type : (inside : List ℕ → List Message → List Row) → (scope : List ℕ) → Message → List Row
rows_of_type inside scope m =
    row_in scope m ∷ inside (qualified scope m) (filter is_no_entry (children_at proto.MESSAGE_NESTED_TYPE m))

-- message types, nested less deep than that
abbrev pub type_rows : (depth : ℕ) → (scope : List ℕ) → List Message → List Row
type_rows zero scope ms = []
type_rows (suc depth) scope ms = flat_map (rows_of_type (type_rows depth) scope) ms

-- the enums of a message type, and then those of the types inside it
abbrev pub rows_of_enums : (inside : List ℕ → List Message → List Row) → (scope : List ℕ) → Message → List Row
rows_of_enums inside scope m =
    rows_in (qualified scope m) (children_at proto.MESSAGE_ENUM_TYPE m)
    ++ inside (qualified scope m) (filter is_no_entry (children_at proto.MESSAGE_NESTED_TYPE m))

-- the enums in message types, nested less deep than that
abbrev pub enum_rows : (depth : ℕ) → (scope : List ℕ) → List Message → List Row
enum_rows zero scope ms = []
enum_rows (suc depth) scope ms = flat_map (rows_of_enums (enum_rows depth) scope) ms

-- ---- files

abbrev pub file_types : (depth : ℕ) → Message → List Row
file_types depth m = type_rows depth (file_scope m) (children_at proto.FILE_MESSAGE_TYPE m)

abbrev pub file_enums : (depth : ℕ) → Message → List Row
file_enums depth m =
    rows_in (file_scope m) (children_at proto.FILE_ENUM_TYPE m)
    ++ enum_rows depth (file_scope m) (children_at proto.FILE_MESSAGE_TYPE m)

abbrev pub file_services : Message → List Row
file_services m = rows_in (file_scope m) (children_at proto.FILE_SERVICE m)
