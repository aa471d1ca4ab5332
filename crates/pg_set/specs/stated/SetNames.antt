-- The fully-qualified names that the messages of a set declare, in the order in which they are declared
-- (descriptor.proto, `FieldDescriptorProto.type_name`; proto3 language guide, "Enumerations": the values of an enum are
-- siblings of its name). Of each name on the way from the outermost scope they have a dot and the name. So that names
-- of two scopes differ, whatever string a name is, a backslash comes before each dot and each backslash in one.
use Rattle.std.specs.Prelude.{ℕ, nat_eq, List, [], ◌∷◌, map, if◌then◌else◌, Bool, ◌||◌, ◌++◌, ◌≡◌, flat_map, filter, zero, suc}
use Rattle.pg_set.specs.writing.Fields.{dotted}
use Rattle.pg_dyn.specs.message.Message.{Message}
use Rattle.pg_set.specs.stated.SetMessages.{text_at, children_at}
use Rattle.pg_set.specs.stated.TypeMessages.{real_oneofs, synthetic_places, is_entry, is_no_entry}
use Rattle.pg_set.specs.declared.descriptor.proto.TheConstants as proto

-- what comes before each dot of a name, and the whole
abbrev pub fronts : List ℕ → List (List ℕ)
fronts [] = [] ∷ []
fronts (byte ∷ bytes) =
    if nat_eq byte 46 then []
    ∷ map (λ front. byte ∷ front) (fronts bytes) else map (λ front. byte ∷ front) (fronts bytes)

-- The parts of a package, by its scope: what comes before each dot but the first, and the whole. Of the outermost scope
-- there are none.
abbrev pub package_parts : (scope : List ℕ) → List (List ℕ)
package_parts [] = []
package_parts (byte ∷ bytes) = map (λ front. byte ∷ front) (fronts bytes)

-- ---- names in scopes

-- with a backslash in front of each byte of that kind
abbrev pub escaped : (kind : ℕ → Bool) → List ℕ → List ℕ
escaped kind [] = []
escaped kind (byte ∷ bytes) = if kind byte then 92 ∷ byte ∷ escaped kind bytes else byte ∷ escaped kind bytes

abbrev pub is_backslash : ℕ → Bool
is_backslash byte = nat_eq byte 92

abbrev pub is_dot_or_backslash : ℕ → Bool
is_dot_or_backslash byte = nat_eq byte 46 || is_backslash byte

abbrev pub quoted : List ℕ → List ℕ
quoted name = escaped is_dot_or_backslash name

-- the qualified name of a name in a scope, which is called by its own
abbrev pub name_in : (scope name : List ℕ) → List ℕ
name_in scope name = scope ++ dotted (quoted name)

-- of what a message is called there
abbrev pub qualified : (scope : List ℕ) → Message → List ℕ
qualified scope m = name_in scope (text_at proto.NAME m)

abbrev pub qualified_names : (scope : List ℕ) → List Message → List (List ℕ)
qualified_names scope ms = map (qualified scope) ms

-- the scope of a package, whose dots part its words; without one it is the outermost
abbrev pub package_scope : List ℕ → List ℕ
package_scope [] = []
package_scope (byte ∷ bytes) = dotted (escaped is_backslash (byte ∷ bytes))

-- what a file declares by itself is there
abbrev pub file_scope : Message → List ℕ
file_scope m = package_scope (text_at proto.FILE_PACKAGE m)

-- a package, or none, or what has a name in another one
pub data IsScope : List ℕ → Type 0 where
  of_package : (name : List ℕ) → IsScope (package_scope name)
  of_name : (scope name : List ℕ) → IsScope scope → IsScope (name_in scope name)

-- a qualified name is that of just one name in one scope
abbrev pub NamesApart : Type 0
NamesApart =
    (scope other name another : List ℕ) → IsScope scope → IsScope other → name_in scope name ≡ name_in other another
    → (scope ≡ other) × (name ≡ another)

-- ---- the names of a set

-- its own and those of its values
abbrev pub enum_names : (scope : List ℕ) → Message → List (List ℕ)
enum_names scope m = qualified scope m ∷ qualified_names scope (children_at proto.ENUM_VALUE m)

abbrev pub enums_names : (scope : List ℕ) → List Message → List (List ℕ)
enums_names scope ms = flat_map (enum_names scope) ms

-- those of the fields and real oneofs of a message type of that qualified name
abbrev pub member_names : (full : List ℕ) → Message → List (List ℕ)
member_names full m = qualified_names full (children_at proto.MESSAGE_FIELD m) ++ qualified_names full (real_oneofs (synthetic_places (children_at proto.MESSAGE_FIELD m)) 0 (children_at proto.MESSAGE_ONEOF_DECL m))

-- and of its entry types, without those of what it has inside
abbrev pub own_names : (full : List ℕ) → Message → List (List ℕ)
own_names full m =
    full ∷ member_names full m ++ qualified_names full (filter is_entry (children_at proto.MESSAGE_NESTED_TYPE m))

-- with those of its enums and of the types inside it
abbrev pub type_names : (inside : List ℕ → List Message → List (List ℕ)) → (scope : List ℕ) → Message → List (List ℕ)
type_names inside scope m =
    own_names (qualified scope m) m ++ enums_names (qualified scope m) (children_at proto.MESSAGE_ENUM_TYPE m)
    ++ inside (qualified scope m) (filter is_no_entry (children_at proto.MESSAGE_NESTED_TYPE m))

-- those of message types nested less deep than that
abbrev pub types_names : (depth : ℕ) → (scope : List ℕ) → List Message → List (List ℕ)
types_names zero scope ms = []
types_names (suc depth) scope ms = flat_map (type_names (types_names depth) scope) ms

-- its own and those of its methods
abbrev pub service_names : (scope : List ℕ) → Message → List (List ℕ)
service_names scope m = qualified scope m ∷ qualified_names (qualified scope m) (children_at proto.SERVICE_METHOD m)

abbrev pub services_names : (scope : List ℕ) → List Message → List (List ℕ)
services_names scope ms = flat_map (service_names scope) ms

-- those of a file, with message types nested less deep than that
abbrev pub file_names : (depth : ℕ) → Message → List (List ℕ)
file_names depth m =
    enums_names (file_scope m) (children_at proto.FILE_ENUM_TYPE m)
    ++ types_names depth (file_scope m) (children_at proto.FILE_MESSAGE_TYPE m)
    ++ services_names (file_scope m) (children_at proto.FILE_SERVICE m)

abbrev pub files_names : (depth : ℕ) → List Message → List (List ℕ)
files_names depth ms = flat_map (file_names depth) ms
