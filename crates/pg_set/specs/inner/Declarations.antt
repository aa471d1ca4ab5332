-- What a set declares: each qualified name with what it is that of, in order (descriptor.proto; proto3 language guide,
-- "Packages"; "Enumerations": the values of an enum are siblings of its name), and the tables of names that
-- declarations make.
use Rattle.std.specs.Prelude.{ℕ, List, String, Bool, true, false, ◌&&◌, Option, Some, None, [], ◌∷◌, ◌≡◌, if◌then◌else◌, map, suc, ◌++◌, flat_map, filter, zero}
use Rattle.std.specs.HashMap.{HashMap, get_by_text}
use Rattle.std.specs.Map.{update}
use Rattle.std.specs.Str.{bytes_eq}
use Rattle.pg_set.specs.declared.reading.outline.Named.{Named}
use Rattle.pg_set.specs.declared.reading.names_table.SetKeys.{SetKeys}
use Rattle.pg_set.specs.stated.StatedNames.{NameLookup}
use Rattle.pg_set.specs.declared.error.Unstated.{Unstated}
use Rattle.pg_dyn.specs.message.Message.{Message}
use Rattle.pg_set.specs.stated.SetNames.{qualified, package_parts, file_scope}
use Rattle.pg_set.specs.stated.SetMessages.{children_at}
use Rattle.pg_set.specs.stated.TypeMessages.{real_oneofs, synthetic_places, is_entry}
use Rattle.pg_set.specs.stated.Numbering.{Counts, inner_types, inside_type, behind_type, each_from, inside_file, behind_file}
use Rattle.pg_set.specs.declared.error.Unstated.TheVariants as errors
use Rattle.pg_set.specs.declared.reading.outline.Named.TheVariants as nameds
use Rattle.pg_set.specs.declared.descriptor.proto.TheConstants as proto

-- a qualified name, and what it is that of
abbrev pub Declaration : Type 0
Declaration = List ℕ × Named

-- ---- tables of names

abbrev pub NameTable : Type 0 → Type 0
NameTable Y = HashMap (String Y) Named SetKeys

abbrev pub is_package : Named → Bool
is_package nameds.Package = true
is_package (nameds.Type id) = false
is_package (nameds.Enum id) = false
is_package nameds.Entry = false
is_package nameds.Other = false

-- a part of a package may be that of others too; any other name occurs once
abbrev pub may_be : Option Named → Named → Bool
may_be None thing = true
may_be (Some other) thing = is_package other && is_package thing

-- with one name more
abbrev pub declared : NameLookup → Declaration → NameLookup
declared means d = update bytes_eq means d.0 (Some d.1)

abbrev pub all_declared : NameLookup → List Declaration → NameLookup
all_declared means [] = means
all_declared means (d ∷ ds) = all_declared (declared means d) ds

-- each may be declared, once those in front of it are
abbrev pub are_new : NameLookup → List Declaration → Bool
are_new means [] = true
are_new means (d ∷ ds) = may_be (means d.0) d.1 && are_new (declared means d) ds

abbrev pub no_names : NameLookup
no_names name = None

-- these were declared, and nothing else
pub record Adds {Y : Type 0} (ds : List Declaration) (old new : NameTable Y) : Type 0 where
  pub table : get_by_text new ≡ all_declared (get_by_text old) ds
  pub fresh : are_new (get_by_text old) ds ≡ true

-- where these may be declared, only memory can run out
abbrev pub CannotAdd : {Y : Type 0} → List Declaration → NameTable Y → Unstated → Type 0
CannotAdd ds table e = are_new (get_by_text table) ds ≡ true → e ≡ errors.Memory

-- ---- what is declared in a scope

-- what a message is called there
abbrev pub named_in : (scope : List ℕ) → Named → Message → Declaration
named_in scope thing m = (qualified scope m, thing)

abbrev pub all_named : (scope : List ℕ) → Named → List Message → List Declaration
all_named scope thing ms = map (named_in scope thing) ms

-- the enum at that index, and its values
abbrev pub enum_declared : (scope : List ℕ) → (place : ℕ) → Message → List Declaration
enum_declared scope place m = named_in scope (nameds.Enum (record { index = place })) m ∷ all_named scope nameds.Other (children_at proto.ENUM_VALUE m)

-- enums from that index on
abbrev pub enums_declared : (scope : List ℕ) → (place : ℕ) → List Message → List Declaration
enums_declared scope place [] = []
enums_declared scope place (m ∷ ms) = enum_declared scope place m ++ enums_declared scope (suc place) ms

-- a service and its methods
abbrev pub service_declared : (scope : List ℕ) → Message → List Declaration
service_declared scope m =
    named_in scope nameds.Other m ∷ all_named (qualified scope m) nameds.Other (children_at proto.SERVICE_METHOD m)

abbrev pub services_declared : (scope : List ℕ) → List Message → List Declaration
services_declared scope ms = flat_map (service_declared scope) ms

-- the fields and real oneofs of a message type of that qualified name
abbrev pub members_declared : (full : List ℕ) → Message → List Declaration
members_declared full m =
    all_named full nameds.Other (children_at proto.MESSAGE_FIELD m)
    ++ all_named full nameds.Other (real_oneofs (synthetic_places (children_at proto.MESSAGE_FIELD m)) 0 (children_at proto.MESSAGE_ONEOF_DECL m))

-- the message type at that index, its fields, real oneofs and entry types
abbrev pub type_declared : (full : List ℕ) → (place : ℕ) → Message → List Declaration
type_declared full place m =
    (full, nameds.Type (record { index = place })) ∷ members_declared full m ++ all_named full nameds.Entry (filter is_entry (children_at proto.MESSAGE_NESTED_TYPE m))

-- with its enums and the types inside it
abbrev pub whole_declared : (inside : List ℕ → Counts → List Message → List Declaration) → (scope : List ℕ) → Counts
    → Message → List Declaration
whole_declared inside scope counts m =
    type_declared (qualified scope m) counts.types m
    ++ enums_declared (qualified scope m) counts.enums (children_at proto.MESSAGE_ENUM_TYPE m)
    ++ inside (qualified scope m) (inside_type counts m) (inner_types m)

-- message types, nested less deep than that
abbrev pub types_declared : (depth : ℕ) → (scope : List ℕ) → Counts → List Message → List Declaration
types_declared zero scope counts ms = []
types_declared (suc depth) scope counts ms =
    each_from (behind_type depth scope) (whole_declared (types_declared depth) scope) counts ms

-- ---- files

abbrev pub package_part : List ℕ → Declaration
package_part name = (name, nameds.Package)

abbrev pub package_declared : (scope : List ℕ) → List Declaration
package_declared scope = map package_part (package_parts scope)

abbrev pub file_declared : (depth : ℕ) → Counts → Message → List Declaration
file_declared depth counts m =
    package_declared (file_scope m) ++ enums_declared (file_scope m) counts.enums (children_at proto.FILE_ENUM_TYPE m)
    ++ types_declared depth (file_scope m) (inside_file counts m) (children_at proto.FILE_MESSAGE_TYPE m)
    ++ services_declared (file_scope m) (children_at proto.FILE_SERVICE m)

abbrev pub files_declared : (depth : ℕ) → Counts → List Message → List Declaration
files_declared depth counts ms = each_from (behind_file depth) (file_declared depth) counts ms
