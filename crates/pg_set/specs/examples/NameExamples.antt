-- What names of small files mean, and which files' declarations may be in one table: names that occur twice are asked
-- scope by scope.
use Rattle.std.specs.Prelude.{◌≡◌, ℕ, true, false, List, [], ◌∷◌, ◌++◌, codes, flat_map, Some, None, is_some}
use Rattle.pg_dyn.specs.message.Message.{Message}
use Rattle.pg_set.specs.stated.SetNames.{package_parts, package_scope}
use Rattle.pg_set.specs.stated.Outlines.{file_enums, file_types}
use Rattle.pg_set.specs.declared.descriptor.proto.TheConstants as proto
use Rattle.pg_set.specs.examples.Words.{child, nothing, text}
use Rattle.pg_set.specs.stated.Stated.{stated_of}
use Rattle.pg_set.specs.stated.StatedNames.{NameLookup}
use Rattle.pg_set.specs.stated.StatedTable.{enum_named, may_declare, meaning, names_of, type_named}

-- `package a.b; message M { message N {} enum E {} }`
abbrev two_types : Message
two_types =
    text proto.FILE_PACKAGE (codes "a.b") (child proto.FILE_MESSAGE_TYPE (
    text proto.MESSAGE_NAME (codes "M") (
    child proto.MESSAGE_NESTED_TYPE (text proto.MESSAGE_NAME (codes "N") nothing) (
    child proto.MESSAGE_ENUM_TYPE (text proto.NAME (codes "E") nothing) nothing))) nothing)

-- a message type of that name, with nothing else
abbrev type_called : List ℕ → Message
type_called name = text proto.MESSAGE_NAME name nothing

-- a file with one message type, which has that name, in no package
abbrev one_type : List ℕ → Message
one_type name = child proto.FILE_MESSAGE_TYPE (type_called name) nothing

-- a file in no package, whose message type without a name holds an enum without a name
abbrev two_without_name : Message
two_without_name = child proto.FILE_MESSAGE_TYPE (child proto.MESSAGE_ENUM_TYPE nothing nothing) nothing

-- a file in no package, with two message types of these names
abbrev beside : (first second : List ℕ) → Message
beside first second = child proto.FILE_MESSAGE_TYPE (type_called first) (one_type second)

-- a file in no package with the message types `a.b` and `a`, and in the latter `b`
abbrev dot_in_name : Message
dot_in_name =
    child proto.FILE_MESSAGE_TYPE (type_called (codes "a.b")) (
    child proto.FILE_MESSAGE_TYPE (text proto.MESSAGE_NAME (codes "a") (child proto.MESSAGE_NESTED_TYPE (type_called (codes "b")) nothing)) nothing)

abbrev means : NameLookup
means = meaning (flat_map (file_types 3) (two_types ∷ [])) (flat_map (file_enums 3) (two_types ∷ []))

pub record WorkedNames : Type 0 where
  pub parts : package_parts (package_scope (codes "a.b")) ≡ codes ".a" ∷ codes ".a.b" ∷ []
  pub no_part : package_parts (package_scope []) ≡ []
  pub types : names_of (flat_map (file_types 3) (two_types ∷ [])) ≡ codes ".a.b.M" ∷ codes ".a.b.M.N" ∷ []
  -- a backslash is 92
  pub quoted_dot : names_of (file_types 3 dot_in_name)
      ≡ (codes ".a" ++ 92 ∷ codes ".b") ∷ codes ".a" ∷ codes ".a.b" ∷ []
  pub type : means (codes ".a.b.M.N") ≡ Some (type_named 1)
  pub enum : means (codes ".a.b.M.E") ≡ Some (enum_named 0)
  pub package_part : means (codes ".a.b") ≡ None
  pub no_dot : means (codes "a.b.M") ≡ None
  pub may : may_declare 3 (two_types ∷ one_type (codes "M") ∷ []) ≡ true
  pub twice : may_declare 3 (two_types ∷ two_types ∷ []) ≡ false
  pub part_of_package : may_declare 3 (two_types ∷ one_type (codes "a") ∷ []) ≡ false
  pub without_name : may_declare 3 (one_type [] ∷ []) ≡ true
  pub within_nameless : is_some (stated_of false (two_without_name ∷ [])) ≡ true
  pub twice_without_name : may_declare 3 (beside [] [] ∷ []) ≡ false
  pub dotted_apart : is_some (stated_of false (dot_in_name ∷ [])) ≡ true
  pub twice_with_dot : may_declare 3 (beside (codes "a.b") (codes "a.b") ∷ []) ≡ false
