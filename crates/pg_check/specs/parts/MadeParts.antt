-- What files declare, as a schema has it, file after file: message types and services are numbered in order of
-- declaration, enums scope by scope, those of the package before those of each message type.
use Rattle.std.specs.Prelude.{◌≡◌, ℕ, List, [], ◌∷◌, ◌++◌, map, length, Option, string_bytes}
use Rattle.pg_schema.specs.declared.parts.Parts.{Parts}
use Rattle.pg_schema.specs.declared.parts.field.EnumId.{EnumId}
use Rattle.pg_schema.specs.declared.parts.field.TypeId.{TypeId}
use Rattle.pg_schema.specs.declared.parts.file.File as files
use Rattle.pg_schema.specs.declared.parts.message_type.MessageType as messages
use Rattle.pg_schema.specs.declared.parts.service.ServiceId.{ServiceId}
use Rattle.pg_link.specs.declared.uses.target.Target.{Target}
use Rattle.pg_syntax.specs.declared.tree as tree
use Rattle.pg_syntax.specs.declared.tree.Part.{Part}
use Rattle.pg_check.specs.parts.ByScope.{Placed, placed_from, types_in, enums_in}
use Rattle.pg_check.specs.parts.MadeEnums.{MadeEnum, enumeration, made_enum}
use Rattle.pg_check.specs.parts.MadeFiles.{AreOptions, file_import, made_imports, made_options}
use Rattle.pg_check.specs.parts.MadeMessages.{IsMessage}
use Rattle.pg_check.specs.parts.MadeServices.{MadeService, made_services, service, service_ids}
use Rattle.pg_check.specs.rules.Outline.{Message, file_messages, message_scope, enum_scope, package_of, scoped_enums, statements_behind}

-- each of the one list is so to the one in its place of the other
abbrev pub EachIs : {A B : Type 0} → (A → B → Type 0) → List A → List B → Type 0
EachIs is [] [] = Unit {0}
EachIs is [] (y ∷ ys) = ⊥
EachIs is (x ∷ xs) [] = ⊥
EachIs is (x ∷ xs) (y ∷ ys) = is x y × EachIs is xs ys

-- a file by its path, its bytes and its tree, and what the type name that begins at a byte of it names
pub record Source : Type 0 where
  pub path : List ℕ
  pub text : List ℕ
  pub tree : tree.FileTree.FileTree
  pub targets : ℕ → Option Target

-- ---- message types

-- a message's body, and the indexes of what it declares
pub record TypeTree : Type 0 where
  pub targets : ℕ → Option Target
  pub full : List ℕ
  pub body : List Part
  pub nested : List TypeId
  pub enums : List EnumId

abbrev pub IsTypeOf : TypeTree → messages.MessageType → Type 0
IsTypeOf w t = IsMessage w.targets w.full w.body w.nested w.enums t

abbrev pub type_tree : (ℕ → Option Target) → (types enums : List Placed) → Message → TypeTree
type_tree targets types enums m = record {
  targets = targets;
  full = m.full;
  body = m.body;
  nested = types_in m.full types;
  enums = enums_in m.full enums;
}

-- where the file's message types and enums are, after so many
abbrev pub placed_messages : ℕ → tree.FileTree.FileTree → List Placed
placed_messages before file = placed_from before (map message_scope (file_messages file))

abbrev pub placed_enums : ℕ → tree.FileTree.FileTree → List Placed
placed_enums before file = placed_from before (map enum_scope (scoped_enums file))

abbrev pub type_trees : (types enums : ℕ) → Source → List TypeTree
type_trees types enums s =
    map (type_tree s.targets (placed_messages types s.tree) (placed_enums enums s.tree)) (file_messages s.tree)

-- ---- services

abbrev pub file_services : Source → List MadeService
file_services s =
    made_services s.targets (package_of s.tree) s.tree.statements.items
    ++ made_services s.targets (package_of s.tree) (statements_behind s.tree.packaged)

-- ---- files

-- a file's tree, and the indexes of what it declares outside of messages
pub record FileShape : Type 0 where
  pub path : List ℕ
  pub tree : tree.FileTree.FileTree
  pub types : List TypeId
  pub enums : List EnumId
  pub services : List ServiceId

pub record IsFileOf (w : FileShape) (f : files.File) : Type 0 where
  pub name : string_bytes f.name ≡ w.path
  pub in_package : string_bytes f.package ≡ package_of w.tree
  pub imports : map file_import f.imports.items ≡ made_imports w.tree
  pub types : f.types.items ≡ w.types
  pub enums : f.enums.items ≡ w.enums
  pub services : f.services.items ≡ w.services
  pub options : AreOptions (made_options w.tree) f.options.items

abbrev pub file_shape : (types enums services : ℕ) → Source → FileShape
file_shape types enums services s = record {
  path = s.path;
  tree = s.tree;
  types = types_in (package_of s.tree) (placed_messages types s.tree);
  enums = enums_in (package_of s.tree) (placed_enums enums s.tree);
  services = service_ids services (file_services s);
}

-- ---- file after file

pub record Declared : Type 0 where
  pub types : List TypeTree
  pub enums : List MadeEnum
  pub services : List MadeService
  pub files : List FileShape

abbrev pub nothing : Declared
nothing = record { types = []; enums = []; services = []; files = [] }

-- what is declared once this file comes after the others
abbrev pub with_file : Declared → Source → Declared
with_file d s = record {
  types = d.types ++ type_trees (length d.types) (length d.enums) s;
  enums = d.enums ++ map made_enum (scoped_enums s.tree);
  services = d.services ++ file_services s;
  files = d.files ++ file_shape (length d.types) (length d.enums) (length d.services) s ∷ [];
}

abbrev pub with_files : Declared → List Source → Declared
with_files d [] = d
with_files d (s ∷ ss) = with_files (with_file d s) ss

-- the parts have exactly what is declared, in that order
pub record States (d : Declared) (parts : Parts) : Type 0 where
  pub types : EachIs IsTypeOf d.types parts.types.items
  pub enums : map enumeration parts.enums.items ≡ d.enums
  pub services : map service parts.services.items ≡ d.services
  pub files : EachIs IsFileOf d.files parts.files.items

-- the parts of these files
abbrev pub ArePartsOf : List Source → Parts → Type 0
ArePartsOf files parts = States (with_files nothing files) parts
