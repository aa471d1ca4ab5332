-- What files declare outside and inside of messages: message types in order of declaration, and enums scope by scope
-- (proto3 language specification, "Message definition", "Enum definition", "Package").
use Rattle.std.specs.Prelude.{ℕ, List, [], ◌∷◌, ◌++◌, flat_map, Option, Some, None, string_bytes}
use Rattle.pg_schema.specs.rules.DeclaredNames.{within}
use Rattle.pg_syntax.specs.declared.tree as tree
use Rattle.pg_syntax.specs.declared.tree.Part.{Part, Row_of-Part, end_of-Part, more_of-Part}
use Rattle.pg_syntax.specs.declared.tree.Part.TheVariants as parts
use Rattle.pg_syntax.specs.declared.tree.Statement.TheVariants as statements

-- a message, the scope that declares it, its full name without a dot in front, and its body
pub record Message : Type 0 where
  pub scope : List ℕ
  pub full : List ℕ
  pub name : tree.Name.Name
  pub body : List Part

pub record Enum : Type 0 where
  pub scope : List ℕ
  pub full : List ℕ
  pub tree : tree.Enum.Enum

abbrev pub message_scope : Message → List ℕ
message_scope m = m.scope

abbrev pub enum_scope : Enum → List ℕ
enum_scope e = e.scope

abbrev pub full_name : List ℕ → tree.Name.Name → List ℕ
full_name scope name = within scope (string_bytes name.text)

abbrev pub an_enum : List ℕ → tree.Enum.Enum → List Enum
an_enum scope e = record { scope = scope; full = full_name scope e.name; tree = e } ∷ []

-- ---- message types, each before those in it

abbrev pub row_list : {m : _} → Row_of-Part m → List Part
row_list end_of-Part = []
row_list (more_of-Part p rest) = p ∷ row_list rest

abbrev mutual
  pub messages_in : List ℕ → Part → List Message
  messages_in scope (parts.Empty span) = []
  messages_in scope (parts.Message' name shape row span) =
      record { scope = scope; full = full_name scope name; name = name; body = row_list row }
      ∷ row_messages (full_name scope name) row
  messages_in scope (parts.Enum e) = []
  messages_in scope (parts.Oneof o) = []
  messages_in scope (parts.Option o) = []
  messages_in scope (parts.Reserved r) = []
  messages_in scope (parts.Map m) = []
  messages_in scope (parts.Field f) = []

  pub row_messages : {m : _} → List ℕ → Row_of-Part m → List Message
  row_messages scope end_of-Part = []
  row_messages scope (more_of-Part p rest) = messages_in scope p ++ row_messages scope rest

abbrev pub messages_of : List ℕ → tree.Message.Message → List Message
messages_of scope m = record { scope = scope; full = full_name scope m.name; name = m.name; body = m.parts.items }
    ∷ flat_map (messages_in (full_name scope m.name)) m.parts.items

-- ---- files

abbrev pub statement_messages : List ℕ → tree.Statement.Statement → List Message
statement_messages scope (statements.Empty span) = []
statement_messages scope (statements.Import i) = []
statement_messages scope (statements.Option o) = []
statement_messages scope (statements.Message m) = messages_of scope m
statement_messages scope (statements.Enum e) = []
statement_messages scope (statements.Service s) = []

abbrev pub statements_behind : Option tree.Packaged.Packaged → List tree.Statement.Statement
statements_behind None = []
statements_behind (Some p) = p.statements.items

abbrev pub dotted_more : List ℕ → List tree.Name.Name → List ℕ
dotted_more text [] = text
dotted_more text (name ∷ names) = dotted_more (text ++ 46 ∷ string_bytes name.text) names

-- names with dots between
abbrev pub dotted : tree.Dotted.Dotted → List ℕ
dotted d = dotted_more (string_bytes d.first.text) d.more.items

abbrev pub package_in : Option tree.Packaged.Packaged → List ℕ
package_in None = []
package_in (Some p) = dotted p.package.name

-- the package; empty where none is stated
abbrev pub package_of : tree.FileTree.FileTree → List ℕ
package_of file = package_in file.packaged

abbrev pub all_messages : List ℕ → List tree.Statement.Statement → List Message
all_messages scope statements = flat_map (statement_messages scope) statements

abbrev pub file_messages : tree.FileTree.FileTree → List Message
file_messages file =
    all_messages (package_of file) file.statements.items
    ++ all_messages (package_of file) (statements_behind file.packaged)

-- ---- enums, scope by scope

-- the enum that the part itself declares
abbrev pub enum_in : List ℕ → Part → List Enum
enum_in scope (parts.Empty span) = []
enum_in scope (parts.Message' name shape row span) = []
enum_in scope (parts.Enum e) = an_enum scope e
enum_in scope (parts.Oneof o) = []
enum_in scope (parts.Option o) = []
enum_in scope (parts.Reserved r) = []
enum_in scope (parts.Map m) = []
enum_in scope (parts.Field f) = []

-- those that a message type itself declares
abbrev pub own_enums : Message → List Enum
own_enums m = flat_map (enum_in m.full) m.body

abbrev pub enum_stated : List ℕ → tree.Statement.Statement → List Enum
enum_stated scope (statements.Empty span) = []
enum_stated scope (statements.Import i) = []
enum_stated scope (statements.Option o) = []
enum_stated scope (statements.Message m) = []
enum_stated scope (statements.Enum e) = an_enum scope e
enum_stated scope (statements.Service s) = []

-- those that are outside of messages
abbrev pub package_enums : tree.FileTree.FileTree → List Enum
package_enums file =
    flat_map (enum_stated (package_of file)) file.statements.items
    ++ flat_map (enum_stated (package_of file)) (statements_behind file.packaged)

-- all of a file scope by scope: those of the package, and then those of each message type
abbrev pub scoped_enums : tree.FileTree.FileTree → List Enum
scoped_enums file = package_enums file ++ flat_map own_enums (file_messages file)
