-- What a tree declares and imports.
use Rattle.std.specs.Prelude.{List, [], ◌∷◌, ◌++◌, map, flat_map, Option, Some, None, string_bytes}
use Rattle.pg_syntax.specs.Proto3.{joined}
use Rattle.pg_syntax.specs.Tree.{spell}
use Rattle.pg_syntax.specs.Views as view
use Rattle.pg_syntax.specs.declared.tree as tree
use Rattle.pg_syntax.specs.declared.tree.EnumPart.TheVariants as enum_parts
use Rattle.pg_syntax.specs.declared.tree.OneofPart.TheVariants as oneof_parts
use Rattle.pg_syntax.specs.declared.tree.Part.{Part, Row_of-Part, end_of-Part, more_of-Part}
use Rattle.pg_syntax.specs.declared.tree.Part.TheVariants as parts
use Rattle.pg_syntax.specs.declared.tree.ServicePart.TheVariants as service_parts
use Rattle.pg_syntax.specs.declared.tree.Statement.TheVariants as statements
use Rattle.pg_link.specs.declared.names.Kind.TheVariants as kinds
use Rattle.pg_link.specs.names.Declares.{Word, Declarations, Done, Alone, MapField, Within, Beside, names_of_file}
use Rattle.pg_link.specs.names.Files.{Declared, Import}
use Rattle.pg_link.specs.names.Names.{Text}

abbrev pub word : tree.Name.Name → Word
word name = record { text = string_bytes name.text; at = name.span.from }

-- what each of these declares, before the rest
abbrev pub all_of : {X : Type 0} → (X → Declarations → Declarations) → List X → Declarations → Declarations
all_of declares [] rest = rest
all_of declares (x ∷ xs) rest = declares x (all_of declares xs rest)

abbrev pub of_enum_part : tree.EnumPart.EnumPart → Declarations → Declarations
of_enum_part (enum_parts.Empty span) rest = rest
of_enum_part (enum_parts.Option o) rest = rest
of_enum_part (enum_parts.Reserved r) rest = rest
of_enum_part (enum_parts.Value v) rest = Alone kinds.Value (word v.name) rest

abbrev pub of_enum : tree.Enum.Enum → Declarations → Declarations
of_enum e rest = Beside kinds.Enum (word e.name) (all_of of_enum_part e.parts.items Done) rest

abbrev pub of_oneof_part : tree.OneofPart.OneofPart → Declarations → Declarations
of_oneof_part (oneof_parts.Empty span) rest = rest
of_oneof_part (oneof_parts.Option o) rest = rest
of_oneof_part (oneof_parts.Map m) rest = MapField (word m.name) rest
of_oneof_part (oneof_parts.Field f) rest = Alone kinds.Field (word f.name) rest

abbrev pub of_oneof : tree.Oneof.Oneof → Declarations → Declarations
of_oneof o rest = Beside kinds.Oneof (word o.name) (all_of of_oneof_part o.parts.items Done) rest

abbrev pub of_service_part : tree.ServicePart.ServicePart → Declarations → Declarations
of_service_part (service_parts.Empty span) rest = rest
of_service_part (service_parts.Option o) rest = rest
of_service_part (service_parts.Rpc r) rest = Alone kinds.Method (word r.name) rest

abbrev pub of_service : tree.Service.Service → Declarations → Declarations
of_service s rest = Within kinds.Service (word s.name) (all_of of_service_part s.parts.items Done) rest

abbrev mutual
  pub of_part : Part → Declarations → Declarations
  of_part (parts.Empty span) rest = rest
  of_part (parts.Message' name shape row span) rest = Within kinds.Message (word name) (of_row row) rest
  of_part (parts.Enum e) rest = of_enum e rest
  of_part (parts.Oneof o) rest = of_oneof o rest
  of_part (parts.Option o) rest = rest
  of_part (parts.Reserved r) rest = rest
  of_part (parts.Map m) rest = MapField (word m.name) rest
  of_part (parts.Field f) rest = Alone kinds.Field (word f.name) rest

  pub of_row : {m : _} → Row_of-Part m → Declarations
  of_row end_of-Part = Done
  of_row (more_of-Part p rest) = of_part p (of_row rest)

abbrev pub of_message : tree.Message.Message → Declarations → Declarations
of_message m rest = Within kinds.Message (word m.name) (all_of of_part m.parts.items Done) rest

abbrev pub of_statement : tree.Statement.Statement → Declarations → Declarations
of_statement (statements.Empty span) rest = rest
of_statement (statements.Import i) rest = rest
of_statement (statements.Option o) rest = rest
of_statement (statements.Message m) rest = of_message m rest
of_statement (statements.Enum e) rest = of_enum e rest
of_statement (statements.Service s) rest = of_service s rest

abbrev pub dotted_words : tree.Dotted.Dotted → List Word
dotted_words name = word name.first ∷ map word name.more.items

abbrev pub package_words : Option tree.Packaged.Packaged → List Word
package_words None = []
package_words (Some p) = dotted_words p.package.name

abbrev pub statements_behind : Option tree.Packaged.Packaged → List tree.Statement.Statement
statements_behind None = []
statements_behind (Some p) = p.statements.items

-- the names that a file declares
abbrev pub file_names : tree.FileTree.FileTree → List Declared
file_names file = names_of_file (all_of of_statement file.statements.items Done) (package_words file.packaged)
    (all_of of_statement (statements_behind file.packaged) Done)

-- ---- imports

-- the path that literals spell, joined
abbrev pub path : tree.Text.Text → Text
path text = joined (spell (view.text text))

abbrev pub imports_in : tree.Statement.Statement → List Import
imports_in (statements.Empty span) = []
imports_in (statements.Import i) = record { path = path i.path; is_public = i.is_public; at = i.path.span.from } ∷ []
imports_in (statements.Option o) = []
imports_in (statements.Message m) = []
imports_in (statements.Enum e) = []
imports_in (statements.Service s) = []

-- the imports of a file, in its order
abbrev pub file_imports : tree.FileTree.FileTree → List Import
file_imports file = flat_map imports_in file.statements.items ++ flat_map imports_in (statements_behind file.packaged)
