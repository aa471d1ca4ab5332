-- The type names that a file uses, in the order of its bytes (proto3 language specification, "Normal field", "Oneof and
-- oneof field", "Map field", "Service definition").
use Rattle.std.specs.Prelude.{ℕ, Bool, true, false, List, [], ◌∷◌, ◌++◌, map, flat_map, is_some, string_bytes, if◌then◌else◌}
use Rattle.pg_schema.specs.ScalarWords.{scalar_of}
use Rattle.pg_syntax.specs.declared.tree as tree
use Rattle.pg_syntax.specs.declared.tree.OneofPart.TheVariants as oneof_parts
use Rattle.pg_syntax.specs.declared.tree.Part.{Part, Row_of-Part, end_of-Part, more_of-Part}
use Rattle.pg_syntax.specs.declared.tree.Part.TheVariants as parts
use Rattle.pg_syntax.specs.declared.tree.ServicePart.TheVariants as service_parts
use Rattle.pg_syntax.specs.declared.tree.Statement.TheVariants as statements
use Rattle.pg_link.specs.names.Names.{Text}
use Rattle.pg_link.specs.names.Outline.{package_words, statements_behind}
use Rattle.pg_link.specs.names.Resolves.{Reference, reference}

-- A type name that is used: the words of its scope, its first byte, and whether it may name an enum.
pub record Use : Type 0 where
  pub scope : List Text
  pub name : Reference
  pub at : ℕ
  pub takes_enums : Bool

-- ---- scalars (proto3 language guide, "Scalar Value Types")

abbrev pub is_scalar_alone : Text → List Text → Bool
is_scalar_alone word [] = is_some (scalar_of word)
is_scalar_alone word (part ∷ parts) = false

-- in fields and maps such a word without a dot is no name
abbrev pub is_scalar : Reference → Bool
is_scalar name = if name.is_full then false else is_scalar_alone name.first name.more

-- ---- uses, in the scope of these words

abbrev pub use_in : List Text → Bool → tree.TypeName.TypeName → Use
use_in scope takes_enums name =
    record { scope = scope; name = reference name; at = name.span.from; takes_enums = takes_enums }

abbrev pub in_field : List Text → tree.TypeName.TypeName → Use
in_field scope = use_in scope true

-- an rpc takes and returns message types
abbrev pub in_rpc : List Text → tree.TypeName.TypeName → Use
in_rpc scope = use_in scope false

abbrev pub field_uses : List Text → tree.TypeName.TypeName → List Use
field_uses scope name = if is_scalar (reference name) then [] else in_field scope name ∷ []

-- the key of a map and its value
abbrev pub map_uses : List Text → tree.MapField.MapField → List Use
map_uses scope m = field_uses scope m.key.value ++ field_uses scope m.value

abbrev pub oneof_part_uses : List Text → tree.OneofPart.OneofPart → List Use
oneof_part_uses scope (oneof_parts.Empty span) = []
oneof_part_uses scope (oneof_parts.Option o) = []
oneof_part_uses scope (oneof_parts.Map m) = map_uses scope m
oneof_part_uses scope (oneof_parts.Field f) = field_uses scope f.type_name

-- members are used in the scope of the message
abbrev pub oneof_uses : List Text → tree.Oneof.Oneof → List Use
oneof_uses scope o = flat_map (oneof_part_uses scope) o.parts.items

abbrev pub rpc_uses : List Text → tree.Rpc.Rpc → List Use
rpc_uses scope r = in_rpc scope r.input.type_name ∷ in_rpc scope r.output.type_name ∷ []

abbrev pub service_part_uses : List Text → tree.ServicePart.ServicePart → List Use
service_part_uses scope (service_parts.Empty span) = []
service_part_uses scope (service_parts.Option o) = []
service_part_uses scope (service_parts.Rpc r) = rpc_uses scope r

abbrev pub service_uses : List Text → tree.Service.Service → List Use
service_uses scope s = flat_map (service_part_uses (scope ++ string_bytes s.name.text ∷ [])) s.parts.items

abbrev mutual
  pub part_uses : List Text → Part → List Use
  part_uses scope (parts.Empty span) = []
  part_uses scope (parts.Message' name shape row span) = row_uses (scope ++ string_bytes name.text ∷ []) row
  part_uses scope (parts.Enum e) = []
  part_uses scope (parts.Oneof o) = oneof_uses scope o
  part_uses scope (parts.Option o) = []
  part_uses scope (parts.Reserved r) = []
  part_uses scope (parts.Map m) = map_uses scope m
  part_uses scope (parts.Field f) = field_uses scope f.type_name

  pub row_uses : {m : _} → List Text → Row_of-Part m → List Use
  row_uses scope end_of-Part = []
  row_uses scope (more_of-Part p rest) = part_uses scope p ++ row_uses scope rest

abbrev pub message_uses : List Text → tree.Message.Message → List Use
message_uses scope m = flat_map (part_uses (scope ++ string_bytes m.name.text ∷ [])) m.parts.items

abbrev pub statement_uses : List Text → tree.Statement.Statement → List Use
statement_uses scope (statements.Empty span) = []
statement_uses scope (statements.Import i) = []
statement_uses scope (statements.Option o) = []
statement_uses scope (statements.Message m) = message_uses scope m
statement_uses scope (statements.Enum e) = []
statement_uses scope (statements.Service s) = service_uses scope s

-- the words of the scope of a file's statements
abbrev pub file_scope : tree.FileTree.FileTree → List Text
file_scope file = map (λ word. word.text) (package_words file.packaged)

-- the uses of a file, in its order
abbrev pub file_uses : tree.FileTree.FileTree → List Use
file_uses file = flat_map (statement_uses (file_scope file)) file.statements.items
    ++ flat_map (statement_uses (file_scope file)) (statements_behind file.packaged)
