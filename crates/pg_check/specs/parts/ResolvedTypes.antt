-- What the type names of linked files name in the schema that the files declare: each resolves to a full name
-- (proto3 language guide, "Packages and Name Resolution"), and what is named in the schema has that full name.
use Rattle.std.specs.Prelude.{◌≡◌, List, [], ◌∷◌, ◌++◌, ℕ, flat_map, map, Option, Some, None, option_map, slice_get}
use Rattle.std.specs.Prelude.{string_bytes}
use Rattle.std.specs.List.{AllByRecursion, IsAmong}
use Rattle.pg_schema.specs.declared.parts.enum_type.EnumType.{EnumType}
use Rattle.pg_schema.specs.declared.parts.field.Element.{Element}
use Rattle.pg_schema.specs.declared.parts.field.Element.TheVariants as elements
use Rattle.pg_schema.specs.declared.parts.field.Field.{Field}
use Rattle.pg_schema.specs.declared.parts.field.Scalar.{Scalar}
use Rattle.pg_schema.specs.declared.parts.message_type.MessageType.{MessageType}
use Rattle.pg_schema.specs.declared.parts.Parts.{Parts}
use Rattle.pg_schema.specs.declared.parts.service.Method.{Method}
use Rattle.pg_schema.specs.declared.parts.service.Service.{Service}
use Rattle.pg_schema.specs.rules.Words.{parts_at_dots}
use Rattle.pg_link.specs.names.Files.{visible_names}
use Rattle.pg_link.specs.names.Names.{Names, Text}
use Rattle.pg_link.specs.names.Resolves.{Resolves, reference}
use Rattle.pg_link.specs.walk.Walk.{Entry, outlines, path_of}
use Rattle.pg_check.specs.parts.MadeFields.{made_number}
use Rattle.pg_check.specs.parts.MadeParts.{EachIs}
use Rattle.pg_check.specs.parts.MadeServices.{rpc_in, stated_service}
use Rattle.pg_check.specs.rules.Members.{DeclaredField, Plain, Mapped, members}
use Rattle.pg_check.specs.rules.Outline.{Message, file_messages, full_name, package_of, statements_behind}
use Rattle.pg_check.specs.rules.Types.{scalar_named}
use Rattle.pg_syntax.specs.declared.tree as tree
use Rattle.pg_syntax.specs.declared.tree.TypeName.{TypeName}

-- ---- one type name

abbrev pub type_name : MessageType → List ℕ
type_name t = string_bytes t.name

abbrev pub enum_name : EnumType → List ℕ
enum_name e = string_bytes e.name

-- the full name of the message type or enum that an element is
abbrev pub full_name_of : Parts → Element → Option (List ℕ)
full_name_of parts (elements.Scalar s) = None
full_name_of parts (elements.Message id) = option_map type_name (slice_get parts.types.items id.index)
full_name_of parts (elements.Enum id) = option_map enum_name (slice_get parts.enums.items id.index)

-- the words of a scope, which is given by its full name
abbrev pub words_of : List ℕ → List Text
words_of [] = []
words_of (byte ∷ bytes) = parts_at_dots (byte ∷ bytes)

-- a scalar word is its scalar type
abbrev pub IsScalarOr : Type 0 → Option Scalar → Element → Type 0
IsScalarOr resolves None element = resolves
IsScalarOr resolves (Some s) element = element ≡ elements.Scalar s

-- the type name of a field; of a map, that of its values
abbrev pub type_name_of : DeclaredField → TypeName
type_name_of (Plain f oneof) = f.type_name
type_name_of (Mapped m oneof) = m.value

-- ---- in a schema of linked files

module _ (files : List Entry) (parts : Parts) where
  -- the names that are visible in a file
  abbrev pub visible : Entry → Names
  visible file = visible_names (outlines files) (path_of file)

  -- In this scope of the file the type name resolves to a full name, which what the element is has in the schema.
  pub record ResolvesTo (file : Entry) (scope : List ℕ) (name : TypeName) (element : Element) : Type 0 where
    pub full : List ℕ
    pub resolves : Resolves (visible file) (words_of scope) (reference name) (46 ∷ full)
    pub has_name : full_name_of parts element ≡ Some full

  -- what a type name of a field or a map is
  abbrev pub IsNamed : Entry → (scope : List ℕ) → TypeName → Element → Type 0
  IsNamed file scope name element = IsScalarOr (ResolvesTo file scope name element) (scalar_named name) element

  -- Among the fields of a message type of this full name is the one that the member declares: it has the member's
  -- number, and its element is what the member's type name names.
  pub record HasField (file : Entry) (full : List ℕ) (fields : List Field) (m : DeclaredField) : Type 0 where
    pub field : Field
    pub is_there : IsAmong fields field
    pub number : field.number ≡ made_number m
    pub element : IsNamed file full (type_name_of m) field.element

  -- a message that a file declares is this message type
  pub record IsResolvedType (declared : Entry × Message) (t : MessageType) : Type 0 where
    pub name : string_bytes t.name ≡ declared.1.full
    pub fields : AllByRecursion (HasField declared.0 declared.1.full t.fields.items) (members declared.1.body)

  -- an rpc of the service of this full name is this method
  pub record IsResolvedMethod (file : Entry) (service : List ℕ) (r : tree.Rpc.Rpc) (m : Method) : Type 0 where
    pub name : string_bytes m.name ≡ string_bytes r.name.text
    pub input : ResolvesTo file service r.input.type_name (elements.Message m.input)
    pub output : ResolvesTo file service r.output.type_name (elements.Message m.output)

  abbrev pub AreMethods : Entry → (service : List ℕ) → List tree.Rpc.Rpc → List Method → Type 0
  AreMethods file service = EachIs (IsResolvedMethod file service)

  -- a service that a file declares is this service
  pub record IsResolvedService (declared : Entry × tree.Service.Service) (s : Service) : Type 0 where
    pub name : string_bytes s.name ≡ full_name (package_of declared.0.1.tree) declared.1.name
    pub methods : AreMethods declared.0 (string_bytes s.name) (flat_map rpc_in declared.1.parts.items) s.methods.items

-- ---- what files declare

-- the messages that files declare, each with its file
abbrev pub messages_of : List Entry → List (Entry × Message)
messages_of files = flat_map (λ (e : Entry). map (λ (m : Message). (e, m)) (file_messages e.1.tree)) files

abbrev pub file_services : tree.FileTree.FileTree → List tree.Service.Service
file_services file = flat_map stated_service file.statements.items
    ++ flat_map stated_service (statements_behind file.packaged)

-- the services that files declare, each with its file
abbrev pub services_of : List Entry → List (Entry × tree.Service.Service)
services_of files = flat_map (λ (e : Entry). map (λ (s : tree.Service.Service). (e, s)) (file_services e.1.tree)) files

-- The message types and services are those that the files declare, in order of declaration, and each type name in
-- them names what it resolves to.
pub record AreResolved (files : List Entry) (parts : Parts) : Type 0 where
  pub types : EachIs (IsResolvedType files parts) (messages_of files) parts.types.items
  pub services : EachIs (IsResolvedService files parts) (services_of files) parts.services.items
