-- Which fields of linked files may be packed, by what their type names mean: repeated ones of numbers, bool or an enum
-- (Encoding guide, "Packed Repeated Fields"). The rules say it by the byte at which a type name begins.
use Rattle.std.specs.Prelude.{◌≡◌, ◌↔◌, ℕ, true, List, Option, Some, None}
use Rattle.std.specs.List.{AllByRecursion}
use Rattle.pg_schema.specs.declared.parts.field.Element.TheVariants as elements
use Rattle.pg_schema.specs.declared.parts.field.Scalar.{Scalar}
use Rattle.pg_schema.specs.Shape.{is_packable}
use Rattle.pg_link.specs.declared.names.Kind.TheVariants as kinds
use Rattle.pg_link.specs.names.Files.{visible_names}
use Rattle.pg_link.specs.names.Names.{Text}
use Rattle.pg_link.specs.names.Resolves.{found, reference}
use Rattle.pg_link.specs.walk.Walk.{Entry, outlines, path_of}
use Rattle.pg_check.specs.parts.ResolvedTypes.{messages_of, words_of}
use Rattle.pg_check.specs.parts.Sources.{linked_source}
use Rattle.pg_check.specs.rules.Members.{DeclaredField, Plain, Mapped, members}
use Rattle.pg_check.specs.rules.Messages.{is_repeated, may_be_packed}
use Rattle.pg_check.specs.rules.Outline.{Message}
use Rattle.pg_check.specs.rules.Types.{scalar_named}
use Rattle.pg_syntax.specs.declared.tree.TypeName.{TypeName}

-- in this scope of the file the type name resolves to an enum
pub record ResolvesToEnum (files : List Entry) (file : Entry) (scope : List ℕ) (name : TypeName) : Type 0 where
  pub full : Text
  pub is_enum : found (visible_names (outlines files) (path_of file)) (words_of scope) (reference name)
      ≡ Some (full, kinds.Enum)

-- a word for numbers or bool, or else the name of an enum
abbrev pub IsPackable : Option Scalar → Type 0 → Type 0
IsPackable (Some s) names_enum = is_packable (elements.Scalar s) ≡ true
IsPackable None names_enum = names_enum

abbrev pub MayBePacked : List Entry → Entry → (scope : List ℕ) → DeclaredField → Type 0
MayBePacked files file scope (Plain f oneof) =
    (is_repeated f.label ≡ true) × IsPackable (scalar_named f.type_name) (ResolvesToEnum files file scope f.type_name)
MayBePacked files file scope (Mapped m oneof) = ⊥

-- the rules let a field be packed where it may be
abbrev pub IsPackedByMeaning : List Entry → Entry → (scope : List ℕ) → DeclaredField → Type 0
IsPackedByMeaning files file scope m =
    (may_be_packed (linked_source files file).targets m ≡ true) ↔ MayBePacked files file scope m

abbrev pub ArePackedByMeaning : List Entry → Type 0
ArePackedByMeaning files =
    AllByRecursion (λ (x : Entry × Message). AllByRecursion (IsPackedByMeaning files x.0 x.1.full) (members x.1.body))
    (messages_of files)
