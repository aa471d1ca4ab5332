-- What a type name names (proto3 language guide, "Packages and Name Resolution"). Where the guide is silent it is as
-- protoc has it, but that a name without a dot passes over all but types and map entries: this profile's choice.
use Rattle.std.specs.List.{find}
use Rattle.std.specs.Option.{option_map, option_and_then}
use Rattle.std.specs.Prelude.{◌≡◌, Bool, true, false, List, [], ◌∷◌, ◌++◌, map, Option, Some, if◌then◌else◌, string_bytes}
use Rattle.pg_syntax.specs.declared.tree as tree
use Rattle.pg_link.specs.declared.names.Kind.{Kind}
use Rattle.pg_link.specs.names.Names.{Text, Names, called, bears, is_type, ends_word, ends_part}

-- a type name as it is written: whether it has a dot in front, its first part, and those after it
pub record Reference : Type 0 where
  pub is_full : Bool
  pub first : Text
  pub more : List Text

abbrev pub part_words : List tree.Name.Name → List Text
part_words = map (λ part. string_bytes part.text)

abbrev pub reference : tree.TypeName.TypeName → Reference
reference name =
    record { is_full = name.is_full; first = string_bytes name.path.first.text; more = part_words name.path.more.items }

-- the scope of these words and those around it, innermost first
abbrev pub scopes : List Text → List (List Text)
scopes [] = [] ∷ []
scopes (word ∷ words) = map (λ inner. word ∷ inner) (scopes words) ++ [] ∷ []

-- the innermost scope in which the word is borne by what passes the test
abbrev pub innermost : Names → (Kind → Bool) → Text → List Text → Option (List Text)
innermost names test word scope = find (λ outer. bears names test (called outer ++ word)) (scopes scope)

-- what the first part of a name is sought among, by the parts after it
abbrev pub sought_among : List Text → Kind → Bool
sought_among [] = ends_word
sought_among (part ∷ parts) = ends_part

-- the parts of a name, each after a dot
abbrev pub written : Reference → Text
written name = called (name.first ∷ name.more)

-- The full name that a name means in a scope. With a leading dot it is the name itself. Without one the
-- innermost scope that has its first part is taken, and no other.
abbrev pub meant : Names → List Text → Reference → Option Text
meant names scope name = if name.is_full then Some (written name) else
    option_map (λ outer. called outer ++ written name)
    (innermost names (sought_among name.more) (called (name.first ∷ [])) scope)

-- a full name, with what bears it
abbrev pub borne : Names → Text → Option (Text × Kind)
borne names full = option_map (λ kind. (full, kind)) (names full)

-- what a name names in a scope, with its full name
abbrev pub found : Names → List Text → Reference → Option (Text × Kind)
found names scope name = option_and_then (borne names) (meant names scope name)

-- the name resolves to this full name: that of a message type or enum
pub record Resolves (names : Names) (scope : List Text) (name : Reference) (full : Text) : Type 0 where
  pub kind : Kind
  pub is_found : found names scope name ≡ Some (full, kind)
  pub is_type_name : is_type kind ≡ true

-- it names what is neither
pub record NamesNoType (names : Names) (scope : List Text) (name : Reference) : Type 0 where
  pub full : Text
  pub kind : Kind
  pub is_found : found names scope name ≡ Some (full, kind)
  pub is_no_type_name : is_type kind ≡ false

abbrev pub ResolvesToNone : Names → List Text → Reference → Type 0
ResolvesToNone names scope name = (full : Text) → Resolves names scope name full → ⊥
