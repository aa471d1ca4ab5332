-- What names in a set's messages mean, and steps that may come to nothing.
use Rattle.std.specs.Prelude.{Bool, true, false, Option, None, if◌then◌else◌, Some, List, [], ◌∷◌, option_map, ℕ, nat_eq}
use Rattle.std.specs.Option.{option_and_then}
use Rattle.pg_schema.specs.declared.parts.field.TypeId.{TypeId}
use Rattle.pg_schema.specs.declared.parts.field.Element.{Element}
use Rattle.pg_schema.specs.declared.parts.field.Element.TheVariants as elements
use Rattle.pg_set.specs.declared.reading.outline.Named.{Named}
use Rattle.pg_set.specs.declared.reading.outline.Named.TheVariants as nameds

-- ---- steps that may come to nothing

-- where the test holds
abbrev pub only_if : {A : Type 0} → Bool → Option A → Option A
only_if true x = x
only_if false x = None

abbrev pub first_of : {A : Type 0} → Option A → Option A → Option A
first_of None other = other
first_of (Some x) other = Some x

-- each of a list, or nothing
abbrev pub each : {A B : Type 0} → (A → Option B) → List A → Option (List B)
each f [] = Some []
each f (x ∷ xs) = option_and_then (λ y. option_map (λ ys. y ∷ ys) (each f xs)) (f x)

-- both, or nothing
abbrev pub both : {A B C : Type 0} → (A → B → C) → Option A → Option B → Option C
both f a b = option_and_then (λ x. option_map (f x) b) a

-- ---- names

-- what qualified names are those of
abbrev pub NameLookup : Type 0
NameLookup = List ℕ → Option Named

-- without the dot in front, as a schema has its names
abbrev pub undotted : List ℕ → List ℕ
undotted [] = []
undotted (byte ∷ name) = if nat_eq byte 46 then name else byte ∷ name

abbrev pub type_of_named : Named → Option TypeId
type_of_named nameds.Package = None
type_of_named (nameds.Type id) = Some id
type_of_named (nameds.Enum id) = None
type_of_named nameds.Entry = None
type_of_named nameds.Other = None

-- What the name in a message means, where there is one. A qualified name begins with a dot, so one that doesn't means
-- nothing.
abbrev pub meant : NameLookup → Option (List ℕ) → Option Named
meant means name = option_and_then means name

-- the message type that it means
abbrev pub type_meant : NameLookup → Option (List ℕ) → Option TypeId
type_meant means name = option_and_then type_of_named (meant means name)

abbrev pub element_of_named : Named → Option Element
element_of_named nameds.Package = None
element_of_named (nameds.Type id) = Some (elements.Message id)
element_of_named (nameds.Enum id) = Some (elements.Enum id)
element_of_named nameds.Entry = None
element_of_named nameds.Other = None

-- whether it is that of an entry type
abbrev pub is_entry_type : Option Named → Bool
is_entry_type None = false
is_entry_type (Some nameds.Package) = false
is_entry_type (Some (nameds.Type id)) = false
is_entry_type (Some (nameds.Enum id)) = false
is_entry_type (Some nameds.Entry) = true
is_entry_type (Some nameds.Other) = false
