-- Names in full, and what bears them (proto3 language guide, "Packages and Name Resolution").
use Rattle.std.specs.Borrow.{Bor}
use Rattle.std.specs.Option.{option_map_or}
use Rattle.std.specs.Prelude.{◌==◌, ℕ, Bool, true, false, List, [], ◌∷◌, ◌++◌, if◌then◌else◌, Option, map}
use Rattle.pg_link.specs.declared.names.Kind.{Kind}
use Rattle.pg_link.specs.declared.names.Kind.TheVariants.{Package, Message, Enum, Entry}

abbrev pub Text : Type 0
Text = List ℕ

-- the full name of these words, as a leading dot writes it: of `p`, `A` and `B` it is `.p.A.B`
abbrev pub called : List Text → Text
called [] = []
called (word ∷ words) = 46 ∷ (word ++ called words)

-- a full name without the dot in front
abbrev pub without_dot : Text → Text
without_dot [] = []
without_dot (byte ∷ rest) = if byte == 46 then rest else byte ∷ rest

-- what bears a full name, of the names that are sought
abbrev pub Names : Type 0
Names = Text → Option Kind

-- what a type name may name
abbrev pub is_type : Kind → Bool
is_type Message = true
is_type Enum = true
is_type _ = false

abbrev pub is_package : Kind → Bool
is_package Package = true
is_package _ = false

-- what a name without a dot is sought among: types and map entries
abbrev pub ends_word : Kind → Bool
ends_word Message = true
ends_word Enum = true
ends_word Entry = true
ends_word _ = false

-- what the first part of a dotted name is sought among: package parts, types and map entries
abbrev pub ends_part : Kind → Bool
ends_part Message = true
ends_part Enum = true
ends_part Entry = true
ends_part Package = true
ends_part _ = false

-- the name is borne by what passes the test
abbrev pub bears : Names → (Kind → Bool) → Text → Bool
bears names test full = option_map_or test (names full) false

abbrev pub texts : List (Bor Text) → List Text
texts = map (λ text. text.now)
