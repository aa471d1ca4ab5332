-- The parts of a message as the program keeps them, field by field.
use Rattle.std.specs.Prelude.{◌≡◌, ℕ, ⊤, List, [], ◌∷◌, filter, Bool}
use Rattle.std.specs.List.{AllByRecursion}
use Rattle.pg_wire.specs.Records.{WireRecord}
use Rattle.pg_dyn.specs.message.Message.{Leaf, Part, is_of}
use Rattle.pg_dyn.specs.message.Kept.{Manner, Kept, ends, holds, nests}

-- An item, and how it is kept; of a message whether it is in a list.
pub data KeptItem : Type 0 where
  Plain : Manner → Leaf → KeptItem
  Msg : Bool → Kept → KeptItem

abbrev pub parts_of : Kept → List (Part KeptItem)
parts_of (ends type unknown) = []
parts_of (holds number key manner leaf later) = record { number = number; key = key; item = Plain manner leaf } ∷ parts_of later
parts_of (nests number key listed child later) = record { number = number; key = key; item = Msg listed child } ∷ parts_of later

abbrev pub unknown_of : Kept → List WireRecord
unknown_of (ends type unknown) = unknown
unknown_of (holds number key manner leaf later) = unknown_of later
unknown_of (nests number key listed child later) = unknown_of later

-- the parts are all of the number
abbrev pub AreOf : ℕ → List (Part KeptItem) → Type 0
AreOf number ps = AllByRecursion (λ (p : Part KeptItem). p.number ≡ number) ps

-- the parts of a field
abbrev pub of_number : ℕ → Kept → List (Part KeptItem)
of_number number m = filter (is_of number) (parts_of m)

-- no unknown records, in it or in a message inside it
abbrev pub IsPlain : Kept → Type 0
IsPlain (ends type []) = ⊤
IsPlain (ends type (r ∷ rs)) = ⊥
IsPlain (holds number key manner leaf later) = IsPlain later
IsPlain (nests number key listed child later) = IsPlain child × IsPlain later

abbrev pub IsPlainItem : KeptItem → Type 0
IsPlainItem (Plain manner leaf) = ⊤
IsPlainItem (Msg listed m) = IsPlain m
