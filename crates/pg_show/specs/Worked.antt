-- Worked examples: small types, bytes, and the lines by which they are shown; and hexadecimal arguments.
use Rattle.std.specs.Prelude.{◌≡◌, ℕ, ◌-◌, List, [], ◌∷◌, ◌++◌, flat_map, get_or, codes, true, Some, None}
use Rattle.pg_schema.specs.declared.parts.field.Element.TheVariants as elements
use Rattle.pg_schema.specs.declared.parts.field.Presence.TheVariants.{Implicit, Explicit, Repeated, Map}
use Rattle.pg_schema.specs.declared.parts.field.Scalar.TheVariants.{Int32}
use Rattle.pg_schema.specs.declared.parts.field.Scalar.TheVariants as scalars
use Rattle.pg_schema.specs.Shape.{Shape}
use Rattle.pg_wire.specs.declared.error.WireError.TheVariants.{VarintTooLong, Truncated, Group}
use Rattle.pg_dyn.specs.declared.error.DynError.TheVariants.{Wire}
use Rattle.pg_dyn.specs.laws.Examples.{first, field, scalar, member, of_fields, int32}
use Rattle.pg_dyn.specs.laws.FaultExamples.{text, too_long}
use Rattle.pg_show.specs.Hex.{bytes_in, hex_of}
use Rattle.pg_show.specs.Lines.{Names, Text, line_end}
use Rattle.pg_show.specs.Shown.{Refuses, Shows}

-- fields numbered from 1 have these names
abbrev pub named : List Text → Names
named names type number = get_or names (number - 1) []

-- lines, each with its end
abbrev pub joined : List Text → Text
joined texts = flat_map (λ text. text ++ line_end) texts

-- the bytes of the first type are shown as these lines
abbrev pub ShowsLines : List Text → Shape → List ℕ → List Text → Type 0
ShowsLines names shape bytes texts = Shows (named names) shape first bytes (joined texts)

abbrev pub only_a : List Text
only_a = codes "a" ∷ []

-- a type that nests itself, with a number
abbrev pub child_and_number : Shape
child_and_number = of_fields (field 1 Explicit (elements.Message first) ∷ scalar 2 Implicit Int32 ∷ [])

abbrev pub child_names : List Text
child_names = codes "m" ∷ codes "a" ∷ []

abbrev pub numbers_by_number : Shape
numbers_by_number = of_fields (scalar 1 (Map Int32) Int32 ∷ [])

abbrev pub children_by_number : Shape
children_by_number = of_fields (field 1 (Map Int32) (elements.Message first) ∷ [])

abbrev pub UnknownRecord : Type 0
UnknownRecord =
    ShowsLines only_a int32 (8 ∷ 5 ∷ 18 ∷ 1 ∷ 120 ∷ [])
    (codes "1 a int 5" ∷ codes "unknown 120178" ∷ codes "again 0805120178" ∷ [])

abbrev pub Zero : Type 0
Zero = ShowsLines only_a int32 (8 ∷ 0 ∷ []) (codes "again -" ∷ [])

abbrev pub PackedList : Type 0
PackedList =
    ShowsLines only_a (of_fields (scalar 1 (Repeated true) Int32 ∷ [])) (8 ∷ 1 ∷ 10 ∷ 2 ∷ 2 ∷ 3 ∷ 8 ∷ 4 ∷ [])
    (codes "1 a int 1" ∷ codes "1 a int 2" ∷ codes "1 a int 3" ∷ codes "1 a int 4" ∷ codes "again 0a0401020304" ∷ [])

abbrev pub Child : Type 0
Child =
    ShowsLines child_names child_and_number (10 ∷ 2 ∷ 16 ∷ 5 ∷ 10 ∷ 0 ∷ [])
    (codes "1 m msg" ∷ codes "  2 a int 5" ∷ codes "again 0a021005" ∷ [])

-- the child's unknown record is among its own lines
abbrev pub ChildWithUnknown : Type 0
ChildWithUnknown =
    ShowsLines child_names child_and_number (10 ∷ 4 ∷ 10 ∷ 2 ∷ 24 ∷ 1 ∷ 16 ∷ 3 ∷ [])
    (codes "1 m msg" ∷ codes "  1 m msg" ∷ codes "    unknown 1801" ∷ codes "2 a int 3"
    ∷ codes "again 0a040a0218011003" ∷ [])

abbrev pub EntryTwice : Type 0
EntryTwice =
    ShowsLines only_a numbers_by_number (10 ∷ 4 ∷ 8 ∷ 1 ∷ 16 ∷ 2 ∷ 10 ∷ 4 ∷ 8 ∷ 1 ∷ 16 ∷ 3 ∷ [])
    (codes "1 a key int 1 value int 3" ∷ codes "again 0a0408011003" ∷ [])

abbrev pub EmptyEntry : Type 0
EmptyEntry =
    ShowsLines only_a numbers_by_number (10 ∷ 0 ∷ [])
    (codes "1 a key int 0 value int 0" ∷ codes "again 0a0408001000" ∷ [])

abbrev pub EntryOfAMessage : Type 0
EntryOfAMessage =
    ShowsLines only_a children_by_number (10 ∷ 4 ∷ 8 ∷ 1 ∷ 18 ∷ 0 ∷ [])
    (codes "1 a key int 1 value msg" ∷ codes "again 0a0408011200" ∷ [])

abbrev pub LastOfAOneof : Type 0
LastOfAOneof =
    ShowsLines (codes "a" ∷ codes "b" ∷ []) (of_fields (member 1 Int32 ∷ member 2 Int32 ∷ [])) (8 ∷ 1 ∷ 16 ∷ 2 ∷ [])
    (codes "2 b int 2" ∷ codes "again 1002" ∷ [])

abbrev pub BelowZero : Type 0
BelowZero =
    ShowsLines only_a (of_fields (scalar 1 Implicit scalars.Sint32 ∷ [])) (8 ∷ 3 ∷ [])
    (codes "1 a int -2" ∷ codes "again 0803" ∷ [])

abbrev pub OneAsAFloat : Type 0
OneAsAFloat =
    ShowsLines only_a (of_fields (scalar 1 Implicit scalars.Float ∷ [])) (13 ∷ 0 ∷ 0 ∷ 128 ∷ 63 ∷ [])
    (codes "1 a f32 3f800000" ∷ codes "again 0d0000803f" ∷ [])

abbrev pub OneAsADouble : Type 0
OneAsADouble =
    ShowsLines only_a (of_fields (scalar 1 Implicit scalars.Double ∷ [])) (9 ∷ 0 ∷ 0 ∷ 0 ∷ 0 ∷ 0 ∷ 0 ∷ 240 ∷ 63 ∷ [])
    (codes "1 a f64 3ff0000000000000" ∷ codes "again 09000000000000f03f" ∷ [])

abbrev pub EmptyText : Type 0
EmptyText =
    ShowsLines only_a (of_fields (scalar 1 Explicit scalars.String ∷ [])) (10 ∷ 0 ∷ [])
    (codes "1 a text -" ∷ codes "again 0a00" ∷ [])

abbrev pub SomeBytes : Type 0
SomeBytes =
    ShowsLines only_a (of_fields (scalar 1 Implicit scalars.Bytes ∷ [])) (10 ∷ 1 ∷ 255 ∷ [])
    (codes "1 a bytes ff" ∷ codes "again 0a01ff" ∷ [])

pub record WorkedRows : Type 0 where
  pub unknown_record : UnknownRecord
  pub zero : Zero
  pub packed_list : PackedList
  pub child : Child
  pub child_with_unknown : ChildWithUnknown
  pub entry_twice : EntryTwice
  pub empty_entry : EmptyEntry
  pub entry_of_a_message : EntryOfAMessage
  pub last_of_a_oneof : LastOfAOneof
  pub below_zero : BelowZero
  pub one_as_a_float : OneAsAFloat
  pub one_as_a_double : OneAsADouble
  pub empty_text : EmptyText
  pub some_bytes : SomeBytes
  -- what is refused
  pub cut_off : Refuses text first (10 ∷ 5 ∷ 97 ∷ []) (Wire (Truncated 0))
  pub varint_too_long : Refuses int32 first (8 ∷ too_long (1 ∷ [])) (Wire (VarintTooLong 0))
  pub group : Refuses int32 first (11 ∷ []) (Wire (Group 0))
  -- hexadecimal arguments
  pub both_cases : bytes_in (codes "0aBf") ≡ Some (10 ∷ 191 ∷ [])
  pub no_bytes : bytes_in (codes "-") ≡ Some []
  pub empty_word : bytes_in [] ≡ Some []
  pub odd_word : bytes_in (codes "0a0") ≡ None
  pub another_character : bytes_in (codes "0g") ≡ None
  pub two_hyphens : bytes_in (codes "--") ≡ None
  pub lower_case : hex_of (10 ∷ 191 ∷ []) ≡ codes "0abf"
