-- How the numbers of two enums are compared, by number alone or by their names too (this profile's choice).
use Rattle.std.specs.Prelude.{◌≡◌, ℕ, ℤ, pos, negsuc, List, [], ◌∷◌, map, Bool, true, false, not, ◌&&◌, ◌||◌, Option, Some, None}
use Rattle.std.specs.List.{list_all, list_any}
use Rattle.std.specs.Ordering.{int_eq}
use Rattle.std.specs.Str.{bytes_eq}
use Rattle.std.specs.String.{string_bytes}
use Rattle.pg_schema.specs.declared.parts.enum_type.EnumType.{EnumType}
use Rattle.pg_schema.specs.declared.parts.enum_type.EnumValue.{EnumValue}
use Rattle.pg_schema.specs.declared.parts.field.TypeId.{TypeId}
use Rattle.pg_schema.specs.declared.parts.Parts.{Parts}
use Rattle.pg_schema.specs.Parts.{enum_at, shape_of}
use Rattle.pg_schema.specs.Shape.{Shape}
use Rattle.pg_dyn.specs.declared.view_name.ViewName.{ViewName}
use Rattle.pg_dyn.specs.declared.view_name.ViewName.TheVariants as names
use Rattle.pg_dyn.specs.message.Message.{Message}
use Rattle.pg_dyn.specs.views.Comparison.{View, numbers}
use Rattle.pg_dyn.specs.views.Breaking.{is_kept, Compatible}

-- a value of an enum: its number, and its name without a scope
pub record NamedNumber : Type 0 where
  pub number : ℤ
  pub name : List ℕ

abbrev pub named : EnumValue → NamedNumber
named value = record { number = value.number; name = string_bytes value.name }

abbrev pub named_numbers : EnumType → List NamedNumber
named_numbers e = map named e.values.items

-- a value has the number
abbrev pub declares : List NamedNumber → ℤ → Bool
declares values n = list_any (λ v. int_eq v.number n) values

-- a value has the number and the name
abbrev pub has_name : List NamedNumber → ℤ → List ℕ → Bool
has_name values n name = list_any (λ v. int_eq v.number n && bytes_eq v.name name) values

-- each name that the former values give the number the latter give it too
abbrev pub names_within : List NamedNumber → List NamedNumber → ℤ → Bool
names_within from to n = list_all (λ v. not (int_eq v.number n) || has_name to n v.name) from

-- The number isn't declared on both sides, or has the same set of names on both.
abbrev pub same_names : List NamedNumber → List NamedNumber → ℤ → Bool
same_names old new n = not (declares old n && declares new n) || (names_within old new n && names_within new old n)

-- what a view finds alike in two enums
abbrev pub alike_under : ViewName → EnumType → EnumType → ℤ → Bool
alike_under names.Numbers old new n = true
alike_under names.Names old new n = same_names (named_numbers old) (named_numbers new) n

-- enums that aren't there have no numbers
abbrev pub alike_there : ViewName → Option EnumType → Option EnumType → ℤ → Bool
alike_there view (Some old) (Some new) n = alike_under view old new n
alike_there view (Some old) None n = true
alike_there view None new n = true

-- the view of that name between two schemas
abbrev pub view_named : ViewName → Parts → Parts → View
view_named view old new = λ a b n. alike_there view (enum_at old a) (enum_at new b) n

-- What any view keeps is kept by number.
abbrev pub KeptByNumber : Type 0
KeptByNumber =
    (view : View) (old new : Shape) (a b : TypeId) (v : Message) → is_kept view old new a b v ≡ true → is_kept numbers old new a b v ≡ true

-- Types that are compatible by name are so by number.
abbrev pub NamesAreStricter : Type 0
NamesAreStricter =
    (old new : Parts) (a b : TypeId) → Compatible (view_named names.Names old new) (shape_of old) (shape_of new) a b →
    Compatible (view_named names.Numbers old new) (shape_of old) (shape_of new) a b

-- Worked rows: a value of the name that is this one letter, and what two enums find alike.

abbrev pub value : ℕ → ℤ → NamedNumber
value letter n = record { number = n; name = letter ∷ [] }

-- A = 0, B = 1 beside A = 0, C = 1: 0 is alike, 1 isn't, and neither declares 2
abbrev pub RenamedNumber : Type 0
RenamedNumber =
    let old = value 65 (pos 0) ∷ value 66 (pos 1) ∷ [] in
    let new = value 65 (pos 0) ∷ value 67 (pos 1) ∷ [] in
    (same_names old new (pos 0) ≡ true) × (same_names old new (pos 1) ≡ false) × (same_names old new (pos 2) ≡ true)

-- A = 0 beside A = 0, B = 1: only one of them declares 1
abbrev pub AddedNumber : Type 0
AddedNumber =
    let old = value 65 (pos 0) ∷ [] in
    let new = value 65 (pos 0) ∷ value 66 (pos 1) ∷ [] in
    (same_names old new (pos 1) ≡ true) × (same_names new old (pos 1) ≡ true)

-- A = 0, B = -1, C = -1 beside A = 0, C = -1, B = -1: names in another order are the same set
abbrev pub AliasesInAnyOrder : Type 0
AliasesInAnyOrder =
    same_names (value 65 (pos 0) ∷ value 66 (negsuc 0) ∷ value 67 (negsuc 0) ∷ []) (value 65 (pos 0) ∷ value 67 (negsuc 0) ∷ value 66 (negsuc 0) ∷ []) (negsuc 0)
    ≡ true

-- A = 0, B = 0 beside A = 0: one name more isn't, on either side
abbrev pub OneNameMore : Type 0
OneNameMore =
    let one = value 65 (pos 0) ∷ [] in
    let two = value 65 (pos 0) ∷ value 66 (pos 0) ∷ [] in
    (same_names two one (pos 0) ≡ false) × (same_names one two (pos 0) ≡ false)

-- A = 0, B = 1 beside B = 0, A = 1: both names are there, for the other numbers
abbrev pub SwappedNumbers : Type 0
SwappedNumbers =
    let old = value 65 (pos 0) ∷ value 66 (pos 1) ∷ [] in
    let new = value 66 (pos 0) ∷ value 65 (pos 1) ∷ [] in
    (same_names old new (pos 0) ≡ false) × (same_names old new (pos 1) ≡ false)

abbrev pub NamedRows : Type 0
NamedRows = RenamedNumber × AddedNumber × AliasesInAnyOrder × OneNameMore × SwappedNumbers
