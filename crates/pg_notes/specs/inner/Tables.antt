-- Tables of indices, by names and by numbers.
use Rattle.std.specs.Prelude.{◌≡◌, ℕ, ℤ, Bool, List, Option, Some, None, if◌then◌else◌}
use Rattle.std.specs.Borrow.{Bor}
use Rattle.std.specs.BTreeMap.{BTreeMap, get, get_by}
use Rattle.std.specs.Cmp.Lexicographic.{slice_cmp}
use Rattle.std.specs.Ordering.{int_cmp, nat_cmp}
use Rattle.pg_schema.specs.declared.parts.enum_type.EnumValue.{EnumValue}
use Rattle.pg_notes.specs.Named.{place_of, place_of_number}

-- what was found, else the index where the test holds
abbrev pub found_or : Option ℕ → Bool → ℕ → Option ℕ
found_or (Some i) test index = Some i
found_or None test index = if test then Some index else None

-- what the table has at the name
abbrev pub at_name : BTreeMap (Bor (List ℕ)) ℕ → List ℕ → Option ℕ
at_name table name = get_by (λ (key : Bor (List ℕ)). slice_cmp nat_cmp name key.now) table

-- the table has the index of the first item of each name, and no other
abbrev pub IsNameTable : {A : Type 0} → (A → List ℕ) → List A → BTreeMap (Bor (List ℕ)) ℕ → Type 0
IsNameTable name_of items table = (name : List ℕ) → at_name table name ≡ place_of name_of items name

-- the table has the index of the first value of each number, and no other
abbrev pub IsNumberTable : List EnumValue → BTreeMap ℤ ℕ → Type 0
IsNumberTable values table = (number : ℤ) → get int_cmp table number ≡ place_of_number values number
