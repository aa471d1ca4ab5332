-- Sets and marks that the code keeps.
use Rattle.std.specs.Prelude.{◌≡◌, ℕ, Bool, false, nat_eq, List, length, ◌<◌, slice_index_or}
use Rattle.std.specs.List.{list_any}
use Rattle.std.specs.BTreeSet.{BTreeSet, contains}
use Rattle.std.specs.Ordering.{nat_cmp}
use Rattle.pg_schema.specs.declared.parts.field.Field.{Field}
use Rattle.pg_schema.specs.rules.Messages.{is_member}

-- the flag at each of so many indices says whether the oneof there has a member
pub record AreMarks (fields : List Field) (oneofs : ℕ) (marks : List Bool) : Type 0 where
  pub all : length marks ≡ oneofs
  pub each : (place : ℕ) → place < oneofs → slice_index_or marks place false ≡ list_any (is_member place) fields

-- the set has these numbers and no other
abbrev pub IsNumberSet : List ℕ → BTreeSet ℕ → Type 0
IsNumberSet numbers set = (n : ℕ) → contains nat_cmp set n ≡ list_any (nat_eq n) numbers
