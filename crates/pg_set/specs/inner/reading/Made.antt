-- How many fields of a message type name each of its oneofs.
use Rattle.std.specs.Prelude.{◌≡◌, ℕ, ◌<◌, Bool, List, length, slice_index, ℤ, false, slice_index_or, true, Option, None, Some}
use Rattle.pg_set.specs.stated.StatedOneofs.{unmarked}
use Rattle.pg_set.specs.stated.TypeMessages.{is_marked, members_at}
use Rattle.pg_dyn.specs.message.Message.{Message}
use Rattle.pg_set.specs.stated.FileMessages.{is_place}
use Rattle.pg_set.specs.stated.SetMessages.{maybe_number_at}
use Rattle.pg_set.specs.declared.descriptor.proto.TheConstants as proto

-- the rank of each of so many indices is how many marks before it are false
pub record AreRanks (marks : List Bool) (count : ℕ) (ranks : List ℕ) : Type 0 where
  pub all : length ranks ≡ count
  pub each : (place : ℕ) → place < count → slice_index ranks place ≡ unmarked marks place

-- the flag at each of so many indices says whether the index is among these numbers
pub record AreMarked (numbers : List ℤ) (count : ℕ) (marks : List Bool) : Type 0 where
  pub all : length marks ≡ count
  pub each : (place : ℕ) → place < count → slice_index_or marks place false ≡ is_marked numbers place

-- the number at each of so many indices says how many of the fields name the oneof there
pub record AreCounted (fields : List Message) (count : ℕ) (members : List ℕ) : Type 0 where
  pub all : length members ≡ count
  pub each : (place : ℕ) → place < count → slice_index members place ≡ members_at place fields

abbrev pub is_placed : ℕ → Option ℤ → Bool
is_placed count None = true
is_placed count (Some number) = is_place count number

-- the field names the oneof at one of so many indices, or none
abbrev pub has_place : ℕ → Message → Bool
has_place count m = is_placed count (maybe_number_at proto.FIELD_ONEOF_INDEX m)
