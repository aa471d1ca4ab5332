-- Sets that are read: what schema the bytes of a set state, and how deep its messages may be (that they are read 100 deep
-- is this profile's choice).
use Rattle.std.specs.Prelude.{◌≡◌, ℕ, List, Some, IsSomeAnd}
use Rattle.pg_schema.specs.declared.parts.Parts.{Parts}
use Rattle.pg_schema.specs.Shape.{fields}
use Rattle.pg_dyn.specs.reading.Decoding.{dec}
use Rattle.pg_dyn.specs.reading.Faults.{TooDeepIn}
use Rattle.pg_schema.specs.standing.Places.{most_deep}
use Rattle.pg_set.specs.descriptor.Descriptor.{file_set, written_shape}
use Rattle.pg_set.specs.stated.Stated.{stated}
use Rattle.pg_set.specs.stated.Views.{parts_view}

-- the bytes are a set that states the schema
abbrev pub fds_reads : List ℕ → Parts → Type 0
fds_reads bytes parts = IsSomeAnd (dec written_shape file_set bytes) (λ set. stated set ≡ Some (parts_view parts))

-- no message of the set is deeper than is read
abbrev pub IsNotTooDeep : List ℕ → Type 0
IsNotTooDeep bytes = (place : ℕ) → TooDeepIn written_shape most_deep (fields written_shape file_set) bytes place → ⊥
