-- Schemas of descriptor sets, whose own sets are read as the same schemas.
use Rattle.std.specs.Prelude.{◌≡◌, ℕ, true, List}
use Rattle.pg_schema.specs.declared.parts.Parts.{Parts}
use Rattle.pg_schema.specs.standing.Nesting.{are_shallow}
use Rattle.pg_set.specs.round_trip.Readable.{IsReadAgain, IsReadable}
use Rattle.pg_set.specs.stated.Reads.{fds_reads}

-- The set of each schema that a set states is read as that schema, where message types are nested at most 64 deep.
abbrev pub SetsAreReadAgain : Type 0
SetsAreReadAgain =
    (bytes : List ℕ) (parts : Parts) → fds_reads bytes parts → are_shallow parts ≡ true → IsReadAgain parts

-- a schema whose set is read as the same schema is one whose set states it
abbrev pub ReadAgainAreReadable : Type 0
ReadAgainAreReadable = (parts : Parts) → IsReadAgain parts → IsReadable parts
