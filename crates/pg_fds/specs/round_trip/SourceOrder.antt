-- Schemas of source files, whose sets are read as the same schemas.
use Rattle.pg_schema.specs.declared.parts.Parts.{Parts}
use Rattle.pg_link.specs.Linked.{IsLinkedUp, LinkedFiles}
use Rattle.pg_check.specs.Declares.{Declares}
use Rattle.pg_check.specs.parts.Sources.{linked_sources}
use Rattle.pg_set.specs.round_trip.Readable.{IsReadAgain}

-- the set of each schema that linked files declare is read as that schema
abbrev pub TextsAreReadAgain : Type 0
TextsAreReadAgain =
    (linked : LinkedFiles) (parts : Parts) → IsLinkedUp linked → Declares (linked_sources linked.files) parts
    → IsReadAgain parts
