-- What functions inside the crate ask of a cause.
use Rattle.std.specs.Prelude.{◌≤◌, length}
use Rattle.pg_causes.specs.declared.overview.Cause.{Cause}
use Rattle.pg_cert.specs.Text.{IsPairOf}
use Rattle.pg_schema.specs.declared.parts.Parts.{Parts}

-- its pair is of the schemas' types, and it has a field
pub record HasFields (old new : Parts) (cause : Cause) : Type 0 where
  pub pair : IsPairOf old new cause.at.pair
  pub fields : 1 ≤ length cause.numbers.items
