-- Schemas that are written and read again (this profile's choice).
use Rattle.std.specs.Prelude.{◌≡◌, ℕ, ◌⊎◌, List}
use Rattle.pg_schema.specs.declared.parts.Parts.{Parts}
use Rattle.pg_dyn.specs.declared.error.DynError.TheVariants as faults
use Rattle.pg_fds.specs.declared.error.FdsError.{FdsError}
use Rattle.pg_fds.specs.declared.error.FdsError.TheVariants as errors
use Rattle.pg_fds.specs.refusals.Refused.{MayRefuseSet, NoneIsStated}
use Rattle.pg_set.specs.stated.Reads.{fds_reads}
use Rattle.pg_set.specs.writing.Set.{fds}
use Rattle.pg_set.specs.writing.Written.{HasNoSet}

-- the schema has no set
abbrev pub IsTooLong : Parts → FdsError → Type 0
IsTooLong parts e = (e ≡ errors.Bytes faults.TooLong) × HasNoSet parts

-- the schema has a set, which states these parts
abbrev pub SetStates : (parts made : Parts) → Type 0
SetStates parts made = (bytes : List ℕ) × (fds parts bytes × fds_reads bytes made)

-- the schema has a set, which is refused so
abbrev pub SetIsRefused : Parts → FdsError → Type 0
SetIsRefused parts e = (bytes : List ℕ) × (fds parts bytes × (MayRefuseSet bytes e × NoneIsStated bytes e))

abbrev pub MayRefuseAgain : Parts → FdsError → Type 0
MayRefuseAgain parts e = (e ≡ errors.Memory) ⊎ (IsTooLong parts e ⊎ SetIsRefused parts e)
