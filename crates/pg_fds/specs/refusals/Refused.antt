-- Why the bytes of a set may be refused.
use Rattle.std.specs.Prelude.{◌≢◌, ℕ, ⊤, List}
use Rattle.pg_schema.specs.declared.parts.Parts.{Parts}
use Rattle.pg_schema.specs.rules.Sound.{IsSound}
use Rattle.pg_check.specs.declared.error.CheckError.{CheckError}
use Rattle.pg_check.specs.declared.error.CheckError.TheVariants as rules
use Rattle.pg_check.specs.admitting.PartErrors.{IsRefusedOf}
use Rattle.pg_set.specs.declared.error.SetError.TheVariants as sets
use Rattle.pg_set.specs.refusals.Refused.{MayRefuseParts, NoPartsAreStated}
use Rattle.pg_set.specs.stated.Reads.{IsNotTooDeep, fds_reads}
use Rattle.pg_fds.specs.declared.error.FdsError.{FdsError}
use Rattle.pg_fds.specs.declared.error.FdsError.TheVariants as errors

-- the bytes state parts of a schema that are refused for the rule, and not for lack of memory; no message is too deep
abbrev pub BreaksRule : List ℕ → CheckError → Type 0
BreaksRule bytes e =
    IsNotTooDeep bytes × ((parts : Parts) × (fds_reads bytes parts × IsRefusedOf parts e)) × (e ≢ rules.Memory)

-- Those that come before a rule are reported only where the bytes state no parts, for the cause that they name. A rule
-- is reported only where they state parts that break it.
abbrev pub MayRefuseSet : List ℕ → FdsError → Type 0
MayRefuseSet bytes errors.Memory = ⊤
MayRefuseSet bytes (errors.Bytes e) = MayRefuseParts bytes (sets.Bytes e)
MayRefuseSet bytes errors.NotProto3 = MayRefuseParts bytes sets.NotProto3
MayRefuseSet bytes errors.BadType = MayRefuseParts bytes sets.BadType
MayRefuseSet bytes errors.BadReference = MayRefuseParts bytes sets.BadReference
MayRefuseSet bytes (errors.Rule e) = BreaksRule bytes e

-- no schema is stated by the bytes, of parts that keep to the rules
abbrev pub StatesNone : List ℕ → Type 0
StatesNone bytes = (parts : Parts) → IsSound parts → fds_reads bytes parts → ⊥

-- Any fault is reported only where no schema is stated. A lack of memory and messages nested too deep aren't said to
-- be.
abbrev pub NoneIsStated : List ℕ → FdsError → Type 0
NoneIsStated bytes errors.Memory = ⊤
NoneIsStated bytes (errors.Bytes e) = NoPartsAreStated bytes (sets.Bytes e)
NoneIsStated bytes errors.NotProto3 = NoPartsAreStated bytes sets.NotProto3
NoneIsStated bytes errors.BadType = NoPartsAreStated bytes sets.BadType
NoneIsStated bytes errors.BadReference = NoPartsAreStated bytes sets.BadReference
NoneIsStated bytes (errors.Rule e) = StatesNone bytes
