-- How a rule is reported that parts break which come from no source file.
use Rattle.pg_link.specs.declared.error.Place.{Place}
use Rattle.pg_schema.specs.declared.parts.Parts.{Parts}
use Rattle.pg_schema.specs.rules.Sound.{IsSound}
use Rattle.pg_check.specs.declared.error.CheckError.{CheckError}
use Rattle.pg_check.specs.declared.error.CheckError.TheVariants.{Memory, BadParts}
use Rattle.pg_check.specs.admitting.BrokenParts.{IsFirstBrokenPart, IsNowhere}
use Rattle.pg_check.specs.admitting.KeepsParts.{KeepsAll}

-- out of memory; or, of parts that are none of a schema, the first rule that they break; or, at no position, that they
-- break none and are none of a schema all the same
pub data IsRefusedOf (parts : Parts) : CheckError → Type 0 where
  lacking : IsRefusedOf parts Memory
  first : (e : CheckError) → IsFirstBrokenPart parts e → (IsSound parts → ⊥) → IsRefusedOf parts e
  bad : (place : Place) → IsNowhere place → KeepsAll parts → (IsSound parts → ⊥) → IsRefusedOf parts (BadParts place)
