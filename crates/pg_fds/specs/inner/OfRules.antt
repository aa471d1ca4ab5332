-- What the program reports once it has looked at the parts that a set states.
use Rattle.std.specs.Prelude.{◌≢◌, ⊤}
use Rattle.pg_schema.specs.declared.parts.Parts.{Parts}
use Rattle.pg_check.specs.declared.error.CheckError.TheVariants as rules
use Rattle.pg_check.specs.admitting.PartErrors.{IsRefusedOf}
use Rattle.pg_fds.specs.declared.error.FdsError.{FdsError}
use Rattle.pg_fds.specs.declared.error.FdsError.TheVariants as errors

-- memory, or a rule that the parts break
abbrev pub IsOfRules : Parts → FdsError → Type 0
IsOfRules parts errors.Memory = ⊤
IsOfRules parts (errors.Bytes e) = ⊥
IsOfRules parts errors.NotProto3 = ⊥
IsOfRules parts errors.BadType = ⊥
IsOfRules parts errors.BadReference = ⊥
IsOfRules parts (errors.Rule e) = IsRefusedOf parts e × (e ≢ rules.Memory)
