-- Why files are refused where no set is written of them.
use Rattle.std.proofs.Common.{◌≡◌, ◌⊎◌, inl, inr}
use Rattle.pg_dyn.specs.declared.error.DynError.TheVariants as messages
use Rattle.pg_set.specs.writing.Written.{HasNoSet}
use Rattle.pg_fds.specs.declared.error.FdsError.{FdsError}
use Rattle.pg_fds.specs.declared.error.FdsError.TheVariants as sets
use Rattle.pg_link.specs.walk.Walk.{World}
use Rattle.pg_schema.specs.declared.parts.Parts.{Parts}
use Rattle.pg_gate.specs.answer.Files.{IsCompiled, IsUnwritten}

pub unwritten : (w : World) (schema : Parts) → IsCompiled w schema → (error : FdsError) → (error ≡ sets.Memory → ⊥)
    → (error ≡ sets.Memory) ⊎ ((error ≡ sets.Bytes messages.TooLong) × HasNoSet schema) → IsUnwritten w error
unwritten w schema compiled error other (inl memory) = absurd (other memory)
unwritten w schema compiled error other (inr told) = record { schema = schema; compiled = compiled; is_reported = told.0; has_none = told.1 }
