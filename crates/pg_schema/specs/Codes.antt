-- The number after the E by which users know the error. A broken rule has that of the rule, which the error doesn't
-- say.
use Rattle.std.specs.Prelude.{ℕ, Option, Some, None}
use Rattle.pg_schema.specs.declared.error.PartsError.{PartsError}
use Rattle.pg_schema.specs.declared.error.PartsError.TheVariants as errors

abbrev pub code_of : PartsError → Option ℕ
code_of errors.Memory = Some 1
code_of errors.Invariant = None
