-- What an error says of itself (this project's choice).
use Rattle.std.specs.Prelude.{ℕ, List, codes}
use Rattle.pg_schema.specs.declared.error.PartsError.{PartsError}
use Rattle.pg_schema.specs.declared.error.PartsError.TheVariants.{Memory, Invariant}

abbrev pub error_text : PartsError → List ℕ
error_text Memory = codes "Out of memory."
error_text Invariant = codes "The parts are not a valid schema."
