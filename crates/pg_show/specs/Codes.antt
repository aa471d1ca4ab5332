-- The number after the E in the code that users see.
use Rattle.std.specs.Prelude.{ℕ}
use Rattle.pg_show.specs.declared.error.HexError.{HexError}
use Rattle.pg_show.specs.declared.error.HexError.TheVariants as errors

abbrev pub code_of : HexError → ℕ
code_of errors.Memory = 1
code_of errors.BadHex = 905
