-- The number after the E in the code that users see.
use Rattle.std.specs.Prelude.{ℕ}
use Rattle.pg_wire.specs.declared.error.WireError.{WireError}
use Rattle.pg_wire.specs.declared.error.WireError.TheVariants as errors

-- the number of each error
abbrev pub code_of : WireError → ℕ
code_of (errors.VarintTooLong at) = 501
code_of (errors.Truncated at) = 502
code_of (errors.BadTag at) = 503
code_of (errors.Group at) = 504
code_of (errors.BadWireType at) = 505
