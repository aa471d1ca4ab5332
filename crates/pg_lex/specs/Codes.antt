-- The number after the E in the code that users see.
use Rattle.std.specs.Prelude.{ℕ}
use Rattle.pg_lex.specs.declared.error.LexError.{LexError}
use Rattle.pg_lex.specs.declared.error.LexError.TheVariants as errors

-- the number of each error
abbrev pub code_of : LexError → ℕ
code_of errors.Memory = 1
code_of (errors.NotUtf8 at) = 101
code_of (errors.BadCharacter at) = 102
code_of (errors.OpenString at) = 103
code_of (errors.BadEscape at) = 104
code_of (errors.OpenComment at) = 105
code_of (errors.NumberTooLarge at) = 106
code_of (errors.FloatLiteral at) = 107
code_of (errors.FileTooLong at) = 108
