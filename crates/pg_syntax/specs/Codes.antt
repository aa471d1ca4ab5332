-- The number after the E in the code that users see.
use Rattle.std.specs.Prelude.{ℕ}
use Rattle.pg_syntax.specs.declared.error.SyntaxError.{SyntaxError}
use Rattle.pg_syntax.specs.declared.error.SyntaxError.TheVariants as errors

-- the number of each error
abbrev pub code_of : SyntaxError → ℕ
code_of errors.Memory = 1
code_of (errors.NotProto3 at) = 201
code_of (errors.Unexpected at) = 202
code_of (errors.Group at) = 203
code_of (errors.Extension at) = 204
code_of (errors.CustomOption at) = 205
code_of (errors.WeakImport at) = 206
code_of (errors.NestedTooDeep at) = 207
