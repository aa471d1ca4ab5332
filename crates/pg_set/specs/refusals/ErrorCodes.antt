-- The number after the E by which users know the error, and the byte of the set that it names.
use Rattle.std.specs.Prelude.{ℕ, Option, None}
use Rattle.pg_dyn.specs.error.Codes.{code_of as message_code, place_of as message_place}
use Rattle.pg_set.specs.declared.error.SetError.{SetError}
use Rattle.pg_set.specs.declared.error.SetError.TheVariants as errors

-- of the bytes of a set the code that says what is wrong there
abbrev pub code_of : SetError → ℕ
code_of errors.Memory = 1
code_of (errors.Bytes e) = message_code e
code_of errors.NotProto3 = 702
code_of errors.BadType = 703
code_of errors.BadReference = 704

abbrev pub place_of : SetError → Option ℕ
place_of errors.Memory = None
place_of (errors.Bytes e) = message_place e
place_of errors.NotProto3 = None
place_of errors.BadType = None
place_of errors.BadReference = None
