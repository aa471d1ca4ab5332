-- The number after the E by which users know the error, and the offset that it names, if it names one: a byte of the input, or the
-- length of a string's front.
use Rattle.std.specs.Prelude.{ℕ, Option, Some, None}
use Rattle.pg_dyn.specs.declared.error.DynError.{DynError}
use Rattle.pg_dyn.specs.declared.error.DynError.TheVariants as errors
use Rattle.pg_wire.specs.Codes.{code_of as wire_code}
use Rattle.pg_wire.specs.Errors as wire

abbrev pub code_of : DynError → ℕ
code_of errors.Memory = 1
code_of errors.NoSuchField = 601
code_of errors.WrongKind = 602
code_of errors.OutOfRange = 603
code_of (errors.NotUtf8 at) = 604
code_of errors.OneofTwice = 605
code_of errors.DuplicateKey = 606
code_of errors.TooLong = 607
code_of (errors.TooDeep at) = 608
code_of (errors.Wire e) = wire_code e

abbrev pub place_of : DynError → Option ℕ
place_of (errors.NotUtf8 at) = Some at
place_of (errors.TooDeep at) = Some at
place_of (errors.Wire e) = Some (wire.place_of e)
place_of errors.Memory = None
place_of errors.NoSuchField = None
place_of errors.WrongKind = None
place_of errors.OutOfRange = None
place_of errors.OneofTwice = None
place_of errors.DuplicateKey = None
place_of errors.TooLong = None
