-- The number after the E by which users know the error, and its position in a source file.
use Rattle.std.specs.Prelude.{ℕ, Option, Some, None}
use Rattle.pg_link.specs.declared.error.Place.{Place}
use Rattle.pg_check.specs.declared.error.CheckError.{CheckError}
use Rattle.pg_check.specs.declared.error.CheckError.TheVariants as errors

abbrev pub code_of : CheckError → ℕ
code_of (errors.BadNumber place) = 401
code_of (errors.DuplicateNumber place) = 402
code_of (errors.ReservedNumber place) = 403
code_of (errors.ReservedName place) = 404
code_of (errors.RangeOverlap place) = 405
code_of (errors.JsonNameClash place) = 406
code_of (errors.BadMapKey place) = 407
code_of (errors.BadOneofMember place) = 408
code_of (errors.EnumFirstNotZero place) = 409
code_of (errors.EnumAlias place) = 410
code_of (errors.BadOption place) = 411
code_of (errors.PackedNotAllowed place) = 412
code_of (errors.TooManyTypes place) = 413
code_of (errors.EnumEmpty place) = 414
code_of (errors.BadParts place) = 415
code_of errors.Memory = 1

abbrev pub place_of : CheckError → Option Place
place_of (errors.BadNumber place) = Some place
place_of (errors.DuplicateNumber place) = Some place
place_of (errors.ReservedNumber place) = Some place
place_of (errors.ReservedName place) = Some place
place_of (errors.RangeOverlap place) = Some place
place_of (errors.JsonNameClash place) = Some place
place_of (errors.BadMapKey place) = Some place
place_of (errors.BadOneofMember place) = Some place
place_of (errors.EnumFirstNotZero place) = Some place
place_of (errors.EnumAlias place) = Some place
place_of (errors.BadOption place) = Some place
place_of (errors.PackedNotAllowed place) = Some place
place_of (errors.TooManyTypes place) = Some place
place_of (errors.EnumEmpty place) = Some place
place_of (errors.BadParts place) = Some place
place_of errors.Memory = None
