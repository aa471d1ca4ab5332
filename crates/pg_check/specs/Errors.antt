-- How a broken rule is reported.
use Rattle.std.specs.Prelude.{◌≡◌, ◌⊎◌, List}
use Rattle.pg_link.specs.declared.error.Place.{Place}
use Rattle.pg_check.specs.declared.error.CheckError.{CheckError}
use Rattle.pg_check.specs.declared.error.CheckError.TheVariants as errors
use Rattle.pg_check.specs.declared.rules.fault.Rule.{Rule}
use Rattle.pg_check.specs.declared.rules.fault.Rule.TheVariants as rules
use Rattle.pg_check.specs.parts.MadeParts.{Source}
use Rattle.pg_check.specs.rules.BrokenRules.{IsFirstBroken}

abbrev pub error_of : Rule → Place → CheckError
error_of rules.BadNumber place = errors.BadNumber place
error_of rules.DuplicateNumber place = errors.DuplicateNumber place
error_of rules.ReservedNumber place = errors.ReservedNumber place
error_of rules.ReservedName place = errors.ReservedName place
error_of rules.RangeOverlap place = errors.RangeOverlap place
error_of rules.JsonNameClash place = errors.JsonNameClash place
error_of rules.BadMapKey place = errors.BadMapKey place
error_of rules.BadOneofMember place = errors.BadOneofMember place
error_of rules.EnumFirstNotZero place = errors.EnumFirstNotZero place
error_of rules.EnumAlias place = errors.EnumAlias place
error_of rules.BadOption place = errors.BadOption place
error_of rules.PackedNotAllowed place = errors.PackedNotAllowed place
error_of rules.TooManyTypes place = errors.TooManyTypes place
error_of rules.EnumEmpty place = errors.EnumEmpty place

-- memory ran out, or the error names the first rule that the files break, where they break it
abbrev pub IsRefused : List Source → CheckError → Type 0
IsRefused files e = (e ≡ errors.Memory) ⊎ IsFirstBroken files e
