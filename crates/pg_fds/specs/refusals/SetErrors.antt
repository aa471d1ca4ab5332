-- The error that a set states no parts, or can't be written, among the errors of descriptor sets.
use Rattle.pg_set.specs.declared.error.SetError.{SetError}
use Rattle.pg_set.specs.declared.error.SetError.TheVariants as sets
use Rattle.pg_fds.specs.declared.error.FdsError.{FdsError}
use Rattle.pg_fds.specs.declared.error.FdsError.TheVariants as errors

abbrev pub of_set : SetError → FdsError
of_set sets.Memory = errors.Memory
of_set (sets.Bytes e) = errors.Bytes e
of_set sets.NotProto3 = errors.NotProto3
of_set sets.BadType = errors.BadType
of_set sets.BadReference = errors.BadReference
