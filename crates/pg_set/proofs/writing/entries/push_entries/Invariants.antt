use Rattle.std.proofs.Common.{◌≡◌, ◌++◌, take}
use Rattle.pg_set.specs.declared.descriptor.places.TheConstants.{MESSAGE}
use Rattle.pg_set.specs.inner.writing.Drafts.{listed}
use Rattle.pg_set.specs.writing.Entries.{entries}
use Rattle.pg_set.specs.inner.Lent.{lent}
use Rattle.pg_set.specs.writing.Places.{declared_in}
use Rattle.pg_set.proofs.writing.entries.push_entries.Given as goal

abbrev pub invariant-loop-field : goal.invariant-loop-field
invariant-loop-field l = l.made ≡ listed MESSAGE (l.fn.made.items ++ entries (declared_in l.writer) (lent (take l.field-index l.fields)))
