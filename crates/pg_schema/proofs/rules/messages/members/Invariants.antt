use Rattle.std.proofs.Common.{take}
use Rattle.pg_schema.specs.inner.Sets.{AreMarks}
use Rattle.pg_schema.proofs.rules.messages.members.Given as goal

abbrev pub invariant-loop-field : goal.invariant-loop-field
invariant-loop-field l = AreMarks (take l.field-index l.fields) l.oneofs l.marks.items
