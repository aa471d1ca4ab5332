use Rattle.std.proofs.Common.{map, take}
use Rattle.pg_dyn.specs.message.Kept.{message_of}
use Rattle.pg_set.specs.inner.reading.Made.{AreCounted}
use Rattle.pg_set.proofs.reading.made_types.member_counts.Given as goal

abbrev pub invariant-loop-field : goal.invariant-loop-field
invariant-loop-field l = AreCounted (map message_of (take l.field-index l.fields)) l.count l.counts.items
