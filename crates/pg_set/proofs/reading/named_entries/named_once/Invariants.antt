use Rattle.std.proofs.Common.{map, take}
use Rattle.pg_set.specs.inner.reading.NamedEntries.{KeepsOnce}
use Rattle.pg_set.specs.stated.Views.{field_view}
use Rattle.pg_set.proofs.reading.named_entries.named_once.Given as goal

abbrev pub invariant-loop-field : goal.invariant-loop-field
invariant-loop-field l = KeepsOnce (map field_view (take l.field-index l.fields)) l.once
