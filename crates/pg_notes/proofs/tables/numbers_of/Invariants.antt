-- The values before the index are in the table.
use Rattle.std.proofs.Common.{take}
use Rattle.pg_notes.specs.inner.Tables.{IsNumberTable}
use Rattle.pg_notes.proofs.tables.numbers_of.Given as goal

abbrev pub invariant-loop-index : goal.invariant-loop-index
invariant-loop-index l = IsNumberTable (take l.index l.values) l.numbers
