-- The items before the index are in the table.
use Rattle.std.proofs.Common.{take}
use Rattle.pg_notes.specs.inner.Tables.{IsNameTable}
use Rattle.pg_notes.proofs.tables.names_of.Given as goal

abbrev pub invariant-loop-index : goal.invariant-loop-index
invariant-loop-index g l = IsNameTable g.T.Named.name_of (take l.index l.items) l.names
