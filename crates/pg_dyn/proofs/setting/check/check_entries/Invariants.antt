-- what is reported of the entries so far
use Rattle.std.proofs.Common.{take}
use Rattle.pg_schema.specs.Parts.{shape_of}
use Rattle.pg_dyn.specs.inner.Reported.{EntryFault}
use Rattle.pg_dyn.specs.fitting.ContentFits.{EntryFits}
use Rattle.pg_dyn.proofs.lemmas.setting.ContentChecks.{entry_right}
use Rattle.pg_dyn.proofs.lemmas.setting.LowestFault.{ReportsEach}
use Rattle.pg_dyn.proofs.setting.check.check_entries.Given as goal

abbrev pub invariant-loop-entry : goal.invariant-loop-entry
invariant-loop-entry l = ReportsEach (EntryFits (shape_of l.schema) l.key l.element) (EntryFault (shape_of l.schema) l.key l.element) (entry_right (shape_of l.schema) l.key l.element) (take l.entry-index l.entries) l.reported
