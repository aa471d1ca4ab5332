-- the entries so far are kept as the field's, and all show what it keeps of them
use Rattle.std.proofs.Common.{take}
use Rattle.std.specs.List.{AllByRecursion}
use Rattle.pg_schema.specs.Parts.{shape_of}
use Rattle.pg_dyn.specs.fitting.ScalarItems.{IsKeptAs}
use Rattle.pg_dyn.specs.inner.Reported.{entry_seen}
use Rattle.pg_dyn.specs.fitting.ContentFits.{EntryFits}
use Rattle.pg_dyn.proofs.lemmas.setting.NormalizedLaws.{KeptUpTo, keep_entry, entry_once}
use Rattle.pg_dyn.proofs.setting.normalizing.kept_entries.Given as goal

abbrev pub invariant-loop-entry : goal.invariant-loop-entry
invariant-loop-entry l = record {
  fit : AllByRecursion (EntryFits (shape_of l.schema) l.key l.element) l.entry-items;
  kept : KeptUpTo entry_seen (keep_entry l.element) (entry_once l.element) l.fn.entries.items l.entry-items l.entry-index;
  keys : AllByRecursion (λ x. IsKeptAs l.key x.0) (take l.entry-index l.entry-items);
}
