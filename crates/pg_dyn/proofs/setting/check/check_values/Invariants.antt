-- what is reported of the items so far
use Rattle.std.proofs.Common.{take}
use Rattle.pg_schema.specs.Parts.{shape_of}
use Rattle.pg_dyn.specs.setting.ContentFaults.{ElementFault}
use Rattle.pg_dyn.specs.fitting.ContentFits.{ItemFits}
use Rattle.pg_dyn.proofs.lemmas.setting.ContentChecks.{item_right}
use Rattle.pg_dyn.proofs.lemmas.setting.LowestFault.{ReportsEach}
use Rattle.pg_dyn.proofs.setting.check.check_values.Given as goal

abbrev pub invariant-loop-value : goal.invariant-loop-value
invariant-loop-value l = ReportsEach (ItemFits (shape_of l.schema) l.element) (ElementFault (shape_of l.schema) l.element) (item_right (shape_of l.schema) l.element) (take l.value-index l.values) l.reported
