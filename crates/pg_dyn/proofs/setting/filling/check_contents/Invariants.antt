-- what is reported of the contents so far
use Rattle.std.proofs.Common.{ℕ, take}
use Rattle.pg_schema.specs.Parts.{shape_of}
use Rattle.pg_dyn.specs.declared.message.Content.{Content}
use Rattle.pg_dyn.specs.setting.ContentFaults.{ContentFault}
use Rattle.pg_dyn.specs.inner.Reported.{TakesContent}
use Rattle.pg_dyn.proofs.lemmas.setting.ContentChecks.{takes_early}
use Rattle.pg_dyn.proofs.lemmas.setting.LowestFault.{ReportsEach}
use Rattle.pg_dyn.proofs.setting.filling.check_contents.Given as goal

abbrev pub invariant-loop-one : goal.invariant-loop-one
invariant-loop-one l =
    ReportsEach (TakesContent (shape_of l.schema) l.type_id) (λ (x : ℕ × Content). ContentFault (shape_of l.schema) l.type_id x.0 x.1) (takes_early (shape_of l.schema) l.type_id) (take l.one-index l.contents) l.reported
