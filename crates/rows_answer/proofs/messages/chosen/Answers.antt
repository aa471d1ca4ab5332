use Rattle.std.proofs.Common.{◌∙◌, rules}
use Rattle.pg_dyn.proofs.Lists.{each_at_index}
use Rattle.pg_cert.specs.Certificate.{bound_in}
use Rattle.rows_answer.proofs.Chosen.{each_among}
use Rattle.rows_answer.proofs.messages.chosen.Goals as goal

pub returns-then-eq : goal.returns-then-eq
returns-then-eq c = (bound_in c.args.table.now, each_at_index _ c.deref-choice-items.result.now _ c.loop-choice.choice-index _ (c.deref-choice-items.ensures.value ∙ c.in_ok-options.ensures) c.loop-choice-test.true (search rules) (each_among _))
