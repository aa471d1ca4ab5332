use Rattle.pg_gate.proofs.lemmas.answer.CauseLemmas.{causes_there}
use Rattle.pg_gate.proofs.answer.causes.all_types.Goals as goal

pub all_placed-requires : goal.all_placed-requires
all_placed-requires c =
    causes_there c.args.asked.now.view c.args.both.now.old.schema c.args.both.now.new.schema c.parts.ensures.checked.shape c.parts-2.ensures.checked.shape c.in_ok-causes.field-0 c.in_ok-causes.ensures
