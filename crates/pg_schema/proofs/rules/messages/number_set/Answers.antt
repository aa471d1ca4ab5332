use Rattle.std.proofs.Common.{get_or, refl}
use Rattle.pg_schema.proofs.lemmas.rules.MessageLemmas.{number_more}
use Rattle.pg_schema.proofs.rules.messages.number_set.Goals as goal

pub loop-number-preserved : goal.loop-number-preserved
loop-number-preserved c =
    number_more c.args.numbers.now c.loop-number.number-index (get_or c.args.numbers.now c.loop-number.number-index 0) c.loop-number.set c.insert.new.self c.loop-number-test.true refl c.in_ok-insert.ensures.updates.0 c.loop-number.invariant
