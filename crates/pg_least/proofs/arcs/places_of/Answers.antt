use Rattle.std.proofs.Common.{get_or}
use Rattle.std.proofs.lemmas.Option.{slice_get-get_or}
use Rattle.pg_pairs.specs.declared.choices.choice.Pair.{Pair}
use Rattle.pg_least.proofs.Tables.{placed_more}
use Rattle.pg_least.proofs.arcs.places_of.Goals as goal

unset : Pair
unset = record { old = record { index = 0 }; new = record { index = 0 } }

pub loop-at-preserved : goal.loop-at-preserved
unfolding unset
loop-at-preserved c =
    placed_more c.args.pairs.now c.loop-at.at (get_or c.args.pairs.now c.loop-at.at unset) c.loop-at.places c.insert.new.self
    (slice_get-get_or c.args.pairs.now c.loop-at.at unset c.loop-at-test.true) c.in_ok-insert.ensures.updates c.loop-at.invariant
