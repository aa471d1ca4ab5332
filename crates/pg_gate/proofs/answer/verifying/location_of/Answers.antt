use Rattle.pg_gate.proofs.answer.verifying.location_of.Goals as goal

pub returns-in_ok-names-in-PairMissing : goal.returns-in_ok-names-in-PairMissing
returns-in_ok-names-in-PairMissing c = (c.in-PairMissing.pair, c.in-PairMissing.is, c.in_ok-names-in-PairMissing.ensures)

pub returns-in_ok-names-in-BoundTooHigh : goal.returns-in_ok-names-in-BoundTooHigh
returns-in_ok-names-in-BoundTooHigh c = (c.in-BoundTooHigh.pair, c.in-BoundTooHigh.is, c.in_ok-names-in-BoundTooHigh.ensures)
