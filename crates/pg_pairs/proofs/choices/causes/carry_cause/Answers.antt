use Rattle.pg_pairs.specs.choices.Choices.{no_bounds}
use Rattle.pg_pairs.proofs.choices.causes.carry_cause.Goals as goal

pub carry-requires-clause-choice : goal.carry-requires-clause-choice
carry-requires-clause-choice c = (no_bounds, c.requires)
