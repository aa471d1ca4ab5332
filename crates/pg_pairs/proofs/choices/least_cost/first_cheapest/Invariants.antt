use Rattle.std.proofs.Common.{◌≡◌, drop}
use Rattle.pg_pairs.specs.choices.Choices.{cheapest}
use Rattle.pg_pairs.specs.laws.CheapestLaws.{first_of}
use Rattle.pg_pairs.proofs.choices.least_cost.first_cheapest.Given as goal

abbrev pub invariant-loop-choice : goal.invariant-loop-choice
invariant-loop-choice l = first_of l.found (cheapest (drop l.choice-index l.choices)) ≡ cheapest l.choices
