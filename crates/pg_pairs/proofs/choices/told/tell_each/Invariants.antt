use Rattle.std.proofs.Common.{◌≡◌, ◌++◌, map, take}
use Rattle.pg_pairs.specs.choices.Told.{told_alone, told_of}
use Rattle.pg_pairs.proofs.choices.told.tell_each.Given as goal

abbrev pub invariant-loop-choice : goal.invariant-loop-choice
invariant-loop-choice l = map told_of l.told.items ≡ map told_of l.initial.told.items ++ map told_alone (take l.choice-index l.choices)
