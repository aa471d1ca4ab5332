use Rattle.std.proofs.Common.{◌≡◌, map, take}
use Rattle.pg_gate.specs.answer.Steps.{named, named_at}
use Rattle.pg_gate.proofs.answer.causes.steps_at.Given as goal

-- the fields of the numbers before the index
abbrev pub invariant-loop-number : goal.invariant-loop-number
invariant-loop-number l =
    map named l.steps.items ≡ map (named_at l.sides.old.schema.now l.sides.new.schema.now l.pair) (take l.number-index l.numbers)
