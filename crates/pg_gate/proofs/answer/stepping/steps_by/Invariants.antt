use Rattle.std.proofs.Common.{◌≡◌, ◌++◌, map, drop}
use Rattle.std.specs.List.{flat_map}
use Rattle.pg_gate.specs.answer.Steps.{named, steps_by}
use Rattle.pg_gate.proofs.answer.stepping.steps_by.Given as goal

-- the steps so far, and those of the choices that are left, are those of all
abbrev pub invariant-loop-stage : goal.invariant-loop-stage
invariant-loop-stage l =
    map named l.steps.items ++ flat_map (steps_by l.sides.old.schema.now l.sides.new.schema.now) (drop l.stage-index l.path)
    ≡ flat_map (steps_by l.sides.old.schema.now l.sides.new.schema.now) l.path
