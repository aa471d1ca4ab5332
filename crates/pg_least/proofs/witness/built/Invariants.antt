use Rattle.std.proofs.Common.{[], ◌∷◌, ◌++◌, vec_len}
use Rattle.pg_schema.specs.Parts.{shape_of}
use Rattle.pg_pairs.specs.graph.GraphView.{seen}
use Rattle.pg_least.specs.inner.Descent.{first_step}
use Rattle.pg_least.proofs.Descents.{IsInside}
use Rattle.pg_least.proofs.witness.built.Given as goal

abbrev pub invariant-loop-step : goal.invariant-loop-step
invariant-loop-step l =
    IsInside (seen l.graph) (shape_of l.graph.old.now) (shape_of l.graph.new.now) (first_step l.fn.steps.items l.fn.last)
    (l.fn.steps.items ++ l.fn.last ∷ []) l.steps.items l.message

abbrev pub decreases-loop-step : goal.decreases-loop-step
decreases-loop-step l = vec_len l.steps
