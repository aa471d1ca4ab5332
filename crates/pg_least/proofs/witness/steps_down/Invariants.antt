use Rattle.std.proofs.Common.{◌≡◌}
use Rattle.pg_schema.specs.Parts.{shape_of}
use Rattle.pg_pairs.specs.graph.GraphView.{seen}
use Rattle.pg_cert.specs.Certificate.{bound_in}
use Rattle.pg_least.specs.inner.Descent.{IsPathDown, first_step}
use Rattle.pg_least.proofs.witness.steps_down.Given as goal

abbrev pub invariant-loop-child : goal.invariant-loop-child
invariant-loop-child l =
    IsPathDown (seen l.graph) (shape_of l.graph.old.now) (shape_of l.graph.new.now) (bound_in l.bounds) l.steps.items l.last
    × ((first_step l.steps.items l.last).pair ≡ l.fn.pair)

abbrev pub decreases-loop-child : goal.decreases-loop-child
decreases-loop-child l = l.last.choice.cost
