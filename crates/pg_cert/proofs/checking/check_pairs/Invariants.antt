use Rattle.std.proofs.Common.{◌≡◌, drop}
use Rattle.pg_schema.specs.Parts.{shape_of}
use Rattle.pg_pairs.specs.graph.GraphView.{seen}
use Rattle.pg_cert.specs.Certificate.{bound_in}
use Rattle.pg_cert.specs.Faults.{first_pair_fault}
use Rattle.pg_cert.proofs.checking.check_pairs.Given as goal

-- the first fault is that of the pairs that are left
abbrev pub invariant-loop-at : goal.invariant-loop-at
invariant-loop-at l =
    first_pair_fault (seen l.graph) (shape_of l.graph.old.now) (shape_of l.graph.new.now) (bound_in l.bounds) l.bounds
    ≡ first_pair_fault (seen l.graph) (shape_of l.graph.old.now) (shape_of l.graph.new.now) (bound_in l.bounds) (drop l.at l.bounds)
