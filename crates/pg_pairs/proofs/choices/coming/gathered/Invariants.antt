use Rattle.std.proofs.Common.{◌≤◌, length, map, drop}
use Rattle.pg_schema.specs.Parts.{field_shape, shape_of}
use Rattle.pg_schema.specs.Shape.{fields}
use Rattle.pg_pairs.specs.inner.Coming.{AreGathered}
use Rattle.pg_pairs.specs.inner.LeastMembers.{KeepsLeast}
use Rattle.pg_pairs.proofs.choices.coming.gathered.Given as goal

abbrev pub decreases-loop-at : goal.decreases-loop-at
decreases-loop-at l = l.at

abbrev pub invariant-loop-at : goal.invariant-loop-at
invariant-loop-at l =
    record {
      place : l.at ≤ length l.list;
      kept : KeepsLeast (fields (shape_of l.new) l.type_id) (map field_shape (drop l.at l.list)) l.kept;
      gathered : AreGathered (fields (shape_of l.new) l.type_id) (map field_shape (drop l.at l.list)) l.gathered;
    }
