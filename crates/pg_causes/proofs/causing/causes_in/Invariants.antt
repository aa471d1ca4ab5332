-- The lines before the index have their causes.
use Rattle.std.proofs.Common.{◌≡◌, map, take}
use Rattle.std.specs.List.{AllByRecursion, flat_map}
use Rattle.pg_schema.specs.Parts.{shape_of}
use Rattle.pg_pairs.specs.graph.GraphView.{seen}
use Rattle.pg_least.specs.Searched.{pairs_of}
use Rattle.pg_causes.specs.Causes.{IsCause, causes_at, told_in}
use Rattle.pg_causes.proofs.causing.causes_in.Given as goal

abbrev pub invariant-loop-index : goal.invariant-loop-index
invariant-loop-index l =
    record {
      are : map told_in l.told.items
          ≡ flat_map (causes_at (seen l.graph) (shape_of l.graph.old.now) (shape_of l.graph.new.now)) (pairs_of (take l.index l.bounds));
      each : AllByRecursion (IsCause (seen l.graph) l.graph.old.now l.graph.new.now) l.told.items;
    }
