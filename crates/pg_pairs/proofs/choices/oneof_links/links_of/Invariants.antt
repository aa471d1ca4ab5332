use Rattle.std.proofs.Common.{◌≡◌, ◌≤◌, length}
use Rattle.pg_schema.specs.Parts.{shape_of}
use Rattle.pg_schema.specs.Shape.{fields}
use Rattle.pg_pairs.specs.inner.OneofLinks.{AreFirst, AreLinks}
use Rattle.pg_pairs.proofs.choices.oneof_links.links_of.Given as goal

abbrev pub decreases-loop-at : goal.decreases-loop-at
decreases-loop-at l = l.at

abbrev pub invariant-loop-at : goal.invariant-loop-at
invariant-loop-at l =
    record {
      none : l.none ≡ length l.list;
      place : l.at ≤ length l.list;
      first : AreFirst (fields (shape_of l.new) l.type_id) l.list l.at l.first;
      links : AreLinks (fields (shape_of l.new) l.type_id) l.list l.at l.links.items;
    }
