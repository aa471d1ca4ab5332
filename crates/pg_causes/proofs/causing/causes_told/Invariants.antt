-- The causes so far are as they are told, and those that are left are the others of all.
use Rattle.std.proofs.Common.{◌≡◌, ◌++◌, map, length}
use Rattle.std.specs.List.{AllByRecursion}
use Rattle.std.specs.Vec.Iter.{into_iter_items, into_iter_len}
use Rattle.pg_schema.specs.Parts.{shape_of}
use Rattle.pg_pairs.specs.bounds.Covering.{IsAmong}
use Rattle.pg_pairs.specs.choices.Causes.{causes}
use Rattle.pg_pairs.specs.choices.Told.{told_of}
use Rattle.pg_pairs.specs.declared.choices.told.FieldCause.{FieldCause}
use Rattle.pg_pairs.specs.graph.GraphView.{seen}
use Rattle.pg_causes.specs.Causes.{IsCause, in_pair, told_in}
use Rattle.pg_causes.proofs.causing.causes_told.Given as goal

abbrev pub invariant-loop-cause : goal.invariant-loop-cause
invariant-loop-cause l =
    (map told_in l.list.items ++ map (λ t. in_pair l.pair (told_of t)) (into_iter_items l.cause-iterator) ≡ map (λ t. in_pair l.pair (told_of t)) l.fn.told.items)
    × (into_iter_len l.cause-iterator ≡ length (into_iter_items l.cause-iterator))
    × AllByRecursion (λ (t : FieldCause). IsAmong t.choice (causes (seen l.graph) (shape_of l.graph.old.now) (shape_of l.graph.new.now) l.pair)) (into_iter_items l.cause-iterator)
    × AllByRecursion (IsCause (seen l.graph) l.graph.old.now l.graph.new.now) l.list.items
