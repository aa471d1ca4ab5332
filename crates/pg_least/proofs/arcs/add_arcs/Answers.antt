use Rattle.std.proofs.Common.{◌≡◌, is_some, true}
use Rattle.std.specs.BTreeMap.{get}
use Rattle.pg_pairs.specs.declared.graph.edge.Edge.{Edge}
use Rattle.pg_pairs.specs.declared.graph.edge.Part.TheVariants.{Whole}
use Rattle.pg_pairs.specs.laws.ByIndices.{by_indices}
use Rattle.pg_least.proofs.Lists.{each_at}
use Rattle.pg_least.proofs.arcs.add_arcs.Goals as goal

unset : Edge
unset = record { from = record { old = record { index = 0 }; new = record { index = 0 } }; child = record { old = record { index = 0 }; new = record { index = 0 } }; number = 0; part = Whole }

pub place_of-child-requires : goal.place_of-child-requires
unfolding unset
place_of-child-requires c =
    each_at (λ (e : Edge). is_some (get by_indices c.args.places.now (e.child.old.index, e.child.new.index)) ≡ true) c.args.edges.now c.loop-edge.edge-index unset c.loop-edge-test.true c.requires
