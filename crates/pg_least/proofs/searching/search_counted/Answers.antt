-- The graph is of the view by numbers, which compares enums by their numbers, and of the two schemas.
use Rattle.std.proofs.Common.{◌<◌, length, subst, sym}
use Rattle.pg_schema.specs.declared.parts.Parts.{Parts}
use Rattle.pg_schema.specs.Parts.{shape_of}
use Rattle.pg_pairs.specs.graph.Edges.{edges}
use Rattle.pg_cert.proofs.Graphs.{of_graph}
use Rattle.pg_least.specs.Searched.{IsSearched, CarriesWitness}
use Rattle.pg_least.specs.Least.{IsCounted}
use Rattle.pg_least.proofs.searching.search_counted.Goals as goal

pub found_counted-requires : goal.found_counted-requires
found_counted-requires c = record {
  old_type = subst (λ (old : Parts). c.args.root.old.index < length (shape_of old)) (sym c.new-graph.ensures.old) c.requires.old_type;
  new_type = subst (λ (new : Parts). c.args.root.new.index < length (shape_of new)) (sym c.new-graph.ensures.new) c.requires.new_type;
}

pub returns-clause-searched : goal.returns-clause-searched
returns-clause-searched c =
    subst (λ enum_view. IsSearched enum_view (shape_of c.args.old.now) (shape_of c.args.new.now) c.args.root c.in_ok-found.found.certificate) (c.numbers_are_alike.ensures c.args.old.now c.args.new.now)
    (of_graph (λ view old new. IsSearched view (shape_of old) (shape_of new) c.args.root c.in_ok-found.found.certificate) c.new-graph.result
    _ _ _ c.new-graph.ensures.view c.new-graph.ensures.old c.new-graph.ensures.new c.in_ok-found.ensures.searched)

pub returns-clause-carried : goal.returns-clause-carried
returns-clause-carried c =
    subst (λ enum_view. CarriesWitness enum_view (shape_of c.args.old.now) (shape_of c.args.new.now) c.in_ok-found.found.certificate) (c.numbers_are_alike.ensures c.args.old.now c.args.new.now)
    (of_graph (λ view old new. CarriesWitness view (shape_of old) (shape_of new) c.in_ok-found.found.certificate) c.new-graph.result
    _ _ _ c.new-graph.ensures.view c.new-graph.ensures.old c.new-graph.ensures.new c.in_ok-found.ensures.carried)

pub returns-clause-counted : goal.returns-clause-counted
returns-clause-counted c =
    of_graph (λ view old new. IsCounted (edges (shape_of old) (shape_of new)) c.in_ok-found.found.certificate.bounds c.in_ok-found.work) c.new-graph.result
    _ _ _ c.new-graph.ensures.view c.new-graph.ensures.old c.new-graph.ensures.new c.in_ok-found.ensures.counted
