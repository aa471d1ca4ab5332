use Rattle.std.proofs.Common.{subst, sym}
use Rattle.pg_schema.specs.Parts.{shape_of}
use Rattle.pg_pairs.specs.graph.GraphView.{seen}
use Rattle.pg_least.specs.Searched.{IsSearched, CarriesWitness}
use Rattle.pg_least.proofs.Claims.{searched_none}
use Rattle.pg_least.proofs.searching.unbroken.Goals as goal

pub returns-clause-searched : goal.returns-clause-searched
returns-clause-searched c =
    let enum_view = seen c.args.graph.now in
    let old = shape_of c.args.graph.now.old.now in
    let new = shape_of c.args.graph.now.new.now in
    subst (IsSearched enum_view old new c.args.root) (sym c.in-Ok.ensures.claim)
    (searched_none enum_view old new c.sees.ensures c.parts.ensures.checked.shape c.parts-2.ensures.checked.shape c.exact_is_least.ensures c.none_is_compatible.ensures _ c.args.root c.args.bounds c.requires.table c.requires.none)

pub returns-clause-carried : goal.returns-clause-carried
returns-clause-carried c =
    subst (CarriesWitness (seen c.args.graph.now) (shape_of c.args.graph.now.old.now) (shape_of c.args.graph.now.new.now)) (sym c.in-Ok.ensures.claim) tt
