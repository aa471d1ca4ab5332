-- The certificate of a search names the graph's view, under which it was searched.
use Rattle.std.proofs.Common.{subst, sym}
use Rattle.pg_schema.specs.Parts.{shape_of}
use Rattle.pg_dyn.specs.declared.view_name.ViewName.{ViewName}
use Rattle.pg_pairs.specs.views.NamedView.{seen_under}
use Rattle.pg_pairs.specs.declared.choices.choice.Pair.{Pair}
use Rattle.pg_least.specs.Searched.{IsSearched}
use Rattle.rows_answer.proofs.searches.path_down.Goals as goal

pub path-requires-clause-searched : goal.path-requires-clause-searched
path-requires-clause-searched c =
    let graph = c.args.graph.now in
    let old = graph.old.now in
    let new = graph.new.now in
    let certificate = c.in_ok-certificate.certificate in
    let named =
    subst (λ (view : ViewName). IsSearched (seen_under view old new) (shape_of old) (shape_of new) c.pair_of-root.result certificate)
    (sym c.in_ok-certificate.ensures.named) c.in_ok-certificate.ensures.searched in
    subst (λ (root : Pair). IsSearched (seen_under certificate.view old new) (shape_of old) (shape_of new) root certificate)
    (sym named.root_is) named
