-- What is said of a graph is said of the view and the schemas that it is of, and the other way.
use Rattle.std.proofs.Common.{◌≡◌, subst, subst₂, sym}
use Rattle.pg_schema.specs.declared.parts.Parts.{Parts}
use Rattle.pg_dyn.specs.declared.view_name.ViewName.{ViewName}
use Rattle.pg_pairs.specs.declared.graph.priced.Priced.{Priced}
use Rattle.pg_pairs.specs.views.EnumView.{EnumView}
use Rattle.pg_pairs.specs.graph.GraphView.{seen}
use Rattle.pg_pairs.specs.views.NamedView.{seen_under}

module _ (P : EnumView → Parts → Parts → Type 0) (graph : Priced) (view : ViewName) (old new : Parts) where
  pub of_graph : graph.view ≡ view → graph.old.now ≡ old → graph.new.now ≡ new → P (seen graph) graph.old.now graph.new.now → P (seen_under view old new) old new
  of_graph view_is old_is new_is holds =
      subst (λ (v : ViewName). P (seen_under v old new) old new) view_is
      (subst₂ (λ (o n : Parts). P (seen_under graph.view o n) o n) old_is new_is holds)

  pub to_graph : graph.view ≡ view → graph.old.now ≡ old → graph.new.now ≡ new → P (seen_under view old new) old new → P (seen graph) graph.old.now graph.new.now
  to_graph view_is old_is new_is holds =
      subst₂ (λ (o n : Parts). P (seen_under graph.view o n) o n) (sym old_is) (sym new_is)
      (subst (λ (v : ViewName). P (seen_under v old new) old new) (sym view_is) holds)
