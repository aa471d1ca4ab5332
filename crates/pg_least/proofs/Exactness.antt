-- Over two schemas settled bounds are exact.
use Rattle.std.proofs.Common.{◌≡◌, ℕ, List, is_some, Option, Some, None, ap, sym, ◌∙◌, subst}
use Rattle.pg_schema.specs.Shape.{Shape}
use Rattle.pg_schema.specs.ShapeRules.{IsShape}
use Rattle.pg_pairs.proofs.lemmas.choices.Among.{among_each}
use Rattle.pg_pairs.proofs.lemmas.graph.Reaching.{every_is_among}
use Rattle.pg_pairs.specs.declared.choices.choice.Pair.{Pair}
use Rattle.pg_pairs.specs.bounds.Covering.{IsAmong, IsThere, children, IsExact}
use Rattle.pg_pairs.specs.views.EnumView.{EnumView}
use Rattle.pg_pairs.specs.views.ViewLaws.{IsEnumView}
use Rattle.pg_pairs.specs.graph.Edges.{LeastCostsByEdges, edge_price, edges}
use Rattle.pg_pairs.specs.choices.Choices.{no_bounds}
use Rattle.pg_pairs.specs.bounds.Laws.{ExactIsLeast, NoneIsCompatible}
use Rattle.pg_pairs.specs.bounds.LeastCosts.{LeastCostsAreExact, least_cost}
use Rattle.pg_pairs.specs.graph.Reached.{IsLedTo, LeadsTo, onwards}
use Rattle.pg_cert.specs.declared.bounds.PairBound.{PairBound}
use Rattle.pg_cert.specs.Certificate.{bound_in}
use Rattle.pg_least.specs.From.{IsExactTable, AreBoundsFrom, IsSettledFrom}
use Rattle.pg_least.specs.inner.Descent.{IsTableOf}
use Rattle.pg_least.specs.Searched.{BoundSays, pairs_of}
use Rattle.pg_least.specs.Least.{AllLeast, IsSettled}
use Rattle.pg_least.proofs.Listed.{among_found, there_among}

-- Where the children of a table's pairs are there, least bounds are exact.
exact_bounds : (enum_view : EnumView) (old new : Shape) (bounds : List PairBound) → LeastCostsAreExact → LeastCostsByEdges → IsShape old
    → ((pair child : Pair) → IsAmong pair (pairs_of bounds) → IsAmong child (children old new pair) → IsAmong child (pairs_of bounds))
    → AllLeast (edges old new) (least_cost enum_view no_bounds old new) (edge_price old) (bound_in bounds) → IsExactTable enum_view old new (bound_in bounds)
exact_bounds enum_view old new bounds exact by_edges shape closed least pair bound found =
    let is : bound ≡ least_cost enum_view (bound_in bounds) old new pair = least pair bound found ∙ sym (by_edges enum_view old new (bound_in bounds) shape pair) in
    subst (IsExact enum_view old new (bound_in bounds) pair) (sym is)
    (exact enum_view old new (bound_in bounds) pair
    (every_is_among (IsThere (bound_in bounds)) (children old new pair) (λ child among. there_among bounds child (closed pair child (among_found bounds pair bound found) among))))

pub settled_is_exact : (enum_view : EnumView) (old new : Shape) (root : Pair) (bounds : List PairBound) → LeastCostsAreExact → LeastCostsByEdges → IsShape old
    → IsSettled (children old new) (edges old new) (least_cost enum_view no_bounds old new) (edge_price old) root bounds → IsTableOf enum_view old new root bounds
settled_is_exact enum_view old new root bounds exact by_edges shape settled = record {
  reached = settled.reached;
  exact = exact_bounds enum_view old new bounds exact by_edges shape
      (λ pair child there among. settled.reached.all child (onwards pair child (among_each (LeadsTo (children old new) root) pair (pairs_of bounds) there settled.reached.led_to) among)) settled.least;
}

-- what a bound of an exact table says of its pair is so
exact_says : (enum_view : EnumView) (old new : Shape) (bounds : List PairBound) → IsEnumView enum_view → IsShape old → IsShape new → ExactIsLeast → NoneIsCompatible
    → IsExactTable enum_view old new (bound_in bounds) → (pair : Pair) (bound : Option ℕ) → bound_in bounds pair ≡ Some bound → BoundSays enum_view old new pair bound
exact_says enum_view old new bounds law shape_old shape_new least none exact pair (Some n) is = least enum_view old new (bound_in bounds) law shape_old shape_new exact pair n is
exact_says enum_view old new bounds law shape_old shape_new least none exact pair None is =
    none enum_view old new (bound_in bounds) pair law shape_old shape_new (record { root_there = ap is_some is; each = λ other bound there. (exact other bound there).covered }) pair is

-- the children of a pair that the roots lead to
pub child_led : (children : Pair → List Pair) (roots : List Pair) (pair child : Pair) → IsLedTo children roots pair → IsAmong child (children pair) → IsLedTo children roots child
child_led children roots pair child led among = record { root = led.root; among = led.among; leads = onwards pair child led.leads among }

pub bounds_are : (enum_view : EnumView) (old new : Shape) (roots : List Pair) (bounds : List PairBound) → LeastCostsAreExact → LeastCostsByEdges → ExactIsLeast → NoneIsCompatible
    → IsEnumView enum_view → IsShape old → IsShape new
    → IsSettledFrom (children old new) (edges old new) (least_cost enum_view no_bounds old new) (edge_price old) roots bounds → AreBoundsFrom enum_view old new roots bounds
bounds_are enum_view old new roots bounds exact by_edges least none law shape_old shape_new settled =
    record { reached = settled.reached; exact = each; says = exact_says enum_view old new bounds law shape_old shape_new least none each }
  where
    each : IsExactTable enum_view old new (bound_in bounds)
    each = exact_bounds enum_view old new bounds exact by_edges shape_old
        (λ pair child there among. settled.reached.all child (child_led (children old new) roots pair child (among_each (IsLedTo (children old new) roots) pair (pairs_of bounds) there settled.reached.led_to) among))
        settled.least
