-- A pair is compatible just where neither it nor a pair that it leads to has a cause.
use Rattle.std.proofs.Common.{◌≡◌, ℕ, ◌≤◌, ◌<◌, ◌↔◌, List, [], ◌∷◌, length, true, is_some, option_map, Option, Some, None, IfSome, refl, ap, sym, ◌∙◌, subst, arith}
use Rattle.std.specs.List.{AllByRecursion}
use Rattle.pg_schema.specs.Shape.{Shape}
use Rattle.pg_schema.specs.ShapeRules.{IsShape}
use Rattle.pg_dyn.specs.views.Breaking.{Compatible}
use Rattle.pg_dyn.specs.encoding.Encoding.{cap}
use Rattle.pg_dyn.proofs.Lists.{each_weaker}
use Rattle.pg_pairs.proofs.lemmas.choices.Among.{among_each}
use Rattle.pg_pairs.specs.declared.choices.choice.Choice.{Choice}
use Rattle.pg_pairs.specs.declared.choices.choice.Pair.{Pair}
use Rattle.pg_pairs.specs.declared.graph.edge.Edge.{Edge}
use Rattle.pg_pairs.specs.views.EnumView.{EnumView}
use Rattle.pg_pairs.specs.bounds.Covering.{IsAmong, IsWithin, children, distinct, IsExact}
use Rattle.pg_pairs.specs.choices.Causes.{HasNoCause, causes}
use Rattle.pg_pairs.specs.laws.CauseLaws.{PricesAreNear}
use Rattle.pg_pairs.specs.choices.Choices.{cheapest, Table, choices, no_bounds}
use Rattle.pg_pairs.specs.laws.CheapestLaws.{CheapestIsLeast, IsCheapest}
use Rattle.pg_pairs.specs.laws.EdgeChildren.{edge_leads}
use Rattle.pg_pairs.specs.graph.Edges.{LeastCostsByEdges, PairsLeadToPairs, SchemasArePriced, edge_price, edges, is_pair}
use Rattle.pg_pairs.specs.bounds.LeastCosts.{least_cost}
use Rattle.pg_pairs.specs.graph.Reached.{IsLedTo, LeadsTo, itself, onwards}
use Rattle.pg_cert.specs.declared.bounds.PairBound.{PairBound}
use Rattle.pg_cert.specs.Certificate.{bound_in}
use Rattle.pg_least.specs.Searched.{pairs_of}
use Rattle.pg_least.specs.From.{AreBoundsFrom, CompatibleWithoutCauses}
use Rattle.pg_least.specs.Least.{AllLeast}
use Rattle.pg_least.proofs.Listed.{among_found, there_among}
use Rattle.pg_least.proofs.WithoutBases as without

-- what a pair leads to its own root leads to
leads_on : (children : Pair → List Pair) (root pair last : Pair) → LeadsTo children root pair → LeadsTo children pair last → LeadsTo children root last
leads_on children root pair last before itself = before
leads_on children root pair last before (onwards above child leads among) = onwards above child (leads_on children root pair above before leads) among

none_only : (cs : List Choice) → IsCheapest (cheapest cs) cs → option_map (λ (c : Choice). c.cost) (cheapest cs) ≡ None → cs ≡ []
none_only cs least = of (cheapest cs) least
  where
    of : (o : Option Choice) → IsCheapest o cs → option_map (λ (c : Choice). c.cost) o ≡ None → cs ≡ []
    of None is h = is
    of (Some c) is h = absurd (cc)

each_below : (cs : List Choice) → AllByRecursion (λ (c : Choice). IsWithin None c.cost) cs → cs ≡ []
each_below [] each = refl
each_below (c ∷ cs) each = absurd each.0

-- an exact bound is the least cost
exact_bound : (enum_view : EnumView) (old new : Shape) (table : Table) (pair : Pair) (bound : Option ℕ) → CheapestIsLeast → IsExact enum_view old new table pair bound → bound ≡ least_cost enum_view table old new pair
exact_bound enum_view old new table pair None least exact = sym (ap (λ cs. option_map (λ (c : Choice). c.cost) (cheapest cs)) (each_below (choices enum_view table old new pair) exact.covered.bound_below))
exact_bound enum_view old new table pair (Some x) least exact = of (cheapest (choices enum_view table old new pair)) (least (choices enum_view table old new pair))
  where
    of : (o : Option Choice) → IsCheapest o (choices enum_view table old new pair) → Some x ≡ option_map (λ (c : Choice). c.cost) o
    of None is = absurd (let (c, among, cost) = exact.chosen x refl in subst (IsAmong c) is among)
    of (Some d) is =
        let (c, among, cost) = exact.chosen x refl in
        let below : x ≤ d.cost = among_each (λ (e : Choice). x ≤ e.cost) d (choices enum_view table old new pair) is.0 exact.covered.bound_below in
        let above : d.cost ≤ c.cost = among_each (λ (e : Choice). d.cost ≤ e.cost) c (choices enum_view table old new pair) among is.1 in
        let same : x ≡ d.cost = omega arith in
        ap Some same

module _ (cheap : CheapestIsLeast) (by_edges : LeastCostsByEdges) (lead : PairsLeadToPairs) (near : PricesAreNear) (priced : SchemasArePriced)
    (enum_view : EnumView) (old new : Shape) (shape_old : IsShape old) (shape_new : IsShape new) where
  abbrev own : Pair → Option ℕ
  own pair = least_cost enum_view no_bounds old new pair

  own_none : (pair : Pair) → own pair ≡ None → causes enum_view old new pair ≡ []
  own_none pair = none_only (causes enum_view old new pair) (cheap (causes enum_view old new pair))

  none_own : (pair : Pair) → causes enum_view old new pair ≡ [] → own pair ≡ None
  none_own pair none = ap (λ cs. option_map (λ (c : Choice). c.cost) (cheapest cs)) none

  own_low : (pair : Pair) (n : ℕ) → own pair ≡ Some n → n ≤ 100
  own_low pair n = of (cheapest (causes enum_view old new pair)) (cheap (causes enum_view old new pair))
    where
      of : (o : Option Choice) → IsCheapest o (causes enum_view old new pair) → option_map (λ (c : Choice). c.cost) o ≡ Some n → n ≤ 100
      of None is h = absurd (cc)
      of (Some c) is h = let same : c.cost ≡ n = cc in subst (λ k. k ≤ 100) same ((near enum_view old new shape_old pair).2 c is.0)

  dearer : (edge : Edge) (bound cost : ℕ) → edge_price old edge bound ≡ Some cost → bound < cost
  dearer edge bound cost is = (subst (λ o. IfSome o (λ n. (bound < n) × (n ≤ cap))) is ((priced old new shape_old shape_new).costs_more edge bound)).0

  module _ (roots : List Pair) (bounds : List PairBound) (known : AllByRecursion (λ root. is_pair old new root ≡ true) roots) (are : AreBoundsFrom enum_view old new roots bounds) where
    led : (pair : Pair) → IsAmong pair (pairs_of bounds) → IsLedTo (children old new) roots pair
    led pair among = among_each (IsLedTo (children old new) roots) pair (pairs_of bounds) among are.reached.led_to

    there_known : (pair : Pair) → is_some (bound_in bounds pair) ≡ true → is_pair old new pair ≡ true
    there_known pair some =
        let from = led pair (at (bound_in bounds pair) refl some) in
        lead old new shape_old shape_new from.root pair (among_each (λ root. is_pair old new root ≡ true) from.root roots from.among known) from.leads
      where
        at : (o : Option (Option ℕ)) → bound_in bounds pair ≡ o → is_some o ≡ true → IsAmong pair (pairs_of bounds)
        at None is h = absurd (cc)
        at (Some bound) is h = among_found bounds pair bound is

    few : (pairs : List Pair) → distinct pairs ≡ pairs → AllByRecursion (λ p. is_some (bound_in bounds p) ≡ true) pairs → length pairs ≤ 16777216
    few pairs once each = (priced old new shape_old shape_new).pairs_few pairs once (each_weaker (λ p. is_some (bound_in bounds p) ≡ true) (λ p. is_pair old new p ≡ true) there_known pairs each)

    least : AllLeast (edges old new) own (edge_price old) (bound_in bounds)
    least pair bound is = exact_bound enum_view old new (bound_in bounds) pair bound cheap (are.exact pair bound is) ∙ by_edges enum_view old new (bound_in bounds) shape_old pair

    module _ (pair : Pair) (among : IsAmong pair (pairs_of bounds)) where
      all_there : (last : Pair) → LeadsTo (children old new) pair last → is_some (bound_in bounds last) ≡ true
      all_there last leads =
          let from = led pair among in
          there_among bounds last (are.reached.all last (record { root = from.root; among = from.among; leads = leads_on (children old new) from.root pair last from.leads leads }))

      none_causes : bound_in bounds pair ≡ Some None → HasNoCause enum_view old new pair
      none_causes none last leads =
          own_none last
          (without.no_bases (children old new) (edges old new) own (edge_price old) (bound_in bounds) (λ p. (near enum_view old new shape_old p).0) (λ p e at. (edge_leads old new p e at).1) own_low
          (λ p. (near enum_view old new shape_old p).1) dearer few least pair all_there none last leads)

      causes_none : HasNoCause enum_view old new pair → bound_in bounds pair ≡ Some None
      causes_none no_cause =
          without.no_bounds (children old new) (edges old new) own (edge_price old) (bound_in bounds) (λ p. (near enum_view old new shape_old p).0) (λ p e at. (edge_leads old new p e at).1) own_low
          (λ p. (near enum_view old new shape_old p).1) dearer few least pair all_there (λ last leads. none_own last (no_cause last leads))

      compatible_none : Compatible enum_view.alike old new pair.old pair.new → bound_in bounds pair ≡ Some None
      compatible_none compatible = at (bound_in bounds pair) refl (there_among bounds pair among)
        where
          at : (o : Option (Option ℕ)) → bound_in bounds pair ≡ o → is_some o ≡ true → bound_in bounds pair ≡ Some None
          at None is h = absurd (cc)
          at (Some None) is h = is
          at (Some (Some n)) is h = absurd (let least = are.says pair (Some n) is in compatible least.message least.breaks)

      both : (Compatible enum_view.alike old new pair.old pair.new ↔ HasNoCause enum_view old new pair) × ((bound_in bounds pair ≡ Some None) ↔ HasNoCause enum_view old new pair)
      both = (
        (λ compatible. none_causes (compatible_none compatible), λ no_cause. are.says pair None (causes_none no_cause)),
        (none_causes, causes_none),
      )

pub compatible_without_causes : CheapestIsLeast → LeastCostsByEdges → PairsLeadToPairs → PricesAreNear → SchemasArePriced → CompatibleWithoutCauses
compatible_without_causes cheap by_edges lead near priced enum_view old new roots bounds law shape_old shape_new known are pair among =
    both cheap by_edges lead near priced enum_view old new shape_old shape_new roots bounds known are pair among
