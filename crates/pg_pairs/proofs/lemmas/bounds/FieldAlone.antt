-- A message that breaks with the content of one field alone costs at least the field's cheapest choice.
use Rattle.std.proofs.Common.{◌≡◌, ℕ, ◌≤◌, List, [], ◌∷◌, length, false, Option, Some, None, refl, subst, arith, rules}
use Rattle.std.specs.List.{AllByRecursion}
use Rattle.pg_schema.specs.declared.parts.field.Element.{Element}
use Rattle.pg_schema.specs.declared.parts.field.Element.TheVariants as elements
use Rattle.pg_schema.specs.declared.parts.field.Presence.{Presence}
use Rattle.pg_schema.specs.Shape.{Shape, FieldShape}
use Rattle.pg_schema.specs.ShapeRules.{IsShape}
use Rattle.pg_dyn.specs.message.Message.{Leaf, Item, Plain, Msg, Message}
use Rattle.pg_dyn.specs.encoding.Encoding.{enc}
use Rattle.pg_dyn.specs.reading.Decoding.{dec}
use Rattle.pg_dyn.specs.fitting.Belonging.{LeafFits}
use Rattle.pg_dyn.specs.views.Comparison.{View, Comparand, comparands}
use Rattle.pg_dyn.proofs.Lists.{each_of_all}
use Rattle.pg_pairs.specs.declared.choices.choice.Choice.{Choice}
use Rattle.pg_pairs.specs.declared.choices.choice.Pair.{Pair}
use Rattle.pg_pairs.specs.views.EnumView.{EnumView}
use Rattle.pg_pairs.specs.views.ViewLaws.{IsEnumView}
use Rattle.pg_pairs.specs.choices.Choices.{Table, field_choices, cheapest}
use Rattle.pg_pairs.specs.bounds.Covering.{IsCovered, Covers, IsAmong}
use Rattle.pg_pairs.specs.laws.CheapestLaws.{IsCheapest}
use Rattle.pg_pairs.specs.inner.Contents.{ChildBound, IsContent, total}
use Rattle.pg_dyn.specs.laws.ByComparands.{comparands_at, is_field_kept}
use Rattle.pg_pairs.specs.witness.Carried.{alone}
use Rattle.pg_pairs.specs.laws.FieldCosts.{list_alone, map_alone, IsShared, CostsCheapest, SingleScalarsCost, ListsCost, MapsCost, ChildrenCost}
use Rattle.pg_pairs.proofs.lemmas.choices.Among.{among_each}
use Rattle.pg_pairs.proofs.lemmas.choices.Cheaper.{cheapest_is_least}
use Rattle.pg_pairs.proofs.lemmas.gaps.GapItems.{IsLeafy}
use Rattle.pg_pairs.proofs.lemmas.bounds.LowerBound.{alone_breaks}
use Rattle.pg_pairs.proofs.lemmas.bounds.Messages.{one_found}
use Rattle.pg_pairs.proofs.lemmas.bounds.OneField.{contents_cost}

-- the cheapest choice costs no more than one of them does
cheapest_within : (cs : List Choice) (c : Choice) (n : ℕ) → IsAmong c cs → c.cost ≤ n → (d : Choice) × (cheapest cs ≡ Some d) × (d.cost ≤ n)
cheapest_within cs c n among le = of (cheapest cs) refl (cheapest_is_least cs)
  where
    of : (o : Option Choice) → cheapest cs ≡ o → IsCheapest o cs → (d : Choice) × (cheapest cs ≡ Some d) × (d.cost ≤ n)
    of (Some d) e least = let below = among_each (λ (x : Choice). d.cost ≤ x.cost) c cs among least.1 in (d, e, omega (arith, below, le))
    of None e none = absurd (subst (IsAmong c) none among)

-- the comparands of a list and of a map
module _ (view : View) (old new : Shape) (pair : Pair) (n : ℕ) where
  list_comparands : (items : List Item) → AllByRecursion (λ (c : Comparand). c.number ≡ n) (comparands view old new pair.old pair.new (list_alone n items))
  list_comparands [] = tt
  list_comparands (Plain leaf ∷ items) = (refl, list_comparands items)
  list_comparands (Msg child ∷ items) = (refl, list_comparands items)

  map_comparands : (entries : List (Leaf × Item)) → AllByRecursion (λ (c : Comparand). c.number ≡ n) (comparands view old new pair.old pair.new (map_alone n entries))
  map_comparands [] = tt
  map_comparands ((key, Plain leaf) ∷ entries) = (refl, map_comparands entries)
  map_comparands ((key, Msg child) ∷ entries) = (refl, map_comparands entries)

module _ (enum_view : EnumView) (old new : Shape) (law : IsEnumView enum_view) (shape_old : IsShape old) (shape_new : IsShape new) (pair : Pair) (f g : FieldShape) (shared : IsShared old new pair f g) (v : Message)
    (one : AllByRecursion (λ (c : Comparand). c.number ≡ f.number) (comparands enum_view.alike old new pair.old pair.new v)) where
  abbrev own : List Comparand
  own = comparands_at f.number (comparands enum_view.alike old new pair.old pair.new v)

  from_content : (table : Table) → IsContent table (dec new) f g own → is_field_kept enum_view.alike (dec new) f g own ≡ false → total f own ≤ length (enc old pair.old v) → (c : Choice) × (cheapest (field_choices enum_view table f g) ≡ Some c) × (c.cost ≤ length (enc old pair.old v))
  from_content table content broken within =
      let (c, among, le) = contents_cost enum_view law table (dec new) f g own content broken in
      cheapest_within (field_choices enum_view table f g) c (length (enc old pair.old v)) among (omega (arith, le, within))

  covered_costs : (table : Table) (root : Pair) → Covers enum_view old new table root → (bound : Option ℕ) → table pair ≡ Some bound → CostsCheapest enum_view old new table pair f g v
  covered_costs table root covers bound there breaks =
      let (content, broken, within) = alone_breaks enum_view law old new shape_old shape_new table covers.each pair bound there f g shared.old_field shared.new_field v one breaks in
      from_content table content broken within

  -- A table of zeros covers every pair, and what it says of children is nothing to scalars.

  abbrev zeros : Table
  zeros p = Some (Some 0)

  zeros_cover : (p : Pair) (bound : Option ℕ) → zeros p ≡ Some bound → IsCovered enum_view old new zeros p bound
  zeros_cover p bound there = search (rules, each_of_all)

  no_children : (table : Table) (e d : Element) → IsLeafy e → (cs : List Comparand) → AllByRecursion (ChildBound table (dec new) e d) cs
  no_children table (elements.Message s) d leafy cs = absurd leafy
  no_children table (elements.Scalar s) d leafy cs = each_of_all _ (λ c. tt) cs
  no_children table (elements.Enum s) d leafy cs = each_of_all _ (λ c. tt) cs

  leafy_costs : (table : Table) → IsLeafy f.element → CostsCheapest enum_view old new table pair f g v
  leafy_costs table leafy breaks =
      let (content, broken, within) = alone_breaks enum_view law old new shape_old shape_new zeros zeros_cover pair (Some 0) refl f g shared.old_field shared.new_field v one breaks in
      from_content table
      (record {
        numbers = content.numbers;
        fits_old = content.fits_old;
        fits_new = content.fits_new;
        holds = content.holds;
        in_order = content.in_order;
        bounds = λ has. no_children table f.element g.element leafy own;
        short = content.short;
      })
      broken within

-- a field that holds a leaf isn't one of messages
holds_leaf : (number : ℕ) (p : Presence) (e : Element) (o : Option ℕ) (item : Leaf) → LeafFits (record { number = number; presence = p; element = e; oneof = o }) item → IsLeafy e
holds_leaf number p (elements.Message t) o item h = absurd h
holds_leaf number p (elements.Scalar s) o item h = tt
holds_leaf number p (elements.Enum s) o item h = tt

pub single_scalars_cost : SingleScalarsCost
single_scalars_cost enum_view old new table law shape_old shape_new pair f g shared single item breaks =
    let is = breaks.is_message in
    let same : is.0.field ≡ f = one_found _ f.number is.0.field f is.0.found shared.old_field in
    let fits : LeafFits f item = subst (λ x. LeafFits x item) same is.1 in
    leafy_costs enum_view old new law shape_old shape_new pair f g shared (alone f.number None (Plain item)) (refl, tt) table
    (holds_leaf f.number f.presence f.element f.oneof item fits) breaks

pub lists_cost : ListsCost
lists_cost enum_view old new table root law shape_old shape_new covers pair bound there f g shared repeated items =
    covered_costs enum_view old new law shape_old shape_new pair f g shared (list_alone f.number items) (list_comparands enum_view.alike old new pair f.number items) table root covers bound there

pub maps_cost : MapsCost
maps_cost enum_view old new table root law shape_old shape_new covers pair bound there f g shared map entries =
    covered_costs enum_view old new law shape_old shape_new pair f g shared (map_alone f.number entries) (map_comparands enum_view.alike old new pair f.number entries) table root covers bound there

pub children_cost : ChildrenCost
children_cost enum_view old new table root law shape_old shape_new covers pair bound there f g shared single child =
    covered_costs enum_view old new law shape_old shape_new pair f g shared (alone f.number None (Msg child)) (refl, tt) table root covers bound there
