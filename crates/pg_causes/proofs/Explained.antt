-- Each message that breaks is told of.
use Rattle.std.proofs.Common.{◌≡◌, ◌≤◌, List, [], ◌∷◌, map, length, ⊎_elim, ap, sym, subst}
use Rattle.std.specs.List.{AllByRecursion, flat_map}
use Rattle.pg_schema.specs.declared.parts.Parts.{Parts}
use Rattle.pg_schema.specs.Parts.{shape_of}
use Rattle.pg_schema.specs.ShapeRules.{IsShape}
use Rattle.pg_dyn.specs.encoding.Encoding.{enc}
use Rattle.pg_pairs.specs.declared.choices.choice.Pair.{Pair}
use Rattle.pg_pairs.specs.bounds.Covering.{IsAmong}
use Rattle.pg_pairs.specs.choices.Choices.{is_oneof}
use Rattle.pg_pairs.specs.choices.Told.{Told, told_causes}
use Rattle.pg_pairs.specs.choices.Held.{HoldsCause}
use Rattle.pg_pairs.specs.laws.BreaksTold.{BreaksAreTold}
use Rattle.pg_pairs.specs.laws.EdgeChildren.{append_left, append_right}
use Rattle.pg_pairs.specs.views.EnumView.{EnumView}
use Rattle.pg_pairs.specs.views.ViewLaws.{IsEnumView}
use Rattle.pg_pairs.proofs.lemmas.choices.Among.{among_each}
use Rattle.pg_pairs.proofs.lemmas.graph.Reaching.{every_is_among}
use Rattle.pg_pairs.proofs.lemmas.views.NameLaws.{among_map, map_among}
use Rattle.pg_causes.specs.Causes.{EachBreakIsTold, IsCause, ToldIn, causes_at, in_pair, told_in}
use Rattle.pg_causes.specs.declared.overview.Cause.{Cause}

among_flat : {A B : Type 0} (h : A → List B) (x : A) (y : B) (xs : List A) → IsAmong x xs → IsAmong y (h x) → IsAmong y (flat_map h xs)
among_flat h x y [] among is = absurd among
among_flat h x y (z ∷ zs) among is =
    ⊎_elim (λ same. append_left y (h z) (flat_map h zs) (subst (λ w. IsAmong y (h w)) same is)) (λ later. append_right y (h z) (flat_map h zs) (among_flat h x y zs later is)) among

module _ (enum_view : EnumView) (old new : Parts) (law : IsEnumView enum_view) (is_old : IsShape (shape_of old)) (is_new : IsShape (shape_of new)) (breaks_are_told : BreaksAreTold) (pairs : List Pair) (told : List Cause)
    (are : map told_in told ≡ flat_map (causes_at enum_view (shape_of old) (shape_of new)) pairs) (each : AllByRecursion (IsCause enum_view old new) told) where
  -- what is told of a pair is a cause in the list
  pub told_of_pair : (pair : Pair) → IsAmong pair pairs → (t : Told) → IsAmong t (told_causes enum_view (shape_of old) (shape_of new) pair) → (c : Cause) × IsAmong c told × (in_pair pair t ≡ told_in c)
  told_of_pair pair among t is =
      map_among told_in (in_pair pair t) told
      (subst (IsAmong (in_pair pair t)) (sym are)
      (among_flat (causes_at enum_view (shape_of old) (shape_of new)) pair (in_pair pair t) pairs among (among_map (in_pair pair) t (told_causes enum_view (shape_of old) (shape_of new) pair) is)))

  told_of : (pair : Pair) → IsAmong pair pairs → EachBreakIsTold enum_view old new told pair
  told_of pair among message breaks none =
      let (t, is, held, least) = breaks_are_told enum_view (shape_of old) (shape_of new) law is_old is_new pair message breaks none in
      let (c, in_told, same) = told_of_pair pair among t is in
      let long = (among_each (IsCause enum_view old new) c told in_told each).long in
      let cost = subst (λ (x : ToldIn). x.told.choice.cost ≤ length (enc (shape_of old) pair.old message)) same least in
      record {
        cause = c;
        among = in_told;
        of_pair = sym (ap (λ (x : ToldIn). x.pair) same);
        held = subst (λ (x : ToldIn). HoldsCause (is_oneof x.told.choice.case) x.told.numbers message) same held;
        least = subst (λ n. n ≤ length (enc (shape_of old) pair.old message)) (sym long) cost;
      }

  pub all_told : AllByRecursion (EachBreakIsTold enum_view old new told) pairs
  all_told = every_is_among (EachBreakIsTold enum_view old new told) pairs told_of
