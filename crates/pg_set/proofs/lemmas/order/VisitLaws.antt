-- Visits are a function: `visit` answers what is listed once all were visited, where it goes deep enough.
use Rattle.std.proofs.Common.{◌≡◌, ℕ, zero, suc, ◌+◌, ◌<◌, ◌≤◌, ◌⊎◌, inl, inr, Bool, true, false, List, [], ◌∷◌, ◌++◌, length, Option, Some, None, option_map, refl, ap, sym, subst, ◌∙◌, arith, rules}
use Rattle.std.proofs.lemmas.Map.Made.{length-le_from_is_member}
use Rattle.std.proofs.lemmas.Option.{none-some, same_Some}
use Rattle.std.specs.List.{AllByRecursion, IsDistinct, list_any}
use Rattle.std.specs.Option.{option_and_then}
use Rattle.std.specs.Prelude.{⊤}
use Rattle.std.specs.Str.{bytes_eq}
use Rattle.pg_schema.specs.standing.Visits.{Visits, all_visited, listed_last, passed_over}
use Rattle.pg_dyn.proofs.Lists.{each_weaker}
use Rattle.pg_set.specs.stated.StatedOrder.{visit, visit_each, visit_one}
use Rattle.pg_set.proofs.lemmas.order.Visited.{Among, AreClosed, Text, all_behind, all_listed, rank, same_bytes, same_texts, visited_listed}

module _ (leads : Text → Option (List Text)) where
  abbrev Lists : (front visited listed : List Text) → Type 0
  Lists front visited listed = Visits bytes_eq leads front visited listed

  -- ---- what is answered is listed

  abbrev IsOver : (front : List Text) → Text → (listed : List Text) → Type 0
  IsOver front x listed = (list_any (bytes_eq x) front ≡ true) × (front ≡ listed)

  abbrev IsLast : (visit_inside : List Text → List Text → Option (List Text)) → (front : List Text) → Text → (listed : List Text) → Type 0
  IsLast visit_inside front x listed =
      (own : List Text) × (inside : List Text) × (list_any (bytes_eq x) front ≡ false) × (leads x ≡ Some own) × (visit_inside front own ≡ Some inside) × (inside ++ x ∷ [] ≡ listed)

  one_visited : (visit_inside : List Text → List Text → Option (List Text)) (front : List Text) (x : Text) (listed : List Text) → visit_one visit_inside leads front x ≡ Some listed
      → IsOver front x listed ⊎ IsLast visit_inside front x listed
  one_visited visit_inside front x listed is = search (rules, Text, option_map, none-some, same_Some)

  each_listed : (visit_inside : List Text → List Text → Option (List Text)) → ((front own inside : List Text) → visit_inside front own ≡ Some inside → Lists front own inside)
      → (front visited listed : List Text) → visit_each visit_inside leads front visited ≡ Some listed → Lists front visited listed
  each_listed visit_inside good front [] listed is = subst (λ l. Lists front [] l) (same_Some front listed is) (all_visited front)
  each_listed visit_inside good front (x ∷ xs) listed is = of (visit_one visit_inside leads front x) refl is (λ m. each_listed visit_inside good m xs listed)
    where
      joined : (m : List Text) → IsOver front x m ⊎ IsLast visit_inside front x m → Lists m xs listed → Lists front (x ∷ xs) listed
      joined m (inl over) rest = passed_over front xs listed x over.0 (subst (λ f. Lists f xs listed) (sym over.1) rest)
      joined m (inr last) rest =
          listed_last front last.0 last.1 xs listed x last.2 last.3 (good front last.0 last.1 last.4) (subst (λ f. Lists f xs listed) (sym last.5) rest)

      of : (o : Option (List Text)) → visit_one visit_inside leads front x ≡ o → option_and_then (λ m. visit_each visit_inside leads m xs) o ≡ Some listed
          → ((m : List Text) → visit_each visit_inside leads m xs ≡ Some listed → Lists m xs listed) → Lists front (x ∷ xs) listed
      of None e h later = absurd (none-some listed h)
      of (Some m) e h later = joined m (one_visited visit_inside front x m e) (later m h)

  pub visit_lists : (depth : ℕ) (front visited listed : List Text) → visit depth leads front visited ≡ Some listed → Lists front visited listed
  visit_lists zero front [] listed is = subst (λ l. Lists front [] l) (same_Some front listed is) (all_visited front)
  visit_lists zero front (x ∷ xs) listed is = absurd (none-some listed is)
  visit_lists (suc depth) front visited listed is = each_listed (visit depth leads) (visit_lists depth) front visited listed is

  -- ---- what is listed is answered, where visits go as deep as there are names

  module _ (names listed : List Text) (named : (x : Text) (own : List Text) → leads x ≡ Some own → Among names x) (closed : AreClosed leads listed) where
    abbrev IsBelow : List Text → Text → Type 0
    IsBelow above y = Among listed y × AllByRecursion (λ u. rank listed y < rank listed u) above

    -- those whose visits are begun: each ranks below the ones that were begun before it
    abbrev Rise : List Text → Type 0
    Rise [] = ⊤
    Rise (x ∷ above) = IsBelow above x × Rise above

    rise_once : (above : List Text) → Rise above → IsDistinct bytes_eq above
    unfolding IsDistinct
    rise_once [] rise = tt
    rise_once (x ∷ above) rise =
        (each_weaker (λ u. rank listed x < rank listed u) (λ u. bytes_eq x u ≡ false) (other x) above rise.0.1, rise_once above rise.1)
      where
        other : (x u : Text) → rank listed x < rank listed u → bytes_eq x u ≡ false
        other x u less = of (bytes_eq x u) refl
          where
            of : (b : Bool) → bytes_eq x u ≡ b → b ≡ false
            of true same = let e = ap (rank listed) (same_bytes x u same) in absurd (omega (arith, less, e))
            of false other = refl

    rise_named : (above : List Text) → Rise above → AllByRecursion (Among names) above
    rise_named [] rise = tt
    rise_named (x ∷ above) rise = let (own, leads_so, behind) = closed x rise.0.0 in (named x own leads_so, rise_named above rise.1)

    -- so they are no more than the names
    rise_few : (above : List Text) → Rise above → length above ≤ length names
    rise_few above rise = length-le_from_is_member same_texts above names (rise_once above rise) (all_listed names above (rise_named above rise))

    answered : (depth : ℕ) (above front visited made : List Text) → Lists front visited made → Rise above → length names ≤ depth + length above → AllByRecursion (IsBelow above) visited
        → visit depth leads front visited ≡ Some made
    answered zero above front visited made (all_visited f) rise many low = refl
    answered (suc depth) above front visited made (all_visited f) rise many low = refl
    answered zero above front visited made (passed_over f later l x found rest) rise many low = let few = rise_few (x ∷ above) (low.0, rise) in absurd (omega (arith, few, many))
    answered zero above front visited made (listed_last f own inside later l x missing is inner rest) rise many low =
        let few = rise_few (x ∷ above) (low.0, rise) in absurd (omega (arith, few, many))
    answered (suc depth) above front visited made (passed_over f later l x found rest) rise many low = search (rules, found, answered (suc depth) above f later l rest rise many low.1)
    answered (suc depth) above front visited made (listed_last f own inside later l x missing is inner rest) rise many low =
        search (rules, missing, is, answered depth (x ∷ above) f own inside inner (low.0, rise) (omega (arith, many)) lower, answered (suc depth) above (inside ++ x ∷ []) later l rest rise many low.1)
      where
        later_below : (y : Text) → Among listed y × (rank listed y < rank listed x) → IsBelow (x ∷ above) y
        later_below y (among, less) = (among, (less, each_weaker (λ u. rank listed x < rank listed u) (λ u. rank listed y < rank listed u) (λ u more. omega (arith, less, more)) above low.0.1))

        lower : AllByRecursion (IsBelow (x ∷ above)) own
        lower =
            let (there, leads_so, behind) = closed x low.0.0 in
            subst (AllByRecursion (IsBelow (x ∷ above))) (same_Some there own (sym leads_so ∙ is)) (each_weaker (λ y. Among listed y × (rank listed y < rank listed x)) (IsBelow (x ∷ above)) later_below there behind)

  -- where all that lead somewhere are among some names, it goes deep enough by as many as there are of these
  pub lists_visit : (names : List Text) → ((x : Text) (own : List Text) → leads x ≡ Some own → Among names x) → (visited listed : List Text) → Lists [] visited listed
      → visit (length names) leads [] visited ≡ Some listed
  lists_visit names named visited listed lists =
      answered names listed named (all_behind leads visited listed lists) (length names) [] [] visited listed lists tt (omega arith)
      (each_weaker (Among listed) (IsBelow names listed named (all_behind leads visited listed lists) []) (λ y there. (there, tt)) visited (visited_listed leads [] visited listed lists))
