-- Files in post-order of imports: each comes after those that it imports, and none is listed twice.
use Rattle.std.proofs.Common.{◌≡◌, ℕ, ◌<◌, ◌⊎◌, inl, inr, Bool, true, false, ◌||◌, List, [], ◌∷◌, ◌++◌, Option, Some, refl, sym, subst, ◌∙◌, arith}
use Rattle.std.proofs.lemmas.Bool.{false≢true}
use Rattle.std.proofs.lemmas.List.{append-nil, append_assoc}
use Rattle.std.proofs.lemmas.Option.{same_Some}
use Rattle.std.specs.Bool.{⊤}
use Rattle.std.specs.List.{AllByRecursion, list_any}
use Rattle.std.specs.Str.{bytes_eq}
use Rattle.pg_schema.specs.standing.Visits.{Visits, all_visited, listed_last, passed_over}
use Rattle.pg_dyn.proofs.Lists.{each_weaker}
use Rattle.pg_set.proofs.lemmas.lists.Marks.{any_more}
use Rattle.pg_set.proofs.lemmas.order.Visited.{Among, Text, all_behind, rank, same_bytes, visited_listed}

module _ (leads : Text → Option (List Text)) where
  abbrev Lists : (front visited listed : List Text) → Type 0
  Lists front visited listed = Visits bytes_eq leads front visited listed

  -- the path leads to some of these names, and is none of them
  abbrev pub Follows : (names : List Text) → Text → Type 0
  Follows names x = (own : List Text) × (leads x ≡ Some own) × AllByRecursion (Among names) own × (list_any (bytes_eq x) names ≡ false)

  -- so does each path, after those of these names and the ones before it
  abbrev pub AllFollow : (names paths : List Text) → Type 0
  AllFollow names [] = ⊤
  AllFollow names (x ∷ paths) = Follows names x × AllFollow (names ++ x ∷ []) paths

  follow_more : (names paths : List Text) (x : Text) → AllFollow names paths → Follows (names ++ paths) x → AllFollow names (paths ++ x ∷ [])
  follow_more names [] x all next = (subst (λ ns. Follows ns x) (append-nil names) next, tt)
  follow_more names (y ∷ paths) x all next =
      (all.0, follow_more (names ++ y ∷ []) paths x all.1 (subst (λ ns. Follows ns x) (sym (append_assoc names (y ∷ []) paths)) next))

  module _ (visited_last listed_last_of : List Text) (whole : Lists [] visited_last listed_last_of) where
    abbrev Stands : Text → Type 0
    Stands = Among listed_last_of

    abbrev ranks : Text → ℕ
    ranks = rank listed_last_of

    abbrev AreLow : (limit : ℕ) → List Text → Type 0
    AreLow limit visited = AllByRecursion (λ y. Stands y × (ranks y < limit)) visited

    falls : (x : Text) → Stands x → (own : List Text) → leads x ≡ Some own → AreLow (ranks x) own
    falls x stands own is =
        let (there, leads_so, low) = all_behind leads visited_last listed_last_of whole x stands in
        subst (AreLow (ranks x)) (same_Some there own (sym leads_so ∙ is)) low

    -- what is listed newly has a low rank where what is visited has one
    new_low : (limit : ℕ) (front visited listed : List Text) → Lists front visited listed → AreLow limit visited → (y : Text) → Among listed y → Among front y ⊎ (ranks y < limit)
    new_low limit front visited listed (all_visited f) low y among = inl among
    new_low limit front visited listed (passed_over f later l x found rest) low y among = new_low limit f later l rest low.1 y among
    new_low limit front visited listed (listed_last f own inside later l x missing is inner rest) low y among =
        of (new_low limit (inside ++ x ∷ []) later l rest low.1 y among) (λ there. new_low limit f own inside inner lower y there)
      where
        lower : AreLow limit own
        lower =
            let first = low.0.1 in
            each_weaker (λ z. Stands z × (ranks z < ranks x)) (λ z. Stands z × (ranks z < limit)) (λ z h. let less = h.1 in (h.0, omega (arith, less, first))) own (falls x low.0.0 own is)

        either : (a b : Bool) → list_any (bytes_eq y) inside ≡ a → bytes_eq y x ≡ b → (a || b) ≡ true → (Among inside y → Among f y ⊎ (ranks y < limit)) → Among f y ⊎ (ranks y < limit)
        either true b there e h deeper = deeper there
        either false true there e h deeper = inr (subst (λ z. ranks z < limit) (sym (same_bytes y x e)) low.0.1)
        either false false there e h deeper = absurd (false≢true h)

        of : Among (inside ++ x ∷ []) y ⊎ (ranks y < limit) → (Among inside y → Among f y ⊎ (ranks y < limit)) → Among f y ⊎ (ranks y < limit)
        of (inl there) deeper = either (list_any (bytes_eq y) inside) (bytes_eq y x) refl refl (sym (any_more (bytes_eq y) inside x) ∙ there) deeper
        of (inr less) deeper = inr less

    follow : (front visited listed : List Text) → Lists front visited listed → AllByRecursion Stands visited → AllFollow [] front → AllFollow [] listed
    follow front visited listed (all_visited f) stand before = before
    follow front visited listed (passed_over f later l x found rest) stand before = follow f later l rest stand.1 before
    follow front visited listed (listed_last f own inside later l x missing is inner rest) stand before =
        follow (inside ++ x ∷ []) later l rest stand.1
        (follow_more [] inside x (follow f own inside inner (each_weaker (λ z. Stands z × (ranks z < ranks x)) Stands (λ z h. h.0) own low) before)
        (own, is, visited_listed leads f own inside inner, new (list_any (bytes_eq x) inside) refl))
      where
        low : AreLow (ranks x) own
        low = falls x stand.0 own is

        old : Among f x ⊎ (ranks x < ranks x) → ⊥
        old (inl there) = false≢true (sym missing ∙ there)
        old (inr less) = absurd (omega (arith, less))

        new : (b : Bool) → list_any (bytes_eq x) inside ≡ b → b ≡ false
        new true there = absurd (old (new_low (ranks x) f own inside inner low x there))
        new false there = refl

    pub all_follow : AllFollow [] listed_last_of
    all_follow = follow [] visited_last listed_last_of whole (visited_listed leads [] visited_last listed_last_of whole) tt
