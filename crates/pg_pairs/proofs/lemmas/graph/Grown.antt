-- Lists that have each pair once, as they grow.
use Rattle.std.proofs.Common.{◌≡◌, ℕ, ◌+◌, ◌<◌, List, [], ◌∷◌, ◌++◌, take, length, get_or, true, false, not, ◌||◌, cond, if◌then◌else◌, refl, ap, sym, ◌∙◌, append-nil, append_assoc, add-one, rules}
use Rattle.std.specs.BTreeSet.{BTreeSet, Updates, contains}
use Rattle.std.specs.List.{AllByRecursion}
use Rattle.std.proofs.Math.Seq.{take-suc}
use Rattle.pg_pairs.specs.declared.choices.choice.Pair.{Pair}
use Rattle.pg_pairs.specs.bounds.Covering.{same_pair, distinct}
use Rattle.pg_pairs.specs.laws.ByIndices.{by_indices}
use Rattle.pg_pairs.specs.inner.Seen.{has_pair, AreSeen}
use Rattle.pg_dyn.proofs.Lists.{each_filtered}
use Rattle.pg_pairs.specs.laws.EdgeChildren.{same_pair-true}
use Rattle.pg_pairs.proofs.lemmas.graph.FirstSeen.{distinct-more}

-- a list with one pair more, if it isn't there
abbrev pub grown : List Pair → Pair → List Pair
grown ps p = if has_pair ps p then ps else ps ++ p ∷ []

pub grown_new : (ps : List Pair) (p : Pair) → has_pair ps p ≡ false → grown ps p ≡ ps ++ p ∷ []
grown_new ps p h = rw h refl

pub grown_again : (ps : List Pair) (p : Pair) → has_pair ps p ≡ true → grown ps p ≡ ps
grown_again ps p h = rw h refl

pub take_more : {X : Type 0} (xs : List X) (i : ℕ) (d : X) → i < length xs → take (i + 1) xs ≡ take i xs ++ get_or xs i d ∷ []
take_more xs i d inside = ap (λ n. take n xs) (add-one i) ∙ take-suc xs i d inside

-- lists with the same distinct pairs grow alike
alike : (xs zs ys : List Pair) → distinct xs ≡ distinct zs → distinct (xs ++ ys) ≡ distinct (zs ++ ys)
alike xs zs [] h = ap distinct (append-nil xs) ∙ h ∙ sym (ap distinct (append-nil zs))
alike xs zs (y ∷ ys) h =
    ap distinct (sym (append_assoc xs (y ∷ []) ys))
    ∙ alike (xs ++ y ∷ []) (zs ++ y ∷ []) ys (distinct-more xs y ∙ ap (λ ps. grown ps y) h ∙ sym (distinct-more zs y))
    ∙ ap distinct (append_assoc zs (y ∷ []) ys)

grown_once : (zs : List Pair) (y : Pair) → distinct zs ≡ zs → distinct (grown zs y) ≡ grown zs y
grown_once zs y once = search (rules, distinct-more, grown_new)

-- the front of a list that has each pair once may be grown first
first_grown : (zs : List Pair) (y : Pair) (ys : List Pair) → distinct zs ≡ zs → distinct (zs ++ y ∷ ys) ≡ distinct (grown zs y ++ ys)
first_grown zs y ys once =
    ap distinct (sym (append_assoc zs (y ∷ []) ys))
    ∙ alike (zs ++ y ∷ []) (grown zs y) ys (distinct-more zs y ∙ ap (λ ps. grown ps y) once ∙ sym (grown_once zs y once))

once_after : (zs ys : List Pair) → distinct zs ≡ zs → distinct (distinct (zs ++ ys)) ≡ distinct (zs ++ ys)
once_after zs [] once = search (rules, append-nil)
once_after zs (y ∷ ys) once =
    search (rules, once_after (grown zs y) ys (grown_once zs y once), first_grown, grown_once)

-- distinct pairs are so again
pub distinct-again : (ps : List Pair) → distinct (distinct ps) ≡ distinct ps
distinct-again ps = once_after [] ps refl

-- distinct pairs stay at the front
pub grown_after : (zs ys : List Pair) → distinct zs ≡ zs → (more : List Pair) × (distinct (zs ++ ys) ≡ zs ++ more)
grown_after zs [] once = ([], ap distinct (append-nil zs) ∙ once ∙ sym (append-nil zs))
grown_after zs (y ∷ ys) once =
    search (rules, grown_after (grown zs y) ys (grown_once zs y once), first_grown, grown_once, grown_again, grown_new, append_assoc)

-- only the distinct pairs of the front matter
pub distinct-front : (xs ys : List Pair) → distinct (distinct xs ++ ys) ≡ distinct (xs ++ ys)
distinct-front xs ys = alike (distinct xs) xs ys (distinct-again xs)

-- the front of a list with one pair more
pub one_more : (front xs : List Pair) (i : ℕ) (d : Pair) → i < length xs → (ps : List Pair) → ps ≡ distinct (front ++ take i xs) → distinct (front ++ take (i + 1) xs) ≡ grown ps (get_or xs i d)
one_more front xs i d inside ps so_far =
    let x = get_or xs i d in
    ap (λ ys. distinct (front ++ ys)) (take_more xs i d inside) ∙ ap distinct (sym (append_assoc front (take i xs) (x ∷ []))) ∙ distinct-more (front ++ take i xs) x ∙ ap (λ qs. grown qs x) (sym so_far)

pub each_distinct : (P : Pair → Type 0) (ps : List Pair) → AllByRecursion P ps → AllByRecursion P (distinct ps)
each_distinct P [] h = tt
each_distinct P (p ∷ ps) h = (h.0, each_filtered P (λ q. not (same_pair p q)) (distinct ps) (each_distinct P ps h.1))

-- The set of what was seen.

has-end : (ps : List Pair) (q p : Pair) → has_pair (ps ++ q ∷ []) p ≡ cond (same_pair q p) true (has_pair ps p)
has-end [] q p = elim (same_pair q p) as (λ b. (b || false) ≡ cond b true false) [ true ↦ refl | false ↦ refl ]
has-end (x ∷ ps) q p = search (rules, has-end ps q p)

module _ (ps : List Pair) (q : Pair) (seen after : BTreeSet (ℕ × ℕ)) (agrees : AreSeen ps seen) (updates : Updates by_indices seen after (q.old.index, q.new.index) true) where
  seen_after : (p : Pair) → contains by_indices after (p.old.index, p.new.index) ≡ cond (same_pair q p) true (has_pair ps p)
  seen_after p = search rules

  pub seen_new : AreSeen (ps ++ q ∷ []) after
  seen_new p = seen_after p ∙ sym (has-end ps q p)

  pub seen_again : has_pair ps q ≡ true → AreSeen ps after
  seen_again there p = search (rules, seen_after, same_pair-true)
