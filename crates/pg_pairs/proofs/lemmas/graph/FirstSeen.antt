-- Lists that have each pair once, where it was first seen.
use Rattle.std.proofs.Common.{◌≡◌, List, [], ◌∷◌, ◌++◌, filter, Bool, true, false, not, ◌||◌, cond, refl, ap, ◌∙◌, append-nil, rules}
use Rattle.pg_pairs.specs.declared.choices.choice.Pair.{Pair}
use Rattle.pg_pairs.specs.bounds.Covering.{same_pair, distinct}
use Rattle.pg_pairs.specs.laws.EdgeChildren.{same_pair-true}
use Rattle.pg_pairs.specs.inner.Seen.{has_pair}

-- a filter that drops no pair that is the same as p
has-filter : (test : Pair → Bool) (p : Pair) → ((q : Pair) → same_pair q p ≡ true → test q ≡ true) → (ps : List Pair) → has_pair (filter test ps) p ≡ has_pair ps p
has-filter test p keeps [] = refl
has-filter test p keeps (q ∷ ps) = search (rules, has-filter test p keeps ps)

-- One pair more is at the end, if it wasn't there.
pub distinct-more : (ps : List Pair) (p : Pair) → distinct (ps ++ p ∷ []) ≡ cond (has_pair (distinct ps) p) (distinct ps) (distinct ps ++ p ∷ [])
distinct-more [] p = refl
distinct-more (x ∷ ps) p = ap (λ qs. x ∷ filter (λ q. not (same_pair x q)) qs) (distinct-more ps p) ∙ of (same_pair x p) (has_pair (distinct ps) p) refl refl
  where
    filter-end : (qs : List Pair) → filter (λ q. not (same_pair x q)) (qs ++ p ∷ []) ≡ filter (λ q. not (same_pair x q)) qs ++ filter (λ q. not (same_pair x q)) (p ∷ [])
    filter-end [] = refl
    filter-end (q ∷ qs) = elim (not (same_pair x q)) as (λ b. cond b (q ∷ filter (λ q. not (same_pair x q)) (qs ++ p ∷ [])) (filter (λ q. not (same_pair x q)) (qs ++ p ∷ [])) ≡ cond b (q ∷ filter (λ q. not (same_pair x q)) qs) (filter (λ q. not (same_pair x q)) qs) ++ filter (λ q. not (same_pair x q)) (p ∷ [])) [ true ↦ ap (λ zs. q ∷ zs) (filter-end qs) | false ↦ filter-end qs ]

    -- where x isn't p, what is dropped isn't p either
    keeps : same_pair x p ≡ false → (q : Pair) → same_pair q p ≡ true → not (same_pair x q) ≡ true
    keeps apart q same = search (rules, same_pair-true)

    of : (s t : Bool) → same_pair x p ≡ s → has_pair (distinct ps) p ≡ t →
        x ∷ filter (λ q. not (same_pair x q)) (cond (has_pair (distinct ps) p) (distinct ps) (distinct ps ++ p ∷ []))
        ≡ cond (same_pair x p || has_pair (filter (λ q. not (same_pair x q)) (distinct ps)) p) (x ∷ filter (λ q. not (same_pair x q)) (distinct ps)) (x ∷ filter (λ q. not (same_pair x q)) (distinct ps) ++ p ∷ [])
    of true true is_s is_t = rw (is_t, is_s)
    of true false is_s is_t = rw (is_t, filter-end (distinct ps), is_s) (ap (λ qs. x ∷ qs) (append-nil (filter (λ q. not (same_pair x q)) (distinct ps))))
    of false true is_s is_t = rw (is_s, has-filter (λ q. not (same_pair x q)) p (keeps is_s) (distinct ps), is_t)
    of false false is_s is_t = rw (is_s, has-filter (λ q. not (same_pair x q)) p (keeps is_s) (distinct ps), is_t, filter-end (distinct ps), is_s)
