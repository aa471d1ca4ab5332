-- The ranks of oneofs, which are how many real ones come before each.
use Rattle.std.proofs.Common.{◌≡◌, ℕ, zero, suc, ◌+◌, ◌<◌, Bool, true, false, cond, not, List, [], ◌∷◌, ◌++◌, filter, length, take, get_or, ap, sym, ◌∙◌, arith, add-one, rules}
use Rattle.std.proofs.lemmas.List.{get_or_append_left as in_front, get_or_push, length-append}
use Rattle.pg_set.specs.inner.reading.Made.{AreRanks}
use Rattle.pg_set.specs.stated.StatedOneofs.{unmarked}
use Rattle.pg_set.proofs.lemmas.writing.FileLaws.{same_default}
use Rattle.pg_set.proofs.lemmas.lists.Tests.{below, not_below}

-- ---- one mark more

free_suc : (marks : List Bool) (place : ℕ) (d : Bool) → place < length marks → get_or marks place d ≡ false → unmarked marks (suc place) ≡ suc (unmarked marks place)
free_suc [] place d within free = absurd (omega (arith, within))
free_suc (m ∷ marks) zero d within free = ap (λ b. length (cond (not b) (b ∷ []) [])) free
free_suc (m ∷ marks) (suc place) d within free = of m (free_suc marks place d (omega (arith, within)) free)
  where
    of : (b : Bool) → unmarked marks (suc place) ≡ suc (unmarked marks place)
        → length (cond (not b) (b ∷ filter not (take (suc place) marks)) (filter not (take (suc place) marks))) ≡ suc (length (cond (not b) (b ∷ filter not (take place marks)) (filter not (take place marks))))
    of true later = later
    of false later = ap suc later

marked_suc : (marks : List Bool) (place : ℕ) (d : Bool) → place < length marks → get_or marks place d ≡ true → unmarked marks (suc place) ≡ unmarked marks place
marked_suc [] place d within marked = absurd (omega (arith, within))
marked_suc (m ∷ marks) zero d within marked = ap (λ b. length (cond (not b) (b ∷ []) [])) marked
marked_suc (m ∷ marks) (suc place) d within marked = of m (marked_suc marks place d (omega (arith, within)) marked)
  where
    of : (b : Bool) → unmarked marks (suc place) ≡ unmarked marks place
        → length (cond (not b) (b ∷ filter not (take (suc place) marks)) (filter not (take (suc place) marks))) ≡ length (cond (not b) (b ∷ filter not (take place marks)) (filter not (take place marks)))
    of true later = later
    of false later = ap suc later

module _ (marks : List Bool) where
  pub free_more : (place rank : ℕ) (d : Bool) → place < length marks → get_or marks place d ≡ false → rank ≡ unmarked marks place → rank + 1 ≡ unmarked marks (place + 1)
  free_more place rank d within free own = add-one rank ∙ (ap suc own ∙ (sym (free_suc marks place d within free) ∙ ap (unmarked marks) (sym (add-one place))))

  pub marked_more : (place rank : ℕ) (d : Bool) → place < length marks → get_or marks place d ≡ true → rank ≡ unmarked marks place → rank ≡ unmarked marks (place + 1)
  marked_more place rank d within marked own = own ∙ (sym (marked_suc marks place d within marked) ∙ ap (unmarked marks) (sym (add-one place)))

  -- ---- one rank more

  pub ranks_more : (place rank : ℕ) (found : List ℕ) → rank ≡ unmarked marks place → AreRanks marks place found → AreRanks marks (place + 1) (found ++ rank ∷ [])
  ranks_more place rank found own are = search (rules, length-append, get_or, in_front, below, not_below, get_or_push)

  pub rank_is : (found : List ℕ) (place rank : ℕ) → AreRanks marks (length marks) found → place < length marks → rank ≡ get_or found place rank → rank ≡ unmarked marks place
  rank_is found place rank are within is = search (rules, same_default)
