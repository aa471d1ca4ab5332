-- Lists that loops go along, with indices.
use Rattle.std.proofs.Common.{◌≡◌, ◌∙◌, ℕ, zero, suc, ◌+◌, ◌<◌, ◌≤◌, List, [], ◌∷◌, ◌++◌, take, length, get_or, flat_map, Option, Some, None, refl, ap, sym, subst, arith, append_assoc, zero-add}
use Rattle.std.specs.List.{enumerate_from}
use Rattle.std.proofs.lemmas.Grind.{flat_map-append}
use Rattle.std.proofs.lemmas.List.{append-nil, take_all}
use Rattle.std.proofs.lemmas.List.FromFn.{get_or-enumerate_from, length-enumerate_from}
use Rattle.pg_notes.proofs.Firsts.{taken_more}

module _ {A B : Type 0} (f : ℕ × A → List B) (xs : List A) (i : ℕ) (old before : List B) where
  -- what is told of one item more
  pub told_more : (x : A) (after : List B) → i < length xs → x ≡ get_or xs i x → before ≡ old ++ flat_map f (take i (enumerate_from 0 xs)) → after ≡ before ++ f (i, x) → after ≡ old ++ flat_map f (take (i + 1) (enumerate_from 0 xs))
  told_more x after within here told more =
      let at : (i, x) ≡ get_or (enumerate_from 0 xs) i (i, x) = ap (λ y. (i, y)) here ∙ (ap (λ k. (k, get_or xs i x)) (sym (zero-add i)) ∙ sym (get_or-enumerate_from 0 xs i (i, x) within)) in
      let long : i < length (enumerate_from 0 xs) = subst (λ n. i < n) (sym (length-enumerate_from 0 xs)) within in
      let taken = taken_more (enumerate_from 0 xs) i (i, x) long at in
      more ∙ (ap (λ ys. ys ++ f (i, x)) told ∙ (append_assoc old (flat_map f (take i (enumerate_from 0 xs))) (f (i, x))
      ∙ ap (λ ys. old ++ ys) (ap (λ ys. flat_map f (take i (enumerate_from 0 xs)) ++ ys) (sym (append-nil (f (i, x))))
      ∙ (sym (flat_map-append f (take i (enumerate_from 0 xs)) ((i, x) ∷ [])) ∙ ap (flat_map f) (sym taken)))))

  -- all is told
  pub told_all : length xs ≤ i → before ≡ old ++ flat_map f (take i (enumerate_from 0 xs)) → before ≡ old ++ flat_map f (enumerate_from 0 xs)
  told_all all told =
      told ∙ ap (λ ys. old ++ flat_map f ys) (take_all i (enumerate_from 0 xs) (subst (λ n. n ≤ i) (sym (length-enumerate_from 0 xs)) all))

-- there is an item at each index within
item_at : {A : Type 0} (xs : List A) (i : ℕ) → i < length xs → (x : A) × (x ≡ get_or xs i x)
item_at [] i within = absurd (omega arith)
item_at (x ∷ xs) zero within = (x, refl)
item_at (x ∷ xs) (suc i) within = item_at xs i (omega arith)

-- what is told of one index more
pub told_each : {A B : Type 0} (g : ℕ → List B) (xs : List A) (i : ℕ) (old before after : List B) → i < length xs → before ≡ old ++ flat_map (λ (at : ℕ × A). g at.0) (take i (enumerate_from 0 xs)) → after ≡ before ++ g i
    → after ≡ old ++ flat_map (λ (at : ℕ × A). g at.0) (take (i + 1) (enumerate_from 0 xs))
told_each {A} g xs i old before after within told more =
    let item = item_at xs i within in told_more (λ (at : ℕ × A). g at.0) xs i old before item.0 after within item.1 told more

-- nothing is there
pub none_there : {A : Type 0} (found : Option A) → ((x : A) → found ≡ Some x → ⊥) → found ≡ None
none_there None never = refl
none_there (Some x) never = absurd (never x refl)
