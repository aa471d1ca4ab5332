-- Lists of what may be nothing.
use Rattle.std.proofs.Common.{false, is_some, ◌≡◌, ◌⊎◌, inl, inr, ℕ, zero, suc, ◌+◌, ◌<◌, Option, Some, None, option_map, option_and_then, List, [], ◌∷◌, ◌++◌, length, map, take, get_or, slice_get, refl, ap, sym, ◌∙◌, arith, add-one}
use Rattle.std.proofs.lemmas.Bool.{false≢true}
use Rattle.std.proofs.lemmas.Option.{none-some, same_Some}
use Rattle.pg_set.specs.stated.StatedNames.{both, each}
use Rattle.pg_set.proofs.lemmas.order.OrderSteps.{map_more, suc_of}

pub not_some : {A : Type 0} (o : Option A) → is_some o ≡ false → o ≡ None
not_some None h = refl
not_some (Some x) h = absurd (false≢true (sym h))

module _ {A B : Type 0} (f : A → Option B) where
  abbrev and_rest : Option B → Option (List B) → Option (List B)
  and_rest first rest = option_and_then (λ y. option_map (λ ys. y ∷ ys) rest) first

  both_there : (first : Option B) (rest : Option (List B)) (y : B) (ys : List B) → first ≡ Some y → rest ≡ Some ys → and_rest first rest ≡ Some (y ∷ ys)
  both_there first rest y ys one all = ap (λ a. and_rest a rest) one ∙ ap (λ b. and_rest (Some y) b) all

  pub each_cons : (x : A) (xs : List A) (y : B) (ys : List B) → f x ≡ Some y → each f xs ≡ Some ys → each f (x ∷ xs) ≡ Some (y ∷ ys)
  each_cons x xs y ys one all = both_there (f x) (each f xs) y ys one all

  nothing_more : (ys : List B) → ◌≡◌ {A = Option (List B)} (Some []) (Some ys) → ys ≡ []
  nothing_more ys same = sym (same_Some [] ys same)

  pub each_push : (xs : List A) (x : A) (ys : List B) (y : B) → each f xs ≡ Some ys → f x ≡ Some y → each f (xs ++ x ∷ []) ≡ Some (ys ++ y ∷ [])
  each_push [] x ys y all one = each_cons x [] y [] one refl ∙ ap (λ zs. Some (zs ++ y ∷ [])) (sym (nothing_more ys all))
  each_push (z ∷ xs) x ys y all one = step (λ ws are. each_push xs x ws y are one) (f z) (each f xs) refl refl all
    where
      step : ((ws : List B) → each f xs ≡ Some ws → each f (xs ++ x ∷ []) ≡ Some (ws ++ y ∷ [])) → (first : Option B) (rest : Option (List B)) → f z ≡ first → each f xs ≡ rest → and_rest first rest ≡ Some ys
          → each f (z ∷ xs ++ x ∷ []) ≡ Some (ys ++ y ∷ [])
      step later None rest is are same = absurd (none-some ys same)
      step later (Some w) None is are same = absurd (none-some ys same)
      step later (Some w) (Some ws) is are same =
          each_cons z (xs ++ x ∷ []) w (ws ++ y ∷ []) is (later ws are) ∙ ap (λ vs. Some (vs ++ y ∷ [])) (same_Some (w ∷ ws) ys same)

  none_rest : (first : Option B) → and_rest first None ≡ None
  none_rest None = refl
  none_rest (Some y) = refl

  pub each_first : (x : A) (xs : List A) → f x ≡ None → each f (x ∷ xs) ≡ None
  each_first x xs none = ap (λ a. and_rest a (each f xs)) none

  pub each_rest : (x : A) (xs : List A) → each f xs ≡ None → each f (x ∷ xs) ≡ None
  each_rest x xs none = ap (λ b. and_rest (f x) b) none ∙ none_rest (f x)

  -- nothing of one is nothing of all
  pub each_none : {Z : Type 0} (see : Z → A) (zs : List Z) (i : ℕ) (z : Z) → i < length zs → z ≡ get_or zs i z → f (see z) ≡ None → each f (map see zs) ≡ None
  each_none see [] i z h is none = absurd (omega (arith, h))
  each_none see (w ∷ zs) zero z h is none = ap (λ a. and_rest a (each f (map see zs))) (ap (λ v. f (see v)) (sym is) ∙ none)
  each_none see (w ∷ zs) (suc i) z h is none =
      ap (λ b. and_rest (f (see w)) b) (each_none see zs i z (omega (arith, h)) is none) ∙ none_rest (f (see w))

  -- one more
  pub each_more : {Z : Type 0} (see : Z → A) (zs : List Z) (i : ℕ) (z : Z) (ys : List B) (y : B) → i < length zs → z ≡ get_or zs i z → each f (map see (take i zs)) ≡ Some ys → f (see z) ≡ Some y
      → each f (map see (take (i + 1) zs)) ≡ Some (ys ++ y ∷ [])
  each_more see zs i z ys y h is all one = rw add-one (ap (each f) (suc_of see zs i z h is) ∙ each_push (map see (take i zs)) (see z) ys y all one)

-- ---- one after the other, by what is made of them

module _ {Z A V : Type 0} (f : A → Option V) (see : Z → A) where
  pub made_more : {C : Type 0} (view : C → V) (zs : List Z) (i : ℕ) (z : Z) (cs : List C) (c : C) → i < length zs → z ≡ get_or zs i z → each f (map see (take i zs)) ≡ Some (map view cs) → f (see z) ≡ Some (view c)
      → each f (map see (take (i + 1) zs)) ≡ Some (map view (cs ++ c ∷ []))
  made_more view zs i z cs c h is all one = each_more f see zs i z (map view cs) (view c) h is all one ∙ ap Some (sym (map_more view cs c))

  -- nothing of one, memory aside, is nothing of all
  pub made_none : (E : Type 0) (zs : List Z) (i : ℕ) (z : Z) → i < length zs → z ≡ get_or zs i z → E ⊎ (f (see z) ≡ None) → E ⊎ (each f (map see zs) ≡ None)
  made_none E zs i z h is (inl e) = inl e
  made_none E zs i z h is (inr none) = inr (each_none f see zs i z h is none)

-- what is of each is of all
pub each_of : {A B V : Type 0} (f : A → Option V) (row : B → A) (view : B → V) (xs : List B) → ((place : ℕ) (x : B) → slice_get xs place ≡ Some x → f (row x) ≡ Some (view x)) → each f (map row xs) ≡ Some (map view xs)
each_of f row view [] one = refl
each_of f row view (x ∷ xs) one = each_cons f (row x) (map row xs) (view x) (map view xs) (one 0 x refl) (each_of f row view xs (λ place y at. one (suc place) y at))

-- ---- steps that come to nothing

pub both_are : {A B C : Type 0} (f : A → B → C) (a : Option A) (b : Option B) (x : A) (y : B) → a ≡ Some x → b ≡ Some y → both f a b ≡ Some (f x y)
both_are f a b x y one other = ap (λ o. both f o b) one ∙ ap (λ o. both f (Some x) o) other

-- where something is asked for memory alone or comes to nothing, so is what is made of it
pub passed : {A B E : Type 0} (o : Option A) (p : Option B) → (o ≡ None → p ≡ None) → E ⊎ (o ≡ None) → E ⊎ (p ≡ None)
passed o p on (inl e) = inl e
passed o p on (inr none) = inr (on none)
