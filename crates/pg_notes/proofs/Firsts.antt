-- Tables of first indices, one item after the other.
use Rattle.std.proofs.Common.{◌≡◌, ◌∙◌, ℕ, suc, ◌+◌, ◌<◌, Bool, true, false, cond, List, [], ◌∷◌, ◌++◌, take, length, get_or, Option, Some, None, is_some, refl, ap, sym, arith, add-one, add-zero}
use Rattle.std.specs.Bool.{Decides}
use Rattle.std.specs.List.{position_from}
use Rattle.std.proofs.lemmas.List.{length-take-le}
use Rattle.std.proofs.Math.Seq.{take-suc}
use Rattle.pg_notes.specs.inner.Tables.{found_or}

-- one item more is found where none before it is
from_pushed : {A : Type 0} (p : A → Bool) (n : ℕ) (xs : List A) (y : A) → position_from p n (xs ++ y ∷ []) ≡ found_or (position_from p n xs) (p y) (n + length xs)
from_pushed p n [] y = ap (λ k. cond (p y) (Some k) None) (sym (add-zero n))
from_pushed p n (x ∷ xs) y = of (p x) (from_pushed p (n + 1) xs y ∙ ap (λ k. found_or (position_from p (n + 1) xs) (p y) k) (omega arith))
  where
    of : (b : Bool) → position_from p (n + 1) (xs ++ y ∷ []) ≡ found_or (position_from p (n + 1) xs) (p y) (n + suc (length xs))
        → cond b (Some n) (position_from p (n + 1) (xs ++ y ∷ [])) ≡ found_or (cond b (Some n) (position_from p (n + 1) xs)) (p y) (n + suc (length xs))
    of true later = refl
    of false later = later

-- the items below an index and the one at it
pub taken_more : {A : Type 0} (xs : List A) (i : ℕ) (x : A) → i < length xs → x ≡ get_or xs i x → take (i + 1) xs ≡ take i xs ++ x ∷ []
taken_more xs i x within here = ap (λ n. take n xs) (add-one i) ∙ (take-suc xs i x within ∙ ap (λ y. take i xs ++ y ∷ []) (sym here))

pub first_more : {A : Type 0} (p : A → Bool) (xs : List A) (i : ℕ) (x : A) → i < length xs → x ≡ get_or xs i x → position_from p 0 (take (i + 1) xs) ≡ found_or (position_from p 0 (take i xs)) (p x) i
first_more p xs i x within here =
    ap (position_from p 0) (taken_more xs i x within here) ∙ (from_pushed p 0 (take i xs) x
    ∙ ap (λ k. found_or (position_from p 0 (take i xs)) (p x) k) (let long = length-take-le i xs (omega arith) in omega (arith, long)))

-- a table with one key more, or that has it already
module _ {K : Type 0} (eq : K → K → Bool) (decides : (a b : K) → Decides (eq a b) (a ≡ b)) (old : K → Option ℕ) (key : K) (i : ℕ) where
  pub added : old key ≡ None → (q : K) → cond (eq key q) (Some i) (old q) ≡ found_or (old q) (eq q key) i
  added fresh q = elim (eq key q) as (λ b. eq key q ≡ b → cond b (Some i) (old q) ≡ found_or (old q) (eq q key) i) [
    | true ↦ λ is. let same : key ≡ q = (decides key q).0 is in
        let none : old q ≡ None = ap old (sym same) ∙ fresh in
        let found : eq q key ≡ true = (decides q key).1 (sym same) in rw (none, found) refl
    | false ↦ λ is. other (old q) (eq q key) (λ found. let same : q ≡ key = (decides q key).0 found in let again : eq key q ≡ true = (decides key q).1 (sym same) in absurd (cc))
  ] refl
    where
      other : (found : Option ℕ) (b : Bool) → (b ≡ true → ⊥) → found ≡ found_or found b i
      other (Some j) b never = refl
      other None true never = absurd (never refl)
      other None false never = refl

  pub kept : is_some (old key) ≡ true → (q : K) → old q ≡ found_or (old q) (eq q key) i
  kept there q = of (old q) (eq q key) (λ none found. let same : q ≡ key = (decides q key).0 found in
      let never : is_some (old key) ≡ false = ap (λ k. is_some (old k)) (sym same) ∙ ap is_some none in absurd (cc))
    where
      of : (found : Option ℕ) (b : Bool) → (found ≡ None → b ≡ true → ⊥) → found ≡ found_or found b i
      of (Some j) b never = refl
      of None true never = absurd (never refl refl)
      of None false never = refl

-- nothing is there
pub none_there : (found : Option ℕ) → is_some found ≡ false → found ≡ None
none_there None is = refl
none_there (Some i) is = absurd (cc)
