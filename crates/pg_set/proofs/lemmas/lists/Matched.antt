-- What holds of one of a list, and the list without that one.
use Rattle.std.proofs.Common.{◌≡◌, ℕ, suc, true, not, ◌⊎◌, inl, inr, List, [], ◌∷◌, length, refl, ap, sym, ◌∙◌}
use Rattle.std.proofs.lemmas.Bool.{false≢true}
use Rattle.std.proofs.lemmas.Slice.Eq.{bytes_eq-Decides}
use Rattle.pg_schema.specs.rules.Pairs.{differ}

pub differ_apart : (a b : List ℕ) → differ a b ≡ true → a ≡ b → ⊥
differ_apart a b h same = false≢true (sym (ap not ((bytes_eq-Decides a b).1 same)) ∙ h)

-- it holds of one of the list
abbrev pub Has : {A : Type 0} → (A → Type 0) → List A → Type 0
Has P [] = ⊥
Has P (x ∷ xs) = P x ⊎ Has P xs

-- the list without that one
abbrev pub rest : {A : Type 0} (P : A → Type 0) (xs : List A) → Has P xs → List A
rest P [] has = []
rest P (x ∷ xs) (inl here) = xs
rest P (x ∷ xs) (inr later) = x ∷ rest P xs later

pub rest_length : {A : Type 0} (P : A → Type 0) (xs : List A) (has : Has P xs) → suc (length (rest P xs has)) ≡ length xs
rest_length P [] has = absurd has
rest_length P (x ∷ xs) (inl here) = refl
rest_length P (x ∷ xs) (inr later) = ap suc (rest_length P xs later)

-- what another thing holds of is still there
pub still : {A : Type 0} (P Q : A → Type 0) → ((x : A) → P x → Q x → ⊥) → (xs : List A) (has : Has P xs) → Has Q xs → Has Q (rest P xs has)
still P Q apart [] has other = absurd has
still P Q apart (x ∷ xs) (inl here) (inl other) = absurd (apart x here other)
still P Q apart (x ∷ xs) (inl here) (inr other) = other
still P Q apart (x ∷ xs) (inr later) (inl other) = inl other
still P Q apart (x ∷ xs) (inr later) (inr other) = inr (still P Q apart xs later other)
