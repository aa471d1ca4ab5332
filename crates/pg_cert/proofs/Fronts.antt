-- Fronts of strings, and what follows them.
use Rattle.std.specs.Borrow.{Bor}
use Rattle.std.specs.Prelude.{MatchOption, IfSome}
use Rattle.std.proofs.Common.{◌≡◌, ℕ, ◌+◌, eqb, true, false, List, [], ◌∷◌, ◌++◌, take, drop, length, Option, Some, None, refl, ap, sym, ◌∙◌, true≢false}
use Rattle.std.specs.Option.{option_copied}
use Rattle.std.proofs.lemmas.List.{take-append-drop}
use lib.Pointwise.{pointwise}
use Rattle.pg_cert.proofs.WordsRead.{same_bytes, bytes_same}

front_of : (front rest : List ℕ) → take (length front) (front ++ rest) ≡ front
front_of [] rest = refl
front_of (x ∷ front) rest = ap (λ xs. x ∷ xs) (front_of front rest)

back_of : (front rest : List ℕ) → drop (length front) (front ++ rest) ≡ rest
back_of [] rest = refl
back_of (x ∷ front) rest = back_of front rest

-- after one front two equal strings go on alike
pub same_after : (front xs ys : List ℕ) → front ++ xs ≡ front ++ ys → xs ≡ ys
same_after front xs ys h = sym (back_of front xs) ∙ ap (drop (length front)) h ∙ back_of front ys

module _ (text front : List ℕ) where
  abbrev pub IsAfter : Option (Bor (List ℕ)) → Type 0
  IsAfter found =
      MatchOption found (pointwise eqb (take (length front) text) front ≡ false)
      (λ rest. (pointwise eqb (take (length front) text) front ≡ true) × (rest.now ≡ drop (length front) text)
      × (length rest.now + length front ≡ length text))

  pub after_only : (found : Option (Bor (List ℕ))) → IsAfter found → IfSome found (λ rest. text ≡ front ++ rest.now)
  after_only None h = tt
  after_only (Some rest) h =
      sym (take-append-drop (length front) text) ∙ ap (λ xs. xs ++ drop (length front) text) (same_bytes (take (length front) text) front h.0) ∙ ap (λ xs. front ++ xs) (sym h.1)

  pub after_found : (found : Option (Bor (List ℕ))) → IsAfter found → (rest : List ℕ) → text ≡ front ++ rest → option_copied found ≡ Some rest
  after_found None h rest is =
      absurd (true≢false (sym (bytes_same front) ∙ ap (λ xs. pointwise eqb xs front) (sym (ap (take (length front)) is ∙ front_of front rest)) ∙ h))
  after_found (Some after) h rest is = ap Some (h.1 ∙ ap (drop (length front)) is ∙ back_of front rest)
