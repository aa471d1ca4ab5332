-- Strings with backslashes in front of some of their letters.
use Rattle.std.proofs.Common.{◌≡◌, ℕ, suc, ◌<◌, Bool, true, false, cond, not, List, [], ◌∷◌, ◌++◌, length, get_or, refl, ap, ◌∙◌, arith, append_assoc, rules}
use Rattle.std.proofs.lemmas.Bool.{false≢true}
use Rattle.std.proofs.lemmas.Bool.Decides.{nat_tests}
use Rattle.std.proofs.lemmas.Str.{encode_ascii, inside_one}
use Rattle.std.proofs.Math.Utf8.{encode}
use Rattle.std.specs.List.{list_all}
use Rattle.pg_set.specs.stated.SetNames.{escaped, is_backslash, is_dot_or_backslash}
use Rattle.pg_set.specs.stated.StatedNames.{undotted}

module _ (kind : ℕ → Bool) where
  -- bytes of another kind stay as they are
  escaped_past : (bytes later : List ℕ) → ((k : ℕ) → k < length bytes → kind (get_or (bytes ++ later) k 0) ≡ true → ⊥) → escaped kind (bytes ++ later) ≡ bytes ++ escaped kind later
  escaped_past [] later none = refl
  escaped_past (b ∷ bs) later none = of (kind b) refl ∙ ap (λ ys. b ∷ ys) (escaped_past bs later (λ k h is. none (suc k) (omega (arith, h)) is))
    where
      of : (r : Bool) → kind b ≡ r → escaped kind (b ∷ bs ++ later) ≡ b ∷ escaped kind (bs ++ later)
      of true is = absurd (none 0 (omega arith) is)
      of false is = ap (λ r. cond r (92 ∷ b ∷ escaped kind (bs ++ later)) (b ∷ escaped kind (bs ++ later))) is

  module _ (low : (b : ℕ) → kind b ≡ true → b < 128) where
    kept_letter : (letter : ℕ) (later : List ℕ) → kind letter ≡ false → escaped kind (encode letter ++ later) ≡ encode letter ++ escaped kind later
    kept_letter letter later other = search (rules, escaped_past, encode, inside_one, get_or, false≢true)

    marked_letter : (letter : ℕ) (later : List ℕ) → kind letter ≡ true → escaped kind (encode letter ++ later) ≡ 92 ∷ encode letter ++ escaped kind later
    marked_letter letter later is = search (rules, encode, encode_ascii)

    module _ (full rest later : List ℕ) (letter : ℕ) (next : rest ≡ encode letter ++ later) where
      -- one letter more
      pub kept_on : (grown : List ℕ) → grown ≡ full ++ encode letter → kind letter ≡ false → grown ++ escaped kind later ≡ full ++ escaped kind rest
      kept_on grown is other = search (rules, append_assoc, encode, kept_letter)

      pub marked_on : (mid grown : List ℕ) → mid ≡ full ++ encode 92 → grown ≡ mid ++ encode letter → kind letter ≡ true → grown ++ escaped kind later ≡ full ++ escaped kind rest
      marked_on mid grown mark is marked = search (rules, encode, encode_ascii, append_assoc, marked_letter)

  -- a string without bytes of that kind
  pub plain_escaped : (bytes : List ℕ) → list_all (λ b. not (kind b)) bytes ≡ true → escaped kind bytes ≡ bytes
  plain_escaped [] none = refl
  plain_escaped (b ∷ bs) none = search (rules, plain_escaped bs, false≢true)

-- what a backslash is put in front of is no more than a byte
pub low_kind : (dots : Bool) (b : ℕ) → cond dots (is_dot_or_backslash b) (is_backslash b) ≡ true → b < 128
low_kind true b is = search rules
low_kind false b is = grind (arith, nat_tests)

-- a string that begins with no dot
pub no_dot : (name : List ℕ) → ((rest : List ℕ) → name ≡ 46 ∷ rest → ⊥) → undotted name ≡ name
no_dot [] none = refl
no_dot (b ∷ bs) none = search rules
