-- What comes after the last dot of a name.
use Rattle.std.specs.Prelude.{◌==◌}
use Rattle.std.proofs.Common.{◌≡◌, ◌≢◌, ℕ, suc, ◌<◌, true, false, cond, List, [], ◌∷◌, ◌++◌, length, get_or, take, drop, refl, ap, sym, ◌∙◌, arith}
use Rattle.std.proofs.lemmas.Bool.Decides.{nat_tests}
use Rattle.std.proofs.lemmas.List.{take-append-drop}
use Rattle.std.proofs.lemmas.Str.Pattern.{NoCharPasses-char, drop_at_char}
use Rattle.std.specs.Str.{NoCharPasses}
use Rattle.std.specs.Str.Pattern.{HasCharAt}
use Rattle.pg_schema.specs.rules.Words.{before_first, parts_at_dots}
use Rattle.pg_set.specs.writing.Messages.{last_of, own_name}

abbrev pub HasNoDot : List ℕ → Type 0
HasNoDot xs = (i : ℕ) → i < length xs → get_or xs i 0 ≢ 46

not_dot : (x : ℕ) → x ≢ 46 → (x == 46) ≡ false
not_dot x h = grind (arith, nat_tests)

later : (x : ℕ) (xs : List ℕ) → HasNoDot (x ∷ xs) → HasNoDot xs
later x xs h i below = h (suc i) (omega (arith, below))

one_part : (xs : List ℕ) → HasNoDot xs → parts_at_dots xs ≡ xs ∷ []
one_part [] h = refl
one_part (x ∷ xs) h = rw (not_dot x (h 0 (omega arith))) (ap (before_first x) (one_part xs (later x xs h)))

-- a string with a dot has parts before it, and then those after it
parts_around : (xs ys : List ℕ) → (first : List ℕ) × (others : List (List ℕ)) × (parts_at_dots (xs ++ (46 ∷ ys)) ≡ first ∷ (others ++ parts_at_dots ys))
parts_around [] ys = ([], [], refl)
parts_around (x ∷ xs) ys =
    let (first, others, is) = parts_around xs ys in
    elim (x == 46) as (λ b. (f : List ℕ) × (os : List (List ℕ)) × (cond b ([] ∷ parts_at_dots (xs ++ (46 ∷ ys))) (before_first x (parts_at_dots (xs ++ (46 ∷ ys)))) ≡ f ∷ (os ++ parts_at_dots ys))) [
      | true ↦ ([], first ∷ others, ap (λ ps. [] ∷ ps) is)
      | false ↦ (x ∷ first, others, ap (before_first x) is)
    ]

last_behind : (first : List ℕ) (others : List (List ℕ)) (own : List ℕ) → last_of (first ∷ (others ++ (own ∷ []))) ≡ own
last_behind first [] own = refl
last_behind first (other ∷ others) own = last_behind other others own

pub own_of_dotted : (before own : List ℕ) → HasNoDot own → own ≡ own_name (before ++ (46 ∷ own))
own_of_dotted before own h =
    let (first, others, is) = parts_around before own in
    sym (ap last_of (is ∙ ap (λ ps. first ∷ (others ++ ps)) (one_part own h)) ∙ last_behind first others own)

pub own_of_word : (name : List ℕ) → HasNoDot name → name ≡ own_name name
own_of_word name h = sym (ap last_of (one_part name h))

pub own_of_plain : (name : List ℕ) → NoCharPasses (λ d. d == 46) name → name ≡ own_name name
own_of_plain name none = sym (ap last_of (one_part name (λ i below. NoCharPasses-char 46 name i none (omega arith) below)))

pub own_behind : (name own : List ℕ) (i j : ℕ) → NoCharPasses (λ d. d == 46) (drop j name) → HasCharAt 46 name i j → own ≡ drop j name → own ≡ own_name name
own_behind name own i j none at is =
    let whole : take i name ++ (46 ∷ drop j name) ≡ name = ap (λ back. take i name ++ back) (sym (drop_at_char 46 name i j at (omega arith))) ∙ take-append-drop i name in
    is ∙ own_of_dotted (take i name) (drop j name) (λ k below. NoCharPasses-char 46 (drop j name) k none (omega arith) below) ∙ ap own_name whole
