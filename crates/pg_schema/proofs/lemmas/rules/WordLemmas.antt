-- Words with dots between, one byte after the other.
use Rattle.std.proofs.Common.{◌≡◌, ℕ, Bool, true, false, not, cond, ◌&&◌, eqb, List, [], ◌∷◌, refl}
use Rattle.std.specs.List.{list_all}
use Rattle.pg_schema.specs.rules.Words.{before_first, is_letter, is_word, is_word_byte, parts_at_dots}
use Rattle.pg_schema.specs.inner.Steps.{may_stand}
use Rattle.pg_schema.proofs.lemmas.rules.PairLemmas.{and_true_right}

-- the rest of a word, and words
abbrev pub goes_on : List (List ℕ) → Bool
goes_on [] = true
goes_on (part ∷ parts) = list_all is_word_byte part && list_all is_word parts

-- words, of which the first has begun or not
abbrev pub words_from : Bool → List ℕ → Bool
words_from true bytes = list_all is_word (parts_at_dots bytes)
words_from false bytes = goes_on (parts_at_dots bytes)

abbrev words_of : Bool → List (List ℕ) → Bool
words_of true parts = list_all is_word parts
words_of false parts = goes_on parts

grouped : (a b c : Bool) → ((a && b) && c) ≡ (a && (b && c))
grouped true b c = refl
grouped false b c = refl

first_letter : (c : ℕ) (parts : List (List ℕ)) → list_all is_word (before_first c parts) ≡ (is_letter c && goes_on parts)
first_letter c [] = and_true_right (is_letter c && true)
first_letter c (part ∷ parts) = grouped (is_letter c) (list_all is_word_byte part) (list_all is_word parts)

next_byte : (c : ℕ) (parts : List (List ℕ)) → goes_on (before_first c parts) ≡ (is_word_byte c && goes_on parts)
next_byte c [] = and_true_right (is_word_byte c && true)
next_byte c (part ∷ parts) = grouped (is_word_byte c) (list_all is_word_byte part) (list_all is_word parts)

step : (begins dot : Bool) (c : ℕ) (cs : List ℕ)
    → words_of begins (cond dot ([] ∷ parts_at_dots cs) (before_first c (parts_at_dots cs))) ≡ (cond dot (not begins) (cond begins (is_letter c) (is_word_byte c)) && words_from dot cs)
step true true c cs = refl
step true false c cs = first_letter c (parts_at_dots cs)
step false true c cs = refl
step false false c cs = next_byte c (parts_at_dots cs)

pub words_step : (begins : Bool) (c : ℕ) (cs : List ℕ) → words_from begins (c ∷ cs) ≡ (may_stand begins c && words_from (eqb c 46) cs)
words_step true c cs = step true (eqb c 46) c cs
words_step false c cs = step false (eqb c 46) c cs
