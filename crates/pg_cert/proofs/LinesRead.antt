-- Reading the lines of pairs.
use Rattle.std.specs.Prelude.{codes}
use Rattle.std.proofs.Common.{◌≡◌, ℕ, true, List, [], ◌∷◌, ◌++◌, slice_index, ap, sym, ◌∙◌, subst, append_assoc, append-nil, arith}
use Rattle.std.specs.List.{AllByRecursion}
use Rattle.pg_schema.specs.declared.parts.Parts.{Parts}
use Rattle.pg_cert.specs.declared.bounds.PairBound.{PairBound}
use Rattle.pg_cert.specs.Certificate.{is_bound, are_bounds}
use Rattle.pg_cert.specs.inner.Reading.{IsRest, IsLeft}
use Rattle.pg_cert.specs.Text.{IsPairOf, names_of, bound_word}
use Rattle.pg_cert.specs.inner.Lines.{lines_text}
use Rattle.pg_cert.proofs.Tables.{parts_of_bounds}

each_front : {A : Type 0} (P : A → Type 0) (xs : List A) (x : A) (ys : List A) → AllByRecursion P (xs ++ x ∷ ys) → P x
each_front P [] x ys h = h.0
each_front P (z ∷ xs) x ys h = each_front P xs x ys h.1

pub each_more : {A : Type 0} (P : A → Type 0) (xs : List A) (x : A) → AllByRecursion P xs → P x → AllByRecursion P (xs ++ x ∷ [])
each_more P [] x h p = (p, tt)
each_more P (z ∷ xs) x h p = (h.0, each_more P xs x h.1 p)

-- a line after its first word, and what follows
abbrev pub words_of : (old new : Parts) → PairBound → List ℕ → List ℕ
words_of old new b rest = names_of old b.pair.old ++ 32 ∷ (names_of new b.pair.new ++ 32 ∷ (bound_word b.bound ++ 10 ∷ rest))

pub row : (o n w lines later : List ℕ) → ((codes "pair" ++ ((32 ∷ o) ++ ((32 ∷ n) ++ ((32 ∷ w) ++ 10 ∷ [])))) ++ lines) ++ later ≡ codes "pair " ++ (o ++ 32 ∷ (n ++ 32 ∷ (w ++ 10 ∷ (lines ++ later))))
row o n w lines later = simp append_assoc

-- the next line, and those after it
pub record NextLine (old new : Parts) (bounds : List PairBound) (later : List ℕ) (read : List PairBound) (words : List ℕ) : Type 0 where
  pub line : PairBound
  pub left : List PairBound
  pub bounds_are : bounds ≡ read ++ line ∷ left
  pub there : IsPairOf old new line.pair
  pub bound : is_bound line.bound ≡ true
  pub words_are : words ≡ words_of old new line (lines_text (names_of old) (names_of new) left ++ later)

module _ (old new : Parts) (text : List ℕ) (bounds : List PairBound) (later : List ℕ) (rest : IsRest old new text bounds later) (read : List PairBound) where
  same_after : (xs ys : List ℕ) → codes "pair " ++ xs ≡ codes "pair " ++ ys → xs ≡ ys
  same_after xs ys h = cc

  next : (left : List PairBound) → bounds ≡ read ++ left → (now words : List ℕ) → now ≡ lines_text (names_of old) (names_of new) left ++ later → now ≡ codes "pair " ++ words → NextLine old new bounds later read words
  next [] are now words spelled begins =
      absurd (let first : 119 ≡ slice_index (codes "pair " ++ words) 0 = sym rest.ends ∙ ap (λ t. slice_index t 0) (sym spelled ∙ begins) in omega arith)
  next (b ∷ left) are now words spelled begins = record {
    line = b;
    left = left;
    bounds_are = are;
    there = each_front (λ (x : PairBound). IsPairOf old new x.pair) read b left (subst (AllByRecursion (λ (x : PairBound). IsPairOf old new x.pair)) are rest.of_schemas);
    bound = (parts_of_bounds read b left (subst (λ bs. are_bounds bs ≡ true) are rest.are)).0;
    words_are = same_after words (words_of old new b (lines_text (names_of old) (names_of new) left ++ later))
        (sym begins ∙ spelled ∙ row (names_of old b.pair.old) (names_of new b.pair.new) (bound_word b.bound) (lines_text (names_of old) (names_of new) left) later);
  }

  pub next_line : (now words : List ℕ) → IsLeft old new bounds later read now → now ≡ codes "pair " ++ words → NextLine old new bounds later read words
  next_line now words is begins = next is.left is.bounds_are now words is.spelled begins

  -- where no line begins none is left
  none_left : (left : List PairBound) → bounds ≡ read ++ left → (now : List ℕ) → now ≡ lines_text (names_of old) (names_of new) left ++ later → ((words : List ℕ) → now ≡ codes "pair " ++ words → ⊥) → (read ≡ bounds) × (now ≡ later)
  none_left [] are now spelled none = (sym (are ∙ append-nil read), spelled)
  none_left (b ∷ left) are now spelled none =
      absurd (none (words_of old new b (lines_text (names_of old) (names_of new) left ++ later)) (spelled ∙ row (names_of old b.pair.old) (names_of new b.pair.new) (bound_word b.bound) (lines_text (names_of old) (names_of new) left) later))

  pub all_read : (now : List ℕ) → IsLeft old new bounds later read now → ((words : List ℕ) → now ≡ codes "pair " ++ words → ⊥) → (read ≡ bounds) × (now ≡ later)
  all_read now is none = none_left is.left is.bounds_are now is.spelled none

  -- with one line more
  pub line_read : (words : List ℕ) (is : NextLine old new bounds later read words) (line : PairBound) (after : List ℕ) (grown : List PairBound) → line ≡ is.line → after ≡ lines_text (names_of old) (names_of new) is.left ++ later → grown ≡ read ++ line ∷ [] → IsLeft old new bounds later grown after
  line_read words is line after grown same left_after grows = record {
    left = is.left;
    bounds_are = is.bounds_are ∙ sym (append_assoc read (is.line ∷ []) is.left) ∙ ap (λ bs. bs ++ is.left) (sym (grows ∙ ap (λ b. read ++ b ∷ []) same));
    spelled = left_after;
  }
