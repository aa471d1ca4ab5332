-- Lines and columns after more bytes.
use Rattle.std.proofs.Common.{◌≡◌, ◌+◌, ◌-◌, ◌≤◌, ◌<◌, ℕ, Bool, List, ◌++◌, length, take, drop, eqb, cond, arith, ap, ◌∙◌, sym}
use Rattle.std.specs.Prelude.{not, reverse}
use Rattle.std.specs.List.{suffix_len, prefix_len}
use Rattle.std.proofs.Math.Seq.{take-add, take-length}
use Rattle.std.proofs.lemmas.Bool.{cond-true, eq-eqb, ne_eqb}
use Rattle.std.proofs.lemmas.List.{length-drop, length-reverse, length-take-le, reverse-append}
use Rattle.std.proofs.lemmas.List.Folds.{prefix_len-append}
use Rattle.std.proofs.lemmas.List.Sums.{sum_by-append, suffix_len-le-length}
use Rattle.pg_lex.specs.Place.{column, line}
use Rattle.pg_gate.specs.inner.Cursor.{StandsAt}
use Rattle.pg_gate.specs.declared.answer.cursor.Stand.{Stand}

suffix_len-append : {X : Type 0} (p : X → Bool) (xs ys : List X) → suffix_len p (xs ++ ys) ≡ cond (eqb (suffix_len p ys) (length ys)) (length ys + suffix_len p xs) (suffix_len p ys)
suffix_len-append p xs ys =
    let whole = ap (prefix_len p) (reverse-append xs ys) ∙ prefix_len-append p (reverse ys) (reverse xs) in
    whole ∙ ap (λ n. cond (eqb (suffix_len p ys) n) (n + suffix_len p xs) (suffix_len p ys)) (length-reverse ys)

-- no line end among the bytes that follow
column_along : (xs ys : List ℕ) → length ys < column ys → column (xs ++ ys) ≡ column xs + length ys
column_along xs ys lt =
    let p : ℕ → Bool = (λ b. not (eqb b 10)) in
    let all : suffix_len p ys ≡ length ys = omega (arith, suffix_len-le-length p ys, lt) in
    let is = suffix_len-append p xs ys ∙ cond-true (eqb (suffix_len p ys) (length ys)) (length ys + suffix_len p xs) (suffix_len p ys) (eq-eqb (suffix_len p ys) (length ys) all) in
    omega (arith, is)

-- a line end among them
column_anew : (xs ys : List ℕ) → column ys ≤ length ys → column (xs ++ ys) ≡ column ys
column_anew xs ys le =
    let p : ℕ → Bool = (λ b. not (eqb b 10)) in
    let other = ne_eqb (suffix_len p ys) (length ys) (λ e. absurd (omega (arith, e, le))) in
    let is = suffix_len-append p xs ys ∙ ap (λ t. cond t (length ys + suffix_len p xs) (suffix_len p ys)) other in
    ap (λ n. n + 1) is

line_more : (xs ys : List ℕ) → line (xs ++ ys) + 1 ≡ line xs + line ys
line_more xs ys = let more = sum_by-append (λ b. cond (eqb b 10) 1 0) xs ys in omega (arith, more)

-- the bytes as far as an offset, and those after it as far as a later one
parts : (text : List ℕ) (from to : ℕ) → from ≤ to → take to text ≡ take from text ++ take (to - from) (drop from text)
parts text from to le = let n : to ≡ from + (to - from) = omega arith in ap (λ n. take n text) n ∙ take-add from (to - from) text

-- what a position is counted from: the bytes between it and an earlier one
pub record Passed (text : List ℕ) (from : Stand) (to at_line at_column size : ℕ) : Type 0 where
  pub is_size : size ≡ to - from.at
  pub on_one_line : size < at_column → from.column + size ≡ column (take to text)
  pub after_end : at_column ≤ size → at_column ≡ column (take to text)
  pub is_line : from.line + at_line ≡ line (take to text) + 1
  pub few : column (take from.at text) ≤ from.at + 1

pub passed : (text : List ℕ) (from : Stand) (to at_line at_column : ℕ) → StandsAt text from → from.at ≤ to → to ≤ length text
    → at_line ≡ line (take (length (take (to - from.at) (drop from.at text))) (take (to - from.at) (drop from.at text)))
    → at_column ≡ column (take (length (take (to - from.at) (drop from.at text))) (take (to - from.at) (drop from.at text)))
    → Passed text from to at_line at_column (length (take (to - from.at) (drop from.at text)))
passed text from to at_line at_column stands le within is_line is_column =
    let xs = take from.at text in
    let ys = take (to - from.at) (drop from.at text) in
    let size : length ys ≡ to - from.at = length-take-le (to - from.at) (drop from.at text) (omega (arith, length-drop from.at text)) in
    let l = is_line ∙ ap line (take-length ys) in
    let c = is_column ∙ ap column (take-length ys) in
    let whole = parts text from.at to le in
    record {
      is_size = size;
      on_one_line = λ lt. let is = ap column whole ∙ column_along xs ys (omega (arith, lt, c)) in omega (arith, is, stands.is_column);
      after_end = λ le. c ∙ sym (ap column whole ∙ column_anew xs ys (omega (arith, le, c)));
      is_line = let is = ap line whole in omega (arith, is, line_more xs ys, l, stands.is_line);
      few = omega (arith, suffix_len-le-length (λ b. not (eqb b 10)) xs, length-take-le from.at text stands.within);
    }
