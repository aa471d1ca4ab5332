-- Walks over contents that count the members of oneofs.
use Rattle.std.proofs.Common.{◌≡◌, ℕ, zero, suc, ◌+◌, ◌-◌, ◌<◌, ◌≤◌, List, [], ◌∷◌, length, take, get_or, nat_eq, Bool, true, false, cond, Option, Some, None, option_and_then, IfSome, ap, sym, subst, ◌∙◌, arith, add-one, ne_eqb, rules}
use Rattle.std.proofs.lemmas.List.{take_all}
use Rattle.pg_schema.specs.Shape.{FieldShape, field_at}
use Rattle.pg_dyn.specs.declared.message.Content.{Content}
use Rattle.pg_dyn.specs.reading.Content.{same_oneof}
use Rattle.pg_dyn.specs.setting.ContentFaults.{is_in_oneof, members}

-- one, or none
abbrev pub once_if : Bool → ℕ
once_if b = cond b 1 0

module _ (fs : List FieldShape) (o : ℕ) where
  -- the members so far, with one more content
  step : (xs : List (ℕ × Content)) (i : ℕ) (x : ℕ × Content) → i < length xs → x ≡ get_or xs i x
      → length (members fs o (take (suc i) xs)) ≡ length (members fs o (take i xs)) + once_if (is_in_oneof fs o x.0)
  step [] i x inside is = absurd (omega arith)
  step (y ∷ xs) zero x inside is = search rules
  step (y ∷ xs) (suc i) x inside is = search (rules, arith, step xs i x)

  pub one_more : (xs : List (ℕ × Content)) (i : ℕ) (x : ℕ × Content) → i < length xs → x ≡ get_or xs i x
      → length (members fs o (take (i + 1) xs)) ≡ length (members fs o (take i xs)) + once_if (is_in_oneof fs o x.0)
  one_more xs i x inside is = ap (λ n. length (members fs o (take n xs))) (add-one i) ∙ step xs i x inside is

  -- a front has no more than the whole
  pub no_more : (xs : List (ℕ × Content)) (i : ℕ) → length (members fs o (take i xs)) ≤ length (members fs o xs)
  no_more [] zero = omega arith
  no_more [] (suc i) = omega arith
  no_more (y ∷ xs) zero = omega arith
  no_more (y ∷ xs) (suc i) = search (rules, arith, no_more xs i)

  -- one more content of a oneof that has one
  pub twice_at : (xs : List (ℕ × Content)) (i : ℕ) (x : ℕ × Content) → i < length xs → x ≡ get_or xs i x → is_in_oneof fs o x.0 ≡ true
      → length (members fs o (take i xs)) ≡ 1 → 1 < length (members fs o xs)
  twice_at xs i x inside is member one = search (rules, arith, one_more, no_more)

module _ (fs : List FieldShape) (n : ℕ) (r : Option ℕ) (is : r ≡ option_and_then (λ (f : FieldShape). f.oneof) (field_at fs n)) where
  pub is_in : (o p : ℕ) → r ≡ Some p → is_in_oneof fs o n ≡ nat_eq p o
  is_in o p some = ap (λ x. same_oneof x (Some o)) (sym is ∙ some)

  pub in_none : (o : ℕ) → r ≡ None → is_in_oneof fs o n ≡ false
  in_none o none = ap (λ x. same_oneof x (Some o)) (sym is ∙ none)

  -- a number above the oneof
  pub above : (end o : ℕ) → IfSome r (λ p. p < end) → end ≤ o → is_in_oneof fs o n ≡ false
  above end o below from = search (rules, arith, in_none, is_in, ne_eqb)

-- no content has a oneof from there on
pub none_more : (fs : List FieldShape) (o : ℕ) (xs : List (ℕ × Content)) (i : ℕ) (x : ℕ × Content) → i < length xs → x ≡ get_or xs i x
    → is_in_oneof fs o x.0 ≡ false → length (members fs o (take i xs)) ≡ 0 → length (members fs o (take (i + 1) xs)) ≡ 0
none_more fs o xs i x inside is apart none = search (rules, arith, one_more fs o xs i x inside is)

-- the oneofs of a window, with a flag each: those of a flag that is set have one content, the others none
abbrev pub HaveOnce : List FieldShape → ℕ → List Bool → List (ℕ × Content) → Type 0
HaveOnce fs first flags cs = (k : ℕ) → k < 1024 → length (members fs (first + k) cs) ≡ once_if (get_or flags k false)

pub all_once : (fs : List FieldShape) (first : ℕ) (flags : List Bool) (cs : List (ℕ × Content)) (i : ℕ) → HaveOnce fs first flags (take i cs) → length cs ≤ i
    → (o : ℕ) → first ≤ o → o < first + 1024 → length (members fs o cs) ≤ 1
all_once fs first flags cs i have whole o from upto =
    let k = o - first in
    let at : first + (o - first) ≡ o = omega (arith, from) in
    let counted = subst (λ m. length (members fs m (take i cs)) ≡ once_if (get_or flags (o - first) false)) at (have (o - first) (omega (arith, from, upto))) in
    let same : length (members fs o (take i cs)) ≡ length (members fs o cs) = ap (λ xs. length (members fs o xs)) (take_all i cs whole) in
    let few = most_one (get_or flags (o - first) false) in
    omega (arith, counted, same, few)
  where
    most_one : (b : Bool) → once_if b ≤ 1
    most_one true = omega arith
    most_one false = omega arith
