-- Parts of packages, one byte after the other.
use Rattle.std.proofs.Common.{◌≡◌, ℕ, zero, suc, ◌+◌, ◌≤◌, ◌<◌, Bool, true, false, not, ◌&&◌, ◌||◌, nat_eq, List, [], ◌∷◌, length, take, get_or, inl, inr, arith, sym, ◌∙◌, ap, subst, refl}
use Rattle.std.proofs.Math.Nat.{eq-or-lt_of_le}
use Rattle.std.proofs.lemmas.Bool.{false≢true}
use Rattle.std.proofs.lemmas.Bool.Decides.{nat_tests}
use Rattle.std.proofs.lemmas.List.{take_all}
use Rattle.std.proofs.lemmas.Slice.Eq.{bytes_eq-Decides}
use Rattle.std.specs.Borrow.{Bor}
use Rattle.std.specs.BTreeSet.{BTreeSet}
use Rattle.std.specs.List.{list_all}
use Rattle.std.specs.Str.{bytes_eq}
use Rattle.std.specs.String.{string_bytes}
use Rattle.pg_schema.specs.declared.parts.file.File.{File}
use Rattle.pg_schema.specs.rules.Files.{is_file}
use Rattle.pg_schema.specs.rules.Packages.{is_free_of, is_front}
use Rattle.pg_schema.specs.inner.LentTexts.{has_lent, IsLentSetOf}
use Rattle.pg_schema.specs.rules.TextSets.{is_among}
use Rattle.pg_schema.specs.inner.Steps.{is_ascii, may_stand}
use Rattle.pg_schema.specs.rules.Words.{is_package}
use Rattle.pg_schema.proofs.lemmas.rules.PairLemmas.{and_both, and_false_right, and_left, and_right}
use Rattle.pg_schema.proofs.lemmas.rules.WordLemmas.{words_from, words_step}

same_number : (m n : ℕ) → nat_eq m n ≡ true → m ≡ n
same_number m n h = grind (arith, nat_tests)

equal_number : (m n : ℕ) → m ≡ n → nat_eq m n ≡ true
equal_number m n h = grind (arith, nat_tests)

front_take : (name text : List ℕ) → is_front name text ≡ true → take (length name) text ≡ name
front_take [] [] h = refl
front_take [] (c ∷ cs) h = refl
front_take (n ∷ ns) [] h = absurd (false≢true h)
front_take (n ∷ ns) (c ∷ cs) h =
    ap (λ x. x ∷ take (length ns) cs) (sym (same_number n c (and_left _ _ h))) ∙ ap (λ xs. n ∷ xs) (front_take ns cs (and_right (nat_eq n c) _ h))

front_dot : (name text : List ℕ) → is_front name text ≡ true → length name < length text → get_or text (length name) 0 ≡ 46
front_dot [] [] h lt = absurd (omega (arith, lt))
front_dot [] (c ∷ cs) h lt = same_number c 46 h
front_dot (n ∷ ns) [] h lt = absurd (false≢true h)
front_dot (n ∷ ns) (c ∷ cs) h lt = front_dot ns cs (and_right (nat_eq n c) _ h) (omega (arith, lt))

dot_front : (i : ℕ) (text : List ℕ) → i < length text → get_or text i 0 ≡ 46 → is_front (take i text) text ≡ true
dot_front i [] lt dot = absurd (omega (arith, lt))
dot_front zero (c ∷ cs) lt dot = equal_number c 46 dot
dot_front (suc i) (c ∷ cs) lt dot = and_both _ _ (equal_number c c refl) (dot_front i cs (omega (arith, lt)) dot)

whole_front : (text : List ℕ) → is_front text text ≡ true
whole_front [] = refl
whole_front (c ∷ cs) = and_both _ _ (equal_number c c refl) (whole_front cs)

or_right : (a b : Bool) → b ≡ true → (a || b) ≡ true
or_right true b h = refl
or_right false b h = h

or_left : (a b : Bool) → a ≡ true → (a || b) ≡ true
or_left true b h = refl
or_left false b h = absurd (false≢true h)

-- no name is a front of the string
none_front : (names : List (List ℕ)) (text : List ℕ) → ((name : List ℕ) → is_among names name ≡ true → is_front name text ≡ true → ⊥) → is_free_of names text ≡ true
none_front [] text h = refl
none_front (n ∷ ns) text h =
    and_both _ _ (of (is_front n text) refl) (none_front ns text (λ name among front. h name (or_right (bytes_eq name n) _ among) front))
  where
    of : (b : Bool) → is_front n text ≡ b → not b ≡ true
    of true e = absurd (h n (or_left _ _ ((bytes_eq-Decides n n).1 refl)) e)
    of false e = refl

-- a name is
head_front : (n name text : List ℕ) (rest : Bool) → bytes_eq name n ≡ true → is_front name text ≡ true → (not (is_front n text) && rest) ≡ false
head_front n name text rest e front = ap (λ r. not r && rest) (subst (λ x. is_front x text ≡ true) ((bytes_eq-Decides name n).0 e) front)

tail_front : (n name text : List ℕ) (rest : Bool) → rest ≡ false → (not (is_front n text) && rest) ≡ false
tail_front n name text rest e = ap (λ r. not (is_front n text) && r) e ∙ and_false_right (not (is_front n text))

some_front : (names : List (List ℕ)) (text name : List ℕ) → is_among names name ≡ true → is_front name text ≡ true → is_free_of names text ≡ false
some_front [] text name among front = absurd (false≢true among)
some_front (n ∷ ns) text name among front =
    elim (bytes_eq name n) as (λ b. bytes_eq name n ≡ b → (not (is_front n text) && is_free_of ns text) ≡ false) [
      | true ↦ λ e. head_front n name text (is_free_of ns text) e front
      | false ↦ λ e. tail_front n name text (is_free_of ns text) (some_front ns text name (sym (ap (λ r. r || is_among ns name) e) ∙ among) front)
    ] refl

-- a front of the string that is held has at least so many bytes
abbrev pub AreBeyond : ℕ → BTreeSet (Bor (List ℕ)) → List ℕ → Type 0
AreBeyond i set text = (names : List (List ℕ)) → IsLentSetOf names set → (name : List ℕ) → is_among names name ≡ true → is_front name text ≡ true → i ≤ length name

held : (names : List (List ℕ)) (set : BTreeSet (Bor (List ℕ))) (name text : List ℕ) → IsLentSetOf names set → is_among names name ≡ true → text ≡ name → has_lent set text ≡ false → ⊥
held names set name text is among same none = false≢true (sym none ∙ (is text ∙ (ap (is_among names) same ∙ among)))

pub beyond_more : (i byte : ℕ) (set : BTreeSet (Bor (List ℕ))) (text front : List ℕ) → i < length text → byte ≡ get_or text i 0 → front ≡ take i text
    → (byte ≡ 46 → has_lent set front ≡ false) → AreBeyond i set text → AreBeyond (i + 1) set text
beyond_more i byte set text front lt is written none beyond names set_is name among fronts =
    elim (eq-or-lt_of_le (beyond names set_is name among fronts)) [
      | inl here ↦ absurd (held names set name front set_is among
          (written ∙ (ap (λ n. take n text) here ∙ front_take name text fronts))
          (none (is ∙ (ap (λ n. get_or text n 0) here ∙ front_dot name text fronts (subst (λ n. n < length text) here lt)))))
      | inr after ↦ omega (arith, after)
    ]

pub part_held : (i byte : ℕ) (set : BTreeSet (Bor (List ℕ))) (text front : List ℕ) → i < length text → byte ≡ get_or text i 0 → front ≡ take i text → byte ≡ 46 → has_lent set front ≡ true
    → (names : List (List ℕ)) → IsLentSetOf names set → false ≡ is_free_of names text
part_held i byte set text front lt is written dot has names set_is =
    sym (some_front names text (take i text) (ap (is_among names) (sym written) ∙ (sym (set_is front) ∙ has)) (dot_front i text lt (sym is ∙ dot)))

at_end : (i : ℕ) (set : BTreeSet (Bor (List ℕ))) (text : List ℕ) (b : Bool) → length text ≤ i → has_lent set text ≡ b → AreBeyond i set text
    → (names : List (List ℕ)) → IsLentSetOf names set → not b ≡ is_free_of names text
at_end i set text true le has beyond names set_is = sym (some_front names text text (sym (set_is text) ∙ has) (whole_front text))
at_end i set text false le has beyond names set_is = sym (none_front names text (λ name among fronts.
    held names set name text set_is among (sym (take_all (length name) text (let far = beyond names set_is name among fronts in omega (arith, le, far))) ∙ front_take name text fronts) has))

pub front_end : (i : ℕ) (set : BTreeSet (Bor (List ℕ))) (text front : List ℕ) → length text ≤ i → front ≡ take i text → AreBeyond i set text
    → (names : List (List ℕ)) → IsLentSetOf names set → not (has_lent set front) ≡ is_free_of names text
front_end i set text front le written beyond names set_is =
    ap (λ t. not (has_lent set t)) (written ∙ take_all i text le) ∙ at_end i set text (has_lent set text) le refl beyond names set_is

byte_is_ascii : (begins : Bool) (c : ℕ) → may_stand begins c ≡ true → is_ascii c ≡ true
byte_is_ascii true c h = grind (arith, nat_tests)
byte_is_ascii false c h = grind (arith, nat_tests)

words_ascii : (begins : Bool) (text : List ℕ) → words_from begins text ≡ true → list_all is_ascii text ≡ true
words_ascii begins [] h = refl
words_ascii begins (c ∷ cs) h =
    let both = sym (words_step begins c cs) ∙ h in
    and_both _ _ (byte_is_ascii begins c (and_left _ _ both)) (words_ascii (nat_eq c 46) cs (and_right (may_stand begins c) _ both))

pub package_ascii : (text : List ℕ) → is_package text ≡ true → list_all is_ascii text ≡ true
package_ascii [] h = refl
package_ascii (c ∷ cs) h = words_ascii true (c ∷ cs) h

file_at : (files : List File) (i : ℕ) (d : File) → list_all is_file files ≡ true → i < length files → is_file (get_or files i d) ≡ true
file_at [] i d h lt = absurd (omega (arith, lt))
file_at (f ∷ fs) zero d h lt = and_left _ _ h
file_at (f ∷ fs) (suc i) d h lt = file_at fs i d (and_right (is_file f) _ h) (omega (arith, lt))

pub file_ascii : (files : List File) (i : ℕ) (f : File) → list_all is_file files ≡ true → i < length files → f ≡ get_or files i f → list_all is_ascii (string_bytes f.package) ≡ true
file_ascii files i f h lt is =
    package_ascii (string_bytes f.package) (and_left _ _ (and_left _ _ (subst (λ g. is_file g ≡ true) (sym is) (file_at files i f h lt))))

pub dot_and_held : (byte : ℕ) (has : Bool) → (nat_eq byte 46 && has) ≡ true → (byte ≡ 46) × (has ≡ true)
dot_and_held byte has h = (same_number byte 46 (and_left _ _ h), and_right (nat_eq byte 46) has h)

pub dot_not_held : (byte : ℕ) (has : Bool) → byte ≡ 46 → (nat_eq byte 46 && has) ≡ false → has ≡ false
dot_not_held byte has dot h = sym (ap (λ b. b && has) (equal_number byte 46 dot)) ∙ h
