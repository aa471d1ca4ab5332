-- What the words of a certificate are read as.
use Rattle.std.specs.Prelude.{codes, decimal}
use Rattle.std.proofs.Common.{◌≡◌, ℕ, ◌+◌, ◌<◌, ◌≤◌, ◌^◌, ◌%◌, nat_eq, nat_le, nat_lt, eqb, lit<, Result, Ok, Bool, not, true, false, List, [], ◌∷◌, ◌++◌, Option, Some, None, refl, ap, sym, ◌∙◌, true≢false, arith}
use Rattle.std.specs.List.{list_all}
use Rattle.std.proofs.lemmas.Bool.{and_parts, leb-true, lt-ltb, eqb-true, eq-eqb}
use Rattle.std.proofs.lemmas.Fmt.{decimal_by_steps, parse-decimal, IsAscii-decimal}
use Rattle.std.proofs.lemmas.Str.{IsUtf8-from_ascii}
use Rattle.std.proofs.lemmas.Str.Ascii.{IsAscii-nil, IsAscii-cons}
use Rattle.std.specs.Str.{IsUtf8}
use Rattle.std.specs.Str.Parse.{ParsesUnsigned}
use lib.Pointwise.{pointwise}
use Rattle.pg_dyn.specs.encoding.Encoding.{cap}
use Rattle.pg_cert.specs.Certificate.{is_bound}
use Rattle.pg_cert.specs.inner.Reading.{lacks}
use Rattle.pg_cert.specs.Text.{bound_word}

-- a byte that is a decimal digit isn't a lower one
differs : (b byte : ℕ) → byte < b → not (nat_eq b byte) ≡ true
differs b byte h = of (nat_eq b byte) refl
  where
    of : (t : Bool) → nat_eq b byte ≡ t → not t ≡ true
    of false e = refl
    of true e = absurd (let same = eqb-true b byte e in omega arith)

all-append : (p : ℕ → Bool) (xs ys : List ℕ) → list_all p xs ≡ true → list_all p ys ≡ true → list_all p (xs ++ ys) ≡ true
all-append p [] ys h k = k
all-append p (x ∷ xs) ys h k =
    let parts = and_parts (p x) (list_all p xs) h in
    let later = all-append p xs ys parts.1 k in
    rw (parts.0, later) refl

all-one : (p : ℕ → Bool) (x : ℕ) → p x ≡ true → list_all p (x ∷ []) ≡ true
all-one p x h = rw h refl

-- what holds of the ten digits holds of each of a number
decimal-all : (p : ℕ → Bool) → ((d : ℕ) → d < 10 → p (48 + d) ≡ true) → (n : ℕ) → n < 2 ^ 64 → list_all p (decimal n) ≡ true
decimal-all p each n h =
    decimal_by_steps (λ _ ds. list_all p ds ≡ true) (λ m is. all-one p (48 + m) (each m is))
    (λ m ds is so_far. all-append p ds ((48 + m % 10) ∷ []) so_far (all-one p (48 + m % 10) (each (m % 10) (omega arith)))) n h

pub decimal-lacks : (n byte : ℕ) → byte < 48 → n < 2 ^ 64 → lacks byte (decimal n) ≡ true
decimal-lacks n byte low h = decimal-all (λ b. not (nat_eq b byte)) (λ d is. differs (48 + d) byte (omega arith)) n h

not_none : (text : List ℕ) → list_all (λ b. nat_lt b 58) text ≡ true → text ≡ codes "none" → ⊥
not_none text h is = true≢false (sym h ∙ ap (list_all (λ b. nat_lt b 58)) is)

pub decimal-not_none : (n : ℕ) → n < 2 ^ 64 → decimal n ≡ codes "none" → ⊥
decimal-not_none n h is = not_none (decimal n) (decimal-all (λ b. nat_lt b 58) (λ d low. lt-ltb (48 + d) 58 (omega arith)) n h) is

pub bound_small : (n : ℕ) → is_bound (Some n) ≡ true → n ≤ cap
bound_small n h = leb-true n cap (and_parts (nat_le 1 n) (nat_le n cap) h).1

pub bound_lacks : (bound : Option ℕ) → is_bound bound ≡ true → lacks 10 (bound_word bound) ≡ true
bound_lacks None h = refl
bound_lacks (Some n) h = let small = bound_small n h in decimal-lacks n 10 (omega arith) (omega arith)

-- two strings that are equal byte by byte
pub same_bytes : (xs ys : List ℕ) → pointwise eqb xs ys ≡ true → xs ≡ ys
same_bytes [] [] h = refl
same_bytes [] (y ∷ ys) h = absurd (cc)
same_bytes (x ∷ xs) [] h = absurd (cc)
same_bytes (x ∷ xs) (y ∷ ys) h =
    let parts = and_parts (eqb x y) (pointwise eqb xs ys) h in
    let first = eqb-true x y parts.0 in
    let others = same_bytes xs ys parts.1 in
    λ j. first j ∷ others j

pub bytes_same : (xs : List ℕ) → pointwise eqb xs xs ≡ true
bytes_same [] = refl
bytes_same (x ∷ xs) = rw (eq-eqb x x refl) (bytes_same xs)

-- a word that says 'none' says no number
pub none_said : (bound : Option ℕ) → is_bound bound ≡ true → bound_word bound ≡ codes "none" → bound ≡ None
none_said None h is = refl
none_said (Some n) h is = let small = bound_small n h in absurd (decimal-not_none n (omega arith) is)

-- another word says the number that it is read as
pub number_said : {E : Type 0} (bound : Option ℕ) (text : List ℕ) (r : Result ℕ E) → is_bound bound ≡ true → text ≡ bound_word bound → (text ≡ codes "none" → ⊥) → ParsesUnsigned 32 10 text r → (n : ℕ) × (bound ≡ Some n) × (r ≡ Ok n)
number_said None text r h is other parsed = absurd (other is)
number_said (Some n) text r h is other parsed =
    let small = bound_small n h in
    (n, refl, parse-decimal 32 n text r (omega arith) (omega arith) is parsed)

-- each is UTF-8
pub bound_utf8 : (bound : Option ℕ) → is_bound bound ≡ true → IsUtf8 (bound_word bound)
bound_utf8 None h = IsUtf8-from_ascii (codes "none") (IsAscii-cons 110 (111 ∷ 110 ∷ 101 ∷ []) (lit< tt) (IsAscii-cons 111 (110 ∷ 101 ∷ []) (lit< tt) (IsAscii-cons 110 (101 ∷ []) (lit< tt) (IsAscii-cons 101 [] (lit< tt) IsAscii-nil))))
bound_utf8 (Some n) h = let small = bound_small n h in IsUtf8-from_ascii (decimal n) (IsAscii-decimal n (omega arith))

-- a word that isn't 'none'
pub other_word : (word none : List ℕ) → none ≡ codes "none" → pointwise eqb word none ≡ false → word ≡ codes "none" → ⊥
other_word word none is apart same = true≢false (sym (bytes_same none) ∙ ap (λ w. pointwise eqb w none) (is ∙ sym same) ∙ apart)
