-- A JSON name, one character after the other.
use Rattle.std.proofs.Common.{◌≡◌, ℕ, ◌+◌, ◌<◌, ◌≤◌, ◌/◌, ◌%◌, ◌⊎◌, inl, inr, Bool, true, false, cond, List, [], ◌∷◌, ◌++◌, nat_lt, nat_eq, if◌then◌else◌, refl, sym, ap, subst, ◌∙◌, arith}
use Rattle.std.specs.Char.{to_ascii_uppercase}
use Rattle.std.specs.List.{AllByRecursion}
use Rattle.std.specs.Str.{IsUtf8}
use Rattle.std.proofs.Math.Utf8.{encode, encodes, low_scalar, scalar, scalars}
use Rattle.std.proofs.lemmas.Bool.Decides.{nat_tests}
use Rattle.std.proofs.lemmas.List.{append-nil}
use Rattle.std.proofs.lemmas.Str.{encode_ascii, IsUtf8-append}
use Rattle.std.proofs.lemmas.Str.Ascii.{uppercase_is, uppercase_ascii}
use Rattle.pg_schema.specs.JsonName.{in_camel_case}
use Rattle.pg_schema.proofs.lemmas.rules.PairLemmas.{and_both, and_left, and_right}

abbrev pub cased : Bool → ℕ → ℕ
cased behind c = if behind then to_ascii_uppercase c else c

dropped : (behind : Bool) (c : ℕ) (rest : List ℕ) → c ≡ 95 → in_camel_case behind (encode c ++ rest) ≡ in_camel_case true rest
dropped behind c rest is = subst (λ n. in_camel_case behind (encode n ++ rest) ≡ in_camel_case true rest) (sym is) (ap (λ bs. in_camel_case behind (bs ++ rest)) (encode_ascii 95 (omega arith)))

underscore_is : (c : ℕ) → c ≡ 95 → nat_eq c 95 ≡ true
underscore_is c is = grind (arith, nat_tests)

not_underscore : (c : ℕ) → (c ≡ 95 → ⊥) → nat_eq c 95 ≡ false
not_underscore c other = grind (arith, nat_tests)

-- a byte that is a `_`, and one that is none
pub one_line : (behind : Bool) (b : ℕ) (rest : List ℕ) → b ≡ 95 → in_camel_case behind (b ∷ rest) ≡ in_camel_case true rest
one_line behind b rest is = ap (λ t. if t then in_camel_case true rest else cased behind b ∷ in_camel_case false rest) (underscore_is b is)

pub one_byte : (behind : Bool) (b : ℕ) (rest : List ℕ) → (b ≡ 95 → ⊥) → in_camel_case behind (b ∷ rest) ≡ cased behind b ∷ in_camel_case false rest
one_byte behind b rest other = ap (λ t. if t then in_camel_case true rest else cased behind b ∷ in_camel_case false rest) (not_underscore b other)

as_it_is : (behind : Bool) (b : ℕ) → 128 ≤ b → cased behind b ≡ b
as_it_is true b high = (uppercase_is b).2 (omega (arith, high))
as_it_is false b high = refl

abbrev IsHigh : List ℕ → Type 0
IsHigh bs = AllByRecursion (λ (b : ℕ). 128 ≤ b) bs

high_row : (behind : Bool) (b : ℕ) (bs rest : List ℕ) → IsHigh (b ∷ bs) → in_camel_case behind ((b ∷ bs) ++ rest) ≡ (b ∷ bs) ++ in_camel_case false rest
high_row behind b [] rest h = one_byte behind b rest (λ is. absurd (let high = h.0 in omega (arith, high, is))) ∙ ap (λ d. d ∷ in_camel_case false rest) (as_it_is behind b h.0)
high_row behind b (d ∷ bs) rest h =
    one_byte behind b ((d ∷ bs) ++ rest) (λ is. absurd (let high = h.0 in omega (arith, high, is)))
    ∙ (ap (λ e. e ∷ in_camel_case false ((d ∷ bs) ++ rest)) (as_it_is behind b h.0) ∙ ap (λ es. b ∷ es) (high_row false d bs rest h.1))

one_of : (P : List ℕ → Type 0) (x y z : Bool) (a b c d : List ℕ) → x ≡ false → P b → P c → P d → P (cond x a (cond y b (cond z c d)))
one_of P true y z a b c d h pb pc pd = absurd (cc)
one_of P false true z a b c d h pb pc pd = pb
one_of P false false true a b c d h pb pc pd = pc
one_of P false false false a b c d h pb pc pd = pd

not_ascii : (c : ℕ) → 128 ≤ c → nat_lt c 128 ≡ false
not_ascii c high = grind (arith, nat_tests)

high_character : (behind : Bool) (c : ℕ) (rest : List ℕ) → 128 ≤ c → in_camel_case behind (encode c ++ rest) ≡ encode c ++ in_camel_case false rest
unfolding encode
high_character behind c rest high =
    one_of (λ bs. in_camel_case behind (bs ++ rest) ≡ bs ++ in_camel_case false rest) (nat_lt c 128) (nat_lt c 2048) (nat_lt c 65536)
    (c ∷ [])
    ((192 + c / 64) ∷ (128 + c % 64) ∷ [])
    ((224 + c / 4096) ∷ (128 + c / 64 % 64) ∷ (128 + c % 64) ∷ [])
    ((240 + c / 262144) ∷ (128 + c / 4096 % 64) ∷ (128 + c / 64 % 64) ∷ (128 + c % 64) ∷ [])
    (not_ascii c high)
    (high_row behind (192 + c / 64) ((128 + c % 64) ∷ []) rest (omega arith, (omega arith, tt)))
    (high_row behind (224 + c / 4096) ((128 + c / 64 % 64) ∷ (128 + c % 64) ∷ []) rest (omega arith, (omega arith, (omega arith, tt))))
    (high_row behind (240 + c / 262144) ((128 + c / 4096 % 64) ∷ (128 + c / 64 % 64) ∷ (128 + c % 64) ∷ []) rest (omega arith, (omega arith, (omega arith, (omega arith, tt)))))

below_or_high : (c : ℕ) (b : Bool) → nat_lt c 128 ≡ b → (c < 128) ⊎ (128 ≤ c)
below_or_high c true h = inl (grind (arith, nat_tests))
below_or_high c false h = inr (grind (arith, nat_tests))

cased_low : (behind : Bool) (c : ℕ) → c < 128 → cased behind c < 128
cased_low true c low = uppercase_ascii c low
cased_low false c low = low

-- a character that is no `_`
kept : (behind : Bool) (c : ℕ) (rest : List ℕ) → (c ≡ 95 → ⊥) → in_camel_case behind (encode c ++ rest) ≡ encode (cased behind c) ++ in_camel_case false rest
kept behind c rest other = elim (below_or_high c (nat_lt c 128) refl) [
  | inl low ↦ ap (λ bs. in_camel_case behind (bs ++ rest)) (encode_ascii c low) ∙ (one_byte behind c rest other ∙ ap (λ bs. bs ++ in_camel_case false rest) (sym (encode_ascii (cased behind c) (cased_low behind c low))))
  | inr high ↦ high_character behind c rest high ∙ ap (λ d. encode d ++ in_camel_case false rest) (sym (as_it_is behind c high))
]

-- ---- the name of a string is a string

one_text : (d : ℕ) → scalar d ≡ true → IsUtf8 (encode d)
one_text d h = (d ∷ [], (and_both (scalar d) true h refl, append-nil (encode d)))

cased_scalar : (behind : Bool) (c : ℕ) → scalar c ≡ true → scalar (cased behind c) ≡ true
cased_scalar false c h = h
cased_scalar true c h = elim (below_or_high c (nat_lt c 128) refl) [
  | inl low ↦ low_scalar (to_ascii_uppercase c) (let low_too = uppercase_ascii c low in omega (arith, low_too))
  | inr high ↦ ap scalar (as_it_is true c high) ∙ h
]

is_line : (c : ℕ) → nat_eq c 95 ≡ true → c ≡ 95
is_line c h = grind (arith, nat_tests)

is_none : (c : ℕ) → nat_eq c 95 ≡ false → c ≡ 95 → ⊥
is_none c h e = grind (arith, nat_tests)

one_more_text : (behind : Bool) (c : ℕ) (rest : List ℕ) (b : Bool) → nat_eq c 95 ≡ b → scalar c ≡ true → IsUtf8 (in_camel_case true rest) → IsUtf8 (in_camel_case false rest)
    → IsUtf8 (in_camel_case behind (encode c ++ rest))
one_more_text behind c rest true is h after plain = subst IsUtf8 (sym (dropped behind c rest (is_line c is))) after
one_more_text behind c rest false is h after plain =
    subst IsUtf8 (sym (kept behind c rest (is_none c is))) (IsUtf8-append (encode (cased behind c)) (in_camel_case false rest) (one_text (cased behind c) (cased_scalar behind c h)) plain)

all_text : (behind : Bool) (cs : List ℕ) → scalars cs ≡ true → IsUtf8 (in_camel_case behind (encodes cs))
all_text behind [] h = ([], (refl, refl))
all_text behind (c ∷ cs) h =
    let more = and_right (scalar c) (scalars cs) h in
    one_more_text behind c (encodes cs) (nat_eq c 95) refl (and_left (scalar c) (scalars cs) h) (all_text true cs more) (all_text false cs more)

pub cased_text : (behind : Bool) (s : List ℕ) → IsUtf8 s → IsUtf8 (in_camel_case behind s)
cased_text behind s (cs, (are, is)) = subst (λ bs. IsUtf8 (in_camel_case behind bs)) is (all_text behind cs are)
