-- What each code of a refusal names, of the bytes from its offset to the end of the source file.
-- Source: this profile's choice, as the specification names no faults.
use Rattle.std.specs.Prelude.{◌≡◌, ◌⊎◌, ℕ, ◌^◌, ◌<◌, ◌≤◌, true, false, ◌||◌, ◌==◌, List, ◌∷◌, ◌++◌, Some}
use Rattle.std.specs.Str.{is_utf8}
use Rattle.pg_lex.specs.declared.error.LexError.{LexError}
use Rattle.pg_lex.specs.declared.error.LexError.TheVariants as errors
use Rattle.pg_lex.specs.Bytes.{is_letter, is_digit, is_word_byte, is_quote, is_mark, is_blank, is_dot, is_exponent, begins}
use Rattle.pg_lex.specs.Number.{IsPlain, IsHexadecimal, value, after_x}
use Rattle.pg_lex.specs.Literal.{IsBody, resolved}

-- the byte at which the fault is
abbrev pub place_of : LexError → ℕ
place_of errors.Memory = 0
place_of (errors.NotUtf8 at) = at
place_of (errors.BadCharacter at) = at
place_of (errors.OpenString at) = at
place_of (errors.BadEscape at) = at
place_of (errors.OpenComment at) = at
place_of (errors.NumberTooLarge at) = at
place_of (errors.FloatLiteral at) = at
place_of (errors.FileTooLong at) = at

-- A byte that begins no lexeme, no white space and no comment.
abbrev pub BadByte : List ℕ → Type 0
BadByte bytes = (b : ℕ) × (rest : List ℕ) × (bytes ≡ b ∷ rest)
    × ((is_letter b || (is_digit b || (is_quote b || (is_mark b || is_blank b)))) ≡ false)
    × (b ≡ 47 → begins (λ c. c == 47 || c == 42) rest ≡ false)

-- A number of one of the three forms, of any size, right after which there is no letter, digit or `_`; but
-- after decimal and octal digits an exponent may begin.
abbrev pub BeginsNumber : List ℕ → ℕ → Type 0
BeginsNumber bytes n = (digits rest : List ℕ) × (bytes ≡ digits ++ rest) × (
    (IsPlain digits n × ((begins is_word_byte rest ≡ false) ⊎ (begins is_exponent rest ≡ true)))
    ⊎ (IsHexadecimal digits × (n ≡ value 16 (after_x digits)) × (begins is_word_byte rest ≡ false)))

-- A digit that begins no number: another letter or `_` follows at once, or no digit follows `0x`, or an
-- octal number has an `8` or `9`.
abbrev pub BadNumber : List ℕ → Type 0
BadNumber bytes = (begins is_digit bytes ≡ true) × ((n : ℕ) → ¬ (BeginsNumber bytes n))

-- A `.` before a digit, or decimal or octal digits before `.`, `e` or `E`. The specification's "Floating-point
-- Literals" are no lexemes here: this profile's choice.
abbrev pub BeginsFloat : List ℕ → Type 0
BeginsFloat bytes =
    ((rest : List ℕ) × (bytes ≡ 46 ∷ rest) × (begins is_digit rest ≡ true))
    ⊎ ((digits rest : List ℕ) × (n : ℕ) × (bytes ≡ digits ++ rest) × IsPlain digits n × (n < 2 ^ 64)
    × (begins (λ b. is_dot b || is_exponent b) rest ≡ true))

-- A quote after which no body comes to its closing quote.
abbrev pub OpensLiteral : List ℕ → Type 0
OpensLiteral bytes = (quote : ℕ) × (behind : List ℕ) × (bytes ≡ quote ∷ behind) × (is_quote quote ≡ true)
    × ((body rest : List ℕ) → behind ≡ body ++ quote ∷ rest → ¬ (IsBody quote body))

-- A literal that ends, and whose body means no string of UTF-8.
abbrev pub BeginsBadLiteral : List ℕ → Type 0
BeginsBadLiteral bytes =
    (quote : ℕ) × (body rest : List ℕ) × (bytes ≡ quote ∷ body ++ quote ∷ rest) × (is_quote quote ≡ true)
    × IsBody quote body × ((text : List ℕ) → resolved body ≡ Some text → ¬ (is_utf8 text ≡ true))

-- A `/*` after which there is no `*/`.
abbrev pub OpensComment : List ℕ → Type 0
OpensComment bytes =
    (body : List ℕ) × (bytes ≡ 47 ∷ 42 ∷ body) × ((inner rest : List ℕ) → ¬ (body ≡ inner ++ 42 ∷ 47 ∷ rest))

-- What the code names begins the bytes.
abbrev pub Names : LexError → List ℕ → Type 0
Names (errors.BadCharacter at) bytes = BadByte bytes ⊎ BadNumber bytes
Names (errors.OpenString at) bytes = OpensLiteral bytes
Names (errors.BadEscape at) bytes = BeginsBadLiteral bytes
Names (errors.OpenComment at) bytes = OpensComment bytes
Names (errors.NumberTooLarge at) bytes = (n : ℕ) × (2 ^ 64 ≤ n) × BeginsNumber bytes n
Names (errors.FloatLiteral at) bytes = BeginsFloat bytes
Names _ bytes = ⊥
