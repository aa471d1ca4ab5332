-- Laws about the definition of tokens.
-- Source: they follow from the definitions; the small source files show the specification's "Lexical Elements".
use Rattle.std.specs.Prelude.{◌≡◌, ℕ, ◌+◌, List, [], ◌∷◌, ◌++◌, length, codes}
use Rattle.pg_lex.specs.declared.error.LexError.{LexError}
use Rattle.pg_lex.specs.declared.error.LexError.TheVariants.{BadCharacter, OpenString, BadEscape, OpenComment, NumberTooLarge, FloatLiteral}
use Rattle.pg_lex.specs.Lexes.{lexes, Stands, byte_order_mark}
use Rattle.pg_lex.specs.Symbol.{Symbol, Word, Whole, Text, Mark, Placed}

-- A source file has one row of tokens at most.
abbrev pub OneReading : Type 0
OneReading = (text : List ℕ) (some others : List Placed) → lexes text some → lexes text others → some ≡ others

-- A source file has one fault at most: any two have one code and one offset.
abbrev pub OneFault : Type 0
OneFault = (text : List ℕ) (e f : LexError) → Stands e text → Stands f text → e ≡ f

-- A source file that has tokens has no fault.
abbrev pub TokensOrFault : Type 0
TokensOrFault = (text : List ℕ) (e : LexError) (tokens : List Placed) → Stands e text → ¬ (lexes text tokens)

-- ---- small source files

-- a symbol from one offset to another
abbrev pub placed : Symbol → ℕ → ℕ → Placed
placed symbol from to = record { symbol = symbol; from = from; to = to }

-- The tokens of names and comments, and of the three forms of numbers. A comment of one line may end the
-- source file, and a byte order mark may begin it.
abbrev pub SmallTexts : Type 0
SmallTexts =
    lexes [] []
    × lexes (codes "a.b") (placed (Word (codes "a")) 0 1 ∷ placed (Mark 46) 1 2 ∷ placed (Word (codes "b")) 2 3 ∷ [])
    × lexes (codes "; // end") (placed (Mark 59) 0 1 ∷ [])
    × lexes (codes "a/**/b") (placed (Word (codes "a")) 0 1 ∷ placed (Word (codes "b")) 5 6 ∷ [])
    × lexes (codes "/* / * **/-") (placed (Mark 45) 10 11 ∷ [])
    × lexes byte_order_mark []
    × lexes (byte_order_mark ++ codes "_1") (placed (Word (codes "_1")) 3 5 ∷ [])
    × lexes (codes "0x1F") (placed (Whole 31) 0 4 ∷ [])
    × lexes (codes "017") (placed (Whole 15) 0 3 ∷ [])
    × lexes (codes "0 90") (placed (Whole 0) 0 1 ∷ placed (Whole 90) 2 4 ∷ [])
    × lexes (codes "18446744073709551615") (placed (Whole 18446744073709551615) 0 20 ∷ [])

-- between double quotes
abbrev pub quoted : List ℕ → List ℕ
quoted body = 34 ∷ body ++ 34 ∷ []

-- A literal of this escape has this string.
abbrev pub Escapes : List ℕ → List ℕ → Type 0
Escapes letters text = lexes (quoted (92 ∷ letters)) (placed (Text text) 0 (length letters + 3) ∷ [])

-- Each escape of one letter, and escapes by octal and hexadecimal digits.
abbrev pub EachEscape : Type 0
EachEscape =
    Escapes (codes "a") (7 ∷ []) × Escapes (codes "b") (8 ∷ [])
    × Escapes (codes "f") (12 ∷ []) × Escapes (codes "n") (10 ∷ [])
    × Escapes (codes "r") (13 ∷ []) × Escapes (codes "t") (9 ∷ []) × Escapes (codes "v") (11 ∷ [])
    × Escapes (92 ∷ []) (92 ∷ []) × Escapes (39 ∷ []) (39 ∷ [])
    × Escapes (34 ∷ []) (34 ∷ []) × Escapes (codes "?") (codes "?")
    × Escapes (codes "0") (0 ∷ []) × Escapes (codes "12") (10 ∷ []) × Escapes (codes "1013") (codes "A3")
    × Escapes (codes "x9") (9 ∷ []) × Escapes (codes "X412") (codes "A2") × Escapes (codes "u00412") (codes "A2")
    × Escapes (codes "U0010FFFF") (0xF4 ∷ 0x8F ∷ 0xBF ∷ 0xBF ∷ [])

-- The source file has no tokens, and the fault is in it.
abbrev pub HasNone : LexError → List ℕ → Type 0
HasNone e text = ((tokens : List Placed) → ¬ (lexes text tokens)) × Stands e text

-- Each code of a refusal, by a small source file that has that fault.
abbrev pub SmallFaults : Type 0
SmallFaults =
    HasNone (FloatLiteral 0) (codes "1.")
    × HasNone (FloatLiteral 0) (codes "1.5")
    × HasNone (FloatLiteral 1) (codes "a.5")
    × HasNone (FloatLiteral 0) (codes "01.5")
    × HasNone (FloatLiteral 3) (codes "0x1.5")
    × HasNone (BadCharacter 4) (codes "a08 @")
    × HasNone (BadCharacter 6) (codes "// 08" ++ 10 ∷ 64 ∷ [])
    × HasNone (BadCharacter 0) (codes "12a")
    × HasNone (BadCharacter 0) (codes "08.5")
    × HasNone (BadCharacter 2) (codes "; 0x")
    × HasNone (BadCharacter 1) (codes "a/b")
    × HasNone (NumberTooLarge 1) (codes " 18446744073709551616")
    × HasNone (BadCharacter 0) (codes "18446744073709551616x")
    × HasNone (OpenString 2) (codes "a " ++ 34 ∷ 98 ∷ 10 ∷ 34 ∷ [])
    × HasNone (OpenString 0) (34 ∷ 92 ∷ 34 ∷ [])
    × HasNone (BadEscape 0) (quoted (92 ∷ codes "400"))
    × HasNone (BadEscape 0) (quoted (92 ∷ codes "uD800"))
    × HasNone (OpenComment 2) (codes "a /* b")
    × HasNone (OpenComment 0) (codes "/*/")
