-- The scanner comes to each fault that is in a source file, so a source file has one at most.
use Rattle.std.proofs.Common.{◌≡◌, ℕ, zero, suc, ◌+◌, ◌-◌, ◌^◌, ◌<◌, ◌≤◌, Bool, true, false, cond, eqb, List, [], ◌∷◌, ◌++◌, length, take, drop, refl, sym, ◌∙◌, ap, arith, ◌⊎◌, inl, inr, Result, Ok, Err, Option, Some, None, length-append, eq-eqb, subst}
use Rattle.std.proofs.Math.Seq.{take-append_seam, drop-append_seam}
use Rattle.std.proofs.lemmas.Bool.Decides.{nat_tests}
use Rattle.std.specs.Prelude.{◌||◌, ◌==◌}
use Rattle.std.specs.List.{list_all}
use Rattle.std.specs.Str.{is_utf8}
use Rattle.pg_lex.specs.declared.error.LexError.{LexError}
use Rattle.pg_lex.specs.declared.error.LexError.TheVariants as errors
use Rattle.pg_lex.specs.Bytes.{is_letter, is_digit, is_word_byte, is_quote, is_mark, is_blank, is_dot, is_exponent, begins}
use Rattle.pg_lex.specs.Faults.{Names, place_of, BeginsNumber}
use Rattle.pg_lex.specs.Gap.{Between, Slash, IsGap}
use Rattle.pg_lex.specs.Lexes.{SpellsBefore, byte_order_mark, lexes, Stands}
use Rattle.pg_lex.specs.Literal.{Plain, IsBody, resolved}
use Rattle.pg_lex.specs.Number.{value, after_x, IsPlain, IsHexadecimal, IsWhole}
use Rattle.pg_lex.specs.Run.{◌>>=◌}
use Rattle.pg_lex.specs.Scan.{skip, Rest, Open, skipped, skipped_at, number, body_len, resolved_at, text_of, literal_at, mark_at, lexeme, token, lexemes, scanned, has_mark, text_tokens, word_len}
use Rattle.pg_lex.specs.Symbol.{Symbol, Whole, Placed}
use Rattle.pg_lex.proofs.Bits.{both, either_false, same, is_false}
use Rattle.pg_lex.proofs.GapLaws.{skip_gap}
use Rattle.pg_lex.proofs.Gaps.{Closes, skip-block_open}
use Rattle.pg_lex.proofs.LexemeFaults.{bind_err, front_unique, plain_digits, ends_digits, hex_word, one_digit, not_x, number_fault}
use Rattle.pg_lex.proofs.LexemeLaws.{IsBody-found, body_len-again, run-split, begins-run, word_of_digit, x_is_word, cond_false, lexeme-digit, lexeme-quote, lexeme-mark, lexeme-again}
use Rattle.pg_lex.proofs.NumberLaws.{Whole-number}
use Rattle.pg_lex.proofs.Prefixes.{begins-prefix}
use Rattle.pg_lex.proofs.Scans.{list_all-prefix}
use Rattle.pg_lex.proofs.TextLaws.{stops_at, no_gap, first_byte, skipped-gap, from, marked, no_tokens}

-- ---- one number

-- bytes that begin a number of decimal or octal digits begin none of hexadecimal ones
plain_or_hex : (digits more front other : List ℕ) (n : ℕ) → IsPlain digits n → (begins is_word_byte more ≡ false) ⊎ (begins is_exponent more ≡ true) → IsHexadecimal front → digits ++ more ≡ front ++ other → ⊥
plain_or_hex digits more [] other n is next hex e = hex
plain_or_hex digits more (a ∷ []) other n is next hex e = hex
plain_or_hex digits more (a ∷ x ∷ []) other n is next hex e = hex
plain_or_hex digits more (a ∷ x ∷ d ∷ ds) other n is next hex e =
    let alike = front_unique is_digit (a ∷ []) (x ∷ d ∷ ds ++ other) digits more (one_digit a (ap is_digit hex.0)) (not_x x hex.1).0 (plain_digits digits n is) (ends_digits more next) (sym e) in
    stays more alike.1 next
  where
    stays : (more : List ℕ) → x ∷ d ∷ ds ++ other ≡ more → (begins is_word_byte more ≡ false) ⊎ (begins is_exponent more ≡ true) → ⊥
    stays more e (inl k) = let wrong : true ≡ false = sym (x_is_word x hex.1) ∙ ap (begins is_word_byte) e ∙ k in cc
    stays more e (inr k) = let wrong : false ≡ true = sym (not_x x hex.1).1 ∙ ap (begins is_exponent) e ∙ k in cc

plain_value : (digits : List ℕ) (n m : ℕ) → IsPlain digits n → IsPlain digits m → n ≡ m
plain_value [] n m (inl h) k = absurd h.0
plain_value [] n m (inr h) k = absurd h.0
plain_value (b ∷ digits) n m (inl h) (inl k) = h.1 ∙ sym k.1
plain_value (b ∷ digits) n m (inr h) (inr k) = h.1 ∙ sym k.1
plain_value (b ∷ digits) n m (inl h) (inr k) = absurd (let first : eqb b 48 ≡ false = h.0.0 in let wrong : eqb b 48 ≡ true = eq-eqb b 48 k.0.0 in cc)
plain_value (b ∷ digits) n m (inr h) (inl k) = absurd (let first : eqb b 48 ≡ false = k.0.0 in let wrong : eqb b 48 ≡ true = eq-eqb b 48 h.0.0 in cc)

number_value : (bytes : List ℕ) (n m : ℕ) → BeginsNumber bytes n → BeginsNumber bytes m → n ≡ m
number_value bytes n m (front, more, split, inl (is, next)) (front', more', split', inl (is', next')) =
    let alike = front_unique is_digit front more front' more' (plain_digits front n is) (ends_digits more next) (plain_digits front' m is') (ends_digits more' next') (sym split ∙ split') in
    plain_value front' n m (subst (λ x. IsPlain x n) alike.0 is) is'
number_value bytes n m (front, more, split, inl (is, next)) (front', more', split', inr (hex, means, end)) = absurd (plain_or_hex front more front' more' n is next hex (sym split ∙ split'))
number_value bytes n m (front, more, split, inr (hex, means, end)) (front', more', split', inl (is, next)) = absurd (plain_or_hex front' more' front more m is next hex (sym split' ∙ split))
number_value bytes n m (front, more, split, inr (hex, means, end)) (front', more', split', inr (hex', means', end')) =
    let alike = front_unique is_word_byte front more front' more' (hex_word front hex).0 end (hex_word front' hex').0 end' (sym split ∙ split') in
    means ∙ ap (λ x. value 16 (after_x x)) alike.0 ∙ sym means'

whole_number : (run rest : List ℕ) (v : ℕ) → IsWhole run v rest → BeginsNumber (run ++ rest) v
whole_number run rest v (fits, stop, inl (decimal, is, dot)) = (run, rest, refl, inl (inl (decimal, is), inl stop))
whole_number run rest v (fits, stop, inr (inl (octal, is, dot))) = (run, rest, refl, inl (inr (octal, is), inl stop))
whole_number run rest v (fits, stop, inr (inr (hex, is))) = (run, rest, refl, inr (hex, is, stop))

-- ---- floats

-- decimal or octal digits before `.`, `e` or `E`
abbrev Floats : List ℕ → Type 0
Floats bytes = (digits rest : List ℕ) × (n : ℕ) × (bytes ≡ digits ++ rest) × IsPlain digits n × (n < 2 ^ 64)
    × (begins (λ b. is_dot b || is_exponent b) rest ≡ true)

ends_float : (rest : List ℕ) → begins (λ b. is_dot b || is_exponent b) rest ≡ true → (begins is_word_byte rest ≡ false) ⊎ (begins is_exponent rest ≡ true)
ends_float [] h = cc
ends_float (b ∷ rest) h = go (is_dot b) refl h
  where
    no_word : (b : ℕ) → is_dot b ≡ true → is_word_byte b ≡ false
    no_word b h = grind (arith, nat_tests)

    go : (t : Bool) → is_dot b ≡ t → (t || is_exponent b) ≡ true → (is_word_byte b ≡ false) ⊎ (is_exponent b ≡ true)
    go true e k = inl (no_word b e)
    go false e k = inr k

no_float_end : (rest : List ℕ) → begins is_word_byte rest ≡ false → begins is_dot rest ≡ false → begins (λ b. is_dot b || is_exponent b) rest ≡ true → ⊥
no_float_end [] stop dot h = cc
no_float_end (b ∷ rest) stop dot h = elim (ends_float (b ∷ rest) h) [
  | inl none ↦ let e : is_exponent b ≡ true = rw dot at h in let word = exponent_word b e in cc
  | inr e ↦ let word = exponent_word b e in cc
]
  where
    exponent_word : (b : ℕ) → is_exponent b ≡ true → is_word_byte b ≡ true
    exponent_word b h = grind (arith, nat_tests)

float_number : (bytes : List ℕ) → Floats bytes → (n : ℕ) × (n < 2 ^ 64) × BeginsNumber bytes n
float_number bytes (digits, rest, n, split, is, small, float) = (n, small, (digits, rest, split, inl (is, ends_float rest float)))

-- a whole number is no float's front
whole_or_float : (run rest : List ℕ) (v : ℕ) → IsWhole run v rest → Floats (run ++ rest) → ⊥
whole_or_float run rest v whole (digits, more, n, split, is, small, float) = go whole
  where
    plain : IsPlain run v → begins is_word_byte rest ≡ false → begins is_dot rest ≡ false → ⊥
    plain own stop dot =
        let alike = front_unique is_digit run rest digits more (plain_digits run v own) (ends_digits rest (inl stop)) (plain_digits digits n is) (ends_digits more (ends_float more float)) split in
        no_float_end rest stop dot (subst (λ x. begins (λ b. is_dot b || is_exponent b) x ≡ true) (sym alike.1) float)

    go : IsWhole run v rest → ⊥
    go (fits, stop, inl (decimal, own, dot)) = plain (inl (decimal, own)) stop dot
    go (fits, stop, inr (inl (octal, own, dot))) = plain (inr (octal, own)) stop dot
    go (fits, stop, inr (inr (hex, own))) = plain_or_hex digits more run rest n is (ends_float more float) hex (sym split)

-- ---- faults at a digit

too_large : (n m : ℕ) → 2 ^ 64 ≤ n → m < 2 ^ 64 → n ≡ m → ⊥
too_large n m large small e = omega arith

small_or_large : (bytes : List ℕ) (n : ℕ) → 2 ^ 64 ≤ n → BeginsNumber bytes n → Floats bytes → ⊥
small_or_large bytes n large number float = let known = float_number bytes float in too_large n known.0 large known.1 (number_value bytes n known.0 number known.2)

-- What a code may name where a digit is.
abbrev AtDigit : LexError → List ℕ → Type 0
AtDigit e bytes =
    ((e ≡ errors.BadCharacter (place_of e)) × ((n : ℕ) → ¬ (BeginsNumber bytes n)))
    ⊎ ((e ≡ errors.NumberTooLarge (place_of e)) × ((n : ℕ) × (2 ^ 64 ≤ n) × BeginsNumber bytes n))
    ⊎ ((e ≡ errors.FloatLiteral (place_of e)) × Floats bytes)

quote_no_digit : (b : ℕ) → is_quote b ≡ true → is_digit b ≡ false
quote_no_digit b h = grind (arith, nat_tests)

at_digit : (e : LexError) (b : ℕ) (bytes : List ℕ) → is_digit b ≡ true → Names e (b ∷ bytes) → AtDigit e (b ∷ bytes)
at_digit errors.Memory b bytes digit names = absurd names
at_digit (errors.NotUtf8 at) b bytes digit names = absurd names
at_digit (errors.FileTooLong at) b bytes digit names = absurd names
at_digit (errors.BadCharacter at) b bytes digit (inl (c, rest, split, none, slash)) =
    let same_byte : is_digit c ≡ true = ap (begins is_digit) (sym split) ∙ digit in
    let wrong = (either_false (is_digit c) _ (either_false (is_letter c) _ none).1).0 in
    absurd cc
at_digit (errors.BadCharacter at) b bytes digit (inr (first, none)) = inl (refl, none)
at_digit (errors.OpenString at) b bytes digit (quote, behind, split, q, none) =
    let same_byte : is_digit quote ≡ true = ap (begins is_digit) (sym split) ∙ digit in
    let wrong = quote_no_digit quote q in
    absurd cc
at_digit (errors.BadEscape at) b bytes digit (quote, body, rest, split, q, inside, none) =
    let same_byte : is_digit quote ≡ true = ap (begins is_digit) (sym split) ∙ digit in
    let wrong = quote_no_digit quote q in
    absurd cc
at_digit (errors.OpenComment at) b bytes digit (body, split, none) = absurd (let wrong : false ≡ true = ap (begins is_digit) (sym split) ∙ digit in cc)
at_digit (errors.NumberTooLarge at) b bytes digit names = inr (inl (refl, names))
at_digit (errors.FloatLiteral at) b bytes digit (inl (rest, split, d)) = absurd (let wrong : false ≡ true = ap (begins is_digit) (sym split) ∙ digit in cc)
at_digit (errors.FloatLiteral at) b bytes digit (inr float) = inr (inr (refl, float))

one_at_digit : (e f : LexError) (at : ℕ) (bytes : List ℕ) → place_of e ≡ at → place_of f ≡ at → AtDigit e bytes → AtDigit f bytes → e ≡ f
one_at_digit e f at bytes p q (inl (is, none)) (inl (is', none')) = is ∙ ap errors.BadCharacter (p ∙ sym q) ∙ sym is'
one_at_digit e f at bytes p q (inl (is, none)) (inr (inl (is', (n, large, number)))) = absurd (none n number)
one_at_digit e f at bytes p q (inl (is, none)) (inr (inr (is', float))) = absurd (let known = float_number bytes float in none known.0 known.2)
one_at_digit e f at bytes p q (inr (inl (is, (n, large, number)))) (inl (is', none)) = absurd (none n number)
one_at_digit e f at bytes p q (inr (inl (is, large))) (inr (inl (is', large'))) = is ∙ ap errors.NumberTooLarge (p ∙ sym q) ∙ sym is'
one_at_digit e f at bytes p q (inr (inl (is, (n, large, number)))) (inr (inr (is', float))) = absurd (small_or_large bytes n large number float)
one_at_digit e f at bytes p q (inr (inr (is, float))) (inl (is', none)) = absurd (let known = float_number bytes float in none known.0 known.2)
one_at_digit e f at bytes p q (inr (inr (is, float))) (inr (inl (is', (n, large, number)))) = absurd (small_or_large bytes n large number float)
one_at_digit e f at bytes p q (inr (inr (is, float))) (inr (inr (is', float'))) = is ∙ ap errors.FloatLiteral (p ∙ sym q) ∙ sym is'

-- a whole number is where no fault is
whole_no_fault : (e : LexError) (run rest : List ℕ) (v : ℕ) → IsWhole run v rest → AtDigit e (run ++ rest) → ⊥
whole_no_fault e run rest v whole (inl (is, none)) = none v (whole_number run rest v whole)
whole_no_fault e run rest v whole (inr (inl (is, (n, large, number)))) = too_large n v large whole.0 (number_value (run ++ rest) n v number (whole_number run rest v whole))
whole_no_fault e run rest v whole (inr (inr (is, float))) = whole_or_float run rest v whole float

-- ---- the scanner at a fault

-- A reader between gaps and lexemes comes to the fault here: it finds no gap and no lexeme, or an open comment.
abbrev Finds : LexError → ℕ → List ℕ → Type 0
Finds e at bytes =
    ((0 < length bytes) × (skip bytes Between bytes ≡ Rest bytes) × (lexeme at bytes ≡ Err e))
    ⊎ ((skip bytes Between bytes ≡ Open bytes) × (e ≡ errors.OpenComment at))

finds_digit : (e : LexError) (at b : ℕ) (bytes : List ℕ) → is_digit b ≡ true → place_of e ≡ at → Names e (b ∷ bytes) → Finds e at (b ∷ bytes)
finds_digit e at b bytes digit place names = inl (omega arith, stops_at b bytes (no_gap b (let word = word_of_digit b digit in rw word)), lexeme-digit at b bytes digit ∙ ap (λ r. ◌>>=◌ {B = Symbol × ℕ} r (λ v. Ok (Whole v, word_len all))) (go (number at run rest) refl))
  where
    all : List ℕ
    all = b ∷ bytes

    run : List ℕ
    run = take (word_len all) all

    rest : List ℕ
    rest = drop (word_len all) all

    first : begins is_digit run ≡ true
    first = begins-run is_digit b bytes (word_of_digit b digit) digit

    own : AtDigit e all
    own = at_digit e b bytes digit names

    go : (r : Result ℕ LexError) → number at run rest ≡ r → r ≡ Err e
    go (Ok v) k = absurd (whole_no_fault e run rest v (Whole-number at run rest v first (begins-prefix is_word_byte all) k) (subst (AtDigit e) (run-split all) own))
    go (Err f) k =
        let told = number_fault at run rest f first (list_all-prefix is_word_byte all) (begins-prefix is_word_byte all) k in
        ap Err (one_at_digit f e at all told.0 place (at_digit f b bytes digit (subst (Names f) (sym (run-split all)) told.1)) own)

-- a number begins with a digit
number_digit : (bytes : List ℕ) (n : ℕ) → BeginsNumber bytes n → (b : ℕ) × (more : List ℕ) × (bytes ≡ b ∷ more) × (is_digit b ≡ true)
number_digit bytes n ([], rest, split, inl (inl h, next)) = absurd h.0
number_digit bytes n ([], rest, split, inl (inr h, next)) = absurd h.0
number_digit bytes n (b ∷ digits, rest, split, inl (is, next)) = (b, digits ++ rest, split, (both (is_digit b) (list_all is_digit digits) (plain_digits (b ∷ digits) n is)).0)
number_digit bytes n ([], rest, split, inr h) = absurd h.0
number_digit bytes n (a ∷ [], rest, split, inr h) = absurd h.0
number_digit bytes n (a ∷ x ∷ [], rest, split, inr h) = absurd h.0
number_digit bytes n (a ∷ x ∷ d ∷ ds, rest, split, inr h) = (a, x ∷ d ∷ ds ++ rest, split, ap is_digit h.0.0)

finds_number : (e : LexError) (at n : ℕ) (bytes : List ℕ) → BeginsNumber bytes n → place_of e ≡ at → Names e bytes → Finds e at bytes
finds_number e at n bytes number place names =
    let first = number_digit bytes n number in
    subst (Finds e at) (sym first.2) (finds_digit e at first.0 first.1 first.3 place (subst (Names e) first.2 names))

-- a byte that begins nothing
finds_byte : (at b : ℕ) (rest : List ℕ) → (is_letter b || (is_digit b || (is_quote b || (is_mark b || is_blank b)))) ≡ false → (b ≡ 47 → begins (λ c. c == 47 || c == 42) rest ≡ false) → Finds (errors.BadCharacter at) at (b ∷ rest)
unfolding lexeme
finds_byte at b rest none slash =
    let letter = either_false (is_letter b) _ none in
    let digit = either_false (is_digit b) _ letter.1 in
    let quote = either_false (is_quote b) _ digit.1 in
    let mark = either_false (is_mark b) (is_blank b) quote.1 in
    inl (omega arith, go (eqb b 47) refl mark.1, cond_false (is_letter b) _ _ letter.0 ∙ cond_false (is_digit b) _ _ digit.0 ∙ cond_false (is_quote b) _ _ quote.0 ∙ cond_false (is_mark b) _ _ mark.0)
  where
    alone : (rest : List ℕ) → begins (λ c. c == 47 || c == 42) rest ≡ false → skip (b ∷ rest) Slash rest ≡ Rest (b ∷ rest)
    alone [] h = refl
    alone (c ∷ rest) h =
        let each = either_false (eqb c 47) (eqb c 42) h in
        let line : eqb c 47 ≡ false = each.0 in
        let block : eqb c 42 ≡ false = each.1 in
        rw (line, block)

    go : (t : Bool) → eqb b 47 ≡ t → is_blank b ≡ false → skip (b ∷ rest) Between (b ∷ rest) ≡ Rest (b ∷ rest)
    go true e blank = rw (blank, e) (alone rest (slash (same b 47 e)))
    go false e blank = rw (blank, e)

-- a quote
quote_stops : (quote : ℕ) (bytes : List ℕ) → is_quote quote ≡ true → skip (quote ∷ bytes) Between (quote ∷ bytes) ≡ Rest (quote ∷ bytes)
quote_stops quote bytes q = stops_at quote bytes (no_gap quote (word_or (is_word_byte quote)))
  where
    word_or : (p : Bool) → (p || (is_quote quote || is_mark quote)) ≡ true
    word_or true = refl
    word_or false = rw q

open_literal : (at quote : ℕ) (behind : List ℕ) → is_quote quote ≡ true → ((body rest : List ℕ) → behind ≡ body ++ quote ∷ rest → ¬ (IsBody quote body)) → literal_at at quote behind ≡ Err (errors.OpenString at)
unfolding literal_at
open_literal at quote behind q none = go (body_len quote Plain behind) refl
  where
    go : (o : Option ℕ) → body_len quote Plain behind ≡ o → literal_at at quote behind ≡ Err (errors.OpenString at)
    go None e = rw e
    go (Some m) e = absurd (let ends = IsBody-found quote Plain behind m q e in none (take m behind) ends.0 ends.1 ends.3)

bad_text : (at : ℕ) (body : List ℕ) → ((text : List ℕ) → resolved body ≡ Some text → ¬ (is_utf8 text ≡ true)) → text_of at body ≡ Err (errors.BadEscape at)
unfolding text_of
bad_text at body none = go (resolved body) none
  where
    go : (o : Option (List ℕ)) → ((text : List ℕ) → o ≡ Some text → ¬ (is_utf8 text ≡ true)) → (resolved_at at o >>= (λ text. cond (is_utf8 text) (Ok text) (Err (errors.BadEscape at)))) ≡ Err (errors.BadEscape at)
    go None k = refl
    go (Some text) k = let broken = is_false (is_utf8 text) (k text refl) in rw broken

bad_literal : (at quote : ℕ) (body rest : List ℕ) → is_quote quote ≡ true → IsBody quote body → text_of at body ≡ Err (errors.BadEscape at) → literal_at at quote (body ++ quote ∷ rest) ≡ Err (errors.BadEscape at)
unfolding literal_at
bad_literal at quote body rest q inside bad =
    let closes = body_len-again quote Plain body rest q inside in
    rw closes (rw take-append_seam (rw bad refl))

finds_literal : (e : LexError) (at quote : ℕ) (behind : List ℕ) → is_quote quote ≡ true → literal_at at quote behind ≡ Err e → Finds e at (quote ∷ behind)
finds_literal e at quote behind q h = inl (omega arith, quote_stops quote behind q, lexeme-quote at quote behind q ∙ h)

-- an open comment
closes_split : (bytes : List ℕ) (k : ℕ) → Closes bytes k → (inner rest : List ℕ) × (bytes ≡ inner ++ 42 ∷ 47 ∷ rest)
closes_split [] k here = let e : ◌≡◌ {A = ℕ} 0 42 = here.0 in absurd (omega arith)
closes_split (b ∷ []) zero here = let e : ◌≡◌ {A = ℕ} 0 47 = here.1 in absurd (omega arith)
closes_split (b ∷ c ∷ bytes) zero here = ([], bytes, ap (λ x. x ∷ c ∷ bytes) here.0 ∙ ap (λ x. 42 ∷ x ∷ bytes) here.1)
closes_split (b ∷ bytes) (suc k) here = let more = closes_split bytes k here in (b ∷ more.0, more.1, ap (λ x. b ∷ x) more.2)

finds_comment : (at : ℕ) (body : List ℕ) → ((inner rest : List ℕ) → ¬ (body ≡ inner ++ 42 ∷ 47 ∷ rest)) → Finds (errors.OpenComment at) at (47 ∷ 42 ∷ body)
finds_comment at body none = inr (skip-block_open (47 ∷ 42 ∷ body) body (λ k closes. let found = closes_split body k closes in none found.0 found.1 found.2), refl)

-- a `.` before a digit
dot_float : (at : ℕ) (rest : List ℕ) → begins is_digit rest ≡ true → mark_at at 46 rest ≡ Err (errors.FloatLiteral at)
unfolding mark_at
dot_float at rest digit = rw digit

finds_dot : (at : ℕ) (rest : List ℕ) → begins is_digit rest ≡ true → Finds (errors.FloatLiteral at) at (46 ∷ rest)
finds_dot at rest digit = inl (omega arith, refl, lexeme-mark at 46 rest refl ∙ dot_float at rest digit)

finds : (e : LexError) (at : ℕ) (bytes : List ℕ) → place_of e ≡ at → Names e bytes → Finds e at bytes
finds errors.Memory at bytes place names = absurd names
finds (errors.NotUtf8 a) at bytes place names = absurd names
finds (errors.FileTooLong a) at bytes place names = absurd names
finds (errors.BadCharacter a) at bytes place (inl (b, rest, split, none, slash)) = rw (split, place) (finds_byte at b rest none slash)
finds (errors.BadCharacter a) at [] place (inr (digit, none)) = absurd cc
finds (errors.BadCharacter a) at (b ∷ bytes) place (inr (digit, none)) = finds_digit (errors.BadCharacter a) at b bytes digit place (inr (digit, none))
finds (errors.OpenString a) at bytes place (quote, behind, split, q, none) = rw (split, place) (finds_literal (errors.OpenString at) at quote behind q (open_literal at quote behind q none))
finds (errors.BadEscape a) at bytes place (quote, body, rest, split, q, inside, none) =
    rw (split, place) (finds_literal (errors.BadEscape at) at quote (body ++ quote ∷ rest) q (bad_literal at quote body rest q inside (bad_text at body none)))
finds (errors.OpenComment a) at bytes place (body, split, none) = rw (split, place) (finds_comment at body none)
finds (errors.NumberTooLarge a) at bytes place (n, large, number) = finds_number (errors.NumberTooLarge a) at n bytes number place (n, large, number)
finds (errors.FloatLiteral a) at bytes place (inl (rest, split, digit)) = rw (split, place) (finds_dot at rest digit)
finds (errors.FloatLiteral a) at bytes place (inr float) = let known = float_number bytes float in finds_number (errors.FloatLiteral a) at known.0 bytes known.2 place (inr float)

-- ---- the scanner up to a fault

lexemes-no_lexeme : (n at : ℕ) (bytes : List ℕ) (e : LexError) → 0 < length bytes → length bytes ≤ n → lexeme at bytes ≡ Err e → lexemes n at bytes ≡ Err e
unfolding lexemes token
lexemes-no_lexeme n at [] e some fits h = absurd (omega arith)
lexemes-no_lexeme zero at (b ∷ bytes) e some fits h = absurd (omega arith)
lexemes-no_lexeme (suc n) at (b ∷ bytes) e some fits h = rw h

lexemes-later : (n at m : ℕ) (symbol : Symbol) (bytes : List ℕ) (e : LexError) → 0 < length bytes → lexeme at bytes ≡ Ok (symbol, m) → from n (at + m) (drop m bytes) ≡ Err e → lexemes (suc n) at bytes ≡ Err e
unfolding lexemes token
lexemes-later n at m symbol [] e some read h = absurd (omega arith)
lexemes-later n at m symbol (b ∷ bytes) e some read h = elim (bind_err {Y = List Placed} (skipped (at + m) (drop m (b ∷ bytes))) (λ next. lexemes n next.0 next.1) e h) [
  | inl r ↦ rw read (rw r refl)
  | inr (next, r, u) ↦ rw read (rw r (rw u refl))
]

-- at a gap, and then the fault
open_gap : (at : ℕ) (gap rest : List ℕ) (e : LexError) → IsGap gap → skip rest Between rest ≡ Open rest → e ≡ errors.OpenComment (at + length gap) → skipped at (gap ++ rest) ≡ Err e
unfolding skipped
open_gap at gap rest e is opens own =
    let place : at + (length (gap ++ rest) - length rest) ≡ at + length gap = omega (arith, length-append gap rest) in
    ap (skipped_at at (gap ++ rest)) (skip_gap (gap ++ rest) Between gap rest is ∙ opens) ∙ ap (λ p. Err (errors.OpenComment p)) place ∙ ap Err (sym own)

last_gap : (n at : ℕ) (gap rest : List ℕ) (e : LexError) → IsGap gap → length (gap ++ rest) ≤ n → Finds e (at + length gap) rest → from n at (gap ++ rest) ≡ Err e
last_gap n at gap rest e is fits (inl (some, stops, none)) =
    ap (λ r. ◌>>=◌ {B = List Placed} r (λ next. lexemes n next.0 next.1)) (skipped-gap at gap rest is stops) ∙ lexemes-no_lexeme n (at + length gap) rest e some (omega (arith, fits, length-append gap rest)) none
last_gap n at gap rest e is fits (inr (opens, own)) = ap (λ r. ◌>>=◌ {B = List Placed} r (λ next. lexemes n next.0 next.1)) (open_gap at gap rest e is opens own)

comes : (n at : ℕ) (bytes : List ℕ) (ts : List Placed) (rest : List ℕ) (e : LexError) → length bytes ≤ n → SpellsBefore at bytes ts rest → place_of e + length rest ≡ at + length bytes → Names e rest → from n at bytes ≡ Err e
comes n at bytes [] rest e fits (gap, split, is) place names =
    let size : length bytes ≡ length gap + length rest = ap length split ∙ length-append gap rest in
    ap (from n at) split ∙ last_gap n at gap rest e is (rw split at fits) (finds e (at + length gap) rest (omega (arith, place, size)) names)
comes n at bytes (t ∷ ts) rest e fits (gap, word, more, split, is_gap, is, low, high, before) place names = go n fits (λ m less here. comes m t.to more ts rest e less before here names)
  where
    size : length bytes ≡ length gap + (length word + length more)
    size = ap length split ∙ length-append gap (word ++ more) ∙ ap (λ x. length gap + x) (length-append word more)

    some : 0 < length word
    some = let first = first_byte word t.symbol more is in rw first.2 (omega arith)

    stops : skip (word ++ more) Between (word ++ more) ≡ Rest (word ++ more)
    stops = let first = first_byte word t.symbol more is in rw first.2 (stops_at first.0 (first.1 ++ more) (no_gap first.0 first.3))

    go : (n : ℕ) → length bytes ≤ n → ((m : ℕ) → length more ≤ m → place_of e + length rest ≡ t.to + length more → from m t.to more ≡ Err e) → from n at bytes ≡ Err e
    go zero fits again = absurd (omega (arith, size, some))
    go (suc n) fits again =
        let later = again n (omega (arith, size, some)) (omega (arith, place, size, low, high)) in
        let behind : from n (t.from + length word) (drop (length word) (word ++ more)) ≡ Err e =
        ap (λ p. from n p (drop (length word) (word ++ more))) (sym high) ∙ ap (from n t.to) (drop-append_seam word more) ∙ later in
        let here : skipped at bytes ≡ Ok (t.from, word ++ more) = ap (skipped at) split ∙ skipped-gap at gap (word ++ more) is_gap stops ∙ ap (λ p. Ok (p, word ++ more)) (sym low) in
        rw here (lexemes-later n t.from (length word) t.symbol (word ++ more) e (omega (arith, length-append word more, some)) (lexeme-again t.from word more t.symbol is) behind)

scanned-err : (at : ℕ) (bytes : List ℕ) (ts : List Placed) (rest : List ℕ) (e : LexError) → SpellsBefore at bytes ts rest → place_of e + length rest ≡ at + length bytes → Names e rest → scanned at bytes ≡ Err e
unfolding scanned
scanned-err at bytes ts rest e before place names = comes (length bytes) at bytes ts rest e (omega arith) before place names

-- The scanner's fault is the one that is in the source file.
text_tokens-err : (text : List ℕ) (e : LexError) → Stands e text → text_tokens text ≡ Err e
unfolding text_tokens
text_tokens-err text e (front, rest, tokens, split, place, lexed, inl (none, before), names) = go (has_mark text) refl
  where
    size : length text ≡ length front + length rest
    size = ap length split ∙ length-append front rest

    go : (t : Bool) → has_mark text ≡ t → cond t (scanned 3 (drop 3 text)) (scanned 0 text) ≡ Err e
    go true k = absurd (let mark = marked text k in none mark.0 mark.1)
    go false k = scanned-err 0 text tokens rest e before (omega (arith, size, place)) names
text_tokens-err text e (front, rest, tokens, split, place, lexed, inr (more, is, before), names) =
    let size : length text ≡ length front + length rest = ap length split ∙ length-append front rest in
    let after_mark : length text ≡ 3 + length more = ap length is ∙ length-append byte_order_mark more in
    ap (λ x. cond (has_mark x) (scanned 3 (drop 3 x)) (scanned 0 x)) is ∙ scanned-err 3 more tokens rest e before (omega (arith, size, place, after_mark)) names

pub one_fault : (text : List ℕ) (e f : LexError) → Stands e text → Stands f text → e ≡ f
one_fault text e f some other =
    let both_are : ◌≡◌ {A = Result (List Placed) LexError} (Err e) (Err f) = sym (text_tokens-err text e some) ∙ text_tokens-err text f other in
    cc

pub fault_or_tokens : (text : List ℕ) (e : LexError) (tokens : List Placed) → Stands e text → lexes text tokens → ⊥
fault_or_tokens text e tokens stands h = no_tokens text e (text_tokens-err text e stands) tokens h
