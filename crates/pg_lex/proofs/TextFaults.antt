-- Where a fault of the scanner is, the source file up to it has tokens, and what the fault names begins there.
use Rattle.std.proofs.Common.{◌≡◌, ℕ, zero, suc, ◌+◌, ◌-◌, ◌<◌, ◌≤◌, Bool, true, false, cond, eqb, get_or, List, [], ◌∷◌, ◌++◌, length, take, drop, refl, sym, ◌∙◌, ap, arith, ◌⊎◌, inl, inr, Result, Ok, Err, Option, Some, None, length-append, append_assoc, append-nil, subst}
use lib.Utf8.{encode}
use Rattle.std.proofs.Math.Seq.{take-append_seam}
use Rattle.std.proofs.lemmas.Bool.Decides.{nat_tests}
use Rattle.std.proofs.lemmas.List.{length-drop}
use Rattle.std.proofs.lemmas.Str.{IsUtf8-take, IsUtf8-nil, IsCharBoundary-after_ascii}
use Rattle.std.specs.Prelude.{IsUtf8}
use Rattle.std.specs.List.{list_all}
use Rattle.pg_lex.specs.declared.error.LexError.{LexError}
use Rattle.pg_lex.specs.declared.error.LexError.TheVariants as errors
use Rattle.pg_lex.specs.Bytes.{is_digit, is_word_byte, is_quote, is_mark, is_blank, begins}
use Rattle.pg_lex.specs.Gap.{Stage, Between, Slash, Line, Block, Star, step, IsGap}
use Rattle.pg_lex.specs.Lexes.{IsLexeme, Spells, SpellsBefore, byte_order_mark, lexes, Stands, Refuses, max_len}
use Rattle.pg_lex.specs.Run.{run, ◌>>=◌, Fails}
use Rattle.pg_lex.specs.Scan.{skip, Rest, skipped, lexeme, token, lexemes, scanned, has_mark, text_tokens}
use Rattle.pg_lex.specs.Symbol.{Symbol, Word, Whole, Text, Mark, Placed}
use Rattle.pg_lex.proofs.Bits.{both, same}
use Rattle.pg_lex.proofs.GapFaults.{Reports, choice, skipped_fault, settled}
use Rattle.pg_lex.proofs.GapLaws.{passes, Passes}
use Rattle.pg_lex.proofs.LexemeFaults.{bind_err, lexeme_fault}
use Rattle.pg_lex.proofs.LexemeLaws.{Reads, IsLexeme-read, bind_ok, whole_run}
use Rattle.pg_lex.proofs.TextLaws.{run-append, Spells-behind, skipped_ok, skipped-shorter, first_byte, marked, no_tokens}

-- ---- fronts

-- a lexeme is one before any front of what follows
begins_cut : (p : ℕ → Bool) (front rest : List ℕ) → begins p (front ++ rest) ≡ false → begins p front ≡ false
begins_cut p [] rest h = refl
begins_cut p (b ∷ front) rest h = h

IsLexeme-cut : (bytes front rest : List ℕ) (symbol : Symbol) → IsLexeme bytes symbol (front ++ rest) → IsLexeme bytes symbol front
IsLexeme-cut bytes front rest (Word word) h = (h.0, h.1, h.2, begins_cut is_word_byte front rest h.3)
IsLexeme-cut bytes front rest (Whole n) (fits, stop, inl (decimal, is, dot)) = (fits, begins_cut is_word_byte front rest stop, inl (decimal, is, begins_cut _ front rest dot))
IsLexeme-cut bytes front rest (Whole n) (fits, stop, inr (inl (octal, is, dot))) = (fits, begins_cut is_word_byte front rest stop, inr (inl (octal, is, begins_cut _ front rest dot)))
IsLexeme-cut bytes front rest (Whole n) (fits, stop, inr (inr hex)) = (fits, begins_cut is_word_byte front rest stop, inr (inr hex))
IsLexeme-cut bytes front rest (Text text) h = h
IsLexeme-cut bytes front rest (Mark mark) h = (h.0, h.1, λ dot. begins_cut is_digit front rest (h.2 dot))

-- ---- the last byte of a front

-- The bytes end with one that is a character by itself.
abbrev EndsLow : List ℕ → Type 0
EndsLow bytes = (bytes ≡ []) ⊎ ((front : List ℕ) × (b : ℕ) × (bytes ≡ front ++ b ∷ []) × (b < 128))

low_cons : (c : ℕ) (bytes : List ℕ) → c < 128 → EndsLow bytes → EndsLow (c ∷ bytes)
low_cons c bytes low (inl none) = inr ([], c, ap (λ x. c ∷ x) none, low)
low_cons c bytes low (inr (front, b, e, k)) = inr (c ∷ front, b, ap (λ x. c ∷ x) e, k)

low_append : (a bytes : List ℕ) → EndsLow a → EndsLow bytes → EndsLow (a ++ bytes)
low_append a bytes h (inl none) = rw none (rw append-nil h)
low_append a bytes h (inr (front, b, e, k)) = inr (a ++ front, b, ap (λ x. a ++ x) e ∙ sym (append_assoc a front (b ∷ [])), k)

low_words : (bytes : List ℕ) → list_all is_word_byte bytes ≡ true → EndsLow bytes
low_words [] h = inl refl
low_words (b ∷ bytes) h = let each = both (is_word_byte b) (list_all is_word_byte bytes) h in low_cons b bytes (word_low b each.0) (low_words bytes each.1)
  where
    word_low : (b : ℕ) → is_word_byte b ≡ true → b < 128
    word_low b h = grind (arith, nat_tests)

low_lexeme : (bytes rest : List ℕ) (symbol : Symbol) → IsLexeme bytes symbol rest → EndsLow bytes
low_lexeme bytes rest (Word word) h = low_words bytes (ap (list_all is_word_byte) h.0 ∙ h.2)
low_lexeme bytes rest (Whole n) h = low_words bytes (whole_run bytes rest n h).1
low_lexeme bytes rest (Text text) (quote, body, is, q, inside, means, utf8) = inr (quote ∷ body, quote, is, quote_low quote q)
  where
    quote_low : (b : ℕ) → is_quote b ≡ true → b < 128
    quote_low b h = grind (arith, nat_tests)
low_lexeme bytes rest (Mark mark) h = inr ([], mark, h.0, mark_low mark h.1)
  where
    mark_low : (b : ℕ) → is_mark b ≡ true → b < 128
    mark_low b h = grind (arith, nat_tests)

-- what ends a gap
low_step : (s : Stage) (b : ℕ) → step s b ≡ Some Between → b < 128
low_step Between b h = elim (choice (is_blank b) _ _ h) [
  | inl (blank, k) ↦ blank_low b blank
  | inr (other, k) ↦ elim (choice (eqb b 47) _ _ k) [ inl (slash, k) ↦ cc | inr (none, k) ↦ cc ]
]
  where
    blank_low : (b : ℕ) → is_blank b ≡ true → b < 128
    blank_low b h = grind (arith, nat_tests)
low_step Slash b h = elim (choice (eqb b 47) _ _ h) [ inl (slash, k) ↦ cc | inr (none, k) ↦ elim (choice (eqb b 42) _ _ k) [ inl (star, k) ↦ cc | inr (none, k) ↦ cc ] ]
low_step Line b h = elim (choice (eqb b 10) _ _ h) [ inl (end, k) ↦ omega (arith, same b 10 end) | inr (other, k) ↦ cc ]
low_step Block b h = elim (choice (eqb b 42) _ _ h) [ inl (star, k) ↦ cc | inr (other, k) ↦ cc ]
low_step Star b h = elim (choice (eqb b 47) _ _ h) [
  | inl (slash, k) ↦ omega (arith, same b 47 slash)
  | inr (other, k) ↦ elim (choice (eqb b 42) _ _ k) [ inl (star, k) ↦ cc | inr (none, k) ↦ cc ]
]

low_gap : (s : Stage) (gap : List ℕ) → run step (Some s) gap ≡ Some Between → EndsLow gap
low_gap s [] h = inl refl
low_gap s (b ∷ gap) h = go (step s b) refl h (λ t k. low_gap t gap k)
  where
    stuck : (gap : List ℕ) → run step None gap ≡ Some Between → ⊥
    stuck [] k = cc
    stuck (c ∷ gap) k = cc

    last : (t : Stage) → step s b ≡ Some t → run step (Some t) gap ≡ Some Between → EndsLow gap → EndsLow (b ∷ gap)
    last t e k (inl none) = let is : t ≡ Between = cc in inr ([], b, ap (λ x. b ∷ x) none, low_step s b (e ∙ ap Some (ended t (rw none at k))))
      where
        ended : (t : Stage) → run step (Some t) [] ≡ Some Between → t ≡ Between
        ended t k = cc
    last t e k (inr (front, c, split, low)) = inr (b ∷ front, c, ap (λ x. b ∷ x) split, low)

    go : (next : Option Stage) → step s b ≡ next → run step next gap ≡ Some Between → ((t : Stage) → run step (Some t) gap ≡ Some Between → EndsLow gap) → EndsLow (b ∷ gap)
    go (Some t) e k again = last t e k (again t k)
    go None e k again = absurd (stuck gap k)

-- ---- where a fault is

-- a gap in front of what is spelled before a rest
before-gap : (at : ℕ) (gap bytes rest : List ℕ) (ts : List Placed) → IsGap gap → SpellsBefore (at + length gap) bytes ts rest → SpellsBefore at (gap ++ bytes) ts rest
before-gap at gap bytes rest [] h (inner, split, is) =
    (gap ++ inner, ap (λ x. gap ++ x) split ∙ sym (append_assoc gap inner rest), run-append gap Between inner Between h is)
before-gap at gap bytes rest (t ∷ ts) h (inner, word, more, split, is_gap, is, low, high, later) = (
  gap ++ inner,
  word,
  more,
  ap (λ x. gap ++ x) split ∙ sym (append_assoc gap inner (word ++ more)),
  run-append gap Between inner Between h is_gap,
  is,
  low ∙ omega (arith, length-append gap inner),
  high,
  later,
)

-- Bytes that begin at an offset have a front of tokens, after which is what the fault names.
abbrev FaultIn : ℕ → List ℕ → LexError → Type 0
FaultIn at bytes e = (front rest : List ℕ) × (ts : List Placed) × (bytes ≡ front ++ rest) × Spells at front ts × EndsLow front
    × SpellsBefore at bytes ts rest × Reports e (at + length front) rest

-- a gap in front
FaultIn-gap : (at : ℕ) (gap left : List ℕ) (e : LexError) → IsGap gap → FaultIn (at + length gap) left e → FaultIn at (gap ++ left) e
FaultIn-gap at gap left e is (front, rest, ts, split, spelled, low, before, (place, names)) = (
  gap ++ front,
  rest,
  ts,
  ap (λ x. gap ++ x) split ∙ sym (append_assoc gap front rest),
  Spells-behind at gap front ts is spelled,
  low_append gap front (low_gap Between gap is) low,
  before-gap at gap left rest ts is before,
  (omega (arith, place, length-append gap front), names),
)

-- no lexeme, or a comment without an end, right here
FaultIn-here : (at : ℕ) (bytes : List ℕ) (e : LexError) → Reports e at bytes → FaultIn at bytes e
FaultIn-here at bytes e (place, names) = ([], bytes, [], refl, inl refl, inl refl, ([], refl, refl), (omega (arith, place), names))

-- a lexeme in front
FaultIn-lexeme : (at m : ℕ) (symbol : Symbol) (bytes : List ℕ) (e : LexError) → Reads bytes symbol m → FaultIn (at + m) (drop m bytes) e → FaultIn at bytes e
FaultIn-lexeme at m symbol bytes e (left, split, back, len, is) (front, rest, ts, more, spelled, low, before, (place, names)) =
    let behind : left ≡ front ++ rest = back ∙ more in
    let cut : IsLexeme (take m bytes) symbol front = IsLexeme-cut (take m bytes) front rest symbol (rw (← behind) is) in (
      take m bytes ++ front,
      rest,
      record { symbol = symbol; from = at; to = at + m } ∷ ts,
      split ∙ ap (λ x. take m bytes ++ x) behind ∙ sym (append_assoc (take m bytes) front rest),
      ([], take m bytes, front, refl, refl, cut, omega arith, omega (arith, len), spelled),
      low_append (take m bytes) front (low_lexeme (take m bytes) left symbol is) low,
      ([], take m bytes, left, split, refl, is, omega arith, omega (arith, len), rw back before),
      (omega (arith, place, length-append (take m bytes) front, len), names),
    )

skipped_in : (at : ℕ) (bytes : List ℕ) (e : LexError) → skipped at bytes ≡ Err e → FaultIn at bytes e
skipped_in at bytes e h =
    let fault = skipped_fault at bytes e h in
    subst (λ x. FaultIn at x e) (sym fault.2) (FaultIn-gap at fault.0 fault.1 e fault.3 (FaultIn-here (at + length fault.0) fault.1 e fault.4))

-- what follows a gap
skipped_then : (n at place : ℕ) (bytes left : List ℕ) (e : LexError) → skipped at bytes ≡ Ok (place, left) → lexemes n place left ≡ Err e → FaultIn place left e → FaultIn at bytes e
unfolding lexemes
skipped_then n at place bytes left e h read more = go (passes bytes Between bytes left known.0)
  where
    known : (skip bytes Between bytes ≡ Rest left) × (place ≡ at + (length bytes - length left))
    known = skipped_ok at place bytes left h

    go : Passes Between bytes bytes left → FaultIn at bytes e
    go (inl (gap, split, is)) =
        let here : place ≡ at + length gap = known.1 ∙ omega (arith, ap length split, length-append gap left) in
        rw split (FaultIn-gap at gap left e is (rw (← here) more))
    go (inr (inl (none, line))) = let all : ◌≡◌ {A = Result (List Placed) LexError} (Ok []) (Err e) = ap (lexemes n place) (sym none) ∙ read in cc
    go (inr (inr (slash, alike))) = cc

lexemes_fault : (n at : ℕ) (bytes : List ℕ) (e : LexError) → length bytes ≤ n → skip bytes Between bytes ≡ Rest bytes → lexemes n at bytes ≡ Err e → FaultIn at bytes e
unfolding lexemes token
lexemes_fault n at [] e le still h = cc
lexemes_fault zero at (b ∷ bytes) e le still h = cc
lexemes_fault (suc n) at (b ∷ bytes) e le still h = go (bind_err {Y = List Placed} (token at all) (λ t. lexemes n t.1 t.2 >>= (λ tokens. Ok (t.0 ∷ tokens))) e h) (λ place left fits stands read. lexemes_fault n place left e fits stands read)
  where
    all : List ℕ
    all = b ∷ bytes

    made : Symbol × ℕ → ℕ × List ℕ → Placed × ℕ × List ℕ
    made x next = (record { symbol = x.0; from = at; to = at + x.1 }, next.0, next.1)

    no_token : token at all ≡ Err e → FaultIn at all e
    no_token k = elim (bind_err {Y = Placed × ℕ × List ℕ} (lexeme at all) (λ x. skipped (at + x.1) (drop x.1 all) >>= (λ next. Ok (made x next))) e k) [
      | inl r ↦ FaultIn-here at all e (lexeme_fault at b bytes e still r)
      | inr (x, r, u) ↦ elim (bind_err {Y = Placed × ℕ × List ℕ} (skipped (at + x.1) (drop x.1 all)) (λ next. Ok (made x next)) e u) [
        | inl r2 ↦ FaultIn-lexeme at x.1 x.0 all e (IsLexeme-read at all x.0 x.1 r) (skipped_in (at + x.1) (drop x.1 all) e r2)
        | inr (next, r2, u) ↦ absurd (let wrong : ◌≡◌ {A = Result (Placed × ℕ × List ℕ) LexError} (Ok (made x next)) (Err e) = u in cc)
      ]
    ]

    Later : Type 0
    Later = (place : ℕ) (left : List ℕ) → length left ≤ n → skip left Between left ≡ Rest left → lexemes n place left ≡ Err e → FaultIn place left e

    behind : (t : Placed × ℕ × List ℕ) → token at all ≡ Ok t → lexemes n t.1 t.2 ≡ Err e → Later → FaultIn at all e
    behind t k more again =
        let one = bind_ok {Y = Placed × ℕ × List ℕ} (lexeme at all) (λ x. skipped (at + x.1) (drop x.1 all) >>= (λ next. Ok (made x next))) t k in
        let x = one.0 in
        let gone = bind_ok {Y = Placed × ℕ × List ℕ} (skipped (at + x.1) (drop x.1 all)) (λ next. Ok (made x next)) t one.2 in
        let next = gone.0 in
        let is : ◌≡◌ {A = Placed × ℕ × List ℕ} (made x next) t = cc in
        let reads = IsLexeme-read at all x.0 x.1 one.1 in
        let some : 0 < length (take x.1 all) = let first = first_byte (take x.1 all) x.0 reads.0 reads.4 in rw first.2 (omega arith) in
        let shorter : length next.1 ≤ n = omega (arith, skipped-shorter (at + x.1) next.0 (drop x.1 all) next.1 gone.1, length-drop x.1 all, reads.3) in
        let place : t.1 ≡ next.0 = sym (ap (λ (p : Placed × ℕ × List ℕ). p.1) is) in
        let left : t.2 ≡ next.1 = sym (ap (λ (p : Placed × ℕ × List ℕ). p.2) is) in
        let later : lexemes n next.0 next.1 ≡ Err e = ap (λ p. lexemes n p next.1) (sym place) ∙ ap (lexemes n t.1) (sym left) ∙ more in
        let inner = again next.0 next.1 shorter (settled (drop x.1 all) next.1 (skipped_ok (at + x.1) next.0 (drop x.1 all) next.1 gone.1).0) later in
        FaultIn-lexeme at x.1 x.0 all e reads (skipped_then n (at + x.1) next.0 (drop x.1 all) next.1 e gone.1 later inner)

    go : (token at all ≡ Err e) ⊎ ((t : Placed × ℕ × List ℕ) × (token at all ≡ Ok t) × ((lexemes n t.1 t.2 >>= (λ tokens. Ok (t.0 ∷ tokens))) ≡ Err e)) → Later → FaultIn at all e
    go (inl k) again = no_token k
    go (inr (t, k, u)) again = elim (bind_err {Y = List Placed} (lexemes n t.1 t.2) (λ tokens. Ok (t.0 ∷ tokens)) e u) [
      | inl more ↦ behind t k more again
      | inr (tokens, more, w) ↦ absurd (let wrong : ◌≡◌ {A = Result (List Placed) LexError} (Ok (t.0 ∷ tokens)) (Err e) = w in cc)
    ]

scanned_fault : (at : ℕ) (bytes : List ℕ) (e : LexError) → scanned at bytes ≡ Err e → FaultIn at bytes e
unfolding scanned
scanned_fault at bytes e h = elim (bind_err {Y = List Placed} (skipped at bytes) (λ next. lexemes (length bytes) next.0 next.1) e h) [
  | inl r ↦ skipped_in at bytes e r
  | inr (next, r, u) ↦
      let still = settled bytes next.1 (skipped_ok at next.0 bytes next.1 r).0 in
      skipped_then (length bytes) at next.0 bytes next.1 e r u (lexemes_fault (length bytes) next.0 next.1 e (skipped-shorter at next.0 bytes next.1 r) still u)
]

-- ---- whole source files

-- A front of a source file is one, if its last byte is a character by itself.
utf8_front : (text head front rest : List ℕ) → IsUtf8 text → text ≡ (head ++ front) ++ rest → IsUtf8 head → EndsLow front → IsUtf8 (head ++ front)
utf8_front text head front rest utf8 split h (inl none) = rw none (rw append-nil h)
utf8_front text head front rest utf8 split h (inr (before, b, e, low)) =
    let first = head ++ before in
    let whole : head ++ front ≡ first ++ b ∷ [] = ap (λ x. head ++ x) e ∙ sym (append_assoc head before (b ∷ [])) in
    let is : text ≡ first ++ b ∷ rest = split ∙ ap (λ x. x ++ rest) whole ∙ append_assoc first (b ∷ []) rest in
    let byte : get_or text (length first) 0 ≡ b = ap (λ x. get_or x (length first) 0) is ∙ get_or-seam first b rest in
    let size : length text ≡ length first + suc (length rest) = ap length is ∙ length-append first (b ∷ rest) in
    let cut = IsUtf8-take text (length first + 1) utf8 (IsCharBoundary-after_ascii text (length first) utf8 (omega (arith, size)) (omega (arith, byte, low))) in
    let same_front : take (length first + 1) text ≡ head ++ front =
    ap (λ x. take (length first + 1) x) (split ∙ ap (λ x. x ++ rest) whole) ∙ ap (λ n. take n ((first ++ b ∷ []) ++ rest)) (sym (length-append first (b ∷ []))) ∙ take-append_seam (first ++ b ∷ []) rest ∙ sym whole in
    rw same_front at cut
  where
    get_or-seam : (xs : List ℕ) (b : ℕ) (ys : List ℕ) → get_or (xs ++ b ∷ ys) (length xs) 0 ≡ b
    get_or-seam [] b ys = refl
    get_or-seam (x ∷ xs) b ys = get_or-seam xs b ys

pub mark_utf8 : IsUtf8 byte_order_mark
unfolding encode
mark_utf8 = (0xFEFF ∷ [], (refl, refl))

pub Stands-scan : (text : List ℕ) (e : LexError) → IsUtf8 text → text_tokens text ≡ Err e → Stands e text
unfolding text_tokens
Stands-scan text e utf8 h = go (has_mark text) refl h
  where
    go : (t : Bool) → has_mark text ≡ t → cond t (scanned 3 (drop 3 text)) (scanned 0 text) ≡ Err e → Stands e text
    go true k read =
        let mark = marked text k in
        let fault = scanned_fault 3 mark.0 e (ap (λ x. scanned 3 (drop 3 x)) (sym mark.1) ∙ read) in
        let front = fault.0 in
        let split : text ≡ (byte_order_mark ++ front) ++ fault.1 = mark.1 ∙ ap (λ x. byte_order_mark ++ x) fault.3 in
        (byte_order_mark ++ front, fault.1, fault.2, split, omega (arith, fault.7.0), (utf8_front text byte_order_mark front fault.1 utf8 split mark_utf8 fault.5, inr (front, refl, fault.4)), inr (mark.0, mark.1, fault.6), fault.7.1)
    go false k read =
        let fault = scanned_fault 0 text e read in
        let none : (more : List ℕ) → ¬ (text ≡ byte_order_mark ++ more) = λ more is. let wrong : has_mark text ≡ true = ap has_mark is in cc in
        (fault.0, fault.1, fault.2, fault.3, omega (arith, fault.7.0), (utf8_front text [] fault.0 fault.1 utf8 fault.3 IsUtf8-nil fault.5, inl fault.4), inl (none, fault.6), fault.7.1)

abbrev Refused : LexError → List ℕ → Type 0
Refused e text = (length text ≤ max_len) × IsUtf8 text × ((tokens : List Placed) → ¬ (lexes text tokens)) × Stands e text

refused : (text : List ℕ) (e : LexError) → length text ≤ max_len → IsUtf8 text → text_tokens text ≡ Err e → Refused e text
refused text e fits utf8 h = (fits, utf8, no_tokens text e h, Stands-scan text e utf8 h)

-- Where the scanner refuses, its error is what the refusal says.
pub Refuses-scan : (text : List ℕ) (e : LexError) → length text ≤ max_len → IsUtf8 text → Fails e (text_tokens text) → Refuses e text
Refuses-scan text errors.Memory fits utf8 h = tt
Refuses-scan text (errors.BadCharacter at) fits utf8 h = refused text (errors.BadCharacter at) fits utf8 h
Refuses-scan text (errors.OpenString at) fits utf8 h = refused text (errors.OpenString at) fits utf8 h
Refuses-scan text (errors.BadEscape at) fits utf8 h = refused text (errors.BadEscape at) fits utf8 h
Refuses-scan text (errors.OpenComment at) fits utf8 h = refused text (errors.OpenComment at) fits utf8 h
Refuses-scan text (errors.NumberTooLarge at) fits utf8 h = refused text (errors.NumberTooLarge at) fits utf8 h
Refuses-scan text (errors.FloatLiteral at) fits utf8 h = refused text (errors.FloatLiteral at) fits utf8 h
Refuses-scan text (errors.NotUtf8 at) fits utf8 h = absurd (not_named (Stands-scan text (errors.NotUtf8 at) utf8 h))
  where
    not_named : Stands (errors.NotUtf8 at) text → ⊥
    not_named (front, rest, tokens, split, place, lexed, comes, names) = names
Refuses-scan text (errors.FileTooLong at) fits utf8 h = absurd (not_named (Stands-scan text (errors.FileTooLong at) utf8 h))
  where
    not_named : Stands (errors.FileTooLong at) text → ⊥
    not_named (front, rest, tokens, split, place, lexed, comes, names) = names
