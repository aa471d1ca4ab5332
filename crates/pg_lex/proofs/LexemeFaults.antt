-- Where the scanner reads no lexeme, what its fault names begins.
use Rattle.std.proofs.Common.{◌≡◌, ℕ, zero, suc, ◌+◌, ◌^◌, ◌<◌, ◌≤◌, Bool, true, false, eqb, ltb, List, [], ◌∷◌, ◌++◌, length, take, drop, refl, sym, ◌∙◌, ap, arith, ◌⊎◌, inl, inr, Result, Ok, Err, Option, Some, None, append_assoc, eq-eqb, subst}
use Rattle.std.proofs.Math.Seq.{take-append_seam, drop-append_seam}
use Rattle.std.proofs.lemmas.List.{take-append-drop}
use Rattle.std.proofs.lemmas.Bool.Decides.{nat_tests}
use Rattle.std.specs.Prelude.{◌&&◌, ◌||◌, not}
use Rattle.std.specs.List.{prefix_len, list_all}
use Rattle.std.specs.Str.{is_utf8}
use Rattle.pg_lex.specs.declared.error.LexError.{LexError}
use Rattle.pg_lex.specs.declared.error.LexError.TheVariants.{BadCharacter, OpenString, BadEscape, NumberTooLarge, FloatLiteral}
use Rattle.pg_lex.specs.Bytes.{is_letter, is_digit, is_octal_digit, is_hex_digit, is_word_byte, is_quote, is_mark, is_dot, is_exponent, begins}
use Rattle.pg_lex.specs.Faults.{BeginsNumber}
use Rattle.pg_lex.specs.Gap.{Between}
use Rattle.pg_lex.specs.Literal.{Plain, IsBody, resolved}
use Rattle.pg_lex.specs.Number.{value, IsPlain, IsHexadecimal}
use Rattle.pg_lex.specs.Run.{if_some, ◌>>=◌}
use Rattle.pg_lex.specs.Scan.{skip, Rest, has_x, base_of, hexadecimal, plain, number, body_len, resolved_at, text_of, literal_at, mark_at, lexeme, word_len}
use Rattle.pg_lex.specs.Symbol.{Symbol, Word, Whole, Text, Mark}
use Rattle.pg_lex.proofs.Bits.{both, either_false, same}
use Rattle.pg_lex.proofs.GapFaults.{Reports, choice, settled_byte}
use Rattle.pg_lex.proofs.LexemeLaws.{IsBody-found, body_len-again, begins-run, word_of_digit, hex_is_word, x_is_word}
use Rattle.pg_lex.proofs.NumberLaws.{not_false, below, octal_digit, some_prefix}
use Rattle.pg_lex.proofs.Prefixes.{prefix_len-append, begins-prefix, list_all-weaker}
use Rattle.pg_lex.proofs.Scans.{list_all-prefix}

-- ---- results

-- which of two steps failed
pub bind_err : {X Y : Type 0} (r : Result X LexError) (f : X → Result Y LexError) (e : LexError) → (r >>= f) ≡ Err e → (r ≡ Err e) ⊎ ((x : X) × (r ≡ Ok x) × (f x ≡ Err e))
bind_err (Ok x) f e h = inr (x, refl, h)
bind_err (Err d) f e h = inl (let k : d ≡ e = cc in ap Err k)

-- ---- fronts

-- The longest front of bytes that pass a test is one.
pub front_unique : (p : ℕ → Bool) (a b x y : List ℕ) → list_all p a ≡ true → begins p b ≡ false → list_all p x ≡ true → begins p y ≡ false → a ++ b ≡ x ++ y → (a ≡ x) × (b ≡ y)
front_unique p a b x y all stop every ends e =
    let len : length a ≡ length x = sym (prefix_len-append p a b all stop) ∙ ap (prefix_len p) e ∙ prefix_len-append p x y every ends in (
      sym (take-append_seam a b) ∙ ap (take (length a)) e ∙ ap (λ n. take n (x ++ y)) len ∙ take-append_seam x y,
      sym (drop-append_seam a b) ∙ ap (drop (length a)) e ∙ ap (λ n. drop n (x ++ y)) len ∙ drop-append_seam x y,
    )

no_digit : (bytes : List ℕ) → begins is_word_byte bytes ≡ false → begins is_digit bytes ≡ false
no_digit [] h = refl
no_digit (b ∷ bytes) h = go b h
  where
    go : (b : ℕ) → is_word_byte b ≡ false → is_digit b ≡ false
    go b h = grind (arith, nat_tests)

exponent_no_digit : (bytes : List ℕ) → begins is_exponent bytes ≡ true → begins is_digit bytes ≡ false
exponent_no_digit [] h = refl
exponent_no_digit (b ∷ bytes) h = go b h
  where
    go : (b : ℕ) → is_exponent b ≡ true → is_digit b ≡ false
    go b h = grind (arith, nat_tests)

-- what may follow decimal and octal digits is no digit
pub ends_digits : (rest : List ℕ) → (begins is_word_byte rest ≡ false) ⊎ (begins is_exponent rest ≡ true) → begins is_digit rest ≡ false
ends_digits rest (inl h) = no_digit rest h
ends_digits rest (inr h) = exponent_no_digit rest h

pub plain_digits : (digits : List ℕ) (n : ℕ) → IsPlain digits n → list_all is_digit digits ≡ true
plain_digits [] n h = refl
plain_digits (b ∷ digits) n (inl (decimal, is)) = decimal.1
plain_digits (b ∷ digits) n (inr (octal, is)) =
    let zero' : is_digit b ≡ true = ap is_digit octal.0 in
    rw (zero', list_all-weaker is_octal_digit is_digit digits octal_digit octal.1)

pub hex_word : (digits : List ℕ) → IsHexadecimal digits → (list_all is_word_byte digits ≡ true) × (has_x digits ≡ true)
hex_word [] h = absurd h
hex_word (a ∷ []) h = absurd h
hex_word (a ∷ x ∷ []) h = absurd h
hex_word (a ∷ x ∷ d ∷ ds) h =
    let word : is_word_byte a ≡ true = ap is_word_byte h.0 in
    let letter : is_word_byte x ≡ true = x_is_word x h.1 in
    let first : eqb a 48 ≡ true = eq-eqb a 48 h.0 in
    (rw (word, letter) (list_all-weaker is_hex_digit is_word_byte (d ∷ ds) hex_is_word h.2), rw first h.1)

-- ---- numbers

-- digits of base 8 or 10, as the first of them says
is_plain : (digits : List ℕ) → 0 < length digits → list_all is_digit digits ≡ true → (eqb (base_of digits) 8 ≡ true → list_all is_octal_digit digits ≡ true) → IsPlain digits (value (base_of digits) digits)
is_plain [] some all octal = absurd (omega arith)
is_plain (b ∷ digits) some all octal = go (eqb b 48) refl
  where
    go : (t : Bool) → eqb b 48 ≡ t → IsPlain (b ∷ digits) (value (base_of (b ∷ digits)) (b ∷ digits))
    go true e =
        let base : base_of (b ∷ digits) ≡ 8 = rw e in
        let eight : eqb (base_of (b ∷ digits)) 8 ≡ true = eq-eqb (base_of (b ∷ digits)) 8 base in
        inr ((same b 48 e, (both (is_octal_digit b) (list_all is_octal_digit digits) (octal eight)).1), ap (λ n. value n (b ∷ digits)) base)
    go false e =
        let base : base_of (b ∷ digits) ≡ 10 = rw e in
        inl ((e, all), ap (λ n. value n (b ∷ digits)) base)

-- of digits in the base 8 each is octal
plain_octal : (digits : List ℕ) (n : ℕ) → IsPlain digits n → eqb (base_of digits) 8 ≡ true → list_all is_octal_digit digits ≡ true
plain_octal [] n h eight = refl
plain_octal (b ∷ digits) n (inl (decimal, is)) eight =
    let first : eqb b 48 ≡ false = decimal.0 in
    let base : base_of (b ∷ digits) ≡ 10 = rw first in
    absurd (let no' : eqb 10 8 ≡ true = ap (λ n. eqb n 8) (sym base) ∙ eight in cc)
plain_octal (b ∷ digits) n (inr (octal, is)) eight =
    let zero' : is_octal_digit b ≡ true = ap is_octal_digit octal.0 in
    rw (zero', octal.1)

-- what the first test of digits says, of both outcomes
spoiled : (e o t : Bool) → ((e && not o) || not t) ≡ true → (e ≡ true → o ≡ true) → t ≡ true → ⊥
spoiled true true true h k l = cc
spoiled true false true h k l = let wrong : false ≡ true = k refl in cc
spoiled false o true h k l = cc
spoiled e o false h k l = cc

sound : (e o t : Bool) → ((e && not o) || not t) ≡ false → (e ≡ true → o ≡ true) × (t ≡ true)
sound true true true h = (λ k. refl, refl)
sound true false t h = cc
sound false o true h = (λ k. cc, refl)
sound false o false h = cc
sound true true false h = cc

empty_or : (tail : List ℕ) → (eqb (length tail) 0 || begins is_exponent tail) ≡ true → (tail ≡ []) ⊎ (begins is_exponent tail ≡ true)
empty_or [] h = inl refl
empty_or (b ∷ tail) h = inr (let none : eqb (suc (length tail)) 0 ≡ false = grind (arith, nat_tests) in rw none at h)

-- what may follow digits in a run of letters, digits and `_`
tail_ends : (tail rest : List ℕ) → list_all is_word_byte tail ≡ true → (begins is_word_byte (tail ++ rest) ≡ false) ⊎ (begins is_exponent (tail ++ rest) ≡ true) → (eqb (length tail) 0 || begins is_exponent tail) ≡ true
tail_ends [] rest all h = refl
tail_ends (b ∷ tail) rest all (inl stop) = absurd (let word = (both (is_word_byte b) (list_all is_word_byte tail) all).0 in cc)
tail_ends (b ∷ tail) rest all (inr e) = let none : eqb (suc (length tail)) 0 ≡ false = grind (arith, nat_tests) in rw (none, e)

begins_front : (p : ℕ → Bool) (bytes rest : List ℕ) → begins p bytes ≡ true → begins p (bytes ++ rest) ≡ true
begins_front p [] rest h = cc
begins_front p (b ∷ bytes) rest h = h

first_of : (p : ℕ → Bool) (bytes : List ℕ) → 0 < length bytes → list_all p bytes ≡ true → begins p bytes ≡ true
first_of p [] some h = absurd (omega arith)
first_of p (b ∷ bytes) some h = (both (p b) (list_all p bytes) h).0

dotted : (rest : List ℕ) → begins is_dot rest ≡ true → begins (λ b. is_dot b || is_exponent b) rest ≡ true
dotted [] h = cc
dotted (b ∷ rest) h = rw h

weaker : (tail : List ℕ) → begins is_exponent tail ≡ true → begins (λ b. is_dot b || is_exponent b) tail ≡ true
weaker [] h = cc
weaker (b ∷ tail) h = go (is_dot b)
  where
    go : (t : Bool) → (t || is_exponent b) ≡ true
    go true = refl
    go false = h

is_large : (n m : ℕ) → ltb n m ≡ false → m ≤ n
is_large n m h = grind (arith, nat_tests)

not_true : (p : Bool) → not p ≡ true → p ≡ false
not_true true h = cc
not_true false h = refl

pub one_digit : (a : ℕ) → is_digit a ≡ true → list_all is_digit (a ∷ []) ≡ true
one_digit a h = rw h

pub not_x : (x : ℕ) → (eqb x 120 || eqb x 88) ≡ true → (is_digit x ≡ false) × (is_exponent x ≡ false)
not_x x h = (grind (arith, nat_tests), grind (arith, nat_tests))

module _ (at : ℕ) (rest : List ℕ) (stop : begins is_word_byte rest ≡ false) where
  -- the digits of a number in front are those of its run
  module _ (digits tail : List ℕ) (some : 0 < length digits) (all : list_all is_digit digits ≡ true) (ends : begins is_digit (tail ++ rest) ≡ false)
      (letters : list_all is_word_byte (digits ++ tail) ≡ true) (no_x : has_x (digits ++ tail) ≡ false) (behind : list_all is_word_byte tail ≡ true) where
    spoiled_number : ((eqb (base_of digits) 8 && not (list_all is_octal_digit digits)) || not (eqb (length tail) 0 || begins is_exponent tail)) ≡ true → (n : ℕ) → ¬ (BeginsNumber ((digits ++ tail) ++ rest) n)
    spoiled_number bad n (front, more, split, inl (is, next)) =
        let alike = front_unique is_digit digits (tail ++ rest) front more all ends (plain_digits front n is) (ends_digits more next) (sym (append_assoc digits tail rest) ∙ split) in
        spoiled _ _ _ bad (plain_octal digits n (rw alike.0 is)) (tail_ends tail rest behind (rw alike.1 next))
    spoiled_number bad n (front, more, split, inr (is, means, end)) =
        let hex = hex_word front is in
        let alike = front_unique is_word_byte (digits ++ tail) rest front more letters stop hex.0 end split in
        let wrong : has_x (digits ++ tail) ≡ true = ap has_x alike.0 ∙ hex.1 in
        cc

    -- what follows sound digits
    follows : (tail ≡ []) ⊎ (begins is_exponent tail ≡ true) → (begins is_word_byte (tail ++ rest) ≡ false) ⊎ (begins is_exponent (tail ++ rest) ≡ true)
    follows (inl none) = inl (rw none stop)
    follows (inr exponent) = inr (begins_front is_exponent tail rest exponent)

    float_behind : (tail ≡ []) ⊎ (begins is_exponent tail ≡ true) → (not (eqb (length tail) 0) || begins is_dot rest) ≡ true → begins (λ b. is_dot b || is_exponent b) (tail ++ rest) ≡ true
    float_behind (inl none) h = rw none (dotted rest (rw none at h))
    float_behind (inr exponent) h = begins_front (λ b. is_dot b || is_exponent b) tail rest (weaker tail exponent)

    plain_fault : (e : LexError) → plain at digits tail rest ≡ Err e → Reports e at ((digits ++ tail) ++ rest)
    unfolding plain
    plain_fault e h = elim (choice ((eqb (base_of digits) 8 && not (list_all is_octal_digit digits)) || not (eqb (length tail) 0 || begins is_exponent tail)) _ _ h) [
      | inl (bad, k) ↦ let is : BadCharacter at ≡ e = cc in rw (← is) (refl, inr (digit_first, spoiled_number bad))
      | inr (good, h) ↦
          let known = sound _ _ _ good in
          let is_number : IsPlain digits (value (base_of digits) digits) = is_plain digits some all known.0 in
          let end = empty_or tail known.1 in
          elim (choice (not (ltb (value (base_of digits) digits) (2 ^ 64))) _ _ h) [
            | inl (large, k) ↦
                let is : NumberTooLarge at ≡ e = cc in
                rw (← is) (refl, (value (base_of digits) digits, is_large (value (base_of digits) digits) (2 ^ 64) (not_true (ltb (value (base_of digits) digits) (2 ^ 64)) large), (digits, tail ++ rest, append_assoc digits tail rest, inl (is_number, follows end))))
            | inr (small, h) ↦ elim (choice (not (eqb (length tail) 0) || begins is_dot rest) _ _ h) [
              | inl (float, k) ↦
                  let is : FloatLiteral at ≡ e = cc in
                  rw (← is) (refl, inr (digits, tail ++ rest, value (base_of digits) digits, append_assoc digits tail rest, is_number, below (value (base_of digits) digits) (2 ^ 64) (not_false (ltb (value (base_of digits) digits) (2 ^ 64)) small), float_behind end float))
              | inr (whole, k) ↦ absurd (let wrong : ◌≡◌ {A = Result ℕ LexError} (Ok (value (base_of digits) digits)) (Err e) = k in cc)
            ]
          ]
    ]
      where
        digit_first : begins is_digit ((digits ++ tail) ++ rest) ≡ true
        digit_first = begins_front is_digit (digits ++ tail) rest (begins_front is_digit digits tail (first_of is_digit digits some all))

  -- the digits after `0x`
  hexadecimal_fault : (run : List ℕ) (e : LexError) → has_x run ≡ true → list_all is_word_byte run ≡ true → hexadecimal at (drop 2 run) ≡ Err e → Reports e at (run ++ rest)
  unfolding hexadecimal
  hexadecimal_fault [] e x letters h = cc
  hexadecimal_fault (a ∷ []) e x letters h = absurd (let wrong = (both (eqb a 48) false x).1 in cc)
  hexadecimal_fault (a ∷ x ∷ ds) e is letters h =
      let prefix = both (eqb a 48) (eqb x 120 || eqb x 88) is in
      elim (choice (eqb (length ds) 0 || not (list_all is_hex_digit ds)) _ _ h) [
        | inl (bad, k) ↦ let is : BadCharacter at ≡ e = cc in rw (← is) (refl, inr (ap is_digit (same a 48 prefix.0), no_number ds letters prefix.0 prefix.1 bad))
        | inr (good, h) ↦ elim (choice (ltb (value 16 ds) (2 ^ 64)) _ _ h) [
          | inl (fits, k) ↦ absurd (let wrong : ◌≡◌ {A = Result ℕ LexError} (Ok (value 16 ds)) (Err e) = k in cc)
          | inr (large, k) ↦
              let is : NumberTooLarge at ≡ e = cc in
              rw (← is) (refl, (value 16 ds, is_large (value 16 ds) (2 ^ 64) large, (a ∷ x ∷ ds, rest, refl, inr (hex ds (same a 48 prefix.0) prefix.1 good, refl, stop))))
        ]
      ]
    where
      hex : (ds : List ℕ) → a ≡ 48 → (eqb x 120 || eqb x 88) ≡ true → (eqb (length ds) 0 || not (list_all is_hex_digit ds)) ≡ false → IsHexadecimal (a ∷ x ∷ ds)
      hex [] first letter good = cc
      hex (d ∷ ds) first letter good = (first, letter, not_false (list_all is_hex_digit (d ∷ ds)) (either_false (eqb (suc (length ds)) 0) (not (list_all is_hex_digit (d ∷ ds))) good).1)

      spoiled_hex : (ds : List ℕ) → (eqb (length ds) 0 || not (list_all is_hex_digit ds)) ≡ true → IsHexadecimal (a ∷ x ∷ ds) → ⊥
      spoiled_hex [] bad h = h
      spoiled_hex (d ∷ ds) bad h = let none : eqb (suc (length ds)) 0 ≡ false = grind (arith, nat_tests) in let all : list_all is_hex_digit (d ∷ ds) ≡ true = h.2 in absurd (let wrong : false ≡ true = rw (none, all) at bad in cc)

      no_number : (ds : List ℕ) → list_all is_word_byte (a ∷ x ∷ ds) ≡ true → eqb a 48 ≡ true → (eqb x 120 || eqb x 88) ≡ true → (eqb (length ds) 0 || not (list_all is_hex_digit ds)) ≡ true → (n : ℕ) → ¬ (BeginsNumber ((a ∷ x ∷ ds) ++ rest) n)
      no_number ds letters first letter bad n (front, more, split, inl (is, next)) =
          let alike = front_unique is_digit (a ∷ []) (x ∷ ds ++ rest) front more (one_digit a (ap is_digit (same a 48 first))) (not_x x letter).0 (plain_digits front n is) (ends_digits more next) split in
          x_stays more alike.1 next
        where
          x_stays : (more : List ℕ) → x ∷ ds ++ rest ≡ more → (begins is_word_byte more ≡ false) ⊎ (begins is_exponent more ≡ true) → ⊥
          x_stays more e (inl k) = let wrong : true ≡ false = sym (x_is_word x letter) ∙ ap (begins is_word_byte) e ∙ k in cc
          x_stays more e (inr k) = let wrong : false ≡ true = sym (not_x x letter).1 ∙ ap (begins is_exponent) e ∙ k in cc
      no_number ds letters first letter bad n (front, more, split, inr (is, means, end)) =
          let hex = hex_word front is in
          let alike = front_unique is_word_byte (a ∷ x ∷ ds) rest front more letters stop hex.0 end split in
          spoiled_hex ds bad (subst IsHexadecimal (sym alike.0) is)

-- a number
pub number_fault : (at : ℕ) (run rest : List ℕ) (e : LexError) → begins is_digit run ≡ true → list_all is_word_byte run ≡ true → begins is_word_byte rest ≡ false → number at run rest ≡ Err e → Reports e at (run ++ rest)
unfolding number
number_fault at run rest e digit letters stop h = elim (choice (has_x run) _ _ h) [
  | inl (x, k) ↦ hexadecimal_fault at rest stop run e x letters k
  | inr (other, k) ↦
      let n = prefix_len is_digit run in
      let digits = take n run in
      let tail = drop n run in
      let whole : digits ++ tail ≡ run = take-append-drop n run in
      subst (λ x. Reports e at (x ++ rest)) whole (plain_fault at rest stop digits tail (some_prefix is_digit run digit) (list_all-prefix is_digit run) (tail_no_digit tail (begins-prefix is_digit run))
      (ap (list_all is_word_byte) whole ∙ letters) (ap has_x whole ∙ other) (list_all-drop is_word_byte n run letters) e k)
]
  where
    tail_no_digit : (tail : List ℕ) → begins is_digit tail ≡ false → begins is_digit (tail ++ rest) ≡ false
    tail_no_digit [] h = no_digit rest stop
    tail_no_digit (b ∷ tail) h = h

    list_all-drop : (p : ℕ → Bool) (n : ℕ) (bytes : List ℕ) → list_all p bytes ≡ true → list_all p (drop n bytes) ≡ true
    list_all-drop p zero bytes h = h
    list_all-drop p (suc n) [] h = refl
    list_all-drop p (suc n) (b ∷ bytes) h = list_all-drop p n bytes (both (p b) (list_all p bytes) h).1

-- ---- literals

-- a literal
literal_fault : (at quote : ℕ) (bytes : List ℕ) (e : LexError) → is_quote quote ≡ true → literal_at at quote bytes ≡ Err e → Reports e at (quote ∷ bytes)
unfolding literal_at text_of
literal_fault at quote bytes e q h = go (body_len quote Plain bytes) refl h
  where
    unresolved : (o : Option (List ℕ)) → resolved_at at o ≡ Err e → (o ≡ None) × (e ≡ BadEscape at)
    unresolved None k = (refl, cc)
    unresolved (Some text) k = cc

    bad : (body rest : List ℕ) → bytes ≡ body ++ quote ∷ rest → IsBody quote body → ((text : List ℕ) → resolved body ≡ Some text → ¬ (is_utf8 text ≡ true)) → e ≡ BadEscape at → Reports e at (quote ∷ bytes)
    bad body rest split inside none is = rw is (refl, (quote, body, rest, ap (λ x. quote ∷ x) split, q, inside, none))

    text_fault : (body rest : List ℕ) → bytes ≡ body ++ quote ∷ rest → IsBody quote body → text_of at body ≡ Err e → Reports e at (quote ∷ bytes)
    text_fault body rest split inside k = elim (bind_err (resolved_at at (resolved body)) _ e k) [
      | inl r ↦ let known = unresolved (resolved body) r in bad body rest split inside (λ text is utf8. let wrong = sym known.0 ∙ is in cc) known.1
      | inr (text, r, u) ↦ elim (choice (is_utf8 text) _ _ u) [
        | inl (utf8, u) ↦ absurd (let wrong : ◌≡◌ {A = Result (List ℕ) LexError} (Ok text) (Err e) = u in cc)
        | inr (broken, u) ↦ bad body rest split inside (λ other is utf8. different (resolved body) text other r is broken utf8) (let is : BadEscape at ≡ e = cc in sym is)
      ]
    ]
      where
        different : (o : Option (List ℕ)) (text other : List ℕ) → resolved_at at o ≡ Ok text → o ≡ Some other → is_utf8 text ≡ false → is_utf8 other ≡ true → ⊥
        different None text other r is broken utf8 = cc
        different (Some t) text other r is broken utf8 =
            let a : t ≡ text = cc in
            let b : t ≡ other = cc in
            let wrong : is_utf8 text ≡ true = ap is_utf8 (sym a ∙ b) ∙ utf8 in
            cc

    go : (o : Option ℕ) → body_len quote Plain bytes ≡ o
        → if_some {B = Result (Symbol × ℕ) LexError} o (λ m. text_of at (take m bytes) >>= (λ text. Ok (Text text, m + 2))) (Err (OpenString at)) ≡ Err e → Reports e at (quote ∷ bytes)
    go None open' k =
        let is : OpenString at ≡ e = cc in
        rw (← is) (refl, (quote, bytes, refl, q, λ body rest split inside. let again = body_len-again quote Plain body rest q inside in let none : body_len quote Plain (body ++ quote ∷ rest) ≡ None = ap (body_len quote Plain) (sym split) ∙ open' in cc))
    go (Some m) found k = elim (bind_err (text_of at (take m bytes)) _ e k) [
      | inl r ↦ let ends = IsBody-found quote Plain bytes m q found in text_fault (take m bytes) ends.0 ends.1 ends.3 r
      | inr (text, r, u) ↦ absurd (let wrong : ◌≡◌ {A = Result (Symbol × ℕ) LexError} (Ok (Text text, m + 2)) (Err e) = u in cc)
    ]

-- ---- lexemes

-- a mark
mark_fault : (at b : ℕ) (bytes : List ℕ) (e : LexError) → mark_at at b bytes ≡ Err e → Reports e at (b ∷ bytes)
unfolding mark_at
mark_fault at b bytes e h = elim (choice (is_dot b && begins is_digit bytes) _ _ h) [
  | inl (float, k) ↦
      let known = both (is_dot b) (begins is_digit bytes) float in
      let is : FloatLiteral at ≡ e = cc in
      rw (← is) (refl, inl (bytes, ap (λ x. x ∷ bytes) (same b 46 known.0), known.1))
  | inr (mark, k) ↦ absurd (let wrong : ◌≡◌ {A = Result (Symbol × ℕ) LexError} (Ok (Mark b, 1)) (Err e) = k in cc)
]

-- Where no lexeme is read, between gaps, what the fault names begins the bytes.
pub lexeme_fault : (at b : ℕ) (bytes : List ℕ) (e : LexError) → skip (b ∷ bytes) Between (b ∷ bytes) ≡ Rest (b ∷ bytes) → lexeme at (b ∷ bytes) ≡ Err e → Reports e at (b ∷ bytes)
unfolding lexeme
lexeme_fault at b bytes e settled h = elim (choice (is_letter b) _ _ h) [
  | inl (letter, k) ↦ absurd (let wrong : ◌≡◌ {A = Result (Symbol × ℕ) LexError} (Ok (Word (take (word_len all) all), word_len all)) (Err e) = k in cc)
  | inr (no_letter, h) ↦ elim (choice (is_digit b) _ _ h) [
    | inl (digit, k) ↦ elim (bind_err (number at (take (word_len all) all) (drop (word_len all) all)) _ e k) [
      | inl r ↦ subst (Reports e at) (take-append-drop (word_len all) all) (number_fault at (take (word_len all) all) (drop (word_len all) all) e (begins-run is_digit b bytes (word_of_digit b digit) digit) (list_all-prefix is_word_byte all) (begins-prefix is_word_byte all) r)
      | inr (v, r, u) ↦ absurd (let wrong : ◌≡◌ {A = Result (Symbol × ℕ) LexError} (Ok (Whole v, word_len all)) (Err e) = u in cc)
    ]
    | inr (none, h) ↦ elim (choice (is_quote b) _ _ h) [
      | inl (quote, k) ↦ literal_fault at b bytes e quote k
      | inr (no_quote, h) ↦ elim (choice (is_mark b) _ _ h) [
        | inl (mark, k) ↦ mark_fault at b bytes e k
        | inr (no_mark, k) ↦
            let known = settled_byte b bytes settled in
            let is : BadCharacter at ≡ e = cc in
            rw (← is) (refl, inl (b, bytes, refl, rw (no_letter, none, no_quote, no_mark) known.0, known.1))
      ]
    ]
  ]
]
  where
    all : List ℕ
    all = b ∷ bytes
