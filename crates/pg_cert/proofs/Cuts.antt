-- Words cut off the front of a string.
use Rattle.std.proofs.Common.{◌≡◌, ℕ, ◌+◌, ◌-◌, ◌<◌, suc, nat_eq, nat_lt, Bool, not, true, false, cond, List, [], ◌∷◌, ◌++◌, take, drop, length, Option, Some, None, option_map, position, refl, ap, sym, ◌∙◌, subst, arith, add-one}
use Rattle.std.specs.List.{position_or_len}
use Rattle.std.proofs.lemmas.Bool.{and_parts, lt-ltb, eq-eqb}
use Rattle.pg_cert.specs.inner.Reading.{lacks}

not_not : (b : Bool) → not b ≡ true → b ≡ false
not_not false h = refl
not_not true h = absurd (cc)

-- the offset of the byte after a word that lacks it
place : (byte : ℕ) (word rest : List ℕ) → lacks byte word ≡ true → position_or_len (λ b. nat_eq b byte) (word ++ byte ∷ rest) ≡ length word
place byte [] rest h = rw (eq-eqb byte byte refl) refl
place byte (b ∷ word) rest h =
    let parts = and_parts (not (nat_eq b byte)) (lacks byte word) h in
    let later = place byte word rest parts.1 in
    rw (not_not (nat_eq b byte) parts.0) (omega (arith, later))

inside : (byte : ℕ) (word rest : List ℕ) → length word < length (word ++ byte ∷ rest)
inside byte [] rest = omega arith
inside byte (b ∷ word) rest = let h = inside byte word rest in omega (arith, h)

taken : (byte : ℕ) (word rest : List ℕ) → take (length word) (word ++ byte ∷ rest) ≡ word
taken byte [] rest = refl
taken byte (b ∷ word) rest = ap (λ w. b ∷ w) (taken byte word rest)

dropped : (byte : ℕ) (word rest : List ℕ) → drop (suc (length word)) (word ++ byte ∷ rest) ≡ rest
dropped byte [] rest = refl
dropped byte (b ∷ word) rest = dropped byte word rest

pub position-found : (byte : ℕ) (text word rest : List ℕ) → lacks byte word ≡ true → text ≡ word ++ byte ∷ rest → position (λ b. nat_eq b byte) text ≡ Some (length word)
position-found byte text word rest h is =
    ap (position (λ b. nat_eq b byte)) is
    ∙ ap (λ n. cond (nat_lt n (length (word ++ byte ∷ rest))) (Some n) None) (place byte word rest h)
    ∙ ap (λ b. cond b (Some (length word)) None) (lt-ltb (length word) (length (word ++ byte ∷ rest)) (inside byte word rest))

pub front-found : (byte : ℕ) (text word rest : List ℕ) → text ≡ word ++ byte ∷ rest → take (length word) text ≡ word
front-found byte text word rest is = ap (take (length word)) is ∙ taken byte word rest

pub back-found : (byte : ℕ) (text word rest : List ℕ) → text ≡ word ++ byte ∷ rest → drop (length word + 1) text ≡ rest
back-found byte text word rest is = ap (drop (length word + 1)) is ∙ ap (λ n. drop n (word ++ byte ∷ rest)) (add-one (length word)) ∙ dropped byte word rest

length-word : (byte : ℕ) (word rest : List ℕ) → length (word ++ byte ∷ rest) ≡ length word + 1 + length rest
length-word byte [] rest = omega arith
length-word byte (b ∷ word) rest = let h = length-word byte word rest in omega (arith, h)

whole_taken : (n : ℕ) (xs : List ℕ) → n ≡ length xs → take n xs ≡ xs
whole_taken n [] h = rw h refl
whole_taken n (x ∷ xs) h = rw h (ap (λ ys. x ∷ ys) (whole_taken (length xs) xs refl))

-- Of a string that begins with that word, what comes before and after the byte.
pub cut-found : (byte : ℕ) (text word rest : List ℕ) (at : ℕ) → position (λ b. nat_eq b byte) text ≡ Some at → lacks byte word ≡ true → text ≡ word ++ byte ∷ rest →
    ◌≡◌ {A = Option (List ℕ × List ℕ)} (Some (take at text, take (length text - (at + 1)) (drop (at + 1) text))) (Some (word, rest))
cut-found byte text word rest at found h is =
    let same : length word ≡ at = let there = position-found byte text word rest h is in cc in
    let back : drop (at + 1) text ≡ rest = subst (λ n. drop (n + 1) text ≡ rest) same (back-found byte text word rest is) in
    let front : take at text ≡ word = subst (λ n. take n text ≡ word) same (front-found byte text word rest is) in
    let long : length text ≡ length word + 1 + length rest = ap length is ∙ length-word byte word rest in
    let left : length text - (at + 1) ≡ length rest = omega (arith, long, same) in
    let after : take (length text - (at + 1)) (drop (at + 1) text) ≡ rest = ap (take (length text - (at + 1))) back ∙ whole_taken (length text - (at + 1)) rest left in
    λ j. Some (front j, after j)

pub cut-lost : {A : Type 0} (byte : ℕ) (text word rest : List ℕ) → position (λ b. nat_eq b byte) text ≡ None → lacks byte word ≡ true → text ≡ word ++ byte ∷ rest → A
cut-lost byte text word rest lost h is = absurd (let there = position-found byte text word rest h is in cc)

-- What a call found is what it gave.
pub some_is : {A B : Type 0} (f : A → B) (r : Option A) (a : A) (x : B) → option_map f r ≡ Some x → r ≡ Some a → f a ≡ x
some_is f None a x h is = absurd (cc)
some_is f (Some b) a x h is = let same : b ≡ a = cc in let found : f b ≡ x = cc in ap f (sym same) ∙ found

pub none_lost : {A B C : Type 0} (f : A → B) (r : Option A) (x : B) → option_map f r ≡ Some x → r ≡ None → C
none_lost f None x h is = absurd (cc)
none_lost f (Some b) x h is = absurd (cc)
