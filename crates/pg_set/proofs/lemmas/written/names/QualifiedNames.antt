-- Names whose bytes are letters and digits, and packages of them, stay as they are when they are quoted. So the qualified name of such a name
-- is its full name with a dot in front, and such names occur once, or are free of a package, where the full names are.
use Rattle.std.proofs.Common.{◌≡◌, ℕ, Bool, true, false, cond, not, nat_eq, eqb, ◌&&◌, ◌||◌, List, [], ◌∷◌, ◌++◌, map, codes, refl, ap, ap₂, sym, ◌∙◌, arith, rules}
use Rattle.std.proofs.lemmas.Grind.{common_steps}
use Rattle.std.proofs.lemmas.Bool.{false≢true}
use Rattle.std.specs.Char.{to_ascii_uppercase}
use Rattle.std.specs.List.{list_all}
use Rattle.pg_schema.specs.JsonName.{in_camel_case}
use Rattle.pg_schema.specs.rules.DeclaredNames.{entry_name, within}
use Rattle.pg_schema.specs.rules.Packages.{is_free_of, is_front}
use Rattle.pg_schema.specs.rules.Pairs.{are_distinct, differ}
use Rattle.pg_schema.specs.rules.Words.{is_digit, is_letter, is_package, is_word, is_word_byte}
use Rattle.pg_schema.specs.inner.Steps.{may_stand}
use Rattle.pg_schema.proofs.lemmas.rules.PairLemmas.{and_both, and_left, and_right}
use Rattle.pg_schema.proofs.lemmas.rules.WordLemmas.{words_from, words_step}
use Rattle.pg_set.specs.stated.SetNames.{escaped, is_backslash, name_in, package_scope, quoted}
use Rattle.pg_set.specs.writing.Fields.{dotted}
use Rattle.pg_set.proofs.lemmas.lists.Tests.{same_number}

-- ---- bytes of words

abbrev pub is_plain : List ℕ → Bool
is_plain name = list_all is_word_byte name

-- a word's byte is none that no word has
apart : (byte other : ℕ) → is_word_byte other ≡ false → is_word_byte byte ≡ true → nat_eq byte other ≡ false
apart byte other none word = search (rules, false≢true, same_number)

letter_in_word : (byte : ℕ) → is_letter byte ≡ true → is_word_byte byte ≡ true
letter_in_word byte letter = ap (λ b. b || is_digit byte) letter

pub word_plain : (name : List ℕ) → is_word name ≡ true → is_plain name ≡ true
word_plain [] word = absurd (false≢true word)
word_plain (b ∷ bytes) word = search (rules, and_both, letter_in_word, and_left, and_right)

-- ---- quoted

quoted_plain : (name : List ℕ) → is_plain name ≡ true → quoted name ≡ name
quoted_plain [] plain = refl
quoted_plain (b ∷ bytes) plain =
    let word = and_left (is_word_byte b) (is_plain bytes) plain in
    ap₂ (λ x y. cond (x || y) (92 ∷ b ∷ quoted bytes) (b ∷ quoted bytes)) (apart b 46 refl word) (apart b 92 refl word)
    ∙ ap (λ bs. b ∷ bs) (quoted_plain bytes (and_right (is_word_byte b) (is_plain bytes) plain))

-- ---- packages

-- what may be in a package is no backslash
no_backslash : (begins : Bool) (byte : ℕ) → may_stand begins byte ≡ true → nat_eq byte 92 ≡ false
no_backslash begins byte may = search (rules, false≢true, same_number)

unescaped : (begins : Bool) (bytes : List ℕ) → words_from begins bytes ≡ true → escaped is_backslash bytes ≡ bytes
unescaped begins [] words = refl
unescaped begins (b ∷ bytes) words =
    let both = sym (words_step begins b bytes) ∙ words in
    ap (λ x. cond x (92 ∷ b ∷ escaped is_backslash bytes) (b ∷ escaped is_backslash bytes)) (no_backslash begins b (and_left (may_stand begins b) (words_from (eqb b 46) bytes) both))
    ∙ ap (λ bs. b ∷ bs) (unescaped (eqb b 46) bytes (and_right (may_stand begins b) (words_from (eqb b 46) bytes) both))

-- the scope that a full name is, none where there is no name
abbrev pub scope_of : List ℕ → List ℕ
scope_of [] = []
scope_of (byte ∷ bytes) = dotted (byte ∷ bytes)

pub package_words : (name : List ℕ) → is_package name ≡ true → package_scope name ≡ scope_of name
package_words [] words = refl
package_words (b ∷ bytes) words = ap dotted (unescaped true (b ∷ bytes) words)

-- ---- full names

joined : (scope name : List ℕ) → scope_of scope ++ dotted name ≡ dotted (within scope name)
joined [] name = refl
joined (byte ∷ bytes) name = refl

pub plain_in : (scope name : List ℕ) → is_plain name ≡ true → name_in (scope_of scope) name ≡ dotted (within scope name)
plain_in scope name plain = ap (λ n. scope_of scope ++ dotted n) (quoted_plain name plain) ∙ joined scope name

pub all_in : (scope : List ℕ) (names : List (List ℕ)) → list_all is_plain names ≡ true → map dotted (map (within scope) names) ≡ map (name_in (scope_of scope)) names
all_in scope [] plain = refl
all_in scope (n ∷ names) plain =
    ap₂ (λ x xs. x ∷ xs) (sym (plain_in scope n (and_left (is_plain n) (list_all is_plain names) plain))) (all_in scope names (and_right (is_plain n) (list_all is_plain names) plain))

-- ---- names of entry types

upper_plain : (byte : ℕ) → is_word_byte byte ≡ true → is_word_byte (to_ascii_uppercase byte) ≡ true
upper_plain byte word = search rules

cased_plain : (behind : Bool) (name : List ℕ) → is_plain name ≡ true → is_plain (in_camel_case behind name) ≡ true
cased_plain behind [] plain = refl
cased_plain behind (b ∷ bytes) plain =
    of (nat_eq b 95) behind (and_left (is_word_byte b) (is_plain bytes) plain)
    (cased_plain true bytes (and_right (is_word_byte b) (is_plain bytes) plain)) (cased_plain false bytes (and_right (is_word_byte b) (is_plain bytes) plain))
  where
    cased : (up : Bool) → is_word_byte b ≡ true → is_word_byte (cond up (to_ascii_uppercase b) b) ≡ true
    cased true word = upper_plain b word
    cased false word = word

    of : (line up : Bool) → is_word_byte b ≡ true → is_plain (in_camel_case true bytes) ≡ true → is_plain (in_camel_case false bytes) ≡ true
        → is_plain (cond line (in_camel_case true bytes) (cond up (to_ascii_uppercase b) b ∷ in_camel_case false bytes)) ≡ true
    of true up word after others = after
    of false up word after others = and_both (is_word_byte (cond up (to_ascii_uppercase b) b)) (is_plain (in_camel_case false bytes)) (cased up word) others

both_plain : (xs ys : List ℕ) → is_plain xs ≡ true → is_plain ys ≡ true → is_plain (xs ++ ys) ≡ true
both_plain [] ys first second = second
both_plain (x ∷ xs) ys first second = grind (arith, common_steps, and_both, and_left, and_right)

pub entry_plain : (name : List ℕ) → is_plain name ≡ true → is_plain (entry_name name) ≡ true
entry_plain name plain = both_plain (in_camel_case true name) (codes "Entry") (cased_plain true name plain) refl

-- ---- lists of names

differ_dotted : (name : List ℕ) (names : List (List ℕ)) → list_all (differ (dotted name)) (map dotted names) ≡ list_all (differ name) names
differ_dotted name [] = refl
differ_dotted name (n ∷ names) = ap (λ b. differ name n && b) (differ_dotted name names)

pub distinct_dotted : (names : List (List ℕ)) → are_distinct (map dotted names) ≡ are_distinct names
distinct_dotted [] = refl
distinct_dotted (n ∷ names) = ap₂ (λ x y. x && y) (differ_dotted n names) (distinct_dotted names)

free_dotted : (names : List (List ℕ)) (text : List ℕ) → is_free_of (map dotted names) (dotted text) ≡ is_free_of names text
free_dotted [] text = refl
free_dotted (n ∷ names) text = ap (λ b. not (is_front n text) && b) (free_dotted names text)

-- no name is a part of no package
free_of_none : (names : List (List ℕ)) → is_free_of (map dotted names) [] ≡ true
free_of_none [] = refl
free_of_none (n ∷ names) = free_of_none names

pub scope_free : (names : List (List ℕ)) (text : List ℕ) → is_free_of names text ≡ true → is_free_of (map dotted names) (scope_of text) ≡ true
scope_free names [] free = free_of_none names
scope_free names (byte ∷ bytes) free = free_dotted names (byte ∷ bytes) ∙ free
