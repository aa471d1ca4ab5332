-- Names that are in a scope are that scope's and their own, and their own are words.
use Rattle.std.proofs.Common.{◌≡◌, ◌≢◌, ℕ, zero, suc, ◌<◌, true, List, [], ◌∷◌, ◌++◌, length, get_or, take, drop, Option, None, Some, option_map, refl, ap, sym, ◌∙◌, arith, rules}
use Rattle.std.proofs.lemmas.Bool.{false≢true}
use Rattle.std.proofs.lemmas.List.{take-append-drop}
use Rattle.std.proofs.lemmas.Slice.Eq.{bytes_eq-Decides}
use Rattle.std.specs.List.{list_all}
use Rattle.std.specs.Str.{bytes_eq}
use Rattle.pg_schema.specs.rules.DeclaredNames.{within}
use Rattle.pg_schema.specs.rules.Scopes.{is_dot_and_word, is_in, is_named_in}
use Rattle.pg_schema.specs.rules.Words.{is_word, is_word_byte}
use Rattle.pg_schema.proofs.lemmas.rules.PairLemmas.{and_left, and_right}
use Rattle.pg_set.specs.stated.SetNames.{name_in}
use Rattle.pg_set.specs.writing.Fields.{dotted}
use Rattle.pg_set.specs.writing.Messages.{own_name}
use Rattle.pg_set.proofs.lemmas.lists.Tests.{same_number}
use Rattle.pg_set.proofs.lemmas.writing.NameLaws.{own_of_dotted, own_of_word}
use Rattle.pg_set.proofs.lemmas.written.names.QualifiedNames.{plain_in, scope_of, word_plain}

no_dot : (byte : ℕ) → is_word_byte byte ≡ true → byte ≢ 46
no_dot byte word is = false≢true (sym (ap is_word_byte is) ∙ word)

no_dots : (bytes : List ℕ) → list_all is_word_byte bytes ≡ true → (i : ℕ) → i < length bytes → get_or bytes i 0 ≢ 46
no_dots [] word i h = absurd (omega (arith, h))
no_dots (b ∷ bytes) word zero h = no_dot b (and_left (is_word_byte b) (list_all is_word_byte bytes) word)
no_dots (b ∷ bytes) word (suc i) h = no_dots bytes (and_right (is_word_byte b) (list_all is_word_byte bytes) word) i (omega (arith, h))

dotted_back : (before back : List ℕ) → is_dot_and_word back ≡ true → (before ++ back ≡ before ++ (46 ∷ own_name (before ++ back))) × (is_word (own_name (before ++ back)) ≡ true)
dotted_back before [] word = absurd (false≢true word)
dotted_back before (b ∷ own) word = search (rules, same_number, and_left, and_right, own_of_dotted, no_dots, word_plain)

abbrev IsWithin : (scope name : List ℕ) → Type 0
IsWithin scope name = (name ≡ within scope (own_name name)) × (is_word (own_name name) ≡ true)

stands_within : (scope name : List ℕ) → is_in scope name ≡ true → IsWithin scope name
stands_within [] name word = let own = own_of_word name (no_dots name (word_plain name word)) in (own, sym (ap is_word own) ∙ word)
stands_within (byte ∷ bytes) name word =
    let n = length (byte ∷ bytes) in
    let front : take n name ≡ byte ∷ bytes =
    (bytes_eq-Decides (take n name) (byte ∷ bytes)).0 (and_left (bytes_eq (take n name) (byte ∷ bytes)) (is_dot_and_word (drop n name)) word) in
    let whole : (byte ∷ bytes) ++ drop n name ≡ name = ap (λ xs. xs ++ drop n name) (sym front) ∙ take-append-drop n name in
    let back = dotted_back (byte ∷ bytes) (drop n name) (and_right (bytes_eq (take n name) (byte ∷ bytes)) (is_dot_and_word (drop n name)) word) in
    (sym whole ∙ back.0 ∙ ap (λ x. (byte ∷ bytes) ++ (46 ∷ own_name x)) whole, sym (ap (λ x. is_word (own_name x)) whole) ∙ back.1)

-- the full name of a name that is in the scope
pub name_within : (scope name : List ℕ) → is_in scope name ≡ true → name ≡ within scope (own_name name)
name_within scope name inside = (stands_within scope name inside).0

-- and its qualified name
pub name_qualified : (scope name : List ℕ) → is_in scope name ≡ true → name_in (scope_of scope) (own_name name) ≡ dotted name
name_qualified scope name inside = search (rules, stands_within, plain_in, word_plain)

-- what is in it has a name, so it is a scope
pub is_scope : (scope name : List ℕ) → is_in scope name ≡ true → scope_of name ≡ dotted name
is_scope scope (b ∷ name) inside = refl
is_scope [] [] inside = absurd (false≢true inside)
is_scope (byte ∷ bytes) [] inside = let e = ap length (name_within (byte ∷ bytes) [] inside) in absurd (omega (arith, e))

-- the item at an index that has a name in the scope
pub named_there : {A : Type 0} (name : A → List ℕ) (scope : List ℕ) (o : Option A) (Goal : Type 0) → ((x : A) → o ≡ Some x → is_in scope (name x) ≡ true → Goal)
    → is_named_in scope (option_map name o) ≡ true → Goal
named_there name scope None Goal go h = absurd (false≢true h)
named_there name scope (Some x) Goal go h = go x refl h
