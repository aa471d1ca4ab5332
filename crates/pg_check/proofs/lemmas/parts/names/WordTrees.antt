-- The names in a tree that is at the tokens of a source file are words.
use Rattle.std.proofs.Common.{◌≡◌, ℕ, Bool, true, ◌&&◌, ◌||◌, ◌==◌, nat_le, List, [], ◌∷◌, ◌++◌, Option, string_bytes, subst, arith, rules}
use Rattle.std.specs.List.{list_all, AllByRecursion}
use Rattle.std.proofs.lemmas.Bool.{false≢true}
use Rattle.pg_lex.specs.Bytes as lexical
use Rattle.pg_lex.specs.Lexes.{Spells, lexes, IsLexeme}
use Rattle.pg_lex.specs.Symbol.{Placed, Symbol, Word, Whole, Text, Mark}
use Rattle.pg_schema.specs.rules.Words.{is_digit, is_letter, is_word, is_word_byte}
use Rattle.pg_link.specs.walk.Walk.{IsParsed}
use Rattle.pg_schema.proofs.lemmas.rules.PairLemmas.{and_both}
use Rattle.pg_check.proofs.lemmas.parts.Eachs.{back_of, front_of}
use Rattle.pg_check.proofs.lemmas.parts.Moved.{all_weaker}
use Rattle.pg_syntax.specs.declared.tree as tree
use Rattle.pg_syntax.specs.declared.tree.Label.{Label}
use Rattle.pg_syntax.specs.Tree.{Tree, Empty, Leaf, Both, At, Stands}
use Rattle.pg_syntax.specs.Views as view

-- ---- tokens

abbrev pub IsGoodSymbol : Symbol → Type 0
IsGoodSymbol (Word w) = is_word w ≡ true
IsGoodSymbol (Whole n) = Unit {0}
IsGoodSymbol (Text t) = Unit {0}
IsGoodSymbol (Mark m) = Unit {0}

abbrev pub IsGoodToken : Placed → Type 0
IsGoodToken t = IsGoodSymbol t.symbol

or_again : (a b c d : Bool) → (a || (b || c)) ≡ true → ((a || b) || c) ≡ true
or_again a b c d h = grind arith

letter_is : (b : ℕ) → lexical.is_letter b ≡ true → is_letter b ≡ true
letter_is b h = or_again (nat_le 65 b && nat_le b 90) (nat_le 97 b && nat_le b 122) (b == 95) true h

or_weaker : (a b c : Bool) → (a ≡ true → b ≡ true) → (a || c) ≡ true → (b || c) ≡ true
or_weaker a b c f h = grind (arith, false≢true)

word_byte_is : (b : ℕ) → lexical.is_word_byte b ≡ true → is_word_byte b ≡ true
word_byte_is b h = or_weaker (lexical.is_letter b) (is_letter b) (is_digit b) (letter_is b) h

tail_of : (p : ℕ → Bool) (b : ℕ) (bs : List ℕ) → list_all p (b ∷ bs) ≡ true → list_all p bs ≡ true
tail_of p b bs h = search (rules, false≢true)

word_is : (w : List ℕ) → lexical.begins lexical.is_letter w ≡ true → list_all lexical.is_word_byte w ≡ true → is_word w ≡ true
word_is w first others = grind (arith, false≢true, and_both, letter_is, all_weaker, word_byte_is, tail_of)

lexeme_good : (s : Symbol) (bytes rest : List ℕ) → IsLexeme bytes s rest → IsGoodSymbol s
lexeme_good s bytes rest h = grind (arith, word_is)

spelled_good : (at : ℕ) (bytes : List ℕ) (ts : List Placed) → Spells at bytes ts → AllByRecursion IsGoodToken ts
spelled_good at bytes [] h = tt
spelled_good at bytes (t ∷ ts) h = (lexeme_good t.symbol h.1 h.2 h.5, spelled_good t.to h.2 ts h.8)

tokens_good : (text : List ℕ) (ts : List Placed) → lexes text ts → AllByRecursion IsGoodToken ts
tokens_good text ts h = search (rules, spelled_good)

-- ---- trees

-- each word in the tree is a word of the source file
abbrev pub IsGood : Tree → Type 0
IsGood Empty = Unit {0}
IsGood (Leaf s) = IsGoodSymbol s
IsGood (Both t u) = IsGood t × IsGood u
IsGood (At span t) = IsGood t

standing_good : (t : Tree) (ts : List Placed) → AllByRecursion IsGoodToken ts → Stands t ts → IsGood t
standing_good Empty ts h s = tt
standing_good (Leaf y) ts h s = subst IsGoodSymbol s.2 (subst (AllByRecursion IsGoodToken) s.1 h).0
standing_good (Both t u) ts h s =
    let all : AllByRecursion IsGoodToken (s.0 ++ s.1) = subst (AllByRecursion IsGoodToken) s.2 h in
    (standing_good t s.0 (front_of IsGoodToken s.0 s.1 all) s.3, standing_good u s.1 (back_of IsGoodToken s.0 s.1 all) s.4)
standing_good (At span t) ts h s = standing_good t ts h s.1

pub file_good : (text : List ℕ) (file : tree.FileTree.FileTree) → IsParsed text file → IsGood (view.file file)
file_good text file h = standing_good (view.file file) h.tokens (tokens_good text h.tokens h.has_tokens) h.stands

-- ---- parts of trees

abbrev pub IsGoodName : tree.Name.Name → Type 0
IsGoodName n = is_word (string_bytes n.text) ≡ true

pub rows_good : {X : Type 0} (to_tree : X → Tree) (xs : List X) → IsGood (view.rows to_tree xs) → AllByRecursion (λ x. IsGood (to_tree x)) xs
rows_good to_tree [] h = tt
rows_good to_tree (x ∷ xs) h = (h.0, rows_good to_tree xs h.1)

-- the nodes of a tree in front of others
pub nodes_good : (t : Tree) (ts : List Tree) → IsGood (view.row (view.nodes t ++ ts)) → IsGood t × IsGood (view.row ts)
nodes_good Empty ts h = h
nodes_good (Leaf s) ts h = h
nodes_good (Both t u) ts h = let others = nodes_good u ts h.1 in ((h.0, others.0), others.1)
nodes_good (At span t) ts h = h

pub runs_good : {X : Type 0} (to_tree : X → Tree) (xs : List X) → IsGood (view.runs to_tree xs) → AllByRecursion (λ x. IsGood (to_tree x)) xs
runs_good to_tree [] h = tt
runs_good to_tree (x ∷ xs) h = let both = nodes_good (to_tree x) (view.all_nodes to_tree xs) h in (both.0, runs_good to_tree xs both.1)

labelled_good : (l : Option Label) (t : Tree) → IsGood (view.labelled l t) → IsGood t
labelled_good l t h = grind arith

pub field_name_good : (f : tree.Field.Field) → IsGood (view.field f) → IsGoodName f.name
field_name_good f h = (labelled_good f.label _ h).0.1

pub map_name_good : (f : tree.MapField.MapField) → IsGood (view.map_field f) → IsGoodName f.name
map_name_good f h = h.1.1.1.1.0
