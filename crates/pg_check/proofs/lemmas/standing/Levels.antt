-- Messages of a source file are at most 64 levels below its package: the full name of each has one word more than that of its scope.
use Rattle.std.proofs.Common.{◌≡◌, inl, inr, ◌⊎◌, ℕ, ◌+◌, ◌≤◌, Bool, true, false, cond, ◌==◌, List, [], ◌∷◌, ◌++◌, flat_map, codes, Option, Some, None, string_bytes, refl, arith, rules}
use Rattle.std.specs.List.{list_all, AllByRecursion}
use Rattle.std.proofs.lemmas.Bool.{false≢true}
use Rattle.std.proofs.lemmas.Bool.Decides.{nat_tests}
use Rattle.pg_schema.specs.rules.DeclaredNames.{within}
use Rattle.pg_schema.specs.rules.Words.{is_word, is_word_byte}
use Rattle.pg_schema.proofs.lemmas.rules.PairLemmas.{and_left, and_right}
use Rattle.pg_check.specs.rules.Outline.{Message, all_messages, file_messages, full_name, messages_in, package_of, row_messages, statement_messages, statements_behind}
use Rattle.pg_check.proofs.lemmas.parts.Eachs.{joined_all}
use Rattle.pg_check.proofs.lemmas.parts.names.WordTrees.{IsGood, nodes_good}
use Rattle.pg_check.proofs.lemmas.parts.names.WordedFiles.{word_bytes}
use Rattle.pg_syntax.specs.declared.tree as tree
use Rattle.pg_syntax.specs.declared.tree.Part.{Part, Row_of-Part, end_of-Part, more_of-Part}
use Rattle.pg_syntax.specs.declared.tree.Part.TheVariants as parts
use Rattle.pg_syntax.specs.declared.tree.Statement.TheVariants as statements
use Rattle.pg_syntax.specs.Grammar.{Grammar, Derives, Row}
use Rattle.pg_syntax.specs.Tree.{Tree, Empty, Leaf, At, Both}
use Rattle.pg_syntax.specs.Views as view
use Rattle.pg_syntax.specs.Proto3 as grammar
use Rattle.pg_lex.specs.declared.token.Span.{Span}

-- ---- words of full names

-- one where the byte is a dot
abbrev dot : ℕ → ℕ
dot b = cond (b == 46) 1 0

abbrev dots : List ℕ → ℕ
dots [] = 0
dots (b ∷ bs) = dot b + dots bs

-- how many words a full name has; none where it is empty
abbrev pub words_in : List ℕ → ℕ
words_in [] = 0
words_in (b ∷ bs) = 1 + dots (b ∷ bs)

dots_joined : (xs ys : List ℕ) → dots (xs ++ ys) ≡ dots xs + dots ys
dots_joined [] ys = omega arith
dots_joined (x ∷ xs) ys = let rest : dots (xs ++ ys) ≡ dots xs + dots ys = dots_joined xs ys in omega (arith, rest)

no_dot : (b : ℕ) → is_word_byte b ≡ true → dot b ≡ 0
no_dot b h = grind (arith, nat_tests)

no_dots : (bs : List ℕ) → list_all is_word_byte bs ≡ true → dots bs ≡ 0
no_dots [] h = refl
no_dots (b ∷ bs) h = search (rules, no_dot, and_left, and_right, no_dots bs (and_right (is_word_byte b) (list_all is_word_byte bs) h))

one_word : (w : List ℕ) → is_word w ≡ true → words_in w ≡ 1
one_word w h = grind (arith, false≢true, no_dots, word_bytes)

-- a word within a scope has one more than the scope
word_within : (scope w : List ℕ) → is_word w ≡ true → words_in (within scope w) ≡ words_in scope + 1
word_within scope w h = grind (arith, one_word, no_dots, word_bytes, dots_joined)

-- ---- message types

-- the full name has one word more than the scope, and at most so many
pub record IsLevelled (top : ℕ) (m : Message) : Type 0 where
  pub below : words_in m.full ≡ words_in m.scope + 1
  pub shallow : words_in m.full ≤ top

abbrev pub AreLevelled : ℕ → List Message → Type 0
AreLevelled top ms = AllByRecursion (IsLevelled top) ms

-- what begins with the word `message`
abbrev message_tree : Span → Tree → Tree
message_tree span rest = At span (Both (view.word (codes "message")) rest)

-- of two choices the first, where the symbols look as it asks
first_chosen : {A B : Type 0} (looks : Bool) → looks ≡ true → A ⊎ (B × (looks ≡ false)) → A
first_chosen looks so h3 = grind (arith, false≢true)

-- of two choices the second, where the first is none
second_chosen : {A B C : Type 0} → (A → ⊥) → A ⊎ (B × C) → B
second_chosen none h2 = grind arith

-- among parts of messages it is a message
nested_derives : (g : Grammar) (span : Span) (rest : Tree) → Derives (grammar.part_in g) (message_tree span rest) → Derives g (message_tree span rest)
unfolding grammar.part_in grammar.empty
nested_derives g span rest h = first_chosen true refl (second_chosen (λ k. k) h)

-- among statements it is a message
stated_derives : (depth : ℕ) (span : Span) (rest : Tree) → Derives (grammar.statement depth) (message_tree span rest)
    → Derives (grammar.message depth) (message_tree span rest)
unfolding grammar.statement grammar.empty grammar.import_line grammar.option
stated_derives depth span rest h = search (rules, first_chosen, second_chosen, false≢true)

-- a message's parts have one level less
pub record HasLeft (depth : ℕ) (parts : Tree) : Type 0 where
  pub left : ℕ
  pub is : depth ≡ left + 1
  pub derives : Row (Derives (grammar.part_in (grammar.message left))) parts

has_left : (depth : ℕ) (span : Span) (name open_mark parts close_mark : Tree)
    → Derives (grammar.message depth) (message_tree span (Both name (Both open_mark (Both parts close_mark)))) → HasLeft depth parts
unfolding grammar.message
has_left depth span name open_mark parts close_mark h = grind arith

-- each node of the tree is one that the grammar derives
abbrev AreNodes : Grammar → Tree → Type 0
AreNodes g t = Row (Derives g) (view.row (view.nodes t))

-- the nodes of a tree in front of others
nodes_derived : (g : Grammar) (t : Tree) (ts : List Tree) → Row (Derives g) (view.row (view.nodes t ++ ts)) → AreNodes g t × Row (Derives g) (view.row ts)
nodes_derived g Empty ts h = ((h.0, tt), h.1)
nodes_derived g (Leaf s) ts h = ((h.0, tt), h.1)
nodes_derived g (Both t u) ts h = let others = nodes_derived g u ts h.1 in ((h.0, others.0), others.1)
nodes_derived g (At span t) ts h = ((h.0, tt), h.1)

-- with so many words in the scope and so many levels left
mutual
  part_levelled : (depth top : ℕ) (scope : List ℕ) (p : Part) → words_in scope + depth ≤ top → IsGood (view.part p)
      → AreNodes (grammar.part_in (grammar.message depth)) (view.part p) → AreLevelled top (messages_in scope p)
  part_levelled depth top scope (parts.Empty span) fits h d = tt
  part_levelled depth top scope (parts.Message' name shape row span) fits h d =
      let below : words_in (full_name scope name) ≡ words_in scope + 1 = word_within scope (string_bytes name.text) h.1.0 in
      let inner : HasLeft depth (view.row (view.part_nodes row)) = has_left depth span _ _ _ _ (nested_derives (grammar.message depth) span _ d.0) in (
        record { below = below; shallow = omega (arith, below, fits, inner.is) },
        row_levelled inner.left top (full_name scope name) row (omega (arith, below, fits, inner.is)) h.1.1.1.0 inner.derives,
      )
  part_levelled depth top scope (parts.Enum e) fits h d = tt
  part_levelled depth top scope (parts.Oneof o) fits h d = tt
  part_levelled depth top scope (parts.Option o) fits h d = tt
  part_levelled depth top scope (parts.Reserved r) fits h d = tt
  part_levelled depth top scope (parts.Map m) fits h d = tt
  part_levelled depth top scope (parts.Field f) fits h d = tt

  row_levelled : {m : _} (depth top : ℕ) (scope : List ℕ) (row : Row_of-Part m) → words_in scope + depth ≤ top → IsGood (view.row (view.part_nodes row))
      → Row (Derives (grammar.part_in (grammar.message depth))) (view.row (view.part_nodes row)) → AreLevelled top (row_messages scope row)
  row_levelled depth top scope end_of-Part fits h d = tt
  row_levelled depth top scope (more_of-Part p rest) fits h d =
      let good = nodes_good (view.part p) (view.part_nodes rest) h in
      let derived = nodes_derived (grammar.part_in (grammar.message depth)) (view.part p) (view.part_nodes rest) d in
      joined_all (IsLevelled top) (messages_in scope p) (row_messages scope rest)
      (part_levelled depth top scope p fits good.0 derived.0) (row_levelled depth top scope rest fits good.1 derived.1)

body_levelled : (depth top : ℕ) (scope : List ℕ) (ps : List Part) → words_in scope + depth ≤ top → IsGood (view.runs view.part ps)
    → Row (Derives (grammar.part_in (grammar.message depth))) (view.runs view.part ps) → AreLevelled top (flat_map (messages_in scope) ps)
body_levelled depth top scope [] fits h d = tt
body_levelled depth top scope (p ∷ ps) fits h d =
    let good = nodes_good (view.part p) (view.all_nodes view.part ps) h in
    let derived = nodes_derived (grammar.part_in (grammar.message depth)) (view.part p) (view.all_nodes view.part ps) d in
    joined_all (IsLevelled top) (messages_in scope p) (flat_map (messages_in scope) ps)
    (part_levelled depth top scope p fits good.0 derived.0) (body_levelled depth top scope ps fits good.1 derived.1)

-- ---- files

statement_levelled : (depth top : ℕ) (scope : List ℕ) (s : tree.Statement.Statement) → words_in scope + depth ≤ top → IsGood (view.statement s)
    → AreNodes (grammar.statement depth) (view.statement s) → AreLevelled top (statement_messages scope s)
statement_levelled depth top scope (statements.Empty span) fits h d = tt
statement_levelled depth top scope (statements.Import i) fits h d = tt
statement_levelled depth top scope (statements.Option o) fits h d = tt
statement_levelled depth top scope (statements.Message m) fits h d =
    let below : words_in (full_name scope m.name) ≡ words_in scope + 1 = word_within scope (string_bytes m.name.text) h.1.0 in
    let inner : HasLeft depth (view.runs view.part m.parts.items) = has_left depth m.span _ _ _ _ (stated_derives depth m.span _ d.0) in (
      record { below = below; shallow = omega (arith, below, fits, inner.is) },
      body_levelled inner.left top (full_name scope m.name) m.parts.items (omega (arith, below, fits, inner.is)) h.1.1.1.0 inner.derives,
    )
statement_levelled depth top scope (statements.Enum e) fits h d = tt
statement_levelled depth top scope (statements.Service s) fits h d = tt

statements_levelled : (depth top : ℕ) (scope : List ℕ) (ss : List tree.Statement.Statement) → words_in scope + depth ≤ top
    → IsGood (view.runs view.statement ss) → Row (Derives (grammar.statement depth)) (view.runs view.statement ss) → AreLevelled top (all_messages scope ss)
statements_levelled depth top scope [] fits h d = tt
statements_levelled depth top scope (s ∷ ss) fits h d =
    let good = nodes_good (view.statement s) (view.all_nodes view.statement ss) h in
    let derived = nodes_derived (grammar.statement depth) (view.statement s) (view.all_nodes view.statement ss) d in
    joined_all (IsLevelled top) (statement_messages scope s) (all_messages scope ss)
    (statement_levelled depth top scope s fits good.0 derived.0) (statements_levelled depth top scope ss fits good.1 derived.1)

behind_levelled : (depth top : ℕ) (scope : List ℕ) (p : Option tree.Packaged.Packaged) → words_in scope + depth ≤ top
    → IsGood (view.perhaps view.packaged p) → (view.perhaps view.packaged p ≡ Empty) ⊎ Derives (grammar.packaged depth) (view.perhaps view.packaged p)
    → AreLevelled top (all_messages scope (statements_behind p))
unfolding grammar.packaged
behind_levelled depth top scope None fits h d = tt
behind_levelled depth top scope (Some p) fits h (inl none) = absurd (cc (none))
behind_levelled depth top scope (Some p) fits h (inr d) = statements_levelled depth top scope p.statements.items fits h.1 d.1

-- the messages of a file whose grammar allows so many levels
pub file_levelled : (depth : ℕ) (file : tree.FileTree.FileTree) → IsGood (view.file file) → Derives (grammar.file depth) (view.file file)
    → AreLevelled (words_in (package_of file) + depth) (file_messages file)
unfolding grammar.file
file_levelled depth file h d = search (rules, joined_all, statements_levelled, behind_levelled)
