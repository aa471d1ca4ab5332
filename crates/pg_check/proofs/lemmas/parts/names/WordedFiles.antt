-- The names of what files declare are words, and packages are words with dots between.
use Rattle.std.proofs.Common.{◌≡◌, ◌∙◌, ℕ, ◌+◌, ◌≤◌, Bool, true, false, ◌||◌, ◌==◌, List, [], ◌∷◌, ◌++◌, length, flat_map, Option, Some, None, string_bytes, ap, refl, arith, rules}
use Rattle.std.specs.List.{list_all, AllByRecursion}
use Rattle.std.proofs.lemmas.Bool.{false≢true}
use Rattle.std.proofs.lemmas.Bool.Decides.{nat_tests}
use Rattle.std.proofs.lemmas.List.Folds.{list_all-append}
use Rattle.pg_schema.specs.rules.DeclaredNames.{within}
use Rattle.pg_schema.specs.rules.Words.{before_first, is_package, is_word, is_word_byte, parts_at_dots}
use Rattle.pg_schema.proofs.lemmas.rules.PairLemmas.{and_left, and_right, and_both}
use Rattle.pg_check.specs.parts.MadeMessages.{oneofs}
use Rattle.pg_check.specs.rules.Members.{DeclaredField, members_from, members_in, name_of, oneof_members, oneofs_in}
use Rattle.pg_check.specs.rules.Outline.{Enum, Message, all_messages, an_enum, dotted_more, enum_stated, file_messages, full_name, messages_in, own_enums, package_enums, package_in, package_of, row_list, row_messages, scoped_enums, statement_messages, statements_behind}
use Rattle.pg_check.proofs.lemmas.parts.Eachs.{each_flat, each_weaker, joined_all}
use Rattle.pg_check.proofs.lemmas.parts.places.ScopedEnums.{own_all, stated_all}
use Rattle.pg_check.proofs.lemmas.parts.names.WordTrees.{IsGood, IsGoodName, field_name_good, map_name_good, nodes_good, rows_good, runs_good}
use Rattle.pg_syntax.specs.declared.tree as tree
use Rattle.pg_syntax.specs.declared.tree.OneofPart.TheVariants as oneof_parts
use Rattle.pg_syntax.specs.declared.tree.Part.{Part, Row_of-Part, end_of-Part, more_of-Part}
use Rattle.pg_syntax.specs.declared.tree.Part.TheVariants as parts
use Rattle.pg_syntax.specs.declared.tree.Statement.TheVariants as statements
use Rattle.pg_syntax.specs.Views as view

abbrev pub IsGoodPart : Part → Type 0
IsGoodPart p = IsGood (view.part p)

abbrev pub IsGoodStatement : tree.Statement.Statement → Type 0
IsGoodStatement s = IsGood (view.statement s)

abbrev pub IsGoodEnumPart : tree.EnumPart.EnumPart → Type 0
IsGoodEnumPart p = IsGood (view.enum_part p)

abbrev pub IsGoodOneofPart : tree.OneofPart.OneofPart → Type 0
IsGoodOneofPart p = IsGood (view.oneof_part p)

abbrev pub IsGoodServicePart : tree.ServicePart.ServicePart → Type 0
IsGoodServicePart p = IsGood (view.service_part p)

-- ---- a message's body

abbrev pub is_word_member : DeclaredField → Bool
is_word_member m = is_word (string_bytes (name_of m).text)

oneof_members_worded : (place : ℕ) (ps : List tree.OneofPart.OneofPart) → AllByRecursion IsGoodOneofPart ps → list_all is_word_member (oneof_members place ps) ≡ true
oneof_members_worded place [] h = refl
oneof_members_worded place (oneof_parts.Empty span ∷ ps) h = oneof_members_worded place ps h.1
oneof_members_worded place (oneof_parts.Option o ∷ ps) h = oneof_members_worded place ps h.1
oneof_members_worded place (oneof_parts.Map m ∷ ps) h = and_both (is_word (string_bytes m.name.text)) (list_all is_word_member (oneof_members place ps)) (map_name_good m h.0) (oneof_members_worded place ps h.1)
oneof_members_worded place (oneof_parts.Field f ∷ ps) h = and_both (is_word (string_bytes f.name.text)) (list_all is_word_member (oneof_members place ps)) (field_name_good f h.0) (oneof_members_worded place ps h.1)

pub members_worded : (place : ℕ) (ps : List Part) → AllByRecursion IsGoodPart ps → list_all is_word_member (members_from place ps) ≡ true
members_worded place [] h = refl
members_worded place (p ∷ ps) h = search (rules, list_all-append, and_both, one, members_worded (place + oneofs_in p) ps h.1)
  where
    one : (q : Part) → IsGoodPart q → list_all is_word_member (members_in place q) ≡ true
    one (parts.Empty span) k = refl
    one (parts.Message' name shape row span) k = refl
    one (parts.Enum e) k = refl
    one (parts.Oneof o) k = oneof_members_worded place o.parts.items (runs_good view.oneof_part o.parts.items k.1.1.1.0)
    one (parts.Option o) k = refl
    one (parts.Reserved r) k = refl
    one (parts.Map m) k = and_both (is_word (string_bytes m.name.text)) true (map_name_good m k) refl
    one (parts.Field f) k = and_both (is_word (string_bytes f.name.text)) true (field_name_good f k) refl

pub oneofs_worded : (ps : List Part) → AllByRecursion IsGoodPart ps → list_all is_word (oneofs ps) ≡ true
oneofs_worded [] h = refl
oneofs_worded (p ∷ ps) h = search (rules, list_all-append, and_both, string_bytes, oneofs_worded ps h.1)

-- ---- message types

pub record IsGoodMessage (m : Message) : Type 0 where
  pub name : IsGoodName m.name
  pub some : 1 ≤ length m.full
  pub is_full : m.full ≡ full_name m.scope m.name
  pub body : AllByRecursion IsGoodPart m.body

pub some_within : (scope w : List ℕ) → is_word w ≡ true → 1 ≤ length (within scope w)
some_within scope w h = grind (arith, false≢true)

row_good : {m : _} (row : Row_of-Part m) → IsGood (view.row (view.part_nodes row)) → AllByRecursion IsGoodPart (row_list row)
row_good end_of-Part h = tt
row_good (more_of-Part p rest) h = let both = nodes_good (view.part p) (view.part_nodes rest) h in (both.0, row_good rest both.1)

mutual
  part_messages_good : (scope : List ℕ) (p : Part) → IsGoodPart p → AllByRecursion IsGoodMessage (messages_in scope p)
  part_messages_good scope (parts.Empty span) h = tt
  part_messages_good scope (parts.Message' name shape row span) h =
      (record { name = h.1.0; some = some_within scope (string_bytes name.text) h.1.0; is_full = refl; body = row_good row h.1.1.1.0 }, row_messages_good (full_name scope name) row h.1.1.1.0)
  part_messages_good scope (parts.Enum e) h = tt
  part_messages_good scope (parts.Oneof o) h = tt
  part_messages_good scope (parts.Option o) h = tt
  part_messages_good scope (parts.Reserved r) h = tt
  part_messages_good scope (parts.Map m) h = tt
  part_messages_good scope (parts.Field f) h = tt

  row_messages_good : {m : _} (scope : List ℕ) (row : Row_of-Part m) → IsGood (view.row (view.part_nodes row)) → AllByRecursion IsGoodMessage (row_messages scope row)
  row_messages_good scope end_of-Part h = tt
  row_messages_good scope (more_of-Part p rest) h =
      let both = nodes_good (view.part p) (view.part_nodes rest) h in
      joined_all IsGoodMessage (messages_in scope p) (row_messages scope rest) (part_messages_good scope p both.0) (row_messages_good scope rest both.1)

body_messages_good : (scope : List ℕ) (ps : List Part) → AllByRecursion IsGoodPart ps → AllByRecursion IsGoodMessage (flat_map (messages_in scope) ps)
body_messages_good scope [] h = tt
body_messages_good scope (p ∷ ps) h = joined_all IsGoodMessage (messages_in scope p) (flat_map (messages_in scope) ps) (part_messages_good scope p h.0) (body_messages_good scope ps h.1)

messages_good : (scope : List ℕ) (s : tree.Statement.Statement) → IsGoodStatement s → AllByRecursion IsGoodMessage (statement_messages scope s)
messages_good scope s h = grind (arith, runs_good, some_within, string_bytes, body_messages_good)

all_messages_good : (scope : List ℕ) (ss : List tree.Statement.Statement) → AllByRecursion IsGoodStatement ss → AllByRecursion IsGoodMessage (all_messages scope ss)
all_messages_good scope [] h = tt
all_messages_good scope (s ∷ ss) h = joined_all IsGoodMessage (statement_messages scope s) (all_messages scope ss) (messages_good scope s h.0) (all_messages_good scope ss h.1)

-- ---- enums

pub record IsGoodEnum (e : Enum) : Type 0 where
  pub name : IsGoodName e.tree.name
  pub is_full : e.full ≡ full_name e.scope e.tree.name
  pub body : AllByRecursion IsGoodEnumPart e.tree.parts.items

enum_good : (scope : List ℕ) (e : tree.Enum.Enum) → IsGood (view.enumeration e) → AllByRecursion IsGoodEnum (an_enum scope e)
enum_good scope e h = (record { name = h.1.0; is_full = refl; body = runs_good view.enum_part e.parts.items h.1.1.1.0 }, tt)

-- ---- packages

abbrev are_words : List ℕ → Bool
are_words text = list_all is_word (parts_at_dots text)

pub record HasFirst (ps : List (List ℕ)) : Type 0 where
  pub first : List ℕ
  pub others : List (List ℕ)
  pub is : ps ≡ first ∷ others

has_first : (text : List ℕ) → HasFirst (parts_at_dots text)
has_first [] = record { first = []; others = []; is = refl }
has_first (b ∷ bs) = search (rules, has_first bs)

before_joined : (b : ℕ) (ps qs : List (List ℕ)) → HasFirst ps → before_first b (ps ++ qs) ≡ before_first b ps ++ qs
before_joined b ps qs h = search rules

-- a dot parts what is before it from what is after it
pub parted : (a b : List ℕ) → parts_at_dots (a ++ 46 ∷ b) ≡ parts_at_dots a ++ parts_at_dots b
parted [] b = refl
parted (x ∷ xs) b = search (rules, before_joined, has_first, parted xs b)

no_dot : (x : ℕ) → is_word_byte x ≡ true → (x == 46) ≡ false
no_dot x h = grind (arith, nat_tests)

pub bytes_alone : (xs : List ℕ) → list_all is_word_byte xs ≡ true → parts_at_dots xs ≡ xs ∷ []
bytes_alone [] h = refl
bytes_alone (x ∷ xs) h = search (rules, no_dot, and_left, and_right, bytes_alone xs (and_right (is_word_byte x) (list_all is_word_byte xs) h))

or_first : (a b : Bool) → a ≡ true → (a || b) ≡ true
or_first a b h = grind (arith, false≢true)

pub word_bytes : (w : List ℕ) → is_word w ≡ true → list_all is_word_byte w ≡ true
word_bytes w h = grind (arith, and_both, or_first, and_left, and_right)

word_alone : (w : List ℕ) → is_word w ≡ true → are_words w ≡ true
word_alone w h = ap (list_all is_word) (bytes_alone w (word_bytes w h)) ∙ and_both (is_word w) true h refl

one_word_more : (text w : List ℕ) → are_words text ≡ true → is_word w ≡ true → are_words (text ++ 46 ∷ w) ≡ true
one_word_more text w h k = search (rules, parted, list_all-append, and_both, word_alone)

abbrev pub IsGoodDotted : tree.Name.Name → Type 0
IsGoodDotted n = IsGood (view.dot_name n)

more_words : (text : List ℕ) (ns : List tree.Name.Name) → are_words text ≡ true → AllByRecursion IsGoodDotted ns → are_words (dotted_more text ns) ≡ true
more_words text [] h k = h
more_words text (n ∷ ns) h k = more_words (text ++ 46 ∷ string_bytes n.text) ns (one_word_more text (string_bytes n.text) h k.0.1) k.1

is_package_so : (text : List ℕ) → are_words text ≡ true → is_package text ≡ true
is_package_so text h = grind arith

package_good : (p : Option tree.Packaged.Packaged) → IsGood (view.perhaps view.packaged p) → is_package (package_in p) ≡ true
package_good p h = grind (arith, is_package_so, more_words, string_bytes, word_alone, rows_good)

behind_good : (p : Option tree.Packaged.Packaged) → IsGood (view.perhaps view.packaged p) → AllByRecursion IsGoodStatement (statements_behind p)
behind_good None h = tt
behind_good (Some p) h = runs_good view.statement p.statements.items h.1

-- ---- files

pub record IsGoodFile (file : tree.FileTree.FileTree) : Type 0 where
  pub messages : AllByRecursion IsGoodMessage (file_messages file)
  pub enums : AllByRecursion IsGoodEnum (scoped_enums file)
  pub front : AllByRecursion IsGoodStatement file.statements.items
  pub behind : AllByRecursion IsGoodStatement (statements_behind file.packaged)
  pub package_good : IsGood (view.perhaps view.packaged file.packaged)
  pub has_package : is_package (package_of file) ≡ true

pub good_file : (file : tree.FileTree.FileTree) → IsGood (view.file file) → IsGoodFile file
good_file file h =
    let front : AllByRecursion IsGoodStatement file.statements.items = runs_good view.statement file.statements.items h.1.1.0 in
    let behind : AllByRecursion IsGoodStatement (statements_behind file.packaged) = behind_good file.packaged h.1.1.1 in
    let scope = package_of file in
    let messages : AllByRecursion IsGoodMessage (file_messages file) =
    joined_all IsGoodMessage (all_messages scope file.statements.items) (all_messages scope (statements_behind file.packaged)) (all_messages_good scope file.statements.items front) (all_messages_good scope (statements_behind file.packaged) behind) in
    record {
      messages = messages;
      enums = joined_all IsGoodEnum (package_enums file) (flat_map own_enums (file_messages file))
          (joined_all IsGoodEnum (flat_map (enum_stated scope) file.statements.items) (flat_map (enum_stated scope) (statements_behind file.packaged))
          (stated_all IsGoodEnum IsGoodStatement scope (enum_good scope) file.statements.items front) (stated_all IsGoodEnum IsGoodStatement scope (enum_good scope) (statements_behind file.packaged) behind))
          (each_flat IsGoodEnum own_enums (file_messages file)
          (each_weaker IsGoodMessage (λ (m : Message). AllByRecursion IsGoodEnum (own_enums m)) (λ m k. own_all IsGoodEnum IsGoodPart m.full (enum_good m.full) m.body k.body) (file_messages file) messages));
      front = front;
      behind = behind;
      package_good = h.1.1.1;
      has_package = package_good file.packaged h.1.1.1;
    }
