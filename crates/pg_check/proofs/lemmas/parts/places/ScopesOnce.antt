-- Each message type and enum of a file is in one scope: the file's package, or one of its message types.
use Rattle.std.proofs.Common.{◌≡◌, ◌∙◌, ◌⊎◌, ℕ, ◌+◌, ◌≤◌, Bool, true, false, nat_eq, List, [], ◌∷◌, ◌++◌, map, flat_map, Option, Some, None, string_bytes, sym, ap, subst, refl, arith, append_assoc, rules}
use Rattle.std.specs.List.{list_all, AllByRecursion}
use Rattle.std.specs.Str.{bytes_eq}
use Rattle.std.proofs.lemmas.Bool.{false≢true}
use Rattle.std.proofs.lemmas.Bool.Decides.{nat_tests}
use Rattle.std.proofs.lemmas.List.{append-nil}
use Rattle.std.proofs.lemmas.Slice.Eq.{bytes_eq-Decides}
use Rattle.pg_schema.specs.rules.Packages.{is_front}
use Rattle.pg_schema.specs.rules.Words.{is_word, is_word_byte}
use Rattle.pg_link.specs.declared.uses.target.Target.{Target}
use Rattle.pg_link.specs.names.Declares.{Done, Word, names_in, package_names, package_scope, within as linked_within}
use Rattle.pg_link.specs.names.Files.{Declared}
use Rattle.pg_link.specs.names.Names.{Text, called}
use Rattle.pg_link.specs.names.Outline.{all_of, file_names, of_statement, package_words, word}
use Rattle.pg_link.specs.uses.Targets.{all_declared}
use Rattle.pg_link.specs.walk.Walk.{Entry}
use Rattle.pg_schema.proofs.lemmas.rules.PairLemmas.{and_left, and_right}
use Rattle.pg_check.specs.rules.Outline.{Enum, Message, all_messages, dotted_more, enum_stated, file_messages, full_name, messages_in, own_enums, package_in, package_of, row_list, row_messages, scoped_enums, statement_messages, statements_behind}
use Rattle.pg_check.proofs.lemmas.parts.names.DeclaredTotals.{file_is, more_dotted, of_message_type}
use Rattle.pg_check.proofs.lemmas.parts.Eachs.{joined_all}
use Rattle.pg_check.proofs.lemmas.parts.names.NamedOnce.{IsOnce, none_of, part, weight}
use Rattle.pg_check.proofs.lemmas.parts.places.Regrouped.{everywhere}
use Rattle.pg_check.proofs.lemmas.parts.places.ScopedEnums.{own_all, stated_all}
use Rattle.pg_check.proofs.lemmas.standing.UniqueNames.{whole_front}
use Rattle.pg_check.proofs.lemmas.parts.Totals.{as_one, one, one_from, same_one, times, total, total_joined, total_map}
use Rattle.pg_check.proofs.lemmas.parts.names.WordTrees.{IsGood, rows_good}
use Rattle.pg_check.proofs.lemmas.parts.names.WordedFiles.{IsGoodDotted, IsGoodFile, IsGoodMessage, word_bytes}
use Rattle.pg_syntax.specs.declared.tree as tree
use Rattle.pg_syntax.specs.declared.tree.Part.{Part, Row_of-Part, end_of-Part, more_of-Part}
use Rattle.pg_syntax.specs.declared.tree.Part.TheVariants as parts
use Rattle.pg_syntax.specs.declared.tree.Statement.TheVariants as statements
use Rattle.pg_syntax.specs.Views as view

abbrev pub full_of : Message → List ℕ
full_of m = m.full

-- the scopes of a file
abbrev pub scopes_of : tree.FileTree.FileTree → List (List ℕ)
scopes_of file = package_of file ∷ map full_of (file_messages file)

abbrev full_is : List ℕ → Message → ℕ
full_is y m = one y m.full

-- ---- each scope is there

module _ (ss : List (List ℕ)) where
  abbrev There : List ℕ → Type 0
  There s = 1 ≤ times s ss

  -- all of these have their full names among the scopes
  abbrev AllThere : List Message → Type 0
  AllThere ms = (y : List ℕ) → total (full_is y) ms ≤ times y ss

  abbrev MessageThere : Message → Type 0
  MessageThere m = There m.scope

  abbrev EnumThere : Enum → Type 0
  EnumThere e = There e.scope

  first_there : (m : Message) (ms : List Message) → AllThere (m ∷ ms) → There m.full
  first_there m ms h = let all : total (full_is m.full) (m ∷ ms) ≤ times m.full ss = h m.full in let here : one m.full m.full ≡ 1 = same_one m.full in omega (arith, all, here)

  others_there : (m : Message) (ms : List Message) → AllThere (m ∷ ms) → AllThere ms
  others_there m ms h y = let all : total (full_is y) (m ∷ ms) ≤ times y ss = h y in omega (arith, all)

  left_there : (ms ns : List Message) → AllThere (ms ++ ns) → AllThere ms
  left_there ms ns h y = let all : total (full_is y) (ms ++ ns) ≤ times y ss = h y in let both : total (full_is y) (ms ++ ns) ≡ total (full_is y) ms + total (full_is y) ns = total_joined (full_is y) ms ns in omega (arith, all, both)

  right_there : (ms ns : List Message) → AllThere (ms ++ ns) → AllThere ns
  right_there ms ns h y = let all : total (full_is y) (ms ++ ns) ≤ times y ss = h y in let both : total (full_is y) (ms ++ ns) ≡ total (full_is y) ms + total (full_is y) ns = total_joined (full_is y) ms ns in omega (arith, all, both)

  joined : (ms ns : List Message) → (AllThere ms → AllByRecursion MessageThere ms) → (AllThere ns → AllByRecursion MessageThere ns) → AllThere (ms ++ ns) → AllByRecursion MessageThere (ms ++ ns)
  joined ms ns front behind h = joined_all MessageThere ms ns (front (left_there ms ns h)) (behind (right_there ms ns h))

  mutual
    part_there : (scope : List ℕ) (p : Part) → There scope → AllThere (messages_in scope p) → AllByRecursion MessageThere (messages_in scope p)
    part_there scope (parts.Empty span) h k = tt
    part_there scope (parts.Message' name shape row span) h k =
        let full = full_name scope name in
        let m : Message = record { scope = scope; full = full; name = name; body = row_list row } in
        (h, row_there full row (first_there m (row_messages full row) k) (others_there m (row_messages full row) k))
    part_there scope (parts.Enum e) h k = tt
    part_there scope (parts.Oneof o) h k = tt
    part_there scope (parts.Option o) h k = tt
    part_there scope (parts.Reserved r) h k = tt
    part_there scope (parts.Map m) h k = tt
    part_there scope (parts.Field f) h k = tt

    row_there : {n : _} (scope : List ℕ) (row : Row_of-Part n) → There scope → AllThere (row_messages scope row) → AllByRecursion MessageThere (row_messages scope row)
    row_there scope end_of-Part h k = tt
    row_there scope (more_of-Part p rest) h k = joined (messages_in scope p) (row_messages scope rest) (part_there scope p h) (row_there scope rest h) k

  body_there : (scope : List ℕ) (ps : List Part) → There scope → AllThere (flat_map (messages_in scope) ps) → AllByRecursion MessageThere (flat_map (messages_in scope) ps)
  body_there scope [] h k = tt
  body_there scope (p ∷ ps) h k = joined (messages_in scope p) (flat_map (messages_in scope) ps) (part_there scope p h) (body_there scope ps h) k

  statement_there : (scope : List ℕ) (s : tree.Statement.Statement) → There scope → AllThere (statement_messages scope s) → AllByRecursion MessageThere (statement_messages scope s)
  statement_there scope (statements.Empty span) h k = tt
  statement_there scope (statements.Import i) h k = tt
  statement_there scope (statements.Option o) h k = tt
  statement_there scope (statements.Message d) h k = search (rules, body_there, first_there, others_there)
  statement_there scope (statements.Enum e) h k = tt
  statement_there scope (statements.Service s) h k = tt

  all_there : (scope : List ℕ) (xs : List tree.Statement.Statement) → There scope → AllThere (all_messages scope xs) → AllByRecursion MessageThere (all_messages scope xs)
  all_there scope [] h k = tt
  all_there scope (x ∷ xs) h k = joined (statement_messages scope x) (all_messages scope xs) (statement_there scope x h) (all_there scope xs h) k

  -- the enums of these message types
  own_there : (ms : List Message) → AllThere ms → AllByRecursion EnumThere (flat_map own_enums ms)
  own_there [] h = tt
  own_there (m ∷ ms) h =
      let here = first_there m ms h in
      joined_all EnumThere (own_enums m) (flat_map own_enums ms) (own_all EnumThere (λ p. There m.full) m.full (λ e k. (k, tt)) m.body (everywhere (λ p. There m.full) m.body (λ p. here)))
      (own_there ms (others_there m ms h))

  stated_there : (scope : List ℕ) (xs : List tree.Statement.Statement) → There scope → AllByRecursion EnumThere (flat_map (enum_stated scope) xs)
  stated_there scope xs h = stated_all EnumThere (λ x. There scope) scope (λ e k. (k, tt)) xs (everywhere (λ x. There scope) xs (λ x. h))

module _ (file : tree.FileTree.FileTree) where
  abbrev front : List Message
  front = all_messages (package_of file) file.statements.items

  abbrev behind : List Message
  behind = all_messages (package_of file) (statements_behind file.packaged)

  package_there : There (scopes_of file) (package_of file)
  package_there = let here : one (package_of file) (package_of file) ≡ 1 = same_one (package_of file) in omega (arith, here)

  fulls_there : AllThere (scopes_of file) (file_messages file)
  fulls_there y = let is : times y (map full_of (file_messages file)) ≡ total (full_is y) (file_messages file) = total_map (one y) full_of (file_messages file) in omega (arith, is)

  messages_there : AllByRecursion (MessageThere (scopes_of file)) (file_messages file)
  messages_there = search (rules, joined, all_there, package_there, fulls_there)

  enums_there : AllByRecursion (EnumThere (scopes_of file)) (scoped_enums file)
  enums_there = search (rules, joined_all, stated_there, package_there, own_there, fulls_there)

-- ---- the front of a package is one of its parts

no_dot : (b : ℕ) → is_word_byte b ≡ true → nat_eq b 46 ≡ true → ⊥
no_dot b h k = grind (arith, nat_tests)

same_byte : (a b : ℕ) → nat_eq a b ≡ true → a ≡ b
same_byte a b h = grind (arith, nat_tests)

-- a front that goes as far as the rest goes over the whole word
record GoesOn (y w rest : List ℕ) : Type 0 where
  pub later : List ℕ
  pub is : y ≡ w ++ later
  pub is_front_of : is_front later rest ≡ true

goes_on : (w rest y : List ℕ) → list_all is_word_byte w ≡ true → is_front y (w ++ rest) ≡ true → GoesOn y w rest
goes_on [] rest y h k = record { later = y; is = refl; is_front_of = k }
goes_on (b ∷ bs) rest [] h k = absurd (no_dot b (and_left (is_word_byte b) (list_all is_word_byte bs) h) k)
goes_on (b ∷ bs) rest (c ∷ cs) h k = search (rules, and_right, same_byte, and_left, goes_on bs rest cs (and_right (is_word_byte b) (list_all is_word_byte bs) h) (and_right (nat_eq c b) (is_front cs (bs ++ rest)) k))

abbrev text : Word → Text
text w = w.text

abbrev IsWordOf : Word → Type 0
IsWordOf w = is_word w.text ≡ true

-- the whole of the first word
first_is : (scope : Text) (w : Word) (rest : List Declared) (y : List ℕ) → y ≡ w.text ++ [] → one (scope ++ 46 ∷ y) (linked_within scope w.text) ≡ 1
first_is scope w rest y is = ap (λ t. one (scope ++ 46 ∷ t) (linked_within scope w.text)) is ∙ same_one (linked_within scope w.text)

front_there : (scope : Text) (w : Word) (ws : List Word) (y : List ℕ) → AllByRecursion IsWordOf (w ∷ ws) → is_front y (w.text ++ called (map text ws)) ≡ true → 1 ≤ total (part (one (scope ++ 46 ∷ y))) (package_names scope (w ∷ ws))
front_there scope w [] y words front =
    let more = goes_on w.text [] y (word_bytes w.text words.0) front in
    by more.later more.is more.is_front_of
  where
    by : (z : List ℕ) → y ≡ w.text ++ z → is_front z [] ≡ true → 1 ≤ total (part (one (scope ++ 46 ∷ y))) (package_names scope (w ∷ []))
    by [] is k = let here : one (scope ++ 46 ∷ y) (linked_within scope w.text) ≡ 1 = first_is scope w [] y is in omega (arith, here)
    by (c ∷ cs) is k = absurd (false≢true k)
front_there scope w (v ∷ vs) y words front =
    let more = goes_on w.text (called (map text (v ∷ vs))) y (word_bytes w.text words.0) front in
    by more.later more.is more.is_front_of (λ z k. front_there (linked_within scope w.text) v vs z words.1 k)
  where
    by : (z : List ℕ) → y ≡ w.text ++ z → is_front z (46 ∷ (v.text ++ called (map text vs))) ≡ true
        → ((x : List ℕ) → is_front x (v.text ++ called (map text vs)) ≡ true → 1 ≤ total (part (one (linked_within scope w.text ++ 46 ∷ x))) (package_names (linked_within scope w.text) (v ∷ vs)))
        → 1 ≤ total (part (one (scope ++ 46 ∷ y))) (package_names scope (w ∷ v ∷ vs))
    by [] is k next = let here : one (scope ++ 46 ∷ y) (linked_within scope w.text) ≡ 1 = first_is scope w [] y is in omega (arith, here)
    by (c ∷ cs) is k next =
        let dot : c ≡ 46 = same_byte c 46 (and_left (nat_eq c 46) (is_front cs (v.text ++ called (map text vs))) k) in
        let whole : scope ++ 46 ∷ y ≡ linked_within scope w.text ++ 46 ∷ cs =
        ap (λ t. scope ++ 46 ∷ t) (is ∙ ap (λ n. w.text ++ n ∷ cs) dot)
        ∙ sym (append_assoc scope (46 ∷ (w.text ++ [])) (46 ∷ cs) ∙ ap (λ t. scope ++ 46 ∷ (t ++ 46 ∷ cs)) (append-nil w.text)) in
        let there : 1 ≤ total (part (one (linked_within scope w.text ++ 46 ∷ cs))) (package_names (linked_within scope w.text) (v ∷ vs)) = next cs (and_right (nat_eq c 46) (is_front cs (v.text ++ called (map text vs))) k) in
        let same : total (part (one (scope ++ 46 ∷ y))) (package_names (linked_within scope w.text) (v ∷ vs)) ≡ total (part (one (linked_within scope w.text ++ 46 ∷ cs))) (package_names (linked_within scope w.text) (v ∷ vs)) =
        ap (λ x. total (part (one x)) (package_names (linked_within scope w.text) (v ∷ vs))) whole in
        omega (arith, there, same)

more_words : (ns : List tree.Name.Name) → AllByRecursion IsGoodDotted ns → AllByRecursion IsWordOf (map word ns)
more_words [] h = tt
more_words (n ∷ ns) h = (h.0.1, more_words ns h.1)

tail_is : (a b : ℕ) (xs ys : List ℕ) → a ∷ xs ≡ b ∷ ys → xs ≡ ys
tail_is a b xs ys h = cc (h)

pub package_front : (file : tree.FileTree.FileTree) (p : tree.Packaged.Packaged) (y : List ℕ) → IsGoodFile file → file.packaged ≡ Some p → is_front y (package_of file) ≡ true → 1 ≤ total (part (one (46 ∷ y))) (file_names file)
package_front file p y good is front =
    let f = part (one (46 ∷ y)) in
    let words = package_words file.packaged in
    let name = p.package.name in
    let first = names_in (package_scope words) (all_of of_statement file.statements.items Done) in
    let second = package_names [] words in
    let third = names_in (package_scope words) (all_of of_statement (statements_behind file.packaged) Done) in
    let good_package : IsGood (view.perhaps view.packaged (Some p)) = subst (λ q. IsGood (view.perhaps view.packaged q)) is good.package_good in
    let spelled : dotted_more (string_bytes name.first.text) name.more.items ≡ string_bytes name.first.text ++ called (map text (map word name.more.items)) =
    tail_is 46 46 _ _ (more_dotted (string_bytes name.first.text) name.more.items) in
    let front_here : is_front y (string_bytes name.first.text ++ called (map text (map word name.more.items))) ≡ true =
    sym (ap (is_front y) spelled) ∙ (ap (λ q. is_front y (package_in q)) (sym is) ∙ front) in
    let there : 1 ≤ total f (package_names [] (package_words (Some p))) =
    front_there [] (word name.first) (map word name.more.items) y (good_package.0.1.0.0, more_words name.more.items (rows_good view.dot_name name.more.items good_package.0.1.0.1)) front_here in
    let here : total f (package_names [] (package_words (Some p))) ≡ total f second = ap (λ q. total f (package_names [] (package_words q))) (sym is) in
    let whole : total f (first ++ (second ++ third)) ≡ total f first + total f (second ++ third) = total_joined f first (second ++ third) in
    let later : total f (second ++ third) ≡ total f second + total f third = total_joined f second third in
    omega (arith, there, here, whole, later)

-- ---- none is there twice

pub one_behind : (x y : List ℕ) → one (46 ∷ x) (46 ∷ y) ≡ one x y
one_behind x y = refl

-- names that are there once
abbrev pub NamesOnce : List Declared → Type 0
NamesOnce ds = (x : Text) → IsOnce (weight (one x)) (part (one x)) ds

left_none : (a b c d e f : ℕ) → (a ≡ 0) ⊎ (b ≡ 0) → a ≡ c + d → b ≡ e + f → (c ≡ 0) ⊎ (e ≡ 0)
left_none a b c d e f h7 m k = grind arith

right_none : (a b c d e f : ℕ) → (a ≡ 0) ⊎ (b ≡ 0) → a ≡ c + d → b ≡ e + f → (d ≡ 0) ⊎ (f ≡ 0)
right_none a b c d e f h7 m k = grind arith

first_once : (xs ys : List Declared) → NamesOnce (xs ++ ys) → NamesOnce xs
first_once xs ys h x =
    let w = weight (one x) in
    let p = part (one x) in
    let few = (h x).few in
    let ws : total w (xs ++ ys) ≡ total w xs + total w ys = total_joined w xs ys in
    let ps : total p (xs ++ ys) ≡ total p xs + total p ys = total_joined p xs ys in
    record { few = omega (arith, few, ws); alone = left_none (total w (xs ++ ys)) (total p (xs ++ ys)) (total w xs) (total w ys) (total p xs) (total p ys) (h x).alone ws ps }

others_once : (xs ys : List Declared) → NamesOnce (xs ++ ys) → NamesOnce ys
others_once xs ys h x =
    let w = weight (one x) in
    let p = part (one x) in
    let few = (h x).few in
    let ws : total w (xs ++ ys) ≡ total w xs + total w ys = total_joined w xs ys in
    let ps : total p (xs ++ ys) ≡ total p xs + total p ys = total_joined p xs ys in
    record { few = omega (arith, few, ws); alone = right_none (total w (xs ++ ys)) (total p (xs ++ ys)) (total w xs) (total w ys) (total p xs) (total p ys) (h x).alone ws ps }

pub each_file_once : (es : List Entry) → NamesOnce (all_declared es) → AllByRecursion (λ (e : Entry). NamesOnce (file_names e.1.tree)) es
each_file_once [] h = tt
each_file_once (e ∷ es) h = (first_once (file_names e.1.tree) (all_declared es) h, each_file_once es (others_once (file_names e.1.tree) (all_declared es) h))

fulls_below : (y : List ℕ) (ms : List Message) → total (full_is y) ms ≤ total (of_message_type (one (46 ∷ y))) ms
fulls_below y [] = omega arith
fulls_below y (m ∷ ms) = search (rules, one_behind, fulls_below y ms)

no_targets : ℕ → Option Target
no_targets at = None

fulls_few : (file : tree.FileTree.FileTree) (y : List ℕ) → IsGoodFile file → total (full_is y) (file_messages file) ≤ total (weight (one (46 ∷ y))) (file_names file)
fulls_few file y good =
    let below : total (full_is y) (file_messages file) ≤ total (of_message_type (one (46 ∷ y))) (file_messages file) = fulls_below y (file_messages file) in
    let is = file_is (one (46 ∷ y)) no_targets file good in
    omega (arith, below, is)

none_empty : (ms : List Message) → AllByRecursion IsGoodMessage ms → total (full_is []) ms ≡ 0
none_empty [] h = refl
none_empty (m ∷ ms) h = search (rules, one_from, none_empty ms h.1)

-- no message type has the package's name
pub package_free : (file : tree.FileTree.FileTree) → IsGoodFile file → NamesOnce (file_names file) → total (full_is (package_of file)) (file_messages file) ≡ 0
package_free file good once = by file.packaged refl
  where
    by : (p : Option tree.Packaged.Packaged) → file.packaged ≡ p → total (full_is (package_of file)) (file_messages file) ≡ 0
    by None is = ap (λ q. total (full_is (package_in q)) (file_messages file)) is ∙ none_empty (file_messages file) good.messages
    by (Some p) is =
        let x : Text = 46 ∷ package_of file in
        let none : total (weight (one x)) (file_names file) ≡ 0 = none_of (weight (one x)) (part (one x)) (file_names file) (package_front file p (package_of file) good is (whole_front (package_of file))) (once x).alone in
        let few : total (full_is (package_of file)) (file_messages file) ≤ total (weight (one x)) (file_names file) = fulls_few file (package_of file) good in
        omega (arith, none, few)

scopes_few : (file : tree.FileTree.FileTree) → IsGoodFile file → NamesOnce (file_names file) → (y : List ℕ) → times y (scopes_of file) ≤ 1
scopes_few file good once y = by (bytes_eq y (package_of file)) refl
  where
    by : (b : Bool) → bytes_eq y (package_of file) ≡ b → times y (scopes_of file) ≤ 1
    by true is = search (rules, as_one, bytes_eq-Decides, package_free, total_map)
    by false is =
        let here : one y (package_of file) ≡ 0 = ap as_one is in
        let few : total (full_is y) (file_messages file) ≤ total (weight (one (46 ∷ y))) (file_names file) = fulls_few file y good in
        let one_at_most = (once (46 ∷ y)).few in
        let fulls : times y (map full_of (file_messages file)) ≡ total (full_is y) (file_messages file) = total_map (one y) full_of (file_messages file) in
        omega (arith, here, few, one_at_most, fulls)

pub record IsScoped (file : tree.FileTree.FileTree) : Type 0 where
  pub messages : AllByRecursion (λ (m : Message). times m.scope (scopes_of file) ≡ 1) (file_messages file)
  pub enums : AllByRecursion (λ (e : Enum). times e.scope (scopes_of file) ≡ 1) (scoped_enums file)

each_is : {X : Type 0} (scope_of : X → List ℕ) (ss : List (List ℕ)) (xs : List X) → ((y : List ℕ) → times y ss ≤ 1) → AllByRecursion (λ x. 1 ≤ times (scope_of x) ss) xs → AllByRecursion (λ x. times (scope_of x) ss ≡ 1) xs
each_is scope_of ss [] few h = tt
each_is scope_of ss (x ∷ xs) few h = let at_most : times (scope_of x) ss ≤ 1 = few (scope_of x) in let some = h.0 in (omega (arith, at_most, some), each_is scope_of ss xs few h.1)

pub file_scoped : (file : tree.FileTree.FileTree) → IsGoodFile file → NamesOnce (file_names file) → IsScoped file
file_scoped file good once = search (rules, each_is, scopes_few, messages_there, enums_there)
