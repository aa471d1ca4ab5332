-- Linking numbers what files declare by its names, in order of declaration.
use Rattle.std.proofs.Common.{◌≡◌, ◌∙◌, ℕ, zero, suc, ◌+◌, ◌≤◌, Bool, true, false, cond, List, [], ◌∷◌, ◌++◌, length, map, flat_map, get_or, slice_get, option_map, Some, string_bytes, sym, ap, ap₂, subst, refl, arith, append_assoc, rules}
use Rattle.std.specs.List.{AllByRecursion, position_from}
use Rattle.std.specs.Option.{unwrap_or}
use Rattle.std.specs.Str.{bytes_eq}
use Rattle.std.proofs.lemmas.Bool.{false≢true}
use Rattle.std.proofs.lemmas.List.{append-nil, map-append}
use Rattle.std.proofs.lemmas.List.Elements.{recursion_from_All}
use Rattle.std.proofs.lemmas.Option.{get_or_from_slice_get, same_Some, slice_get-map}
use Rattle.std.proofs.lemmas.Slice.Eq.{bytes_eq-Decides}
use Rattle.pg_link.specs.declared.names.Kind.{Kind}
use Rattle.pg_link.specs.declared.names.Kind.TheVariants as kinds
use Rattle.pg_link.specs.names.Declares.{Declarations, Done, Within, Word, names_in, package_names, package_scope, within as linked_within}
use Rattle.pg_link.specs.names.Files.{Declared}
use Rattle.pg_link.specs.Linked.{IsLinkedUp, LinkedFiles}
use Rattle.pg_link.specs.names.Names.{Text, without_dot}
use Rattle.pg_link.specs.names.Outline.{all_of, file_names, of_enum, of_enum_part, of_oneof_part, of_part, of_row, of_service_part, of_statement, package_words, word}
use Rattle.pg_link.specs.uses.Targets.{all_declared, enum_names, message_names, names_of}
use Rattle.pg_link.specs.walk.Walk.{Entry, IsParsed}
use Rattle.pg_schema.specs.rules.Words.{is_word}
use Rattle.pg_check.proofs.lemmas.parts.Numbering.{AreNumbered, declared_messages, message_full}
use Rattle.pg_check.specs.parts.EnumPlaces.{declared_names, enum_full, enum_places, place_among, scoped_names}
use Rattle.pg_check.specs.rules.Outline.{Enum, Message, all_messages, an_enum, enum_in, enum_stated, file_messages, full_name, messages_in, own_enums, package_enums, package_of, row_list, row_messages, scoped_enums, statement_messages, statements_behind}
use Rattle.pg_check.proofs.lemmas.parts.names.DeclaredTotals.{behind_dot, package_scope_is, scope_is, within_is}
use Rattle.pg_check.proofs.lemmas.parts.Totals.{one, one_from, same_one, times, total, total_flat, total_joined, total_map}
use Rattle.pg_check.proofs.lemmas.parts.names.WordTrees.{IsGood, file_good, nodes_good, runs_good}
use Rattle.pg_check.proofs.lemmas.parts.names.WordedFiles.{IsGoodFile, IsGoodPart, IsGoodStatement, good_file}
use Rattle.pg_syntax.specs.declared.tree as tree
use Rattle.pg_syntax.specs.declared.tree.EnumPart.TheVariants as enum_parts
use Rattle.pg_syntax.specs.declared.tree.OneofPart.TheVariants as oneof_parts
use Rattle.pg_syntax.specs.declared.tree.ServicePart.TheVariants as service_parts
use Rattle.pg_syntax.specs.declared.tree.Part.{Part, Row_of-Part, end_of-Part, more_of-Part}
use Rattle.pg_syntax.specs.declared.tree.Part.TheVariants as parts
use Rattle.pg_syntax.specs.declared.tree.Statement.TheVariants as statements
use Rattle.pg_syntax.specs.Views as view

abbrev dot : List ℕ → Text
dot full = 46 ∷ full

-- the full names of message types, each with a dot in front
abbrev dotted_messages : List Message → List Text
dotted_messages ms = map dot (map message_full ms)

dotted_joined : (ms ns : List Message) → dotted_messages (ms ++ ns) ≡ dotted_messages ms ++ dotted_messages ns
dotted_joined [] ns = refl
dotted_joined (m ∷ ms) ns = ap (λ xs. dot m.full ∷ xs) (dotted_joined ms ns)

names_joined : (test : Kind → Bool) (xs ys : List Declared) → names_of test (xs ++ ys) ≡ names_of test xs ++ names_of test ys
names_joined test [] ys = refl
names_joined test (x ∷ xs) ys = search (rules, names_joined test xs ys)

-- ---- message types and enums

abbrev named : Text → Enum → ℕ
named x e = one x (dot e.full)

abbrev own_named : Text → Message → ℕ
own_named x m = total (named x) (own_enums m)

-- Among all of these names, those of message types are these, and then the rest's. An enum's is there as often as these enums and those that these
-- message types themselves declare have it, and the rest.
abbrev Lists : (all : List Declared) → List Message → List Enum → (rest : List Declared) → Type 0
Lists all ms es rest = (message_names all ≡ dotted_messages ms ++ message_names rest)
    × ((x : Text) → times x (enum_names all) ≡ (total (own_named x) ms + total (named x) es) + times x (enum_names rest))

nothing_more : (all : List Declared) → Lists all [] [] all
nothing_more all = (refl, λ x. omega arith)

before : (xs ys : List Declared) (ms : List Message) (es : List Enum) → Lists xs ms es [] → Lists (xs ++ ys) ms es ys
before xs ys ms es h = search (rules, names_joined, append-nil, total_joined, one)

further : (all behind rest : List Declared) (ms ns : List Message) (es fs : List Enum) → Lists all ms es behind → Lists behind ns fs rest
    → Lists all (ms ++ ns) (es ++ fs) rest
further all behind rest ms ns es fs h k = search (rules, append_assoc, dotted_joined, total_joined)

values_none : (scope : Text) (ps : List tree.EnumPart.EnumPart) → Lists (names_in scope (all_of of_enum_part ps Done)) [] [] []
values_none scope [] = nothing_more []
values_none scope (enum_parts.Empty span ∷ ps) = values_none scope ps
values_none scope (enum_parts.Option o ∷ ps) = values_none scope ps
values_none scope (enum_parts.Reserved r ∷ ps) = values_none scope ps
values_none scope (enum_parts.Value v ∷ ps) = values_none scope ps

members_none : (scope : Text) (ps : List tree.OneofPart.OneofPart) → Lists (names_in scope (all_of of_oneof_part ps Done)) [] [] []
members_none scope [] = nothing_more []
members_none scope (oneof_parts.Empty span ∷ ps) = members_none scope ps
members_none scope (oneof_parts.Option o ∷ ps) = members_none scope ps
members_none scope (oneof_parts.Map m ∷ ps) = members_none scope ps
members_none scope (oneof_parts.Field f ∷ ps) = members_none scope ps

methods_none : (scope : Text) (ps : List tree.ServicePart.ServicePart) → Lists (names_in scope (all_of of_service_part ps Done)) [] [] []
methods_none scope [] = nothing_more []
methods_none scope (service_parts.Empty span ∷ ps) = methods_none scope ps
methods_none scope (service_parts.Option o ∷ ps) = methods_none scope ps
methods_none scope (service_parts.Rpc r ∷ ps) = methods_none scope ps

packages_none : (scope : Text) (ws : List Word) → Lists (package_names scope ws) [] [] []
packages_none scope [] = nothing_more []
packages_none scope (w ∷ ws) = packages_none (linked_within scope w.text) ws

enum_lists : (scope : List ℕ) (e : tree.Enum.Enum) (rest : Declarations)
    → Lists (names_in (behind_dot scope) (of_enum e rest)) [] (an_enum scope e) (names_in (behind_dot scope) rest)
enum_lists scope e rest =
    let both = before (names_in (behind_dot scope) (all_of of_enum_part e.parts.items Done)) (names_in (behind_dot scope) rest) [] []
    (values_none (behind_dot scope) e.parts.items) in
    let here : linked_within (behind_dot scope) (string_bytes e.name.text) ≡ dot (full_name scope e.name) = within_is scope (string_bytes e.name.text) in
    (both.0, λ x. let rest = both.1 x in let first = ap (one x) here in omega (arith, rest, first))

message_lists : (scope : List ℕ) (name : tree.Name.Name) (body : List Part) (inner rest : Declarations) (ms : List Message) → is_word (string_bytes name.text) ≡ true
    → Lists (names_in (behind_dot (full_name scope name)) inner) ms (flat_map (enum_in (full_name scope name)) body) []
    → Lists (names_in (behind_dot scope) (Within kinds.Message (word name) inner rest))
    (record { scope = scope; full = full_name scope name; name = name; body = body } ∷ ms) [] (names_in (behind_dot scope) rest)
message_lists scope name body inner rest ms good own =
    let es = flat_map (enum_in (full_name scope name)) body in
    let there = subst (λ t. Lists (names_in t inner) ms es []) (sym (scope_is scope (string_bytes name.text) good)) own in
    let both = before (names_in (linked_within (behind_dot scope) (string_bytes name.text)) inner) (names_in (behind_dot scope) rest) ms es there in
    (ap₂ (λ n ns. n ∷ ns) (within_is scope (string_bytes name.text)) both.0, λ x. let here = both.1 x in omega (arith, here))

mutual
  part_lists : (scope : List ℕ) (p : Part) (rest : Declarations) → IsGoodPart p
      → Lists (names_in (behind_dot scope) (of_part p rest)) (messages_in scope p) (enum_in scope p) (names_in (behind_dot scope) rest)
  part_lists scope (parts.Empty span) rest h = nothing_more (names_in (behind_dot scope) rest)
  part_lists scope (parts.Message' name shape row span) rest h =
      let full = full_name scope name in
      message_lists scope name (row_list row) (of_row row) rest (row_messages full row) h.1.0 (row_lists full row h.1.1.1.0)
  part_lists scope (parts.Enum e) rest h = enum_lists scope e rest
  part_lists scope (parts.Oneof o) rest h =
      before (names_in (behind_dot scope) (all_of of_oneof_part o.parts.items Done)) (names_in (behind_dot scope) rest) [] []
      (members_none (behind_dot scope) o.parts.items)
  part_lists scope (parts.Option o) rest h = nothing_more (names_in (behind_dot scope) rest)
  part_lists scope (parts.Reserved r) rest h = nothing_more (names_in (behind_dot scope) rest)
  part_lists scope (parts.Map m) rest h = nothing_more (names_in (behind_dot scope) rest)
  part_lists scope (parts.Field f) rest h = nothing_more (names_in (behind_dot scope) rest)

  row_lists : {n : _} (scope : List ℕ) (row : Row_of-Part n) → IsGood (view.row (view.part_nodes row))
      → Lists (names_in (behind_dot scope) (of_row row)) (row_messages scope row) (flat_map (enum_in scope) (row_list row)) []
  row_lists scope end_of-Part h = nothing_more []
  row_lists scope (more_of-Part p rest) h =
      let good = nodes_good (view.part p) (view.part_nodes rest) h in
      further (names_in (behind_dot scope) (of_part p (of_row rest))) (names_in (behind_dot scope) (of_row rest)) [] (messages_in scope p)
      (row_messages scope rest) (enum_in scope p) (flat_map (enum_in scope) (row_list rest)) (part_lists scope p (of_row rest) good.0) (row_lists scope rest good.1)

body_lists : (scope : List ℕ) (ps : List Part) → AllByRecursion IsGoodPart ps
    → Lists (names_in (behind_dot scope) (all_of of_part ps Done)) (flat_map (messages_in scope) ps) (flat_map (enum_in scope) ps) []
body_lists scope [] h = nothing_more []
body_lists scope (p ∷ ps) h =
    let rest = all_of of_part ps Done in
    further (names_in (behind_dot scope) (of_part p rest)) (names_in (behind_dot scope) rest) [] (messages_in scope p)
    (flat_map (messages_in scope) ps) (enum_in scope p) (flat_map (enum_in scope) ps) (part_lists scope p rest h.0) (body_lists scope ps h.1)

statement_lists : (scope : List ℕ) (s : tree.Statement.Statement) (rest : Declarations) → IsGoodStatement s
    → Lists (names_in (behind_dot scope) (of_statement s rest)) (statement_messages scope s) (enum_stated scope s) (names_in (behind_dot scope) rest)
statement_lists scope (statements.Empty span) rest h = nothing_more (names_in (behind_dot scope) rest)
statement_lists scope (statements.Import i) rest h = nothing_more (names_in (behind_dot scope) rest)
statement_lists scope (statements.Option o) rest h = nothing_more (names_in (behind_dot scope) rest)
statement_lists scope (statements.Message m) rest h = search (rules, message_lists, body_lists, runs_good)
statement_lists scope (statements.Enum e) rest h = enum_lists scope e rest
statement_lists scope (statements.Service s) rest h = search (rules, before, methods_none)

statements_list : (scope : List ℕ) (ss : List tree.Statement.Statement) → AllByRecursion IsGoodStatement ss
    → Lists (names_in (behind_dot scope) (all_of of_statement ss Done)) (all_messages scope ss) (flat_map (enum_stated scope) ss) []
statements_list scope [] h = nothing_more []
statements_list scope (s ∷ ss) h = search (rules, further, statement_lists, statements_list scope ss h.1)

-- ---- files

file_lists : (file : tree.FileTree.FileTree) → IsGoodFile file → Lists (file_names file) (file_messages file) (package_enums file) []
file_lists file good =
    let scope = package_of file in
    let words = package_words file.packaged in
    let behind = statements_behind file.packaged in
    let first = names_in (package_scope words) (all_of of_statement file.statements.items Done) in
    let second = package_names [] words in
    let third = names_in (package_scope words) (all_of of_statement behind Done) in
    further (first ++ (second ++ third)) (second ++ third) [] (all_messages scope file.statements.items) (all_messages scope behind)
    (flat_map (enum_stated scope) file.statements.items) (flat_map (enum_stated scope) behind)
    (before first (second ++ third) (all_messages scope file.statements.items) (flat_map (enum_stated scope) file.statements.items)
    (in_package file.statements.items good.front))
    (further (second ++ third) third [] [] (all_messages scope behind) [] (flat_map (enum_stated scope) behind)
    (before second third [] [] (packages_none [] words)) (in_package behind good.behind))
  where
    in_package : (ss : List tree.Statement.Statement) → AllByRecursion IsGoodStatement ss
        → Lists (names_in (package_scope (package_words file.packaged)) (all_of of_statement ss Done)) (all_messages (package_of file) ss) (flat_map (enum_stated (package_of file)) ss) []
    in_package ss h =
        subst (λ t. Lists (names_in t (all_of of_statement ss Done)) (all_messages (package_of file) ss) (flat_map (enum_stated (package_of file)) ss) [])
        (sym (package_scope_is file.packaged good.package_good)) (statements_list (package_of file) ss h)

abbrev IsRead : Entry → Type 0
IsRead e = IsParsed e.1.bytes.items e.1.tree

all_lists : (files : List Entry) → AllByRecursion IsRead files
    → (message_names (all_declared files) ≡ map dot (declared_messages files)) × ((x : Text) → times x (enum_names (all_declared files)) ≡ times x (map dot (scoped_names files)))
all_lists [] h = (refl, λ x. refl)
all_lists (e ∷ es) h =
    let file = e.1.tree in
    let ms = file_messages file in
    let found = scoped_enums file in
    let here = before (file_names file) (all_declared es) ms (package_enums file) (file_lists file (good_file file (file_good e.1.bytes.items file h.0))) in
    let others = all_lists es h.1 in (
      here.0 ∙ (ap (λ ns. dotted_messages ms ++ ns) others.0 ∙ sym (map-append dot (map message_full ms) (declared_messages es))),
      λ x.
          let own = here.1 x in
          let rest = others.1 x in
          let stated : total (named x) found ≡ total (named x) (package_enums file) + total (named x) (flat_map own_enums ms) = total_joined (named x) (package_enums file) (flat_map own_enums ms) in
          let inner : total (named x) (flat_map own_enums ms) ≡ total (own_named x) ms = total_flat (named x) own_enums ms in
          let names : times x (map dot (map enum_full found)) ≡ total (named x) found = total_map (one x) dot (map enum_full found) ∙ total_map (λ n. one x (dot n)) enum_full found in
          let both : times x (map dot (scoped_names (e ∷ es))) ≡ times x (map dot (map enum_full found)) + times x (map dot (scoped_names es)) =
          ap (times x) (map-append dot (map enum_full found) (scoped_names es)) ∙ total_joined (one x) (map dot (map enum_full found)) (map dot (scoped_names es)) in
          omega (arith, own, rest, stated, inner, names, both),
    )

-- ---- the index of a name

-- a name of the list is found at its index
abbrev Found : (x : List ℕ) (i : ℕ) (front xs : List (List ℕ)) → Type 0
Found x i front xs = slice_get (front ++ xs) (unwrap_or (position_from (bytes_eq x) i xs) 0) ≡ Some x

at_end : (front : List (List ℕ)) (y : List ℕ) (ys : List (List ℕ)) → slice_get (front ++ y ∷ ys) (length front) ≡ Some y
at_end [] y ys = refl
at_end (f ∷ fs) y ys = at_end fs y ys

one_further : (front : List (List ℕ)) (y : List ℕ) (ys : List (List ℕ)) → (front ++ y ∷ []) ++ ys ≡ front ++ y ∷ ys
one_further [] y ys = refl
one_further (f ∷ fs) y ys = ap (λ zs. f ∷ zs) (one_further fs y ys)

one_longer : (front : List (List ℕ)) (y : List ℕ) → length (front ++ y ∷ []) ≡ length front + 1
one_longer [] y = refl
one_longer (f ∷ fs) y = let rest : length (fs ++ y ∷ []) ≡ length fs + 1 = one_longer fs y in omega (arith, rest)

differs : (x y : List ℕ) → bytes_eq x y ≡ false → one x y ≡ 0
differs x y is = one_from x y (λ same. false≢true (sym is ∙ (bytes_eq-Decides x y).1 same))

found_in : (x : List ℕ) (i : ℕ) (front xs : List (List ℕ)) → length front ≡ i → 1 ≤ times x xs → Found x i front xs
found_in x i front [] long some = absurd (omega (arith, some))
found_in x i front (y ∷ ys) long some =
    by (bytes_eq x y) refl (λ others. found_in x (i + 1) (front ++ y ∷ []) ys (one_longer front y ∙ ap (λ n. n + 1) long) others)
  where
    by : (b : Bool) → bytes_eq x y ≡ b → (1 ≤ times x ys → Found x (i + 1) (front ++ y ∷ []) ys)
        → slice_get (front ++ y ∷ ys) (unwrap_or (cond b (Some i) (position_from (bytes_eq x) (i + 1) ys)) 0) ≡ Some x
    by true is further = subst (λ n. slice_get (front ++ y ∷ ys) n ≡ Some x) long (at_end front y ys ∙ ap (λ z. Some z) (sym ((bytes_eq-Decides x y).0 is)))
    by false is further = search (rules, differs, slice_get, one_further, further)

some_there : (x : Text) (xs : List Text) (i : ℕ) → slice_get xs i ≡ Some x → 1 ≤ times x xs
some_there x [] i is = absurd (cc (is))
some_there x (y ∷ ys) zero is = let here : one x y ≡ 1 = ap (one x) (same_Some y x is) ∙ same_one x in omega (arith, here)
some_there x (y ∷ ys) (suc i) is = let rest : 1 ≤ times x ys = some_there x ys i is in omega (arith, rest)

-- what is among names with a dot in front is one of the names with a dot in front
dotted_there : (x : Text) (names : List (List ℕ)) → 1 ≤ times x (map dot names) → (name : List ℕ) × (x ≡ dot name) × (1 ≤ times name names)
dotted_there x [] some = absurd (omega (arith, some))
dotted_there x (y ∷ ys) some = search (rules, times, same_one, bytes_eq-Decides, differs, dotted_there x ys)

pub are_numbered : (l : LinkedFiles) → IsLinkedUp l → AreNumbered l.files
are_numbered l up =
    let files = l.files in
    let names = enum_names (all_declared files) in
    let scoped = scoped_names files in
    let both = all_lists files (recursion_from_All IsRead files up.parsed) in
    record {
      types = both.0;
      placed = λ number full there.
          let some : 1 ≤ times full names = some_there full names number there in
          let same = both.1 full in
          let one = dotted_there full scoped (omega (arith, some, same)) in
          let at : slice_get (enum_places files) number ≡ Some (place_among scoped (without_dot full)) =
          slice_get-map (place_among scoped) (declared_names files) number ∙ ap (option_map (place_among scoped)) (slice_get-map without_dot names number ∙ ap (option_map without_dot) there) in
          let place : get_or (enum_places files) number 0 ≡ place_among scoped one.0 =
          get_or_from_slice_get (enum_places files) number (place_among scoped (without_dot full)) 0 at ∙ ap (λ t. place_among scoped (without_dot t)) one.1 in
          (one.0, one.1, ap (slice_get scoped) place ∙ found_in one.0 0 [] scoped refl one.2);
    }
