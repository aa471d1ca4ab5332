-- What names of a file count, by what declares them: message types, enums and services, each with what is in it.
use Rattle.std.proofs.Common.{◌≡◌, ◌∙◌, ℕ, ◌+◌, true, List, [], ◌∷◌, ◌++◌, map, flat_map, Option, string_bytes, sym, ap, refl, arith, append_assoc, rules}
use Rattle.std.specs.List.{AllByRecursion}
use Rattle.std.proofs.lemmas.Bool.{false≢true}
use Rattle.std.proofs.lemmas.List.{append-nil}
use Rattle.pg_link.specs.declared.uses.target.Target.{Target}
use Rattle.pg_link.specs.names.Declares.{Declarations, Done, Word, names_in, package_names, package_scope, within as linked_within}
use Rattle.pg_link.specs.names.Files.{Declared}
use Rattle.pg_link.specs.names.Names.{Text, called}
use Rattle.pg_link.specs.names.Outline.{all_of, file_names, of_enum, of_enum_part, of_oneof, of_oneof_part, of_part, of_row, of_service, of_service_part, of_statement, package_words, word}
use Rattle.pg_schema.specs.rules.DeclaredNames.{entry_name, within}
use Rattle.pg_schema.specs.rules.Words.{is_word}
use Rattle.pg_check.specs.rules.Enums as enums
use Rattle.pg_check.specs.parts.MadeServices.{MadeMethod, MadeService, made_methods, made_service, made_services, service_in}
use Rattle.pg_check.specs.rules.Outline.{Enum, Message, all_messages, dotted_more, enum_in, enum_stated, file_messages, full_name, messages_in, own_enums, package_enums, package_in, package_of, row_list, row_messages, scoped_enums, statement_messages, statements_behind}
use Rattle.pg_check.proofs.lemmas.parts.names.NamedOnce.{weight}
use Rattle.pg_check.proofs.lemmas.parts.Totals.{total, total_both, total_flat, total_joined}
use Rattle.pg_check.proofs.lemmas.parts.names.WordTrees.{IsGood, nodes_good, runs_good}
use Rattle.pg_check.proofs.lemmas.parts.names.WordedFiles.{IsGoodFile, IsGoodPart, IsGoodStatement}
use Rattle.pg_syntax.specs.declared.tree as tree
use Rattle.pg_syntax.specs.declared.tree.EnumPart.TheVariants as enum_parts
use Rattle.pg_syntax.specs.declared.tree.OneofPart.TheVariants as oneof_parts
use Rattle.pg_syntax.specs.declared.tree.ServicePart.TheVariants as service_parts
use Rattle.pg_syntax.specs.declared.tree.Part.{Part, Row_of-Part, end_of-Part, more_of-Part}
use Rattle.pg_syntax.specs.declared.tree.Part.TheVariants as parts
use Rattle.pg_syntax.specs.declared.tree.Statement.TheVariants as statements
use Rattle.pg_syntax.specs.Views as view

-- ---- full names with a dot in front and without

-- of a scope that has no name, nothing
abbrev pub behind_dot : List ℕ → Text
behind_dot [] = []
behind_dot (b ∷ bs) = 46 ∷ b ∷ bs

pub within_is : (scope w : List ℕ) → linked_within (behind_dot scope) w ≡ 46 ∷ within scope w
within_is scope w = grind (arith, append-nil)

pub dot_within : (scope w : List ℕ) → is_word w ≡ true → behind_dot (within scope w) ≡ 46 ∷ within scope w
dot_within scope w h = grind (arith, false≢true)

pub scope_is : (scope w : List ℕ) → is_word w ≡ true → linked_within (behind_dot scope) w ≡ behind_dot (within scope w)
scope_is scope w h = within_is scope w ∙ sym (dot_within scope w h)

-- ---- what is in a scope beside message types and enums

abbrev pub oneof_part_names : tree.OneofPart.OneofPart → List (List ℕ)
oneof_part_names (oneof_parts.Empty span) = []
oneof_part_names (oneof_parts.Option o) = []
oneof_part_names (oneof_parts.Map m) = string_bytes m.name.text ∷ entry_name (string_bytes m.name.text) ∷ []
oneof_part_names (oneof_parts.Field f) = string_bytes f.name.text ∷ []

abbrev pub part_names : Part → List (List ℕ)
part_names (parts.Empty span) = []
part_names (parts.Message' name shape row span) = []
part_names (parts.Enum e) = []
part_names (parts.Oneof o) = string_bytes o.name.text ∷ flat_map oneof_part_names o.parts.items
part_names (parts.Option o) = []
part_names (parts.Reserved r) = []
part_names (parts.Map m) = string_bytes m.name.text ∷ entry_name (string_bytes m.name.text) ∷ []
part_names (parts.Field f) = string_bytes f.name.text ∷ []

abbrev pub value_texts_in : enums.Part → List (List ℕ)
value_texts_in p = map (λ (v : tree.EnumValue.EnumValue). string_bytes v.name.text) (enums.value_in p)

abbrev pub value_texts : List enums.Part → List (List ℕ)
value_texts ps = flat_map value_texts_in ps

module _ (f : Text → ℕ) where
  -- what a full name counts
  abbrev pub counts : List ℕ → ℕ
  counts x = f (46 ∷ x)

  abbrev pub inside : List ℕ → List ℕ → ℕ
  inside scope x = counts (within scope x)

  abbrev pub of_message_type : Message → ℕ
  of_message_type m = counts m.full + total (inside m.full) (flat_map part_names m.body)

  abbrev pub of_enum_type : Enum → ℕ
  of_enum_type e = counts e.full + total (inside e.scope) (value_texts e.tree.parts.items)

  -- with the enums that the message type itself declares
  abbrev of_whole : Message → ℕ
  of_whole m = of_message_type m + total of_enum_type (own_enums m)

  abbrev pub method_counts : List ℕ → MadeMethod → ℕ
  method_counts full m = inside full m.name

  abbrev pub of_made_service : MadeService → ℕ
  of_made_service s = counts s.name + total (method_counts s.name) s.methods

  abbrev all : List Declared → ℕ
  all ds = total (weight f) ds

  name_is : (scope w : List ℕ) → f (linked_within (behind_dot scope) w) ≡ inside scope w
  name_is scope w = ap f (within_is scope w)

  values_are : (scope : List ℕ) (ps : List enums.Part) → all (names_in (behind_dot scope) (all_of of_enum_part ps Done)) ≡ total (inside scope) (value_texts ps)
  values_are scope [] = refl
  values_are scope (enum_parts.Empty span ∷ ps) = values_are scope ps
  values_are scope (enum_parts.Option o ∷ ps) = values_are scope ps
  values_are scope (enum_parts.Reserved r ∷ ps) = values_are scope ps
  values_are scope (enum_parts.Value v ∷ ps) = search (rules, name_is, string_bytes, values_are scope ps)

  oneof_parts_are : (scope : List ℕ) (ps : List tree.OneofPart.OneofPart) → all (names_in (behind_dot scope) (all_of of_oneof_part ps Done)) ≡ total (inside scope) (flat_map oneof_part_names ps)
  oneof_parts_are scope [] = refl
  oneof_parts_are scope (oneof_parts.Empty span ∷ ps) = oneof_parts_are scope ps
  oneof_parts_are scope (oneof_parts.Option o ∷ ps) = oneof_parts_are scope ps
  oneof_parts_are scope (oneof_parts.Map m ∷ ps) = search (rules, name_is, oneof_parts_are scope ps)
  oneof_parts_are scope (oneof_parts.Field d ∷ ps) = search (rules, name_is, oneof_parts_are scope ps)

  methods_are : (targets : ℕ → Option Target) (full : List ℕ) (ps : List tree.ServicePart.ServicePart) → all (names_in (behind_dot full) (all_of of_service_part ps Done)) ≡ total (method_counts full) (made_methods targets ps)
  methods_are targets full [] = refl
  methods_are targets full (service_parts.Empty span ∷ ps) = methods_are targets full ps
  methods_are targets full (service_parts.Option o ∷ ps) = methods_are targets full ps
  methods_are targets full (service_parts.Rpc r ∷ ps) = search (rules, name_is, methods_are targets full ps)

  enum_is : (scope : List ℕ) (e : tree.Enum.Enum) (rest : Declarations)
      → all (names_in (behind_dot scope) (of_enum e rest)) ≡ of_enum_type (record { scope = scope; full = full_name scope e.name; tree = e }) + all (names_in (behind_dot scope) rest)
  enum_is scope e rest = search (rules, name_is, values_are, total_joined, weight)

  oneof_is : (scope : List ℕ) (o : tree.Oneof.Oneof) (rest : Declarations)
      → all (names_in (behind_dot scope) (of_oneof o rest)) ≡ (inside scope (string_bytes o.name.text) + total (inside scope) (flat_map oneof_part_names o.parts.items)) + all (names_in (behind_dot scope) rest)
  oneof_is scope o rest = search (rules, name_is, oneof_parts_are, total_joined, weight)

  service_is : (targets : ℕ → Option Target) (scope : List ℕ) (s : tree.Service.Service) (rest : Declarations) → is_word (string_bytes s.name.text) ≡ true
      → all (names_in (behind_dot scope) (of_service s rest)) ≡ of_made_service (made_service targets scope s) + all (names_in (behind_dot scope) rest)
  service_is targets scope s rest h = search (rules, name_is, scope_is, methods_are, total_joined, weight)

  mutual
    part_is : (scope : List ℕ) (p : Part) (rest : Declarations) → IsGoodPart p
        → all (names_in (behind_dot scope) (of_part p rest)) ≡ ((total of_whole (messages_in scope p) + total of_enum_type (enum_in scope p)) + total (inside scope) (part_names p)) + all (names_in (behind_dot scope) rest)
    part_is scope (parts.Empty span) rest h = omega arith
    part_is scope (parts.Message' name shape row span) rest h =
        let full = full_name scope name in
        let inner = names_in (linked_within (behind_dot scope) (string_bytes name.text)) (of_row row) in
        let of_name : f (linked_within (behind_dot scope) (string_bytes name.text)) ≡ counts full = name_is scope (string_bytes name.text) in
        let of_inner : all inner ≡ (total of_whole (row_messages full row) + total of_enum_type (flat_map (enum_in full) (row_list row))) + total (inside full) (flat_map part_names (row_list row)) =
        ap (λ t. all (names_in t (of_row row))) (scope_is scope (string_bytes name.text) h.1.0) ∙ row_is full row h.1.1.1.0 in
        let both : all (inner ++ names_in (behind_dot scope) rest) ≡ all inner + all (names_in (behind_dot scope) rest) = total_joined (weight f) inner (names_in (behind_dot scope) rest) in
        omega (arith, of_name, of_inner, both)
    part_is scope (parts.Enum e) rest h = let one = enum_is scope e rest in omega (arith, one)
    part_is scope (parts.Oneof o) rest h = let one = oneof_is scope o rest in omega (arith, one)
    part_is scope (parts.Option o) rest h = omega arith
    part_is scope (parts.Reserved r) rest h = omega arith
    part_is scope (parts.Map m) rest h =
        let name : f (linked_within (behind_dot scope) (string_bytes m.name.text)) ≡ inside scope (string_bytes m.name.text) = name_is scope (string_bytes m.name.text) in
        let entry : f (linked_within (behind_dot scope) (entry_name (string_bytes m.name.text))) ≡ inside scope (entry_name (string_bytes m.name.text)) = name_is scope (entry_name (string_bytes m.name.text)) in
        omega (arith, name, entry)
    part_is scope (parts.Field d) rest h =
        let name : f (linked_within (behind_dot scope) (string_bytes d.name.text)) ≡ inside scope (string_bytes d.name.text) = name_is scope (string_bytes d.name.text) in
        omega (arith, name)

    row_is : {n : _} (scope : List ℕ) (row : Row_of-Part n) → IsGood (view.row (view.part_nodes row))
        → all (names_in (behind_dot scope) (of_row row)) ≡ (total of_whole (row_messages scope row) + total of_enum_type (flat_map (enum_in scope) (row_list row))) + total (inside scope) (flat_map part_names (row_list row))
    row_is scope end_of-Part h = refl
    row_is scope (more_of-Part p rest) h =
        let good = nodes_good (view.part p) (view.part_nodes rest) h in
        let one = part_is scope p (of_row rest) good.0 in
        let others = row_is scope rest good.1 in
        let messages : total of_whole (messages_in scope p ++ row_messages scope rest) ≡ total of_whole (messages_in scope p) + total of_whole (row_messages scope rest) = total_joined of_whole (messages_in scope p) (row_messages scope rest) in
        let enum_types : total of_enum_type (enum_in scope p ++ flat_map (enum_in scope) (row_list rest)) ≡ total of_enum_type (enum_in scope p) + total of_enum_type (flat_map (enum_in scope) (row_list rest)) = total_joined of_enum_type (enum_in scope p) (flat_map (enum_in scope) (row_list rest)) in
        let names : total (inside scope) (part_names p ++ flat_map part_names (row_list rest)) ≡ total (inside scope) (part_names p) + total (inside scope) (flat_map part_names (row_list rest)) = total_joined (inside scope) (part_names p) (flat_map part_names (row_list rest)) in
        omega (arith, one, others, messages, enum_types, names)

  body_is : (scope : List ℕ) (ps : List Part) → AllByRecursion IsGoodPart ps
      → all (names_in (behind_dot scope) (all_of of_part ps Done)) ≡ (total of_whole (flat_map (messages_in scope) ps) + total of_enum_type (flat_map (enum_in scope) ps)) + total (inside scope) (flat_map part_names ps)
  body_is scope [] h = refl
  body_is scope (p ∷ ps) h =
      let one = part_is scope p (all_of of_part ps Done) h.0 in
      let others = body_is scope ps h.1 in
      let messages : total of_whole (messages_in scope p ++ flat_map (messages_in scope) ps) ≡ total of_whole (messages_in scope p) + total of_whole (flat_map (messages_in scope) ps) = total_joined of_whole (messages_in scope p) (flat_map (messages_in scope) ps) in
      let enum_types : total of_enum_type (enum_in scope p ++ flat_map (enum_in scope) ps) ≡ total of_enum_type (enum_in scope p) + total of_enum_type (flat_map (enum_in scope) ps) = total_joined of_enum_type (enum_in scope p) (flat_map (enum_in scope) ps) in
      let names : total (inside scope) (part_names p ++ flat_map part_names ps) ≡ total (inside scope) (part_names p) + total (inside scope) (flat_map part_names ps) = total_joined (inside scope) (part_names p) (flat_map part_names ps) in
      omega (arith, one, others, messages, enum_types, names)

  statement_is : (targets : ℕ → Option Target) (scope : List ℕ) (s : tree.Statement.Statement) (rest : Declarations) → IsGoodStatement s
      → all (names_in (behind_dot scope) (of_statement s rest)) ≡ ((total of_whole (statement_messages scope s) + total of_enum_type (enum_stated scope s)) + total of_made_service (service_in targets scope s)) + all (names_in (behind_dot scope) rest)
  statement_is targets scope (statements.Empty span) rest h = omega arith
  statement_is targets scope (statements.Import i) rest h = omega arith
  statement_is targets scope (statements.Option o) rest h = omega arith
  statement_is targets scope (statements.Message m) rest h =
      let full = full_name scope m.name in
      let inner = names_in (linked_within (behind_dot scope) (string_bytes m.name.text)) (all_of of_part m.parts.items Done) in
      let of_name : f (linked_within (behind_dot scope) (string_bytes m.name.text)) ≡ counts full = name_is scope (string_bytes m.name.text) in
      let of_inner : all inner ≡ (total of_whole (flat_map (messages_in full) m.parts.items) + total of_enum_type (flat_map (enum_in full) m.parts.items)) + total (inside full) (flat_map part_names m.parts.items) =
      ap (λ t. all (names_in t (all_of of_part m.parts.items Done))) (scope_is scope (string_bytes m.name.text) h.1.0) ∙ body_is full m.parts.items (runs_good view.part m.parts.items h.1.1.1.0) in
      let both : all (inner ++ names_in (behind_dot scope) rest) ≡ all inner + all (names_in (behind_dot scope) rest) = total_joined (weight f) inner (names_in (behind_dot scope) rest) in
      omega (arith, of_name, of_inner, both)
  statement_is targets scope (statements.Enum e) rest h = let one = enum_is scope e rest in omega (arith, one)
  statement_is targets scope (statements.Service s) rest h = let one = service_is targets scope s rest h.1.0 in omega (arith, one)

  statements_are : (targets : ℕ → Option Target) (scope : List ℕ) (ss : List tree.Statement.Statement) → AllByRecursion IsGoodStatement ss
      → all (names_in (behind_dot scope) (all_of of_statement ss Done)) ≡ (total of_whole (all_messages scope ss) + total of_enum_type (flat_map (enum_stated scope) ss)) + total of_made_service (made_services targets scope ss)
  statements_are targets scope [] h = refl
  statements_are targets scope (s ∷ ss) h = search (rules, statement_is, total_joined, statements_are targets scope ss h.1)

  packages_none : (scope : Text) (ws : List Word) → all (package_names scope ws) ≡ 0
  packages_none scope [] = refl
  packages_none scope (w ∷ ws) = let rest : all (package_names (linked_within scope w.text) ws) ≡ 0 = packages_none (linked_within scope w.text) ws in omega (arith, rest)

-- ---- packages

pub more_dotted : (text : List ℕ) (ns : List tree.Name.Name) → 46 ∷ dotted_more text ns ≡ (46 ∷ text) ++ called (map (λ (w : Word). w.text) (map word ns))
more_dotted text [] = sym (append-nil (46 ∷ text))
more_dotted text (n ∷ ns) = search (rules, string_bytes, append_assoc, more_dotted (text ++ 46 ∷ string_bytes n.text) ns)

some_dotted : (b : ℕ) (bs : List ℕ) (ns : List tree.Name.Name) → behind_dot (dotted_more (b ∷ bs) ns) ≡ 46 ∷ dotted_more (b ∷ bs) ns
some_dotted b bs [] = refl
some_dotted b bs (n ∷ ns) = some_dotted b (bs ++ 46 ∷ string_bytes n.text) ns

pub first_dotted : (text : List ℕ) (ns : List tree.Name.Name) → is_word text ≡ true → behind_dot (dotted_more text ns) ≡ 46 ∷ dotted_more text ns
first_dotted text ns h = grind (arith, false≢true, some_dotted)

pub package_scope_is : (p : Option tree.Packaged.Packaged) → IsGood (view.perhaps view.packaged p) → package_scope (package_words p) ≡ behind_dot (package_in p)
package_scope_is p h = grind (arith, string_bytes, first_dotted, more_dotted)

-- ---- files

pub file_is : (f : Text → ℕ) (targets : ℕ → Option Target) (file : tree.FileTree.FileTree) → IsGoodFile file
    → total (weight f) (file_names file) ≡ (total (of_message_type f) (file_messages file) + total (of_enum_type f) (scoped_enums file))
    + total (of_made_service f) (made_services targets (package_of file) file.statements.items ++ made_services targets (package_of file) (statements_behind file.packaged))
file_is f targets file good =
    let words = package_words file.packaged in
    let scope = package_of file in
    let behind = statements_behind file.packaged in
    let same : package_scope words ≡ behind_dot scope = package_scope_is file.packaged good.package_good in
    let first = names_in (package_scope words) (all_of of_statement file.statements.items Done) in
    let second = package_names [] words in
    let third = names_in (package_scope words) (all_of of_statement behind Done) in
    let of_first : total (weight f) first ≡ (total (of_whole f) (all_messages scope file.statements.items) + total (of_enum_type f) (flat_map (enum_stated scope) file.statements.items)) + total (of_made_service f) (made_services targets scope file.statements.items) =
    ap (λ t. total (weight f) (names_in t (all_of of_statement file.statements.items Done))) same ∙ statements_are f targets scope file.statements.items good.front in
    let of_second : total (weight f) second ≡ 0 = packages_none f [] words in
    let of_third : total (weight f) third ≡ (total (of_whole f) (all_messages scope behind) + total (of_enum_type f) (flat_map (enum_stated scope) behind)) + total (of_made_service f) (made_services targets scope behind) =
    ap (λ t. total (weight f) (names_in t (all_of of_statement behind Done))) same ∙ statements_are f targets scope behind good.behind in
    let whole : total (weight f) (first ++ (second ++ third)) ≡ total (weight f) first + total (weight f) (second ++ third) = total_joined (weight f) first (second ++ third) in
    let later : total (weight f) (second ++ third) ≡ total (weight f) second + total (weight f) third = total_joined (weight f) second third in
    let ms = file_messages file in
    let messages : total (of_whole f) ms ≡ total (of_whole f) (all_messages scope file.statements.items) + total (of_whole f) (all_messages scope behind) = total_joined (of_whole f) (all_messages scope file.statements.items) (all_messages scope behind) in
    let inner : total (of_whole f) ms ≡ total (of_message_type f) ms + total (of_enum_type f) (flat_map own_enums ms) =
    total_both (of_message_type f) (λ (m : Message). total (of_enum_type f) (own_enums m)) ms ∙ ap (λ n. total (of_message_type f) ms + n) (sym (total_flat (of_enum_type f) own_enums ms)) in
    let stated : total (of_enum_type f) (package_enums file) ≡ total (of_enum_type f) (flat_map (enum_stated scope) file.statements.items) + total (of_enum_type f) (flat_map (enum_stated scope) behind) =
    total_joined (of_enum_type f) (flat_map (enum_stated scope) file.statements.items) (flat_map (enum_stated scope) behind) in
    let enum_types : total (of_enum_type f) (scoped_enums file) ≡ total (of_enum_type f) (package_enums file) + total (of_enum_type f) (flat_map own_enums ms) = total_joined (of_enum_type f) (package_enums file) (flat_map own_enums ms) in
    let services : total (of_made_service f) (made_services targets scope file.statements.items ++ made_services targets scope behind) ≡ total (of_made_service f) (made_services targets scope file.statements.items) + total (of_made_service f) (made_services targets scope behind) =
    total_joined (of_made_service f) (made_services targets scope file.statements.items) (made_services targets scope behind) in
    omega (arith, of_first, of_second, of_third, whole, later, messages, inner, stated, enum_types, services)
