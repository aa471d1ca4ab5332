-- What comes one after the other declares its names one after the other.
use Rattle.std.proofs.Common.{◌≡◌, ◌∙◌, ℕ, ◌+◌, ◌<◌, List, [], ◌∷◌, ◌++◌, length, refl, sym, ap, append_assoc, map, take, drop, drop-cons, add-one, slice_index_or, string_bytes, arith, rules}
use Rattle.std.proofs.lemmas.List.{append-nil, map-append, map_more}
use Rattle.pg_syntax.specs.declared.tree as tree
use Rattle.pg_syntax.specs.declared.tree.Part.{Part, Row_of-Part, end_of-Part, more_of-Part, items-the_row-Part, items_hidden-the_row-Part-0}
use Rattle.pg_syntax.specs.declared.tree.Part.TheBlock.{hidden-the_row-Part-0}
use Rattle.pg_syntax.specs.declared.tree.Part.TheVariants as parts
use Rattle.pg_syntax.specs.declared.tree.Statement.TheVariants as statements
use Rattle.pg_link.specs.declared.names.Kind.{Kind}
use Rattle.pg_link.specs.declared.names.Kind.TheVariants as kinds
use Rattle.pg_link.specs.names.Declares.{Declarations, Done, Within, Beside, Word, declared, names_in, package_names, package_scope, within}
use Rattle.pg_link.specs.names.Files.{Declared}
use Rattle.pg_link.specs.names.Names.{Text, called}
use Rattle.pg_link.specs.names.Outline.{all_of, of_enum_part, of_oneof_part, of_service_part, of_part, of_row, of_message, of_statement, word}
use Rattle.pg_link.proofs.lemmas.names.ResolvesLaws.{called-append}

-- what comes after a part comes after its names
beside_rest : (scope : Text) (kind : Kind) (w : Word) (inner rest : Declarations)
    → names_in scope (Beside kind w inner rest) ≡ names_in scope (Beside kind w inner Done) ++ names_in scope rest
beside_rest scope kind w inner rest = ap (λ l. declared scope kind w ∷ (l ++ names_in scope rest)) (sym (append-nil (names_in scope inner)))

within_rest : (scope : Text) (kind : Kind) (w : Word) (inner rest : Declarations)
    → names_in scope (Within kind w inner rest) ≡ names_in scope (Within kind w inner Done) ++ names_in scope rest
within_rest scope kind w inner rest = ap (λ l. declared scope kind w ∷ (l ++ names_in scope rest)) (sym (append-nil (names_in (within scope w.text) inner)))

pub enum_part_rest : (scope : Text) (p : tree.EnumPart.EnumPart) (rest : Declarations)
    → names_in scope (of_enum_part p rest) ≡ names_in scope (of_enum_part p Done) ++ names_in scope rest
enum_part_rest scope p rest = grind arith

pub oneof_part_rest : (scope : Text) (p : tree.OneofPart.OneofPart) (rest : Declarations)
    → names_in scope (of_oneof_part p rest) ≡ names_in scope (of_oneof_part p Done) ++ names_in scope rest
oneof_part_rest scope p rest = grind arith

pub service_part_rest : (scope : Text) (p : tree.ServicePart.ServicePart) (rest : Declarations)
    → names_in scope (of_service_part p rest) ≡ names_in scope (of_service_part p Done) ++ names_in scope rest
service_part_rest scope p rest = grind arith

pub part_rest : (scope : Text) (p : Part) (rest : Declarations) → names_in scope (of_part p rest) ≡ names_in scope (of_part p Done) ++ names_in scope rest
part_rest scope (parts.Empty span) rest = refl
part_rest scope (parts.Message' name shape row span) rest = within_rest scope kinds.Message (word name) (of_row row) rest
part_rest scope (parts.Enum e) rest = beside_rest scope kinds.Enum (word e.name) (all_of of_enum_part e.parts.items Done) rest
part_rest scope (parts.Oneof o) rest = beside_rest scope kinds.Oneof (word o.name) (all_of of_oneof_part o.parts.items Done) rest
part_rest scope (parts.Option o) rest = refl
part_rest scope (parts.Reserved r) rest = refl
part_rest scope (parts.Map m) rest = refl
part_rest scope (parts.Field f) rest = refl

pub statement_rest : (scope : Text) (s : tree.Statement.Statement) (rest : Declarations)
    → names_in scope (of_statement s rest) ≡ names_in scope (of_statement s Done) ++ names_in scope rest
statement_rest scope (statements.Empty span) rest = refl
statement_rest scope (statements.Import i) rest = refl
statement_rest scope (statements.Option o) rest = refl
statement_rest scope (statements.Message m) rest = within_rest scope kinds.Message (word m.name) (all_of of_part m.parts.items Done) rest
statement_rest scope (statements.Enum e) rest = beside_rest scope kinds.Enum (word e.name) (all_of of_enum_part e.parts.items Done) rest
statement_rest scope (statements.Service s) rest = within_rest scope kinds.Service (word s.name) (all_of of_service_part s.parts.items Done) rest

-- a message as a part of another
row-items : {m : _} (row : Row_of-Part m) → of_row row ≡ all_of of_part (items-the_row-Part m row) Done
row-items end_of-Part = refl
row-items (more_of-Part p rest) = ap (of_part p) (row-items rest)

pub part_message : (m : tree.Message.Message) → of_part (parts.Message m) Done ≡ of_message m Done
part_message m = search (rules, row-items, hidden-the_row-Part-0, items_hidden-the_row-Part-0)

-- one more of a list
pub one_more : {X : Type 0} (scope : Text) (declares : X → Declarations → Declarations)
    → ((x : X) (rest : Declarations) → names_in scope (declares x rest) ≡ names_in scope (declares x Done) ++ names_in scope rest)
    → (xs : List X) (i : ℕ) (x : X) (old mid new : List Declared) → i < length xs → x ≡ slice_index_or xs i x
    → new ≡ mid ++ names_in scope (declares x Done)
    → mid ++ names_in scope (all_of declares (drop i xs) Done) ≡ old ++ names_in scope (all_of declares xs Done)
    → new ++ names_in scope (all_of declares (drop (i + 1) xs) Done) ≡ old ++ names_in scope (all_of declares xs Done)
one_more scope declares splits xs i x old mid new inside is added before = search (rules, drop-cons, slice_index_or, add-one, append_assoc)

-- ---- packages

pub scope_more : (first : tree.Name.Name) (words : List tree.Name.Name) (i : ℕ) (d : tree.Name.Name) → i < length words
    → package_scope (word first ∷ map word (take (i + 1) words)) ≡ package_scope (word first ∷ map word (take i words)) ++ called (string_bytes (slice_index_or words i d).text ∷ [])
scope_more first words i d inside =
    ap (λ ws. package_scope (word first ∷ ws)) (map_more word words i d inside)
    ∙ (ap called (map-append (λ (w : Word). w.text) (word first ∷ map word (take i words)) (word (slice_index_or words i d) ∷ []))
    ∙ called-append (map (λ (w : Word). w.text) (word first ∷ map word (take i words))) (string_bytes (slice_index_or words i d).text ∷ []))

pub package_more : (scope inner : Text) (words : List tree.Name.Name) (i : ℕ) (x : tree.Name.Name) (mid new whole : List Declared) → i < length words
    → x ≡ slice_index_or words i x → new ≡ mid ++ declared scope kinds.Package (word x) ∷ [] → inner ≡ within scope (string_bytes x.text)
    → mid ++ package_names scope (map word (drop i words)) ≡ whole
    → new ++ package_names inner (map word (drop (i + 1) words)) ≡ whole
package_more scope inner words i x mid new whole inside is added goes before =
    let left : drop i words ≡ x ∷ drop (i + 1) words =
    drop-cons words i x inside ∙ (ap (λ n. slice_index_or words i x ∷ drop n words) (sym (add-one i)) ∙ ap (λ y. y ∷ drop (i + 1) words) (sym is)) in
    let rest = package_names (within scope (string_bytes x.text)) (map word (drop (i + 1) words)) in
    ap (λ s. new ++ package_names s (map word (drop (i + 1) words))) goes ∙ (ap (λ l. l ++ rest) added
    ∙ (append_assoc mid (declared scope kinds.Package (word x) ∷ []) rest ∙ (ap (λ ws. mid ++ package_names scope (map word ws)) (sym left) ∙ before)))
