-- The parts of files that keep to the rules.
use Rattle.std.proofs.Common.{◌≡◌, ◌∙◌, ℕ, ◌+◌, ◌≤◌, List, [], ◌∷◌, ◌++◌, length, map, flat_map, Option, sym, arith, length-append, append_assoc, rules}
use Rattle.std.specs.List.{AllByRecursion}
use Rattle.std.proofs.lemmas.List.{append-nil, length-map, map-append}
use Rattle.pg_schema.specs.declared.parts.enum_type.EnumType.{EnumType}
use Rattle.pg_schema.specs.declared.parts.file.File.{File}
use Rattle.pg_schema.specs.declared.parts.message_type.MessageType.{MessageType}
use Rattle.pg_schema.specs.declared.parts.Parts.{Parts}
use Rattle.pg_link.specs.declared.uses.target.Target.{Target}
use Rattle.pg_check.specs.Declares.{Declares}
use Rattle.pg_check.specs.rules.Files.{file_lines}
use Rattle.pg_check.specs.parts.ByScope.{Placed}
use Rattle.pg_check.specs.rules.KeepsRules.{EnumKeeps, FileKeeps, KeepsRules, MessageKeeps, OptionsKeep, source_messages}
use Rattle.pg_check.proofs.lemmas.parts.kept.KeptParts.{KeptEnum, KeptFile, KeptMessage, KeptParts}
use Rattle.pg_check.specs.parts.MadeEnums.{enumeration, made_enum}
use Rattle.pg_check.specs.parts.MadeParts.{Declared, EachIs, FileShape, IsFileOf, IsTypeOf, Source, TypeTree, file_shape, nothing, placed_enums, placed_messages, type_tree, type_trees, with_file, with_files}
use Rattle.pg_check.specs.rules.Outline.{Enum, Message, file_messages, scoped_enums}
use Rattle.pg_check.proofs.lemmas.parts.Eachs.{each-length, each_all, each_flat, each_weaker, joined_all, same_all}
use Rattle.pg_check.proofs.lemmas.parts.kept.KeptEnums.{kept_enum}
use Rattle.pg_check.proofs.lemmas.parts.kept.KeptMessages.{kept_message}
use Rattle.pg_check.proofs.lemmas.parts.kept.KeptOptions.{kept_options}

-- ---- message types

abbrev TreeKeeps : TypeTree → Type 0
TreeKeeps w = MessageKeeps w.targets w.body

trees_keep : (targets : ℕ → Option Target) (types enums : List Placed) (ms : List Message) → AllByRecursion (λ (m : Message). MessageKeeps targets m.body) ms → AllByRecursion TreeKeeps (map (type_tree targets types enums) ms)
trees_keep targets types enums [] h = tt
trees_keep targets types enums (m ∷ ms) h = (h.0, trees_keep targets types enums ms h.1)

all_trees_keep : (d : Declared) (ss : List Source) → AllByRecursion TreeKeeps d.types → AllByRecursion FileKeeps ss → AllByRecursion TreeKeeps (with_files d ss).types
all_trees_keep d [] h k = h
all_trees_keep d (s ∷ ss) h k =
    all_trees_keep (with_file d s) ss
    (joined_all TreeKeeps d.types (type_trees (length d.types) (length d.enums) s) h
    (trees_keep s.targets (placed_messages (length d.types) s.tree) (placed_enums (length d.enums) s.tree) (file_messages s.tree) k.0.messages)) k.1

kept_messages : (ws : List TypeTree) (ts : List MessageType) → EachIs IsTypeOf ws ts → AllByRecursion TreeKeeps ws → AllByRecursion KeptMessage ts
kept_messages = each_all IsTypeOf TreeKeeps KeptMessage (λ w t is h. kept_message w.targets w.full w.body w.nested w.enums t is h)

pub tree_count : (d : Declared) (ss : List Source) → length (with_files d ss).types ≡ length d.types + length (flat_map source_messages ss)
tree_count d [] = omega arith
tree_count d (s ∷ ss) =
    let trees = type_trees (length d.types) (length d.enums) s in
    let others : length (with_files (with_file d s) ss).types ≡ length (d.types ++ trees) + length (flat_map source_messages ss) = tree_count (with_file d s) ss in
    let joined : length (d.types ++ trees) ≡ length d.types + length trees = length-append d.types trees in
    let made : length trees ≡ length (file_messages s.tree) = length-map (file_messages s.tree) (type_tree s.targets (placed_messages (length d.types) s.tree) (placed_enums (length d.enums) s.tree)) in
    let all : length (file_messages s.tree ++ flat_map source_messages ss) ≡ length (file_messages s.tree) + length (flat_map source_messages ss) = length-append (file_messages s.tree) (flat_map source_messages ss) in
    omega (arith, others, joined, made, all)

-- ---- enums

abbrev pub source_enums : Source → List Enum
source_enums s = scoped_enums s.tree

abbrev FoundKeeps : Enum → Type 0
FoundKeeps e = EnumKeeps e.tree.parts.items

pub enums_are : (d : Declared) (ss : List Source) → (with_files d ss).enums ≡ d.enums ++ map made_enum (flat_map source_enums ss)
enums_are d [] = sym (append-nil d.enums)
enums_are d (s ∷ ss) = search (rules, append_assoc, flat_map, map-append, enums_are (with_file d s) ss)

all_enums_keep : (ss : List Source) → AllByRecursion FileKeeps ss → AllByRecursion FoundKeeps (flat_map source_enums ss)
all_enums_keep ss h = search (rules, each_flat, each_weaker)

kept_enums : (es : List EnumType) (found : List Enum) → map enumeration es ≡ map made_enum found → AllByRecursion FoundKeeps found → AllByRecursion KeptEnum es
kept_enums = same_all enumeration made_enum FoundKeeps KeptEnum (λ e m is h. kept_enum e m.full m.tree.parts.items is h)

-- ---- files

abbrev ShapeKeeps : FileShape → Type 0
ShapeKeeps w = OptionsKeep (file_lines w.tree)

-- what holds of what each file comes to holds of all shapes
pub each_shape : (P : FileShape → Type 0) (Q : Source → Type 0) → ((d : Declared) (s : Source) → Q s → P (file_shape (length d.types) (length d.enums) (length d.services) s))
    → (d : Declared) (ss : List Source) → AllByRecursion P d.files → AllByRecursion Q ss → AllByRecursion P (with_files d ss).files
each_shape P Q so d [] h k = h
each_shape P Q so d (s ∷ ss) h k = each_shape P Q so (with_file d s) ss (joined_all P d.files (file_shape (length d.types) (length d.enums) (length d.services) s ∷ []) h (so d s k.0, tt)) k.1

kept_files : (ws : List FileShape) (fs : List File) → EachIs IsFileOf ws fs → AllByRecursion ShapeKeeps ws → AllByRecursion KeptFile fs
kept_files = each_all IsFileOf ShapeKeeps KeptFile (λ w f is h. let kept = kept_options w.tree f.options.items is.options h in record { rising = kept.rising; fitting = kept.fitting })

pub kept_parts : (files : List Source) (parts : Parts) → Declares files parts → KeptParts parts
kept_parts files parts h =
    let keep : KeepsRules files = h.keeps_rules in
    let counted : length (with_files nothing files).types ≡ 0 + length (flat_map source_messages files) = tree_count nothing files in
    let count : length (with_files nothing files).types ≡ length (flat_map source_messages files) = omega (arith, counted) in
    let same : length (with_files nothing files).types ≡ length parts.types.items = each-length IsTypeOf (with_files nothing files).types parts.types.items h.has_parts.types in
    let few : length (flat_map source_messages files) ≤ 4096 = keep.few_types in
    record {
      few_types = omega (arith, count, same, few);
      messages = kept_messages (with_files nothing files).types parts.types.items h.has_parts.types (all_trees_keep nothing files tt keep.each);
      enums = kept_enums parts.enums.items (flat_map source_enums files) (h.has_parts.enums ∙ enums_are nothing files) (all_enums_keep files keep.each);
      files = kept_files (with_files nothing files).files parts.files.items h.has_parts.files (each_shape ShapeKeeps FileKeeps (λ d s h. h.options) nothing files tt keep.each);
    }
