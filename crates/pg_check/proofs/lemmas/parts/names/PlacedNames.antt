-- All full names of the parts of linked files, counted in the files.
use Rattle.std.proofs.Common.{◌≡◌, ◌∙◌, ℕ, ◌+◌, ◌≤◌, true, List, [], ◌∷◌, ◌++◌, length, map, flat_map, string_bytes, sym, ap, refl, arith, rules}
use Rattle.std.specs.List.{AllByRecursion}
use Rattle.std.proofs.lemmas.List.{map-append}
use Rattle.std.proofs.lemmas.List.Elements.{recursion_from_All}
use Rattle.pg_schema.specs.declared.parts.enum_type.EnumType.{EnumType}
use Rattle.pg_schema.specs.declared.parts.message_type.MessageType.{MessageType}
use Rattle.pg_schema.specs.declared.parts.Parts.{Parts}
use Rattle.pg_schema.specs.rules.DeclaredNames as names
use Rattle.pg_schema.specs.rules.DeclaredNames.{declared_names, service_names, type_names, within}
use Rattle.pg_schema.specs.rules.Pairs.{are_distinct}
use Rattle.pg_link.specs.Linked.{IsLinkedUp, LinkedFiles}
use Rattle.pg_link.specs.names.Names.{Text}
use Rattle.pg_link.specs.names.Outline.{file_names}
use Rattle.pg_link.specs.uses.Targets.{all_declared}
use Rattle.pg_link.specs.walk.Walk.{Entry, IsParsed}
use Rattle.pg_check.specs.parts.ByScope.{Placed, placed_from}
use Rattle.pg_check.specs.rules.KeepsRules.{source_messages}
use Rattle.pg_check.specs.parts.MadeEnums.{enumeration, made_enum}
use Rattle.pg_check.specs.parts.MadeParts.{ArePartsOf, Declared, IsTypeOf, Source, nothing, placed_enums, placed_messages, type_tree, type_trees, with_file, with_files}
use Rattle.pg_check.specs.parts.MadeServices.{service}
use Rattle.pg_check.specs.rules.Outline.{Enum, enum_scope, file_messages}
use Rattle.pg_check.proofs.lemmas.parts.places.PlacedParts.{HasValuesOnce}
use Rattle.pg_check.specs.parts.Sources.{linked_source, linked_sources}
use Rattle.pg_check.proofs.lemmas.parts.places.DeclaredPlaces.{looked_up}
use Rattle.pg_check.proofs.lemmas.parts.names.DeclaredTotals.{file_is, inside, of_enum_type, of_made_service, of_message_type, value_texts}
use Rattle.pg_check.proofs.lemmas.parts.Eachs.{same_all}
use Rattle.pg_check.proofs.lemmas.parts.kept.KeptFiles.{source_enums}
use Rattle.pg_check.proofs.lemmas.parts.LinkedParts.{distinct_before}
use Rattle.pg_check.proofs.lemmas.parts.names.NamedOnce.{once_named, weight}
use Rattle.pg_check.proofs.lemmas.parts.names.PartNames.{enum_values_are, file_is_so, own_counts, own_is, service_is_so, tree_counts, type_is, values_count, values_looked}
use Rattle.pg_check.proofs.lemmas.parts.places.PartPlaces.{IsSettledSource, each_total, enum_names_are, enums_made, enums_summed, file_enum_ids, made_in, nested_enums, scoped_all, scoped_services, services_back, services_made}
use Rattle.pg_check.proofs.lemmas.parts.places.Regrouped.{everywhere}
use Rattle.pg_check.proofs.lemmas.parts.places.ScopesOnce.{NamesOnce, each_file_once, file_scoped}
use Rattle.pg_check.proofs.lemmas.parts.Totals.{distinct_from_times, one, times, total, total_both, total_flat, total_joined, total_map, total_same}
use Rattle.pg_check.proofs.lemmas.parts.names.WordTrees.{file_good}
use Rattle.pg_check.proofs.lemmas.parts.names.WordedFiles.{good_file}

-- ---- the files

settled_from : (all files : List Entry) → AllByRecursion (λ (e : Entry). IsParsed e.1.bytes.items e.1.tree) files → AllByRecursion (λ (e : Entry). NamesOnce (file_names e.1.tree)) files
    → AllByRecursion IsSettledSource (map (linked_source all) files)
settled_from all [] parsed once = tt
settled_from all (e ∷ es) parsed once = search (rules, good_file, file_good, file_scoped, settled_from all es parsed.1 once.1)

pub settled_files : (l : LinkedFiles) → IsLinkedUp l → AllByRecursion IsSettledSource (linked_sources l.files)
settled_files l up = settled_from l.files l.files (recursion_from_All (λ (e : Entry). IsParsed e.1.bytes.items e.1.tree) l.files up.parsed) (each_file_once l.files (once_named l.files up.once))

module _ (y : List ℕ) where
  abbrev f : Text → ℕ
  f = one (46 ∷ y)

  abbrev pub in_all : List Source → ℕ
  in_all ss = (total (of_message_type f) (flat_map source_messages ss) + total (of_enum_type f) (flat_map source_enums ss)) + total (of_made_service f) (map made_in (flat_map scoped_services ss))

  files_counted : (all files : List Entry) → AllByRecursion IsSettledSource (map (linked_source all) files) → total (weight f) (all_declared files) ≡ in_all (map (linked_source all) files)
  files_counted all [] h = refl
  files_counted all (e ∷ es) h = search (rules, file_is, total_joined, made_in, scoped_services, map-append, services_back, files_counted all es h.1)

  trees_counted : (d : Declared) (ss : List Source) → total (tree_counts y) (with_files d ss).types ≡ total (tree_counts y) d.types + total (of_message_type f) (flat_map source_messages ss)
  trees_counted d [] = omega arith
  trees_counted d (s ∷ ss) =
      let trees = type_trees (length d.types) (length d.enums) s in
      let ms = file_messages s.tree in
      let rest : total (tree_counts y) (with_files (with_file d s) ss).types ≡ total (tree_counts y) (d.types ++ trees) + total (of_message_type f) (flat_map source_messages ss) = trees_counted (with_file d s) ss in
      let both : total (tree_counts y) (d.types ++ trees) ≡ total (tree_counts y) d.types + total (tree_counts y) trees = total_joined (tree_counts y) d.types trees in
      let here : total (tree_counts y) trees ≡ total (of_message_type f) ms = total_map (tree_counts y) (type_tree s.targets (placed_messages (length d.types) s.tree) (placed_enums (length d.enums) s.tree)) ms in
      let messages : total (of_message_type f) (ms ++ flat_map source_messages ss) ≡ total (of_message_type f) ms + total (of_message_type f) (flat_map source_messages ss) = total_joined (of_message_type f) ms (flat_map source_messages ss) in
      omega (arith, rest, both, here, messages)

-- ---- the parts

module _ (l : LinkedFiles) (up : IsLinkedUp l) (parts : Parts) (are : ArePartsOf (linked_sources l.files) parts) where
  abbrev ss : List Source
  ss = linked_sources l.files

  abbrev settled : AllByRecursion IsSettledSource ss
  settled = settled_files l up

  abbrev all_es : List Enum
  all_es = flat_map source_enums ss

  abbrev enums : List EnumType
  enums = parts.enums.items

  pub names_in_files : (y : List ℕ) → total (weight (one (46 ∷ y))) (all_declared l.files) ≡ in_all y ss
  names_in_files y = files_counted y l.files l.files settled

  types_count : (y : List ℕ) → times y (flat_map (type_names enums) parts.types.items) ≡ total (of_message_type (one (46 ∷ y))) (flat_map source_messages ss) + total (nested_enums (values_count y enums)) parts.types.items
  types_count y =
      let d = with_files nothing ss in
      let flat : times y (flat_map (type_names enums) parts.types.items) ≡ total (λ (t : MessageType). times y (type_names enums t)) parts.types.items = total_flat (one y) (type_names enums) parts.types.items in
      let each : total (λ (t : MessageType). times y (type_names enums t)) parts.types.items ≡ total (λ (t : MessageType). own_counts y t + nested_enums (values_count y enums) t) parts.types.items = total_same _ _ parts.types.items (everywhere _ parts.types.items (type_is y enums)) in
      let both : total (λ (t : MessageType). own_counts y t + nested_enums (values_count y enums) t) parts.types.items ≡ total (own_counts y) parts.types.items + total (nested_enums (values_count y enums)) parts.types.items = total_both (own_counts y) (nested_enums (values_count y enums)) parts.types.items in
      let own : total (own_counts y) parts.types.items ≡ total (tree_counts y) d.types = each_total IsTypeOf (own_counts y) (tree_counts y) d.types parts.types.items are.types (own_is y) in
      let trees = trees_counted y nothing ss in
      omega (arith, flat, each, both, own, trees)

  enums_count : (y : List ℕ) → times y (map (λ (e : EnumType). string_bytes e.name) enums) + (total (file_enum_ids (values_count y enums)) parts.files.items + total (nested_enums (values_count y enums)) parts.types.items) ≡ total (of_enum_type (one (46 ∷ y))) all_es
  enums_count y =
      let f : Text → ℕ = one (46 ∷ y) in
      let of_values = λ (e : Enum). total (inside f e.scope) (value_texts e.tree.parts.items) in
      let own : times y (map (λ (e : EnumType). string_bytes e.name) enums) ≡ total (λ (e : Enum). one y e.full) all_es =
      ap (times y) (enum_names_are ss parts are settled) ∙ total_map (one y) (λ (e : Enum). e.full) all_es in
      let summed = enums_summed (values_count y enums) ss parts are (scoped_all ss settled) in
      let looked : total (λ (p : Placed). values_count y enums p.scope p.index) (placed_from 0 (map enum_scope all_es)) ≡ total of_values all_es =
      looked_up enum_scope (values_count y enums) of_values 0 all_es (values_looked y enums all_es (enums_made ss parts are settled)) in
      let both : total (λ (e : Enum). one y e.full + of_values e) all_es ≡ total (λ (e : Enum). one y e.full) all_es + total of_values all_es = total_both (λ (e : Enum). one y e.full) of_values all_es in
      omega (arith, own, summed, looked, both)

  services_count : (y : List ℕ) → times y (flat_map service_names parts.services.items) ≡ total (of_made_service (one (46 ∷ y))) (map made_in (flat_map scoped_services ss))
  services_count y =
      total_flat (one y) service_names parts.services.items
      ∙ (total_same _ _ parts.services.items (everywhere _ parts.services.items (service_is_so y))
      ∙ (sym (total_map (of_made_service (one (46 ∷ y))) service parts.services.items) ∙ ap (total (of_made_service (one (46 ∷ y)))) (services_made ss parts are settled)))

  files_count : (y : List ℕ) → times y (flat_map (names.file_names enums) parts.files.items) ≡ total (file_enum_ids (values_count y enums)) parts.files.items
  files_count y = total_flat (one y) (names.file_names enums) parts.files.items ∙ total_same _ _ parts.files.items (everywhere _ parts.files.items (file_is_so y enums))

  pub names_counted : (y : List ℕ) → times y (declared_names parts) ≡ total (weight (one (46 ∷ y))) (all_declared l.files)
  names_counted y = search (rules, flat_map, string_bytes, total_joined, one, types_count, enums_count, services_count, files_count, names_in_files)

  pub names_differ : are_distinct (declared_names parts) ≡ true
  names_differ = distinct_from_times (declared_names parts) (λ y. let same = names_counted y in let few = (once_named l.files up.once (46 ∷ y)).few in omega (arith, same, few))

  -- ---- values of one enum

  values_few : (y : List ℕ) → total (of_enum_type (one (46 ∷ y))) all_es ≤ 1
  values_few y = let whole = names_in_files y in let few = (once_named l.files up.once (46 ∷ y)).few in omega (arith, whole, few)

  each_few : (es : List Enum) → ((y : List ℕ) → total (of_enum_type (one (46 ∷ y))) es ≤ 1) → AllByRecursion (λ (e : Enum). are_distinct (value_texts e.tree.parts.items) ≡ true) es
  each_few [] few = tt
  each_few (e ∷ es) few = (
    distinct_before (within e.scope) (value_texts e.tree.parts.items)
        (distinct_from_times (map (within e.scope) (value_texts e.tree.parts.items)) (λ y.
        let at_most = few y in
        let is : times y (map (within e.scope) (value_texts e.tree.parts.items)) ≡ total (inside (one (46 ∷ y)) e.scope) (value_texts e.tree.parts.items) = total_map (one y) (within e.scope) (value_texts e.tree.parts.items) in
        omega (arith, at_most, is))),
    each_few es (λ y. let at_most = few y in omega (arith, at_most)),
  )

  pub values_once : AllByRecursion HasValuesOnce enums
  values_once =
      same_all enumeration made_enum (λ (e : Enum). are_distinct (value_texts e.tree.parts.items) ≡ true) HasValuesOnce (λ x e is h. ap are_distinct (enum_values_are [] x e is) ∙ h)
      enums all_es (enums_made ss parts are settled) (each_few all_es values_few)
