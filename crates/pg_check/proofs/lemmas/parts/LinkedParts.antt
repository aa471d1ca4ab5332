-- The parts of linked files: their names are words, and what is named is there.
use Rattle.std.proofs.Common.{◌≡◌, ◌∙◌, ℕ, ◌<◌, Bool, true, ◌&&◌, nat_lt, List, [], ◌∷◌, length, map, flat_map, Option, Some, option_map, slice_get, string_bytes, sym, ap, subst, refl, arith, rules}
use Rattle.std.specs.List.{list_all, AllByRecursion}
use Rattle.std.proofs.lemmas.Bool.{false≢true}
use Rattle.std.proofs.lemmas.Bool.Decides.{nat_tests}
use Rattle.std.proofs.lemmas.List.Elements.{recursion_from_All}
use Rattle.std.proofs.lemmas.List.Folds.{list_all-map}
use Rattle.std.proofs.lemmas.Option.{slice_get_within}
use Rattle.std.proofs.lemmas.Slice.Eq.{bytes_eq-Decides}
use Rattle.pg_schema.specs.declared.parts.enum_type.EnumType.{EnumType}
use Rattle.pg_schema.specs.declared.parts.field.Element.{Element}
use Rattle.pg_schema.specs.declared.parts.field.Element.TheVariants as elements
use Rattle.pg_schema.specs.declared.parts.field.TypeId.{TypeId}
use Rattle.pg_schema.specs.declared.parts.file.File.{File}
use Rattle.pg_schema.specs.declared.parts.message_type.MessageType.{MessageType}
use Rattle.pg_schema.specs.declared.parts.Parts.{Parts}
use Rattle.pg_schema.specs.declared.parts.service.Method.{Method}
use Rattle.pg_schema.specs.declared.parts.service.Service as schema_services
use Rattle.pg_schema.specs.rules.DeclaredNames.{declared_names, type_names}
use Rattle.pg_schema.specs.rules.Enums.{is_value}
use Rattle.pg_schema.specs.rules.Fields.{is_known}
use Rattle.pg_schema.specs.rules.Files.{is_method, is_service}
use Rattle.pg_schema.specs.rules.Messages.{field_names}
use Rattle.pg_schema.specs.rules.Pairs.{are_distinct, differ}
use Rattle.pg_schema.specs.rules.Words.{is_package, is_word}
use Rattle.pg_link.specs.Linked.{IsLinkedUp, LinkedFiles}
use Rattle.pg_link.specs.walk.Walk.{Entry, IsParsed}
use Rattle.pg_schema.proofs.lemmas.rules.PairLemmas.{and_left, and_right, and_both}
use Rattle.pg_check.specs.Declares.{Declares}
use Rattle.pg_check.specs.rules.Enums as enums
use Rattle.pg_check.specs.parts.MadeEnums.{MadeValue, enumeration, made_enum, made_values}
use Rattle.pg_check.specs.parts.MadeFields.{MadeField, field, made_field}
use Rattle.pg_check.specs.parts.MadeMessages.{made_fields}
use Rattle.pg_check.specs.parts.MadeParts.{EachIs, FileShape, IsFileOf, IsTypeOf, Source, TypeTree, nothing, type_tree, with_files}
use Rattle.pg_check.specs.parts.MadeServices.{rpc_in, stated_service}
use Rattle.pg_check.specs.parts.ResolvedTypes.{IsNamed, IsResolvedMethod, IsResolvedService, ResolvesTo, full_name_of, messages_of, services_of, words_of}
use Rattle.pg_check.specs.parts.Sources.{linked_source, linked_sources}
use Rattle.pg_check.specs.rules.Members.{DeclaredField, members}
use Rattle.pg_check.specs.rules.Outline.{Enum, Message, package_of, scoped_enums}
use Rattle.pg_check.proofs.lemmas.parts.Eachs.{each_mapped, joined_all, same_all}
use Rattle.pg_check.proofs.lemmas.standing.UniqueNames.{distinct_left, distinct_right}
use Rattle.pg_check.proofs.lemmas.parts.kept.KeptFiles.{each_shape, enums_are, source_enums}
use Rattle.pg_check.proofs.lemmas.parts.Moved.{all_moved, pairs_of_map, pairs_weaker}
use Rattle.pg_check.proofs.lemmas.parts.names.NamedParts.{NamedEnum, NamedMessage, NamedParts, has_package, is_named_field}
use Rattle.pg_check.proofs.lemmas.parts.uses.NamedUses.{Here, IsMet}
use Rattle.pg_check.proofs.lemmas.parts.places.PlacedParts.{HasValuesOnce, PlacedParts}
use Rattle.pg_check.proofs.lemmas.parts.uses.ResolvedTypes.{IsHeld, IsTreeOf, linked_found, linked_meet, linked_trees, member_named, messages_held, resolved_types, targets_of}
use Rattle.pg_check.proofs.lemmas.parts.uses.ResolvedUses.{MemberHolds}
use Rattle.pg_check.proofs.lemmas.parts.names.WordTrees.{file_good, runs_good}
use Rattle.pg_check.proofs.lemmas.parts.names.WordedFiles.{IsGoodEnum, IsGoodEnumPart, IsGoodFile, IsGoodMessage, IsGoodServicePart, IsGoodStatement, good_file, is_word_member, members_worded, oneofs_worded}
use Rattle.pg_syntax.specs.declared.tree as tree
use Rattle.pg_syntax.specs.declared.tree.EnumPart.TheVariants as enum_parts
use Rattle.pg_syntax.specs.declared.tree.ServicePart.TheVariants as service_parts
use Rattle.pg_syntax.specs.declared.tree.Statement.TheVariants as statements
use Rattle.pg_syntax.specs.Views as view

-- ---- what has a full name in the parts is there

within_is : (i n : ℕ) → i < n → nat_lt i n ≡ true
within_is i n less = grind (arith, nat_tests)

there : {X : Type 0} (name : X → List ℕ) (xs : List X) (i : ℕ) (full : List ℕ) (o : Option X) → slice_get xs i ≡ o → option_map name o ≡ Some full → nat_lt i (length xs) ≡ true
there name xs i full o at none = grind (arith, within_is, slice_get_within)

named_is_known : (parts : Parts) (element : Element) (full : List ℕ) → full_name_of parts element ≡ Some full → is_known (length parts.types.items) (length parts.enums.items) element ≡ true
named_is_known parts element full is = grind (arith, there, string_bytes, slice_get)

-- ---- message types

-- the name is a word, and what is named is one of so many
abbrev is_named : (types enums : ℕ) → MadeField → Bool
is_named types enums f = is_word f.name && is_known types enums f.element

module _ (files : List Entry) (parts : Parts) (met : IsMet files parts) where
  abbrev types : ℕ
  types = length parts.types.items

  abbrev enum_types : ℕ
  enum_types = length parts.enums.items

  element_known : (e : Entry) (scope : List ℕ) (name : tree.TypeName.TypeName) (element : Element) → IsNamed files parts e scope name element → is_known types enum_types element ≡ true
  element_known e scope name element h = search (rules, named_is_known)

  members_named : (e : Entry) (full : List ℕ) (ms : List DeclaredField) → AllByRecursion (MemberHolds (Here files parts met e) (words_of full)) ms → list_all is_word_member ms ≡ true
      → list_all (is_named types enum_types) (map (made_field (targets_of files e)) ms) ≡ true
  members_named e full [] held good = refl
  members_named e full (m ∷ ms) held good = search (rules, and_both, is_word_member, and_left, element_known, member_named, and_right, members_named e full ms held.1 (and_right (is_word_member m) (list_all is_word_member ms) good))

  abbrev IsNamedType : MessageType → Type 0
  IsNamedType t = (list_all (is_named_field types enum_types) t.fields.items ≡ true) × (list_all (λ text. is_word (string_bytes text)) t.oneofs.items ≡ true)

  abbrev IsGoodPair : Entry × Message → Type 0
  IsGoodPair x = IsGoodMessage x.1

  type_named : (x : Entry × Message) (w : TypeTree) (t : MessageType) → IsTreeOf files x w → IsTypeOf w t → IsHeld files parts met x → IsGoodPair x → IsNamedType t
  type_named x w t tied typed held good =
      let is : IsTypeOf (type_tree (targets_of files x.0) tied.types tied.enums x.1) t = subst (λ v. IsTypeOf v t) tied.is typed in
      let made = made_fields (targets_of files x.0) x.1.body in
      let fields : list_all (is_named types enum_types) made ≡ true = members_named x.0 x.1.full (members x.1.body) held (members_worded 0 x.1.body good.body) in (
        sym (list_all-map (is_named types enum_types) field t.fields.items) ∙ all_moved (is_named types enum_types) made (map field t.fields.items) is.fields.same fields,
        sym (list_all-map is_word string_bytes t.oneofs.items) ∙ (ap (list_all is_word) is.oneofs ∙ oneofs_worded x.1.body good.body),
      )

  types_named : (xs : List (Entry × Message)) (ws : List TypeTree) (ts : List MessageType) → EachIs (IsTreeOf files) xs ws → EachIs IsTypeOf ws ts → AllByRecursion (IsHeld files parts met) xs → AllByRecursion IsGoodPair xs
      → AllByRecursion IsNamedType ts
  types_named [] [] [] tied typed held good = tt
  types_named [] [] (t ∷ ts) tied typed held good = absurd typed
  types_named [] (w ∷ ws) ts tied typed held good = absurd tied
  types_named (x ∷ xs) [] ts tied typed held good = absurd tied
  types_named (x ∷ xs) (w ∷ ws) [] tied typed held good = absurd typed
  types_named (x ∷ xs) (w ∷ ws) (t ∷ ts) tied typed held good = (type_named x w t tied.0 typed.0 held.0 good.0, types_named xs ws ts tied.1 typed.1 held.1 good.1)

-- ---- services

abbrev IsGoodRpc : tree.Rpc.Rpc → Type 0
IsGoodRpc r = is_word (string_bytes r.name.text) ≡ true

abbrev IsGoodService : tree.Service.Service → Type 0
IsGoodService s = AllByRecursion IsGoodRpc (flat_map rpc_in s.parts.items)

rpcs_good : (ps : List tree.ServicePart.ServicePart) → AllByRecursion IsGoodServicePart ps → AllByRecursion IsGoodRpc (flat_map rpc_in ps)
rpcs_good [] h = tt
rpcs_good (service_parts.Empty span ∷ ps) h = rpcs_good ps h.1
rpcs_good (service_parts.Option o ∷ ps) h = rpcs_good ps h.1
rpcs_good (service_parts.Rpc r ∷ ps) h = (h.0.1.0, rpcs_good ps h.1)

services_good : (ss : List tree.Statement.Statement) → AllByRecursion IsGoodStatement ss → AllByRecursion IsGoodService (flat_map stated_service ss)
services_good [] h = tt
services_good (statements.Empty span ∷ ss) h = services_good ss h.1
services_good (statements.Import i ∷ ss) h = services_good ss h.1
services_good (statements.Option o ∷ ss) h = services_good ss h.1
services_good (statements.Message m ∷ ss) h = services_good ss h.1
services_good (statements.Enum e ∷ ss) h = services_good ss h.1
services_good (statements.Service s ∷ ss) h = (rpcs_good s.parts.items (runs_good view.service_part s.parts.items h.0.1.1.1.0), services_good ss h.1)

module _ (files : List Entry) (parts : Parts) where
  type_there : (e : Entry) (scope : List ℕ) (name : tree.TypeName.TypeName) (id : TypeId) → ResolvesTo files parts e scope name (elements.Message id) → nat_lt id.index (length parts.types.items) ≡ true
  type_there e scope name id h = named_is_known parts (elements.Message id) h.full h.has_name

  methods_named : (e : Entry) (full : List ℕ) (rs : List tree.Rpc.Rpc) (ms : List Method) → EachIs (IsResolvedMethod files parts e full) rs ms → AllByRecursion IsGoodRpc rs → list_all (is_method (length parts.types.items)) ms ≡ true
  methods_named e full [] [] is good = refl
  methods_named e full [] (m ∷ ms) is good = absurd is
  methods_named e full (r ∷ rs) [] is good = absurd is
  methods_named e full (r ∷ rs) (m ∷ ms) is good =
      let types = length parts.types.items in
      let input = nat_lt m.input.index types in
      let output = nat_lt m.output.index types in
      and_both (is_method types m) (list_all (is_method types) ms)
      (and_both (is_word (string_bytes m.name) && input) output
      (and_both (is_word (string_bytes m.name)) input (ap is_word is.0.name ∙ good.0) (type_there e full r.input.type_name m.input is.0.input))
      (type_there e full r.output.type_name m.output is.0.output))
      (methods_named e full rs ms is.1 good.1)

  abbrev IsGoodPlaced : Entry × tree.Service.Service → Type 0
  IsGoodPlaced x = IsGoodService x.1

  services_named : (xs : List (Entry × tree.Service.Service)) (ss : List schema_services.Service) → EachIs (IsResolvedService files parts) xs ss → AllByRecursion IsGoodPlaced xs → list_all (is_service (length parts.types.items)) ss ≡ true
  services_named [] [] is good = refl
  services_named [] (s ∷ ss) is good = absurd is
  services_named (x ∷ xs) [] is good = absurd is
  services_named (x ∷ xs) (s ∷ ss) is good = search (rules, and_both, methods_named, string_bytes, flat_map, services_named xs ss is.1 good.1)

-- ---- files

abbrev IsGoodEntry : Entry → Type 0
IsGoodEntry e = IsGoodFile e.1.tree

entries_good : (files : List Entry) → AllByRecursion (λ (e : Entry). IsParsed e.1.bytes.items e.1.tree) files → AllByRecursion IsGoodEntry files
entries_good [] parsed = tt
entries_good (e ∷ es) parsed = (good_file e.1.tree (file_good e.1.bytes.items e.1.tree parsed.0), entries_good es parsed.1)

all_messages_good : (files : List Entry) → AllByRecursion IsGoodEntry files → AllByRecursion (λ (x : Entry × Message). IsGoodMessage x.1) (messages_of files)
all_messages_good [] h = tt
all_messages_good (e ∷ es) h = search (rules, joined_all, each_mapped, all_messages_good es h.1)

all_services_good : (files : List Entry) → AllByRecursion IsGoodEntry files → AllByRecursion (λ (x : Entry × tree.Service.Service). IsGoodService x.1) (services_of files)
all_services_good [] h = tt
all_services_good (e ∷ es) h = search (rules, joined_all, services_good, each_mapped, all_services_good es h.1)

all_enums_good : (all files : List Entry) → AllByRecursion IsGoodEntry files → AllByRecursion IsGoodEnum (flat_map source_enums (map (linked_source all) files))
all_enums_good all [] h = tt
all_enums_good all (e ∷ es) h = joined_all IsGoodEnum (scoped_enums e.1.tree) (flat_map source_enums (map (linked_source all) es)) h.0.enums (all_enums_good all es h.1)

-- packages

abbrev ShapeFits : FileShape → Type 0
ShapeFits w = is_package (package_of w.tree) ≡ true

packages_named : (ws : List FileShape) (fs : List File) → EachIs IsFileOf ws fs → AllByRecursion (λ (w : FileShape). is_package (package_of w.tree) ≡ true) ws → list_all has_package fs ≡ true
packages_named [] [] is h = refl
packages_named [] (f ∷ fs) is h = absurd is
packages_named (w ∷ ws) [] is h = absurd is
packages_named (w ∷ ws) (f ∷ fs) is h = and_both (has_package f) (list_all has_package fs) (ap is_package is.0.in_package ∙ h.0) (packages_named ws fs is.1 h.1)

abbrev is_word_value : MadeValue → Bool
is_word_value v = is_word v.name

values_worded : (ps : List enums.Part) → AllByRecursion IsGoodEnumPart ps → list_all is_word_value (made_values ps) ≡ true
values_worded [] h = refl
values_worded (enum_parts.Empty span ∷ ps) h = values_worded ps h.1
values_worded (enum_parts.Option o ∷ ps) h = values_worded ps h.1
values_worded (enum_parts.Reserved r ∷ ps) h = values_worded ps h.1
values_worded (enum_parts.Value v ∷ ps) h = and_both (is_word (string_bytes v.name.text)) (list_all is_word_value (made_values ps)) h.0.0 (values_worded ps h.1)

abbrev HasWords : EnumType → Type 0
HasWords e = list_all is_value e.values.items ≡ true

enums_named : (es : List EnumType) (found : List Enum) → map enumeration es ≡ map made_enum found → AllByRecursion IsGoodEnum found → AllByRecursion HasWords es
enums_named = search (rules, same_all, list_all-map, values_worded)

-- ---- names in one message, of names that all differ

differ_before : (f : List ℕ → List ℕ) (a b : List ℕ) → differ (f a) (f b) ≡ true → differ a b ≡ true
differ_before f a b h = search (rules, bytes_eq-Decides, false≢true)

pub distinct_before : (f : List ℕ → List ℕ) (xs : List (List ℕ)) → are_distinct (map f xs) ≡ true → are_distinct xs ≡ true
distinct_before f xs h = pairs_weaker (λ a b. differ (f a) (f b)) differ (differ_before f) xs (sym (pairs_of_map differ f xs) ∙ h)

fields_once : (enums : List EnumType) (t : MessageType) → are_distinct (type_names enums t) ≡ true → are_distinct (field_names t.fields.items) ≡ true
fields_once enums t h = search (rules, string_bytes, distinct_before, and_right, distinct_left)

all_fields_once : (enums : List EnumType) (ts : List MessageType) → are_distinct (flat_map (type_names enums) ts) ≡ true → AllByRecursion (λ (t : MessageType). are_distinct (field_names t.fields.items) ≡ true) ts
all_fields_once enums [] h = tt
all_fields_once enums (t ∷ ts) h = search (rules, fields_once, distinct_left, distinct_right, all_fields_once enums ts (distinct_right (type_names enums t) (flat_map (type_names enums) ts) h))

types_distinct : (parts : Parts) → are_distinct (declared_names parts) ≡ true → are_distinct (flat_map (type_names parts.enums.items) parts.types.items) ≡ true
types_distinct parts h = search (rules, flat_map, string_bytes, distinct_left)

-- ---- the parts

messages_join : (types enums : ℕ) (ts : List MessageType) → AllByRecursion (λ (t : MessageType). (list_all (is_named_field types enums) t.fields.items ≡ true) × (list_all (λ text. is_word (string_bytes text)) t.oneofs.items ≡ true)) ts
    → AllByRecursion (λ (t : MessageType). are_distinct (field_names t.fields.items) ≡ true) ts → AllByRecursion (NamedMessage types enums) ts
messages_join types enums [] h k = tt
messages_join types enums (t ∷ ts) h k = (record { fields = h.0.0; oneofs = h.0.1; names_once = k.0 }, messages_join types enums ts h.1 k.1)

enums_join : (es : List EnumType) → AllByRecursion HasWords es → AllByRecursion HasValuesOnce es → AllByRecursion NamedEnum es
enums_join [] h k = tt
enums_join (e ∷ es) h k = (record { values = h.0; names_once = k.0 }, enums_join es h.1 k.1)

pub linked_parts : (l : LinkedFiles) (parts : Parts) → IsLinkedUp l → Declares (linked_sources l.files) parts → PlacedParts parts → NamedParts parts
linked_parts l parts up h placed =
    let files = l.files in
    let sources = linked_sources files in
    let d = with_files nothing sources in
    let met : IsMet files parts = linked_meet l parts up h in
    let good : AllByRecursion IsGoodEntry files = entries_good files (recursion_from_All (λ (e : Entry). IsParsed e.1.bytes.items e.1.tree) files up.parsed) in
    let held = messages_held files parts met files (linked_found l parts met up) in
    let made : map enumeration parts.enums.items ≡ map made_enum (flat_map source_enums sources) = h.has_parts.enums ∙ enums_are nothing sources in
    record {
      messages = messages_join (length parts.types.items) (length parts.enums.items) parts.types.items
          (types_named files parts met (messages_of files) d.types parts.types.items (linked_trees l) h.has_parts.types held (all_messages_good files good))
          (all_fields_once parts.enums.items parts.types.items (types_distinct parts placed.names));
      enums = enums_join parts.enums.items (enums_named parts.enums.items (flat_map source_enums sources) made (all_enums_good files files good)) placed.values_once;
      packages = packages_named d.files parts.files.items h.has_parts.files (each_shape ShapeFits (λ (s : Source). IsGoodFile s.tree) (λ d s h. h.has_package) nothing sources tt
          (each_mapped (λ (s : Source). IsGoodFile s.tree) (linked_source files) files good));
      services = services_named files parts (services_of files) parts.services.items (resolved_types l parts up h).services (all_services_good files good);
      declared_once = placed.declared_once;
      file_scopes = placed.file_scopes;
      type_scopes = placed.type_scopes;
      names = placed.names;
      free_packages = placed.free_packages;
    }
