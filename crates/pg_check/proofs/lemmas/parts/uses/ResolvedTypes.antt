-- In the parts of linked files each type name names what it resolves to.
use Rattle.std.proofs.Common.{◌≡◌, ◌∙◌, ℕ, List, [], ◌∷◌, ◌++◌, length, map, flat_map, Option, Some, string_bytes, sym, ap, ap₂, subst, refl, arith, append_assoc, rules}
use Rattle.std.specs.List.{AllByRecursion, IsAmong}
use Rattle.std.specs.List.Sorted.{IsPermutation}
use Rattle.std.proofs.lemmas.List.{append-nil, map-append}
use Rattle.std.proofs.lemmas.List.Elements.{All-from_recursion, recursion_from_All}
use Rattle.std.proofs.lemmas.List.Sorted.{All-permutation, IsPermutation-sym}
use Rattle.std.proofs.lemmas.Simd.{map-map}
use Rattle.pg_schema.specs.declared.parts.enum_type.EnumType.{EnumType}
use Rattle.pg_schema.specs.declared.parts.field.Element.{Element}
use Rattle.pg_schema.specs.declared.parts.field.Element.TheVariants as elements
use Rattle.pg_schema.specs.declared.parts.field.Field.{Field}
use Rattle.pg_schema.specs.declared.parts.field.TypeId.{TypeId}
use Rattle.pg_schema.specs.declared.parts.message_type.MessageType.{MessageType}
use Rattle.pg_schema.specs.declared.parts.Parts.{Parts}
use Rattle.pg_schema.specs.declared.parts.service.Method.{Method}
use Rattle.pg_schema.specs.declared.parts.service.Service.{Service}
use Rattle.pg_link.specs.declared.uses.target.Target.{Target}
use Rattle.pg_link.specs.names.Files.{visible_names}
use Rattle.pg_link.specs.Linked.{IsLinkedUp, LinkedFiles}
use Rattle.pg_link.specs.uses.Targets.{all_declared, file_targets, target_in}
use Rattle.pg_link.specs.uses.Uses.{Use, file_uses}
use Rattle.pg_link.specs.walk.Walk.{Entry, IsParsed, outlines, path_of}
use Rattle.pg_link.proofs.lemmas.names.VisibleLaws.{first_among, later_among}
use Rattle.pg_check.specs.Declares.{Declares}
use Rattle.pg_check.specs.parts.ByScope.{Placed}
use Rattle.pg_check.proofs.lemmas.parts.Numbering.{declared_messages}
use Rattle.pg_check.specs.parts.EnumPlaces.{enum_full, scoped_names}
use Rattle.pg_check.specs.parts.MadeEnums.{MadeEnum, enumeration, made_enum}
use Rattle.pg_check.specs.parts.MadeFields.{MadeField, element_in, field, made_field}
use Rattle.pg_check.specs.parts.MadeParts.{Declared, EachIs, IsTypeOf, Source, TypeTree, file_services as made_file_services, nothing, placed_enums, placed_messages, type_tree, type_trees, with_file, with_files}
use Rattle.pg_check.specs.parts.MadeServices.{MadeMethod, MadeService, made_method, made_methods, made_service, made_services, method, rpc_in, service, stated_service}
use Rattle.pg_check.specs.parts.ResolvedTypes.{AreResolved, HasField, IsNamed, IsResolvedMethod, IsResolvedService, IsResolvedType, ResolvesTo, file_services, full_name_of, messages_of, services_of, type_name_of, words_of}
use Rattle.pg_check.specs.parts.Sources.{linked_source, linked_sources}
use Rattle.pg_check.specs.rules.Members.{DeclaredField}
use Rattle.pg_check.specs.rules.Outline.{Enum, Message, file_messages, package_of, statements_behind}
use Rattle.pg_check.proofs.lemmas.parts.Eachs.{each-append, each_mapped, each_weaker, joined_all}
use Rattle.pg_check.proofs.lemmas.parts.kept.KeptFiles.{enums_are, kept_parts, source_enums}
use Rattle.pg_check.proofs.lemmas.parts.uses.NamedUses.{Here, IsMet, all_found, element_named, method_resolves}
use Rattle.pg_check.proofs.lemmas.parts.names.NumberedNames.{are_numbered}
use Rattle.pg_check.proofs.lemmas.parts.uses.ResolvedUses.{MemberHolds, MessageHolds, RpcHolds, ServiceHolds, messages_resolved, services_resolved}
use Rattle.pg_check.proofs.lemmas.parts.uses.UsesRise.{uses_found}
use Rattle.pg_check.proofs.lemmas.parts.names.WordTrees.{file_good}
use Rattle.pg_check.proofs.lemmas.parts.names.WordedFiles.{IsGoodFile, good_file}
use Rattle.pg_syntax.specs.declared.tree as tree
use Rattle.pg_syntax.specs.declared.tree.ServicePart.TheVariants as service_parts
use Rattle.pg_syntax.specs.declared.tree.Statement.TheVariants as statements

-- ---- lists

each_among : {A : Type 0} (xs : List A) → AllByRecursion (IsAmong xs) xs
each_among [] = tt
each_among (x ∷ xs) = (first_among x xs, each_weaker (IsAmong xs) (IsAmong (x ∷ xs)) (λ y. later_among x xs y) xs (each_among xs))

-- ---- uses that are resolved

abbrev pub HasTarget : (Use → Option Target) → Use → Type 0
HasTarget resolve u = (t : Target) × (resolve u ≡ Some t)

uses_resolve : (resolve : Use → Option Target) (ts : List Target) (us : List Use) → map (λ (t : Target). Some t) ts ≡ map resolve us → AllByRecursion (HasTarget resolve) us
uses_resolve resolve ts [] is = tt
uses_resolve resolve [] (u ∷ us) is = absurd (cc (is))
uses_resolve resolve (t ∷ ts) (u ∷ us) is =
    let one : Some t ≡ resolve u = cc (is) in
    let others : map (λ (x : Target). Some x) ts ≡ map resolve us = cc (is) in
    ((t, sym one), uses_resolve resolve ts us others)

abbrev pub resolve_in : List Entry → Entry → Use → Option Target
resolve_in files e = target_in (all_declared files) (visible_names (outlines files) (path_of e))

pub files_resolve : (all files : List Entry) (ts : List (List Target)) → map (map (λ (t : Target). Some t)) ts ≡ map (file_targets all) files
    → AllByRecursion (λ e. AllByRecursion (HasTarget (resolve_in all e)) (file_uses e.1.tree)) files
files_resolve all [] ts is = tt
files_resolve all (e ∷ es) [] is = absurd (cc (is))
files_resolve all (e ∷ es) (t ∷ ts) is =
    let one : map (λ (x : Target). Some x) t ≡ file_targets all e = cc (is) in
    let others : map (map (λ (x : Target). Some x)) ts ≡ map (file_targets all) es = cc (is) in
    (uses_resolve (resolve_in all e) t (file_uses e.1.tree) one, files_resolve all es ts others)

-- ---- the message types that files declare, as trees

module _ (files : List Entry) where
  abbrev pub targets_of : Entry → ℕ → Option Target
  targets_of e = (linked_source files e).targets

  -- the tree is made of this message of this file
  pub record IsTreeOf (x : Entry × Message) (w : TypeTree) : Type 0 where
    pub types : List Placed
    pub enums : List Placed
    pub is : w ≡ type_tree (targets_of x.0) types enums x.1

  own_trees : (e : Entry) (types enums : List Placed) (ms : List Message) → EachIs IsTreeOf (map (λ (m : Message). (e, m)) ms) (map (type_tree (targets_of e) types enums) ms)
  own_trees e types enums [] = tt
  own_trees e types enums (m ∷ ms) = (record { types = types; enums = enums; is = refl }, own_trees e types enums ms)

  trees_are : (d : Declared) (front : List (Entry × Message)) (es : List Entry) → EachIs IsTreeOf front d.types → EachIs IsTreeOf (front ++ messages_of es) (with_files d (map (linked_source files) es)).types
  trees_are d front [] h = subst (λ xs. EachIs IsTreeOf xs d.types) (sym (append-nil front)) h
  trees_are d front (e ∷ es) h =
      let s : Source = linked_source files e in
      let own : List (Entry × Message) = map (λ (m : Message). (e, m)) (file_messages e.1.tree) in
      let next : EachIs IsTreeOf (front ++ own) (with_file d s).types =
      each-append IsTreeOf front d.types own (type_trees (length d.types) (length d.enums) s) h (own_trees e (placed_messages (length d.types) s.tree) (placed_enums (length d.enums) s.tree) (file_messages e.1.tree)) in
      subst (λ xs. EachIs IsTreeOf xs (with_files (with_file d s) (map (linked_source files) es)).types) (append_assoc front own (messages_of es)) (trees_are (with_file d s) (front ++ own) es next)

  -- ---- names of types

  types_named : (xs : List (Entry × Message)) (ws : List TypeTree) (ts : List MessageType) → EachIs IsTreeOf xs ws → EachIs IsTypeOf ws ts
      → map (λ (t : MessageType). string_bytes t.name) ts ≡ map (λ (x : Entry × Message). x.1.full) xs
  types_named [] [] [] h k = refl
  types_named [] [] (t ∷ ts) h k = absurd k
  types_named [] (w ∷ ws) ts h k = absurd h
  types_named (x ∷ xs) [] ts h k = absurd h
  types_named (x ∷ xs) (w ∷ ws) [] h k = absurd k
  types_named (x ∷ xs) (w ∷ ws) (t ∷ ts) h k = ap₂ (λ n ns. n ∷ ns) (k.0.name ∙ ap (λ (v : TypeTree). v.full) h.0.is) (types_named xs ws ts h.1 k.1)

  fulls_are : (es : List Entry) → map (λ (x : Entry × Message). x.1.full) (messages_of es) ≡ declared_messages es
  fulls_are [] = refl
  fulls_are (e ∷ es) = search (rules, map-append, map-map, fulls_are es)

  enums_named : (xs : List EnumType) (ys : List Enum) → map enumeration xs ≡ map made_enum ys → map (λ (e : EnumType). string_bytes e.name) xs ≡ map enum_full ys
  enums_named xs ys is = sym (map-map (λ (e : MadeEnum). e.name) enumeration xs) ∙ (ap (map (λ (e : MadeEnum). e.name)) is ∙ map-map (λ (e : MadeEnum). e.name) made_enum ys)

  scoped_are : (es : List Entry) → map enum_full (flat_map source_enums (map (linked_source files) es)) ≡ scoped_names es
  scoped_are [] = refl
  scoped_are (e ∷ es) = search (rules, map-append, flat_map, source_enums, scoped_are es)

  -- ---- what holds of the uses of each file

  module _ (parts : Parts) (met : IsMet files parts) where
    abbrev pub IsResolvedFile : Entry → Type 0
    IsResolvedFile e = IsGoodFile e.1.tree × AllByRecursion (Here files parts met e) (file_uses e.1.tree)

    files_found : (es : List Entry) → AllByRecursion (λ (e : Entry). IsParsed e.1.bytes.items e.1.tree) es
        → AllByRecursion (λ (e : Entry). AllByRecursion (λ (u : Use). (t : Target) × (target_in (all_declared files) (visible_names (outlines files) (path_of e)) u ≡ Some t)) (file_uses e.1.tree)) es
        → AllByRecursion IsResolvedFile es
    files_found [] parsed resolved = tt
    files_found (e ∷ es) parsed resolved = search (rules, good_file, file_good, all_found, uses_found, files_found es parsed.1 resolved.1)

    abbrev pub IsHeld : Entry × Message → Type 0
    IsHeld x = MessageHolds (Here files parts met x.0) x.1

    pub messages_held : (es : List Entry) → AllByRecursion IsResolvedFile es → AllByRecursion IsHeld (messages_of es)
    messages_held [] h = tt
    messages_held (e ∷ es) h =
        joined_all IsHeld (map (λ (m : Message). (e, m)) (file_messages e.1.tree)) (messages_of es)
        (each_mapped IsHeld (λ (m : Message). (e, m)) (file_messages e.1.tree) (messages_resolved (Here files parts met e) e.1.tree h.0.0 h.0.1)) (messages_held es h.1)

    abbrev IsHeldService : Entry × tree.Service.Service → Type 0
    IsHeldService x = ServiceHolds (Here files parts met x.0) (package_of x.0.1.tree) x.1

    services_held : (es : List Entry) → AllByRecursion IsResolvedFile es → AllByRecursion IsHeldService (services_of es)
    services_held [] h = tt
    services_held (e ∷ es) h =
        joined_all IsHeldService (map (λ (s : tree.Service.Service). (e, s)) (file_services e.1.tree)) (services_of es)
        (each_mapped IsHeldService (λ (s : tree.Service.Service). (e, s)) (file_services e.1.tree) (services_resolved (Here files parts met e) e.1.tree h.0.0 h.0.1)) (services_held es h.1)

    -- ---- what the parts have

    pub member_named : (e : Entry) (full : List ℕ) (m : DeclaredField) → MemberHolds (Here files parts met e) (words_of full) m → IsNamed files parts e full (type_name_of m) (element_in (targets_of e) m)
    member_named e full m h = grind (arith, element_named)

    -- one of the fields is made so
    abbrev IsMade : List Field → MadeField → Type 0
    IsMade fields made = (f : Field) × IsAmong fields f × (field f ≡ made)

    fields_made : (fields : List Field) (made : List MadeField) → IsPermutation made (map field fields) → AllByRecursion (IsMade fields) made
    fields_made fields made moved =
        recursion_from_All (IsMade fields) made
        (All-permutation (IsMade fields) (map field fields) made (IsPermutation-sym made (map field fields) moved)
        (All-from_recursion (IsMade fields) (map field fields)
        (each_mapped (IsMade fields) field fields (each_weaker (IsAmong fields) (λ f. IsMade fields (field f)) (λ f there. (f, there, refl)) fields (each_among fields)))))

    members_have : (e : Entry) (full : List ℕ) (fields : List Field) (ms : List DeclaredField) → AllByRecursion (IsMade fields) (map (made_field (targets_of e)) ms)
        → AllByRecursion (MemberHolds (Here files parts met e) (words_of full)) ms → AllByRecursion (HasField files parts e full fields) ms
    members_have e full fields [] h k = tt
    members_have e full fields (m ∷ ms) h k =
        let same : field h.0.0 ≡ made_field (targets_of e) m = h.0.2 in (
          record {
            field = h.0.0;
            is_there = h.0.1;
            number = ap (λ (x : MadeField). x.number) same;
            element = subst (IsNamed files parts e full (type_name_of m)) (sym (ap (λ (x : MadeField). x.element) same)) (member_named e full m k.0);
          },
          members_have e full fields ms h.1 k.1,
        )

    type_resolved : (x : Entry × Message) (w : TypeTree) (t : MessageType) → IsTreeOf x w → IsTypeOf w t → IsHeld x → IsResolvedType files parts x t
    type_resolved x w t tied typed held = search (rules, members_have, fields_made)

    types_resolved : (xs : List (Entry × Message)) (ws : List TypeTree) (ts : List MessageType) → EachIs IsTreeOf xs ws → EachIs IsTypeOf ws ts → AllByRecursion IsHeld xs → EachIs (IsResolvedType files parts) xs ts
    types_resolved [] [] [] tied typed held = tt
    types_resolved [] [] (t ∷ ts) tied typed held = absurd typed
    types_resolved [] (w ∷ ws) ts tied typed held = absurd tied
    types_resolved (x ∷ xs) [] ts tied typed held = absurd tied
    types_resolved (x ∷ xs) (w ∷ ws) [] tied typed held = absurd typed
    types_resolved (x ∷ xs) (w ∷ ws) (t ∷ ts) tied typed held = (type_resolved x w t tied.0 typed.0 held.0, types_resolved xs ws ts tied.1 typed.1 held.1)

    -- services

    methods_resolved : (e : Entry) (full : List ℕ) (rs : List tree.Rpc.Rpc) (ms : List Method) → map method ms ≡ map (made_method (targets_of e)) rs
        → AllByRecursion (RpcHolds (Here files parts met e) (words_of full)) rs → EachIs (IsResolvedMethod files parts e full) rs ms
    methods_resolved e full [] [] is held = tt
    methods_resolved e full [] (m ∷ ms) is held = absurd (cc (is))
    methods_resolved e full (r ∷ rs) [] is held = absurd (cc (is))
    methods_resolved e full (r ∷ rs) (m ∷ ms) is held =
        let one : method m ≡ made_method (targets_of e) r = cc (is) in
        let others : map method ms ≡ map (made_method (targets_of e)) rs = cc (is) in (
          record {
            name = ap (λ (x : MadeMethod). x.name) one;
            input = subst (λ (id : TypeId). ResolvesTo files parts e full r.input.type_name (elements.Message id)) (sym (ap (λ (x : MadeMethod). x.input) one))
                (method_resolves files parts met e full r.input.type_name held.0.0);
            output = subst (λ (id : TypeId). ResolvesTo files parts e full r.output.type_name (elements.Message id)) (sym (ap (λ (x : MadeMethod). x.output) one))
                (method_resolves files parts met e full r.output.type_name held.0.1);
          },
          methods_resolved e full rs ms others held.1,
        )

    rpcs_are : (targets : ℕ → Option Target) (ps : List tree.ServicePart.ServicePart) → made_methods targets ps ≡ map (made_method targets) (flat_map rpc_in ps)
    rpcs_are targets [] = refl
    rpcs_are targets (service_parts.Empty span ∷ ps) = rpcs_are targets ps
    rpcs_are targets (service_parts.Option o ∷ ps) = rpcs_are targets ps
    rpcs_are targets (service_parts.Rpc r ∷ ps) = ap (λ ms. made_method targets r ∷ ms) (rpcs_are targets ps)

    -- the service is made of this one of this file
    abbrev IsMadeOf : Entry × tree.Service.Service → MadeService → Type 0
    IsMadeOf x made = made ≡ made_service (targets_of x.0) (package_of x.0.1.tree) x.1

    service_resolved : (x : Entry × tree.Service.Service) (made : MadeService) (s : Service) → IsMadeOf x made → service s ≡ made → IsHeldService x → IsResolvedService files parts x s
    service_resolved x made s tied is held = search (rules, rpcs_are, methods_resolved)

    services_resolved_all : (xs : List (Entry × tree.Service.Service)) (made : List MadeService) (ss : List Service) → EachIs IsMadeOf xs made → map service ss ≡ made → AllByRecursion IsHeldService xs
        → EachIs (IsResolvedService files parts) xs ss
    services_resolved_all [] [] [] tied is held = tt
    services_resolved_all [] [] (s ∷ ss) tied is held = absurd (cc (is))
    services_resolved_all [] (m ∷ ms) ss tied is held = absurd tied
    services_resolved_all (x ∷ xs) [] ss tied is held = absurd tied
    services_resolved_all (x ∷ xs) (m ∷ ms) [] tied is held = absurd (cc (is))
    services_resolved_all (x ∷ xs) (m ∷ ms) (s ∷ ss) tied is held =
        let one : service s ≡ m = cc (is) in
        let others : map service ss ≡ ms = cc (is) in
        (service_resolved x m s tied.0 one held.0, services_resolved_all xs ms ss tied.1 others held.1)

    own_services : (e : Entry) (ss : List tree.Statement.Statement)
        → EachIs IsMadeOf (map (λ (s : tree.Service.Service). (e, s)) (flat_map stated_service ss)) (made_services (targets_of e) (package_of e.1.tree) ss)
    own_services e [] = tt
    own_services e (statements.Empty span ∷ ss) = own_services e ss
    own_services e (statements.Import i ∷ ss) = own_services e ss
    own_services e (statements.Option o ∷ ss) = own_services e ss
    own_services e (statements.Message m ∷ ss) = own_services e ss
    own_services e (statements.Enum d ∷ ss) = own_services e ss
    own_services e (statements.Service s ∷ ss) = (refl, own_services e ss)

    services_are : (d : Declared) (front : List (Entry × tree.Service.Service)) (es : List Entry) → EachIs IsMadeOf front d.services → EachIs IsMadeOf (front ++ services_of es) (with_files d (map (linked_source files) es)).services
    services_are d front [] h = subst (λ xs. EachIs IsMadeOf xs d.services) (sym (append-nil front)) h
    services_are d front (e ∷ es) h =
        let s : Source = linked_source files e in
        let pair : tree.Service.Service → Entry × tree.Service.Service = λ (x : tree.Service.Service). (e, x) in
        let first = flat_map stated_service e.1.tree.statements.items in
        let last = flat_map stated_service (statements_behind e.1.tree.packaged) in
        let own : List (Entry × tree.Service.Service) = map pair (file_services e.1.tree) in
        let both : EachIs IsMadeOf (map pair first ++ map pair last) (made_file_services s) =
        each-append IsMadeOf (map pair first) (made_services (targets_of e) (package_of e.1.tree) e.1.tree.statements.items) (map pair last) (made_services (targets_of e) (package_of e.1.tree) (statements_behind e.1.tree.packaged))
        (own_services e e.1.tree.statements.items) (own_services e (statements_behind e.1.tree.packaged)) in
        let here : EachIs IsMadeOf own (made_file_services s) = subst (λ xs. EachIs IsMadeOf xs (made_file_services s)) (sym (map-append pair first last)) both in
        let next : EachIs IsMadeOf (front ++ own) (with_file d s).services = each-append IsMadeOf front d.services own (made_file_services s) h here in
        subst (λ xs. EachIs IsMadeOf xs (with_files (with_file d s) (map (linked_source files) es)).services) (append_assoc front own (services_of es)) (services_are (with_file d s) (front ++ own) es next)

-- ---- the law

-- linked files, and the trees of their message types
pub linked_trees : (l : LinkedFiles) → EachIs (IsTreeOf l.files) (messages_of l.files) (with_files nothing (linked_sources l.files)).types
linked_trees l = trees_are l.files nothing [] l.files tt

pub linked_meet : (l : LinkedFiles) (parts : Parts) → IsLinkedUp l → Declares (linked_sources l.files) parts → IsMet l.files parts
linked_meet l parts up h =
    let files = l.files in
    let sources = linked_sources files in
    let at_most = (kept_parts sources parts h).few_types in
    record {
      numbers = are_numbered l up;
      few_types = omega (arith, at_most);
      types_are = types_named files (messages_of files) (with_files nothing sources).types parts.types.items (linked_trees l) h.has_parts.types ∙ fulls_are files files;
      enums_are = enums_named files parts.enums.items (flat_map source_enums sources) (h.has_parts.enums ∙ enums_are nothing sources) ∙ scoped_are files files;
    }

pub linked_found : (l : LinkedFiles) (parts : Parts) (met : IsMet l.files parts) → IsLinkedUp l → AllByRecursion (IsResolvedFile l.files parts met) l.files
linked_found l parts met up = search (rules, files_found, recursion_from_All, files_resolve)

pub resolved_types : (l : LinkedFiles) (parts : Parts) → IsLinkedUp l → Declares (linked_sources l.files) parts → AreResolved l.files parts
resolved_types l parts up h =
    let files = l.files in
    let d = with_files nothing (linked_sources files) in
    let met : IsMet files parts = linked_meet l parts up h in
    let found = linked_found l parts met up in
    record {
      types = types_resolved files parts met (messages_of files) d.types parts.types.items (linked_trees l) h.has_parts.types (messages_held files parts met files found);
      services = services_resolved_all files parts met (services_of files) d.services parts.services.items (services_are files parts met nothing [] files tt) h.has_parts.services (services_held files parts met files found);
    }

-- what a type name resolves to in a scope of a file is one full name
pub resolved_alone : (files : List Entry) (parts : Parts) (file : Entry) (scope : List ℕ) (name : tree.TypeName.TypeName) (one other : Element)
    → ResolvesTo files parts file scope name one → ResolvesTo files parts file scope name other → full_name_of parts one ≡ full_name_of parts other
resolved_alone files parts file scope name one other h k = search rules
