-- Each message type, enum and service of linked files has one index, and is in its scope.
use Rattle.std.proofs.Common.{◌≡◌, ◌∙◌, ℕ, zero, suc, ◌+◌, ◌^◌, ◌≤◌, Bool, true, false, not, ◌&&◌, List, [], ◌∷◌, ◌++◌, length, map, flat_map, Option, Some, slice_get, option_map, string_bytes, sym, ap, ap₂, subst, refl, arith, append_assoc, rules}
use Rattle.std.proofs.Math.Seq.{drop-append_seam, take-append_seam}
use Rattle.std.specs.List.{list_all, AllByRecursion}
use Rattle.std.proofs.lemmas.Bool.{false≢true}
use Rattle.std.proofs.lemmas.List.{append-nil, length-map, map-append}
use Rattle.std.proofs.lemmas.Option.{slice_get-map}
use Rattle.std.proofs.lemmas.Simd.{map-map}
use Rattle.std.proofs.lemmas.Slice.Eq.{bytes_eq-Decides}
use Rattle.pg_schema.specs.declared.parts.enum_type.EnumType.{EnumType}
use Rattle.pg_schema.specs.declared.parts.field.EnumId.{EnumId}
use Rattle.pg_schema.specs.declared.parts.field.TypeId.{TypeId}
use Rattle.pg_schema.specs.declared.parts.file.File.{File}
use Rattle.pg_schema.specs.declared.parts.message_type.MessageType.{MessageType}
use Rattle.pg_schema.specs.declared.parts.Parts.{Parts}
use Rattle.pg_schema.specs.declared.parts.service.Service as schema_services
use Rattle.pg_schema.specs.declared.parts.service.ServiceId.{ServiceId}
use Rattle.pg_schema.specs.rules.DeclaredNames.{within}
use Rattle.pg_schema.specs.rules.Scopes.{are_declared_once, are_enums_in, are_services_in, are_types_in, declared_enums, declared_services, declared_types, enum_name, is_file_scope, is_in, is_named_in, is_type_scope, service_name, type_name}
use Rattle.pg_schema.specs.rules.Words.{is_word}
use Rattle.pg_link.specs.declared.uses.target.Target.{Target}
use Rattle.pg_schema.proofs.lemmas.rules.PairLemmas.{and_both}
use Rattle.pg_check.specs.parts.ByScope.{Placed, placed_from}
use Rattle.pg_check.specs.rules.KeepsRules.{source_messages}
use Rattle.pg_check.specs.parts.MadeEnums.{MadeEnum, enumeration, made_enum}
use Rattle.pg_check.specs.parts.MadeParts.{ArePartsOf, Declared, EachIs, FileShape, IsFileOf, IsTypeOf, Source, TypeTree, file_services, nothing, with_file, with_files}
use Rattle.pg_check.specs.parts.MadeServices.{MadeService, made_services, service}
use Rattle.pg_check.specs.rules.Outline.{Enum, Message, enum_scope, message_scope, package_of}
use Rattle.pg_check.proofs.lemmas.parts.places.DeclaredPlaces.{all_enum_places, all_kept, all_service_places, all_types, enums_of_file, enums_of_tree, looked_up, service_scopes, services_of_file, types_of_file, types_of_tree}
use Rattle.pg_check.proofs.lemmas.parts.Eachs.{each_flat, each_weaker, joined_all}
use Rattle.pg_check.proofs.lemmas.parts.kept.KeptFiles.{enums_are, source_enums}
use Rattle.pg_check.proofs.lemmas.parts.places.Regrouped.{count_from, each_once, placed_total}
use Rattle.pg_check.proofs.lemmas.parts.places.ScopesOnce.{IsScoped, full_of}
use Rattle.pg_check.proofs.lemmas.parts.Totals.{as_one, total, total_joined, total_map, total_none}
use Rattle.pg_check.proofs.lemmas.parts.names.WordedFiles.{IsGoodFile, IsGoodStatement}
use Rattle.pg_syntax.specs.declared.tree as tree
use Rattle.pg_syntax.specs.declared.tree.Statement.TheVariants as statements

-- ---- sums over parts

pub each_total : {A B : Type 0} (is : A → B → Type 0) (f : B → ℕ) (g : A → ℕ) (ws : List A) (ts : List B) → EachIs is ws ts → ((w : A) (t : B) → is w t → f t ≡ g w) → total f ts ≡ total g ws
each_total is f g [] [] h same = refl
each_total is f g [] (t ∷ ts) h same = absurd h
each_total is f g (w ∷ ws) [] h same = absurd h
each_total is f g (w ∷ ws) (t ∷ ts) h same = ap (λ n. n + total f ts) (same w t h.0) ∙ ap (λ n. g w + n) (each_total is f g ws ts h.1 same)

module _ (h : List ℕ → ℕ → ℕ) where
  abbrev pub file_types : File → ℕ
  file_types f = total (λ (id : TypeId). h (string_bytes f.package) id.index) f.types.items

  abbrev pub nested_types : MessageType → ℕ
  nested_types t = total (λ (id : TypeId). h (string_bytes t.name) id.index) t.nested_types.items

  abbrev pub file_enum_ids : File → ℕ
  file_enum_ids f = total (λ (id : EnumId). h (string_bytes f.package) id.index) f.enums.items

  abbrev pub nested_enums : MessageType → ℕ
  nested_enums t = total (λ (id : EnumId). h (string_bytes t.name) id.index) t.nested_enums.items

  abbrev pub file_services_ids : File → ℕ
  file_services_ids f = total (λ (id : ServiceId). h (string_bytes f.package) id.index) f.services.items

  file_types_are : (w : FileShape) (f : File) → IsFileOf w f → file_types f ≡ types_of_file h w
  file_types_are w f is = ap (λ s. total (λ (id : TypeId). h s id.index) f.types.items) is.in_package ∙ ap (λ ids. total (λ (id : TypeId). h (package_of w.tree) id.index) ids) is.types

  file_enums_are : (w : FileShape) (f : File) → IsFileOf w f → file_enum_ids f ≡ enums_of_file h w
  file_enums_are w f is = ap (λ s. total (λ (id : EnumId). h s id.index) f.enums.items) is.in_package ∙ ap (λ ids. total (λ (id : EnumId). h (package_of w.tree) id.index) ids) is.enums

  file_services_are : (w : FileShape) (f : File) → IsFileOf w f → file_services_ids f ≡ services_of_file h w
  file_services_are w f is = ap (λ s. total (λ (id : ServiceId). h s id.index) f.services.items) is.in_package ∙ ap (λ ids. total (λ (id : ServiceId). h (package_of w.tree) id.index) ids) is.services

  nested_types_are : (w : TypeTree) (t : MessageType) → IsTypeOf w t → nested_types t ≡ types_of_tree h w
  nested_types_are w t is = ap (λ s. total (λ (id : TypeId). h s id.index) t.nested_types.items) is.name ∙ ap (λ ids. total (λ (id : TypeId). h w.full id.index) ids) is.nested_types

  nested_enums_are : (w : TypeTree) (t : MessageType) → IsTypeOf w t → nested_enums t ≡ enums_of_tree h w
  nested_enums_are w t is = ap (λ s. total (λ (id : EnumId). h s id.index) t.nested_enums.items) is.name ∙ ap (λ ids. total (λ (id : EnumId). h w.full id.index) ids) is.nested_enums

  module _ (ss : List Source) (parts : Parts) (are : ArePartsOf ss parts) (scoped : AllByRecursion (λ (s : Source). IsScoped s.tree) ss) where
    abbrev ms : List Message
    ms = flat_map source_messages ss

    abbrev es : List Enum
    es = flat_map source_enums ss

    pub types_summed : length ms ≤ 2 ^ 32 → total file_types parts.files.items + total nested_types parts.types.items ≡ total (λ (p : Placed). h p.scope p.index) (placed_from 0 (map message_scope ms))
    types_summed few =
        let d = with_files nothing ss in
        let files : total file_types parts.files.items ≡ total (types_of_file h) d.files = each_total IsFileOf file_types (types_of_file h) d.files parts.files.items are.files file_types_are in
        let types : total nested_types parts.types.items ≡ total (types_of_tree h) d.types = each_total IsTypeOf nested_types (types_of_tree h) d.types parts.types.items are.types nested_types_are in
        let all = all_types h nothing ss scoped in
        let long : length (map message_scope ms) ≡ length ms = length-map ms message_scope in
        let same = all_kept h 0 (map message_scope ms) (omega (arith, few, long)) in
        omega (arith, files, types, all, same)

    pub enums_summed : total file_enum_ids parts.files.items + total nested_enums parts.types.items ≡ total (λ (p : Placed). h p.scope p.index) (placed_from 0 (map enum_scope es))
    enums_summed =
        let d = with_files nothing ss in
        let files : total file_enum_ids parts.files.items ≡ total (enums_of_file h) d.files = each_total IsFileOf file_enum_ids (enums_of_file h) d.files parts.files.items are.files file_enums_are in
        let types : total nested_enums parts.types.items ≡ total (enums_of_tree h) d.types = each_total IsTypeOf nested_enums (enums_of_tree h) d.types parts.types.items are.types nested_enums_are in
        let all = all_enum_places h nothing ss scoped in
        omega (arith, files, types, all)

    pub services_summed : total file_services_ids parts.files.items ≡ total (λ (p : Placed). h p.scope p.index) (placed_from 0 (flat_map service_scopes ss))
    services_summed =
        let d = with_files nothing ss in
        let files : total file_services_ids parts.files.items ≡ total (services_of_file h) d.files = each_total IsFileOf file_services_ids (services_of_file h) d.files parts.files.items are.files file_services_are in
        let all = all_service_places h nothing ss in
        omega (arith, files, all)

-- ---- names in their scopes

pub in_scope : (scope w : List ℕ) → is_word w ≡ true → is_in scope (within scope w) ≡ true
in_scope scope w h = grind (arith, take-append_seam, drop-append_seam, and_both, bytes_eq-Decides)

-- a name that is there under its scope
pub record IsUnder (scope full : List ℕ) : Type 0 where
  pub word : List ℕ
  pub is_a_word : is_word word ≡ true
  pub is : full ≡ within scope word

named_under : (scope full : List ℕ) (o : Option (List ℕ)) → o ≡ Some full → IsUnder scope full → is_named_in scope o ≡ true
named_under scope full o at u = ap (is_named_in scope) (at ∙ ap (λ (t : List ℕ). Some t) u.is) ∙ in_scope scope u.word u.is_a_word

tree_names : (d : Declared) (ss : List Source) → map (λ (w : TypeTree). w.full) (with_files d ss).types ≡ map (λ (w : TypeTree). w.full) d.types ++ map full_of (flat_map source_messages ss)
tree_names d [] = sym (append-nil (map (λ (w : TypeTree). w.full) d.types))
tree_names d (s ∷ ss) = search (rules, full_of, map-map, flat_map, map-append, append_assoc, tree_names (with_file d s) ss)

each_name : (ws : List TypeTree) (ts : List MessageType) → EachIs IsTypeOf ws ts → map (λ (t : MessageType). string_bytes t.name) ts ≡ map (λ (w : TypeTree). w.full) ws
each_name [] [] h = refl
each_name [] (t ∷ ts) h = absurd h
each_name (w ∷ ws) [] h = absurd h
each_name (w ∷ ws) (t ∷ ts) h = ap (λ n. n ∷ map (λ (u : MessageType). string_bytes u.name) ts) h.0.name ∙ ap (λ ns. w.full ∷ ns) (each_name ws ts h.1)

pub type_names_are : (ss : List Source) (parts : Parts) → ArePartsOf ss parts → map (λ (t : MessageType). string_bytes t.name) parts.types.items ≡ map full_of (flat_map source_messages ss)
type_names_are ss parts are = each_name (with_files nothing ss).types parts.types.items are.types ∙ tree_names nothing ss

-- what is found at an index of equal lists
pub at_place : {A B C : Type 0} (f : A → C) (g : B → C) (xs : List A) (ys : List B) → map f xs ≡ map g ys → (i : ℕ) (y : B) → slice_get ys i ≡ Some y → option_map f (slice_get xs (0 + i)) ≡ Some (g y)
at_place f g xs ys same i y at =
    let none : 0 + i ≡ i = omega arith in
    ap (λ n. option_map f (slice_get xs n)) none ∙ (sym (slice_get-map f xs i) ∙ (ap (λ l. slice_get l i) same ∙ (slice_get-map g ys i ∙ ap (option_map g) at)))

pub all_at : {X : Type 0} (P : X → Type 0) (xs : List X) → AllByRecursion P xs → (i : ℕ) (x : X) → slice_get xs i ≡ Some x → P x
all_at P [] h i x at = absurd (cc (at))
all_at P (y ∷ ys) h zero x at = let same : y ≡ x = cc (at) in subst P same h.0
all_at P (y ∷ ys) h (suc i) x at = all_at P ys h.1 i x at

-- ---- no sum, and so all pass

all_pass : {X : Type 0} (test : X → Bool) (xs : List X) → total (λ x. as_one (not (test x))) xs ≡ 0 → list_all test xs ≡ true
all_pass test [] h = refl
all_pass test (x ∷ xs) h = by (test x) refl (λ none. all_pass test xs none)
  where
    by : (b : Bool) → test x ≡ b → (total (λ y. as_one (not (test y))) xs ≡ 0 → list_all test xs ≡ true) → (test x && list_all test xs) ≡ true
    by true is next = and_both (test x) (list_all test xs) is (next (omega (arith, h)))
    by false is next = let first : as_one (not (test x)) ≡ 1 = ap (λ b. as_one (not b)) is in absurd (omega (arith, h, first))

all_pass_in : {X Y : Type 0} (test : Y → X → Bool) (of : Y → List X) (ys : List Y) → total (λ y. total (λ x. as_one (not (test y x))) (of y)) ys ≡ 0 → list_all (λ y. list_all (test y) (of y)) ys ≡ true
all_pass_in test of [] h = refl
all_pass_in test of (y ∷ ys) h =
    let first : total (λ x. as_one (not (test y x))) (of y) ≡ 0 = omega (arith, h) in
    let rest : total (λ z. total (λ x. as_one (not (test z x))) (of z)) ys ≡ 0 = omega (arith, h) in
    and_both (list_all (test y) (of y)) (list_all (λ z. list_all (test z) (of z)) ys) (all_pass (test y) (of y) first) (all_pass_in test of ys rest)

pub both_pass : {X : Type 0} (p q : X → Bool) (xs : List X) → list_all p xs ≡ true → list_all q xs ≡ true → list_all (λ x. p x && q x) xs ≡ true
both_pass p q [] h k = refl
both_pass p q (x ∷ xs) h k = search (rules, false≢true, both_pass p q xs)

-- ---- the facts

-- what linked files that keep to the rules have, each as it is
pub record IsSettledSource (s : Source) : Type 0 where
  pub good : IsGoodFile s.tree
  pub scoped : IsScoped s.tree

pub scoped_all : (ss : List Source) → AllByRecursion IsSettledSource ss → AllByRecursion (λ (s : Source). IsScoped s.tree) ss
scoped_all ss h = each_weaker IsSettledSource (λ s. IsScoped s.tree) (λ s k. k.scoped) ss h

abbrev pub MessageUnder : Message → Type 0
MessageUnder m = IsUnder m.scope m.full

abbrev pub EnumUnder : Enum → Type 0
EnumUnder e = IsUnder e.scope e.full

abbrev pub ServiceUnder : List ℕ × MadeService → Type 0
ServiceUnder s = IsUnder s.0 s.1.name

pub all_messages_under : (ss : List Source) → AllByRecursion IsSettledSource ss → AllByRecursion MessageUnder (flat_map source_messages ss)
all_messages_under ss h = search (rules, each_flat, each_weaker, string_bytes)

pub all_enums_under : (ss : List Source) → AllByRecursion IsSettledSource ss → AllByRecursion EnumUnder (flat_map source_enums ss)
all_enums_under ss h = search (rules, each_flat, source_enums, each_weaker, string_bytes)

-- each service beside its scope
abbrev pub beside : List ℕ → MadeService → List ℕ × MadeService
beside scope s = (scope, s)

abbrev pub scoped_services : Source → List (List ℕ × MadeService)
scoped_services s = map (beside (package_of s.tree)) (file_services s)

abbrev pub service_scope : List ℕ × MadeService → List ℕ
service_scope s = s.0

services_under : (targets : ℕ → Option Target) (scope : List ℕ) (xs : List tree.Statement.Statement) → AllByRecursion IsGoodStatement xs → AllByRecursion ServiceUnder (map (beside scope) (made_services targets scope xs))
services_under targets scope [] h = tt
services_under targets scope (statements.Empty span ∷ xs) h = services_under targets scope xs h.1
services_under targets scope (statements.Import i ∷ xs) h = services_under targets scope xs h.1
services_under targets scope (statements.Option o ∷ xs) h = services_under targets scope xs h.1
services_under targets scope (statements.Message m ∷ xs) h = services_under targets scope xs h.1
services_under targets scope (statements.Enum e ∷ xs) h = services_under targets scope xs h.1
services_under targets scope (statements.Service s ∷ xs) h = (record { word = string_bytes s.name.text; is_a_word = h.0.1.0; is = refl }, services_under targets scope xs h.1)

pub all_services_under : (ss : List Source) → AllByRecursion IsSettledSource ss → AllByRecursion ServiceUnder (flat_map scoped_services ss)
all_services_under [] h = tt
all_services_under (s ∷ ss) h = search (rules, map-append, joined_all, services_under, all_services_under ss h.1)

service_scopes_are : (ss : List Source) → flat_map service_scopes ss ≡ map service_scope (flat_map scoped_services ss)
service_scopes_are [] = refl
service_scopes_are (s ∷ ss) = search (rules, flat_map, service_scopes, map-map, map-append, service_scopes_are ss)

abbrev pub made_in : List ℕ × MadeService → MadeService
made_in s = s.1

pub services_back : (scope : List ℕ) (xs : List MadeService) → map made_in (map (beside scope) xs) ≡ xs
services_back scope [] = refl
services_back scope (x ∷ xs) = ap (λ ys. x ∷ ys) (services_back scope xs)

pub services_are : (d : Declared) (ss : List Source) → (with_files d ss).services ≡ d.services ++ map made_in (flat_map scoped_services ss)
services_are d [] = sym (append-nil d.services)
services_are d (s ∷ ss) = search (rules, append_assoc, flat_map, services_back, map-append, services_are (with_file d s) ss)

-- ---- one kind of what is declared

-- indexes that files and message types declare come to as many numbers, from 0 on
places_come : {I : Type 0} (index : I → ℕ) (in_file : File → List I) (in_type : MessageType → List I) (files : List File) (types : List MessageType) (g : ℕ → ℕ)
    (scopes : List (List ℕ)) (count : ℕ) → length scopes ≡ count
    → total (λ (f : File). total (λ id. g (index id)) (in_file f)) files + total (λ (t : MessageType). total (λ id. g (index id)) (in_type t)) types
    ≡ total (λ (p : Placed). g p.index) (placed_from 0 scopes)
    → total g (flat_map (λ (f : File). map index (in_file f)) files ++ flat_map (λ (t : MessageType). map index (in_type t)) types) ≡ total g (count_from 0 count)
places_come {I} index in_file in_type files types g scopes count long summed = search (rules, total_joined, flat_map, each, placed_total, total, count_from)
  where
    each : {X : Type 0} (ids : X → List I) (xs : List X) → total g (flat_map (λ x. map index (ids x)) xs) ≡ total (λ x. total (λ id. g (index id)) (ids x)) xs
    each ids [] = refl
    each ids (x ∷ xs) = total_joined g (map index (ids x)) (flat_map (λ y. map index (ids y)) xs) ∙ ap₂ (λ m n. m + n) (total_map g index (ids x)) (each ids xs)

-- what an index says whose name is not in the scope
abbrev name_fails : {A : Type 0} → (A → List ℕ) → List A → List ℕ → ℕ → ℕ
name_fails name ts scope i = as_one (not (is_named_in scope (option_map name (slice_get ts i))))

-- no index does, where each has the name of what is declared
none_fails : {A X : Type 0} (name : A → List ℕ) (full scope : X → List ℕ) (ts : List A) (xs : List X) → map name ts ≡ map full xs
    → AllByRecursion (λ x. IsUnder (scope x) (full x)) xs → total (λ (p : Placed). name_fails name ts p.scope p.index) (placed_from 0 (map scope xs)) ≡ 0
none_fails {A} {X} name full scope ts xs same under =
    looked_up scope (name_fails name ts) (λ (x : X). 0) 0 xs (λ i x at.
    ap (λ b. as_one (not b)) (named_under (scope x) (full x) (option_map name (slice_get ts (0 + i))) (at_place name full ts xs same i x at)
    (all_at (λ y. IsUnder (scope y) (full y)) xs under i x at))) ∙ total_none xs

module _ (ss : List Source) (parts : Parts) (are : ArePartsOf ss parts) (settled : AllByRecursion IsSettledSource ss) where
  abbrev types : List MessageType
  types = parts.types.items

  abbrev enums : List EnumType
  enums = parts.enums.items

  abbrev all_ms : List Message
  all_ms = flat_map source_messages ss

  abbrev all_es : List Enum
  all_es = flat_map source_enums ss

  abbrev all_xs : List (List ℕ × MadeService)
  all_xs = flat_map scoped_services ss

  pub type_count : length types ≡ length all_ms
  type_count = sym (length-map types (λ (t : MessageType). string_bytes t.name)) ∙ (ap length (type_names_are ss parts are) ∙ length-map all_ms full_of)

  pub enums_made : map enumeration enums ≡ map made_enum all_es
  enums_made = are.enums ∙ enums_are nothing ss

  pub enum_count : length enums ≡ length all_es
  enum_count = sym (length-map enums enumeration) ∙ (ap length enums_made ∙ length-map all_es made_enum)

  pub services_made : map service parts.services.items ≡ map made_in all_xs
  services_made = are.services ∙ services_are nothing ss

  pub service_count : length parts.services.items ≡ length all_xs
  service_count = sym (length-map parts.services.items service) ∙ (ap length services_made ∙ length-map all_xs made_in)

  abbrev type_named : MessageType → List ℕ
  type_named t = string_bytes t.name

  abbrev enum_named : EnumType → List ℕ
  enum_named e = string_bytes e.name

  abbrev service_named : schema_services.Service → List ℕ
  service_named s = string_bytes s.name

  abbrev scoped : AllByRecursion (λ (s : Source). IsScoped s.tree) ss
  scoped = scoped_all ss settled

  -- indexes

  few_messages : length types ≤ 2 ^ 32 → length all_ms ≤ 2 ^ 32
  few_messages few = let long = type_count in omega (arith, long, few)

  types_placed : length types ≤ 2 ^ 32 → (g : ℕ → ℕ) → total g (declared_types parts.files.items types) ≡ total g (count_from 0 (length types))
  types_placed few g =
      places_come (λ (id : TypeId). id.index) (λ f. f.types.items) (λ t. t.nested_types.items) parts.files.items types g (map message_scope all_ms) (length types)
      (length-map all_ms message_scope ∙ sym type_count) (types_summed (λ s. g) ss parts are scoped (few_messages few))

  enums_placed : (g : ℕ → ℕ) → total g (declared_enums parts.files.items types) ≡ total g (count_from 0 (length enums))
  enums_placed g =
      places_come (λ (id : EnumId). id.index) (λ f. f.enums.items) (λ t. t.nested_enums.items) parts.files.items types g (map enum_scope all_es) (length enums)
      (length-map all_es enum_scope ∙ sym enum_count) (enums_summed (λ s. g) ss parts are scoped)

  service_scope_count : length (flat_map service_scopes ss) ≡ length parts.services.items
  service_scope_count = ap length (service_scopes_are ss) ∙ (length-map all_xs service_scope ∙ sym service_count)

  services_placed : (g : ℕ → ℕ) → total g (declared_services parts.files.items) ≡ total g (count_from 0 (length parts.services.items))
  services_placed g =
      let summed : total (λ (f : File). total (λ (id : ServiceId). g id.index) f.services.items) parts.files.items ≡ total (λ (p : Placed). g p.index) (placed_from 0 (flat_map service_scopes ss)) =
      services_summed (λ s. g) ss parts are scoped in
      ap (total g) (sym (append-nil (declared_services parts.files.items)))
      ∙ places_come (λ (id : ServiceId). id.index) (λ f. f.services.items) (λ t. []) parts.files.items [] g (flat_map service_scopes ss) (length parts.services.items)
      service_scope_count (omega (arith, summed))

  pub declared_once : length types ≤ 2 ^ 32 → are_declared_once parts.files.items types (length enums) (length parts.services.items) ≡ true
  declared_once few = search (rules, each_once, types_placed, enums_placed, services_placed, and_both)

  -- scopes

  no_type_fails : length types ≤ 2 ^ 32 → total (file_types (name_fails type_named types)) parts.files.items + total (nested_types (name_fails type_named types)) types ≡ 0
  no_type_fails few =
      types_summed (name_fails type_named types) ss parts are scoped (few_messages few)
      ∙ none_fails type_named full_of message_scope types all_ms (type_names_are ss parts are) (all_messages_under ss settled)

  pub enum_names_are : map enum_named enums ≡ map (λ (e : Enum). e.full) all_es
  enum_names_are =
      sym (map-map (λ (e : MadeEnum). e.name) enumeration enums) ∙ (ap (map (λ (e : MadeEnum). e.name)) enums_made ∙ map-map (λ (e : MadeEnum). e.name) made_enum all_es)

  no_enum_fails : total (file_enum_ids (name_fails enum_named enums)) parts.files.items + total (nested_enums (name_fails enum_named enums)) types ≡ 0
  no_enum_fails =
      enums_summed (name_fails enum_named enums) ss parts are scoped
      ∙ none_fails enum_named (λ (e : Enum). e.full) enum_scope enums all_es enum_names_are (all_enums_under ss settled)

  service_names_are : map service_named parts.services.items ≡ map (λ (s : List ℕ × MadeService). s.1.name) all_xs
  service_names_are =
      sym (map-map (λ (s : MadeService). s.name) service parts.services.items) ∙ (ap (map (λ (s : MadeService). s.name)) services_made ∙ map-map (λ (s : MadeService). s.name) made_in all_xs)

  no_service_fails : total (file_services_ids (name_fails service_named parts.services.items)) parts.files.items ≡ 0
  no_service_fails =
      let fails = name_fails service_named parts.services.items in
      services_summed fails ss parts are scoped
      ∙ (ap (λ xs. total (λ (p : Placed). fails p.scope p.index) (placed_from 0 xs)) (service_scopes_are ss)
      ∙ none_fails service_named (λ (s : List ℕ × MadeService). s.1.name) service_scope parts.services.items all_xs service_names_are (all_services_under ss settled))

  pub type_scopes : length types ≤ 2 ^ 32 → list_all (is_type_scope types enums) types ≡ true
  type_scopes few =
      let in_types = no_type_fails few in
      let in_enums = no_enum_fails in
      both_pass (λ (t : MessageType). are_types_in types (string_bytes t.name) t.nested_types.items) (λ (t : MessageType). are_enums_in enums (string_bytes t.name) t.nested_enums.items) types
      (all_pass_in (λ (t : MessageType) (id : TypeId). is_named_in (string_bytes t.name) (type_name types id)) (λ (t : MessageType). t.nested_types.items) types (omega (arith, in_types)))
      (all_pass_in (λ (t : MessageType) (id : EnumId). is_named_in (string_bytes t.name) (enum_name enums id)) (λ (t : MessageType). t.nested_enums.items) types (omega (arith, in_enums)))

  pub file_scopes : length types ≤ 2 ^ 32 → list_all (is_file_scope types enums parts.services.items) parts.files.items ≡ true
  file_scopes few =
      let in_types = no_type_fails few in
      let in_enums = no_enum_fails in
      let in_services = no_service_fails in
      both_pass (λ (f : File). are_types_in types (string_bytes f.package) f.types.items && are_enums_in enums (string_bytes f.package) f.enums.items) (λ (f : File). are_services_in parts.services.items (string_bytes f.package) f.services.items) parts.files.items
      (both_pass (λ (f : File). are_types_in types (string_bytes f.package) f.types.items) (λ (f : File). are_enums_in enums (string_bytes f.package) f.enums.items) parts.files.items
      (all_pass_in (λ (f : File) (id : TypeId). is_named_in (string_bytes f.package) (type_name types id)) (λ (f : File). f.types.items) parts.files.items (omega (arith, in_types)))
      (all_pass_in (λ (f : File) (id : EnumId). is_named_in (string_bytes f.package) (enum_name enums id)) (λ (f : File). f.enums.items) parts.files.items (omega (arith, in_enums))))
      (all_pass_in (λ (f : File) (id : ServiceId). is_named_in (string_bytes f.package) (service_name parts.services.items id)) (λ (f : File). f.services.items) parts.files.items in_services)
