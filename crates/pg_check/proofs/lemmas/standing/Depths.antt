-- Message types of linked files are nested at most 64 deep, as deep as the grammar lets messages be nested in source files.
use Rattle.std.proofs.Common.{◌≡◌, ◌∙◌, ℕ, zero, suc, ◌+◌, ◌^◌, ◌≤◌, Bool, true, false, cond, List, [], ◌∷◌, ◌++◌, filter, length, map, Option, Some, slice_get, sym, ap, subst, refl, arith, append_assoc, length-append, rules}
use Rattle.std.specs.List.{list_all, AllByRecursion}
use Rattle.std.specs.Str.{bytes_eq}
use Rattle.std.proofs.lemmas.List.{length-map}
use Rattle.std.proofs.lemmas.List.Elements.{recursion_from_All}
use Rattle.std.proofs.lemmas.Slice.Eq.{bytes_eq-Decides}
use Rattle.pg_schema.specs.declared.parts.field.TypeId.{TypeId}
use Rattle.pg_schema.specs.declared.parts.file.File.{File}
use Rattle.pg_schema.specs.declared.parts.message_type.MessageType.{MessageType}
use Rattle.pg_schema.specs.declared.parts.Parts.{Parts}
use Rattle.pg_schema.proofs.lemmas.rules.PairLemmas.{and_both}
use Rattle.pg_link.specs.declared.uses.target.Target.{Target}
use Rattle.pg_link.specs.Linked.{IsLinkedUp, LinkedFiles}
use Rattle.pg_link.specs.walk.Walk.{Entry, IsParsed}
use Rattle.pg_check.specs.Declares.{Declares}
use Rattle.pg_check.specs.parts.ByScope.{Placed, placed_from, type_id, types_in}
use Rattle.pg_check.specs.parts.MadeNumbers.{index_of}
use Rattle.pg_check.specs.parts.MadeParts.{Declared, EachIs, FileShape, IsFileOf, IsTypeOf, Source, TypeTree, file_shape, nothing, placed_enums, placed_messages, type_tree, type_trees, with_file, with_files}
use Rattle.pg_check.specs.rules.Outline.{Message, file_messages, message_scope, package_of}
use Rattle.pg_check.specs.parts.Sources.{linked_source, linked_sources}
use Rattle.pg_schema.specs.standing.Nesting.{holds_inside, nest_within}
use Rattle.pg_check.proofs.lemmas.parts.Eachs.{each-length, joined_all}
use Rattle.pg_check.proofs.lemmas.parts.names.WordTrees.{file_good}
use Rattle.pg_check.proofs.lemmas.standing.Levels.{AreLevelled, file_levelled, words_in}
use Rattle.pg_check.proofs.lemmas.standing.TreePlaces.{index_is}
use Rattle.pg_check.proofs.lemmas.standing.TypesInOrder.{later_types, types_declared}

-- ---- the message types of a file

module _ (types : List MessageType) where
  -- from an index on the message types are those of the trees
  abbrev AreFrom : ℕ → List TypeTree → Type 0
  AreFrom place [] = Unit {0}
  AreFrom place (w ∷ ws) = ((t : MessageType) × (slice_get types place ≡ Some t) × IsTypeOf w t) × AreFrom (place + 1) ws

  front_from : (place : ℕ) (vs ws : List TypeTree) → AreFrom place (vs ++ ws) → AreFrom place vs
  front_from place [] ws h = tt
  front_from place (v ∷ vs) ws h = (h.0, front_from (place + 1) vs ws h.1)

  back_from : (place : ℕ) (vs ws : List TypeTree) → AreFrom place (vs ++ ws) → AreFrom (place + length vs) ws
  back_from place [] ws h = search rules
  back_from place (v ∷ vs) ws h = search (rules, back_from (place + 1) vs ws h.1)

  all_from : (before after : List MessageType) (ws : List TypeTree) → types ≡ before ++ after → EachIs IsTypeOf ws after → AreFrom (length before) ws
  all_from before [] [] is h = tt
  all_from before (t ∷ ts) [] is h = absurd h
  all_from before [] (w ∷ ws) is h = absurd h
  all_from before (t ∷ ts) (w ∷ ws) is h = (
    (t, ap (λ us. slice_get us (length before)) is ∙ found before, h.0),
    subst (λ n. AreFrom n ws) (length-append before (t ∷ [])) (all_from (before ++ t ∷ []) ts ws (is ∙ sym (append_assoc before (t ∷ []) ts)) h.1),
  )
    where
      found : (us : List MessageType) → slice_get (us ++ t ∷ ts) (length us) ≡ Some t
      found [] = refl
      found (u ∷ us) = found us

-- Messages, after so many, whose full names have at most so many words: the more words a scope has, the fewer levels are in it.
module _ (types : List MessageType) (targets : ℕ → Option Target) (before : ℕ) (enums : List Placed) (ms : List Message) (top : ℕ) where
  abbrev places : ℕ → List Message → List Placed
  places place rest = placed_from place (map message_scope rest)

  abbrev tree_of : Message → TypeTree
  tree_of m = type_tree targets (places before ms) enums m

  same_scope : (a b : List ℕ) → bytes_eq a b ≡ true → words_in a ≡ words_in b
  same_scope a b h = ap words_in ((bytes_eq-Decides a b).0 h)

  -- the indexes of a scope's message types, where the first of some messages is one of them or not
  abbrev ids : Bool → (place : ℕ) → Message → List Placed → List TypeId
  ids is_one place m found = map type_id (map (λ (p : Placed). p.index) (cond is_one (record { scope = m.scope; index = place } ∷ found) found))

  abbrev found : List ℕ → List Placed → List Placed
  found scope list = filter (λ (p : Placed). bytes_eq scope p.scope) list

  none_there : (scope : List ℕ) → top ≤ words_in scope → (place : ℕ) (rest : List Message) → AreLevelled top rest
      → types_in scope (places place rest) ≡ []
  none_there scope high place [] levelled = refl
  none_there scope high place (m ∷ rest) levelled = by (bytes_eq scope m.scope) refl (none_there scope high (place + 1) rest levelled.1)
    where
      by : (c : Bool) → bytes_eq scope m.scope ≡ c → types_in scope (places (place + 1) rest) ≡ []
          → ids c place m (found scope (places (place + 1) rest)) ≡ []
      by true is others = search (rules, same_scope)
      by false is others = others

  abbrev Fits : ℕ → Type 0
  Fits n = (scope : List ℕ) → top ≤ words_in scope + n → nest_within n types (types_in scope (places before ms)) ≡ true

  each_inside : (n : ℕ) → Fits n → (scope : List ℕ) → top ≤ words_in scope + suc n → (place : ℕ) (rest : List Message) → AreLevelled top rest
      → place + length rest ≤ 2 ^ 32 → AreFrom types place (map tree_of rest) → nest_within (suc n) types (types_in scope (places place rest)) ≡ true
  each_inside n inside scope high place [] levelled few are = refl
  each_inside n inside scope high place (m ∷ rest) levelled few are = search (rules, by, each_inside n inside scope high (place + 1) rest levelled.1 (omega (arith, few)) are.1)
    where
      here : bytes_eq scope m.scope ≡ true → holds_inside (nest_within n types) (slice_get types (index_of place)) ≡ true
      here is = search (rules, same_scope, slice_get, index_is)

      by : (c : Bool) → bytes_eq scope m.scope ≡ c → nest_within (suc n) types (types_in scope (places (place + 1) rest)) ≡ true
          → nest_within (suc n) types (ids c place m (found scope (places (place + 1) rest))) ≡ true
      by true is others = search (rules, and_both, here)
      by false is others = others

  nested : AreLevelled top ms → before + length ms ≤ 2 ^ 32 → AreFrom types before (map tree_of ms) → (n : ℕ) → Fits n
  nested levelled few are zero scope high = ap (nest_within 0 types) (none_there scope (omega (arith, high)) before ms levelled)
  nested levelled few are (suc n) scope high = each_inside n (nested levelled few are n) scope high before ms levelled few are

-- ---- file after file

abbrev IsLevelledFile : Source → Type 0
IsLevelledFile s = AreLevelled (words_in (package_of s.tree) + 64) (file_messages s.tree)

-- at most 64 levels, and so at most any more
module _ (types : List MessageType) (depth : ℕ) (enough : 64 ≤ depth) where
  abbrev IsShallowFile : FileShape → Type 0
  IsShallowFile w = nest_within depth types w.types ≡ true

  files_shallow : (d : Declared) (ss : List Source) → AllByRecursion IsLevelledFile ss → AreFrom types 0 (with_files d ss).types
      → length (with_files d ss).types ≤ 2 ^ 32 → AllByRecursion IsShallowFile d.files → AllByRecursion IsShallowFile (with_files d ss).files
  files_shallow d [] levelled are few shallow = shallow
  files_shallow d (s ∷ ss) levelled are few shallow =
      let ms = file_messages s.tree in
      let scope = package_of s.tree in
      let enums = placed_enums (length d.enums) s.tree in
      let trees = type_trees (length d.types) (length d.enums) s in
      let shape = file_shape (length d.types) (length d.enums) (length d.services) s in
      let later : List TypeTree = later_types (with_file d s) ss in
      let split : (with_files (with_file d s) ss).types ≡ (d.types ++ trees) ++ later = types_declared (with_file d s) ss in
      let both : AreFrom types 0 (d.types ++ trees) = front_from types 0 (d.types ++ trees) later (subst (AreFrom types 0) split are) in
      let here : AreFrom types (length d.types) trees =
      subst (λ n. AreFrom types n trees) (from_none (length d.types)) (back_from types 0 d.types trees both) in
      let all : length (with_files (with_file d s) ss).types ≡ length (d.types ++ trees) + length later =
      ap length split ∙ length-append (d.types ++ trees) later in
      let first : length (d.types ++ trees) ≡ length d.types + length trees = length-append d.types trees in
      let own : length trees ≡ length ms = length-map ms (type_tree s.targets (placed_messages (length d.types) s.tree) enums) in
      let inside : IsShallowFile shape =
      nested types s.targets (length d.types) enums ms (words_in scope + 64) levelled.0 (omega (arith, few, all, first, own)) here depth scope (omega (arith, enough)) in
      files_shallow (with_file d s) ss levelled.1 are few (joined_all IsShallowFile d.files (shape ∷ []) shallow (inside, tt))
    where
      from_none : (n : ℕ) → 0 + n ≡ n
      from_none n = omega arith

  shapes_shallow : (ws : List FileShape) (fs : List File) → EachIs IsFileOf ws fs → AllByRecursion IsShallowFile ws
      → list_all (λ (f : File). nest_within depth types f.types.items) fs ≡ true
  shapes_shallow [] [] h shallow = refl
  shapes_shallow [] (f ∷ fs) h shallow = absurd h
  shapes_shallow (w ∷ ws) [] h shallow = absurd h
  shapes_shallow (w ∷ ws) (f ∷ fs) h shallow = search (rules, and_both, shapes_shallow ws fs h.1 shallow.1)

-- ---- linked files

abbrev HasTree : Entry → Type 0
HasTree e = IsParsed e.1.bytes.items e.1.tree

sources_levelled : (all files : List Entry) → AllByRecursion HasTree files → AllByRecursion IsLevelledFile (map (linked_source all) files)
sources_levelled all [] h = tt
sources_levelled all (e ∷ es) h = (file_levelled 64 e.1.tree (file_good e.1.bytes.items e.1.tree h.0) h.0.derives, sources_levelled all es h.1)

-- message types of linked files are nested at most so deep
pub nested_within : (depth : ℕ) → 64 ≤ depth → (linked : LinkedFiles) (parts : Parts) → IsLinkedUp linked → Declares (linked_sources linked.files) parts
    → length parts.types.items ≤ 4096 → list_all (λ (f : File). nest_within depth parts.types.items f.types.items) parts.files.items ≡ true
nested_within depth enough linked parts up h few =
    let sources = linked_sources linked.files in
    let d = with_files nothing sources in
    let types = parts.types.items in
    let levelled : AllByRecursion IsLevelledFile sources =
    sources_levelled linked.files linked.files (recursion_from_All HasTree linked.files up.parsed) in
    let made = h.has_parts.types in
    let as_many : length d.types ≡ length types = each-length IsTypeOf d.types types made in
    shapes_shallow types depth enough d.files parts.files.items h.has_parts.files
    (files_shallow types depth enough nothing sources levelled (all_from types [] types d.types refl made) (omega (arith, as_many, few)) tt)
