-- The message types of source files come in order of declaration, file after file.
use Rattle.std.proofs.Common.{◌≡◌, ◌∙◌, ℕ, suc, ◌+◌, ◌^◌, ◌≤◌, true, false, List, [], ◌∷◌, ◌++◌, map, flat_map, length, Option, Some, slice_get, refl, sym, ap, ap₂, subst, arith, length-append, rules}
use Rattle.std.specs.List.{AllByRecursion, list_all}
use Rattle.std.proofs.lemmas.List.{append-nil, append_assoc, length-map, map-append}
use Rattle.pg_schema.specs.declared.parts.file.File.{File}
use Rattle.pg_schema.specs.declared.parts.message_type.MessageType.{MessageType}
use Rattle.pg_schema.specs.declared.parts.Parts.{Parts}
use Rattle.pg_schema.specs.rules.Pairs.{are_distinct}
use Rattle.pg_schema.specs.rules.Sound.{IsSound}
use Rattle.pg_schema.specs.rules.TextSets.{is_among}
use Rattle.pg_schema.proofs.lemmas.rules.PairLemmas.{and_left, and_right}
use Rattle.pg_link.specs.declared.uses.target.Target.{Target}
use Rattle.pg_check.specs.parts.ByScope.{Placed}
use Rattle.pg_check.specs.parts.MadeParts.{ArePartsOf, Declared, EachIs, FileShape, IsFileOf, IsTypeOf, Source, TypeTree, file_shape, nothing, type_tree, type_trees, with_file, with_files}
use Rattle.pg_check.specs.rules.Outline.{Message, file_messages, package_of}
use Rattle.pg_schema.specs.standing.InOrder.{types_below}
use Rattle.pg_schema.specs.standing.Nesting.{nest_within}
use Rattle.pg_schema.specs.standing.Places.{places_from}
use Rattle.pg_check.proofs.lemmas.parts.Eachs.{each-length}
use Rattle.pg_check.proofs.lemmas.standing.UniqueNames.{IsUncalled, distinct_left, distinct_right, not_between, type_name, types_distinct, uncalled}
use Rattle.pg_check.proofs.lemmas.standing.MessageTrees.{file_trees}
use Rattle.pg_check.proofs.lemmas.standing.Walks.{AreTyped, full_of, from_joined, walk_in_order}

-- ---- what is declared, file after file

abbrev pub later_types : Declared → List Source → List TypeTree
later_types d [] = []
later_types d (s ∷ ss) = type_trees (length d.types) (length d.enums) s ++ later_types (with_file d s) ss

abbrev pub later_files : Declared → List Source → List FileShape
later_files d [] = []
later_files d (s ∷ ss) = file_shape (length d.types) (length d.enums) (length d.services) s ∷ later_files (with_file d s) ss

pub types_declared : (d : Declared) (ss : List Source) → (with_files d ss).types ≡ d.types ++ later_types d ss
types_declared d [] = sym (append-nil d.types)
types_declared d (s ∷ ss) = search (rules, append_assoc, types_declared (with_file d s) ss)

pub files_declared : (d : Declared) (ss : List Source) → (with_files d ss).files ≡ d.files ++ later_files d ss
files_declared d [] = sym (append-nil d.files)
files_declared d (s ∷ ss) = search (rules, append_assoc, files_declared (with_file d s) ss)

pub record EachSplits {A B : Type 0} (is : A → B → Type 0) (xs ys : List A) (zs : List B) : Type 0 where
  pub front : List B
  pub back : List B
  pub splits : zs ≡ front ++ back
  pub each_front : EachIs is xs front
  pub each_back : EachIs is ys back

pub each_splits : {A B : Type 0} (is : A → B → Type 0) (xs ys : List A) (zs : List B) → EachIs is (xs ++ ys) zs → EachSplits is xs ys zs
each_splits is [] ys zs each = record { front = []; back = zs; splits = refl; each_front = tt; each_back = each }
each_splits is (x ∷ xs) ys [] each = absurd each
each_splits is (x ∷ xs) ys (z ∷ zs) each =
    let rest = each_splits is xs ys zs each.1 in
    record { front = z ∷ rest.front; back = rest.back; splits = ap (λ ws. z ∷ ws) rest.splits; each_front = (each.0, rest.each_front); each_back = rest.each_back }

-- ---- the message types of one file

module _ (targets : ℕ → Option Target) (types enums : List Placed) where
  names_are : (ms : List Message) (ts : List MessageType) → EachIs IsTypeOf (map (type_tree targets types enums) ms) ts → map full_of ms ≡ map type_name ts
  names_are [] [] each = refl
  names_are [] (t ∷ ts) each = absurd each
  names_are (m ∷ ms) [] each = absurd each
  names_are (m ∷ ms) (t ∷ ts) each = ap₂ (λ n ns. n ∷ ns) (sym each.0.name) (names_are ms ts each.1)

  typed : (front ts back : List MessageType) (ms : List Message) → EachIs IsTypeOf (map (type_tree targets types enums) ms) ts
      → AreTyped (front ++ (ts ++ back)) types (length front) ms
  typed front [] back [] each = tt
  typed front (t ∷ ts) back [] each = absurd each
  typed front [] back (m ∷ ms) each = absurd each
  typed front (t ∷ ts) back (m ∷ ms) each =
      let long : length (front ++ t ∷ []) ≡ suc (length front) = length-append front (t ∷ []) ∙ omega arith in (
        record { type = t; there = there front t (ts ++ back); nested = each.0.nested_types },
        subst (λ n. AreTyped (front ++ (t ∷ ts ++ back)) types n ms) long
            (subst (λ all. AreTyped all types (length (front ++ t ∷ [])) ms) (append_assoc front (t ∷ []) (ts ++ back)) (typed (front ++ t ∷ []) ts back ms each.1)),
      )
    where
      there : (front : List MessageType) (t : MessageType) (back : List MessageType) → slice_get (front ++ t ∷ back) (length front) ≡ Some t
      there [] t back = refl
      there (x ∷ front) t back = there front t back

-- ---- all files

abbrev pub in_file : (depth : ℕ) → List MessageType → File → List ℕ
in_file depth types f = types_below depth types f.types.items

module _ (depth : ℕ) (types : List MessageType) (few : length types ≤ 2 ^ 32) (once : are_distinct (map type_name types) ≡ true) where
  -- of the message types of a file none is called as another, or as the package
  pub file_apart : (front own back : List MessageType) (d : Declared) (s : Source) (f : File) → types ≡ front ++ (own ++ back)
      → EachIs IsTypeOf (type_trees (length d.types) (length d.enums) s) own → IsFileOf (file_shape (length d.types) (length d.enums) (length d.services) s) f → IsUncalled (map type_name types) f
      → (are_distinct (map full_of (file_messages s.tree)) ≡ true) × (is_among (map full_of (file_messages s.tree)) (package_of s.tree) ≡ false)
  file_apart front own back d s f whole each is free = search (rules, names_are, map-append, distinct_left, distinct_right, not_between)

  -- after the message types in front those of the file are in order
  pub file_in_order : (front own back : List MessageType) (d : Declared) (s : Source) (f : File) → types ≡ front ++ (own ++ back) → length front ≡ length d.types
      → EachIs IsTypeOf (type_trees (length d.types) (length d.enums) s) own → IsFileOf (file_shape (length d.types) (length d.enums) (length d.services) s) f
      → IsUncalled (map type_name types) f → nest_within depth types f.types.items ≡ true → in_file depth types f ≡ places_from (length d.types) (length own)
  file_in_order front own back d s f whole long each is free shallow = search (rules, length-map, each-length, file_apart, length-append, typed, walk_in_order, file_trees)

  files_in_order : (front back : List MessageType) (d : Declared) (ss : List Source) (fs : List File) → types ≡ front ++ back → length front ≡ length d.types
      → EachIs IsTypeOf (later_types d ss) back → EachIs IsFileOf (later_files d ss) fs → AllByRecursion (IsUncalled (map type_name types)) fs
      → list_all (λ (f : File). nest_within depth types f.types.items) fs ≡ true → flat_map (in_file depth types) fs ≡ places_from (length d.types) (length back)
  files_in_order front [] d [] [] whole long each are free shallow = refl
  files_in_order front (t ∷ back) d [] fs whole long each are free shallow = absurd each
  files_in_order front back d [] (f ∷ fs) whole long each are free shallow = absurd are
  files_in_order front back d (s ∷ ss) [] whole long each are free shallow = absurd are
  files_in_order front back d (s ∷ ss) (f ∷ fs) whole long each are free shallow =
      let own : List TypeTree = type_trees (length d.types) (length d.enums) s in
      let parts = each_splits IsTypeOf own (later_types (with_file d s) ss) back each in
      let here : types ≡ front ++ (parts.front ++ parts.back) = whole ∙ ap (λ ts. front ++ ts) parts.splits in
      let further : types ≡ (front ++ parts.front) ++ parts.back = here ∙ sym (append_assoc front parts.front parts.back) in
      let many : length own ≡ length parts.front = each-length IsTypeOf own parts.front parts.each_front in
      let joined : length (d.types ++ own) ≡ length d.types + length parts.front = length-append d.types own ∙ ap (λ n. length d.types + n) many in
      let longer : length (front ++ parts.front) ≡ length (d.types ++ own) =
      length-append front parts.front ∙ (ap (λ n. n + length parts.front) long ∙ sym joined) in
      let inside = nest_within depth types f.types.items in
      let later = list_all (λ (g : File). nest_within depth types g.types.items) fs in
      ap₂ (λ xs ys. xs ++ ys) (file_in_order front parts.front parts.back d s f here long parts.each_front are.0 free.0 (and_left inside later shallow))
      (files_in_order (front ++ parts.front) parts.back (with_file d s) ss fs further longer parts.each_back are.1 free.1 (and_right inside later shallow)
      ∙ ap (λ n. places_from n (length parts.back)) joined)
      ∙ (from_joined (length d.types) (length parts.front) (length parts.back)
      ∙ ap (places_from (length d.types)) (sym (ap length parts.splits ∙ length-append parts.front parts.back)))

-- message types of source files are in order, where they are nested no deeper than that
pub types_in_order : (depth : ℕ) (sources : List Source) (parts : Parts) → ArePartsOf sources parts → IsSound parts
    → list_all (λ (f : File). nest_within depth parts.types.items f.types.items) parts.files.items ≡ true
    → flat_map (in_file depth parts.types.items) parts.files.items ≡ places_from 0 (length parts.types.items)
types_in_order depth sources parts are sound shallow =
    let few = sound.few_types in
    files_in_order depth parts.types.items (omega (arith, few)) (types_distinct parts sound) [] parts.types.items nothing sources parts.files.items refl refl
    (subst (λ ts. EachIs IsTypeOf ts parts.types.items) (types_declared nothing sources) are.types)
    (subst (λ ws. EachIs IsFileOf ws parts.files.items) (files_declared nothing sources) are.files)
    (uncalled parts parts.files.items sound.packages) shallow
