-- The enums of source files come scope by scope, file after file.
use Rattle.std.proofs.Common.{◌≡◌, ◌∙◌, ℕ, zero, suc, ◌+◌, ◌^◌, ◌≤◌, Bool, true, false, cond, not, List, [], ◌∷◌, ◌++◌, map, flat_map, length, Option, Some, None, slice_get, refl, sym, ap, ap₂, subst, arith, length-append, rules}
use Rattle.std.specs.List.{AllByRecursion, list_all}
use Rattle.std.specs.Str.{bytes_eq}
use Rattle.std.proofs.lemmas.Bool.{false≢true}
use Rattle.std.proofs.lemmas.Grind.{flat_map-append}
use Rattle.std.proofs.lemmas.List.{append-nil, append_assoc, length-map, map-append}
use Rattle.std.proofs.lemmas.Slice.Eq.{bytes_eq-Decides}
use Rattle.pg_schema.specs.declared.parts.field.TypeId.{TypeId}
use Rattle.pg_schema.specs.declared.parts.file.File.{File}
use Rattle.pg_schema.specs.declared.parts.message_type.MessageType.{MessageType}
use Rattle.pg_schema.specs.declared.parts.Parts.{Parts}
use Rattle.pg_schema.specs.rules.Pairs.{are_distinct, differ}
use Rattle.pg_schema.specs.rules.Scopes.{enum_places}
use Rattle.pg_schema.specs.rules.Sound.{IsSound}
use Rattle.pg_schema.specs.rules.TextSets.{is_among}
use Rattle.pg_schema.proofs.lemmas.rules.PairLemmas.{and_both, and_left, and_right}
use Rattle.pg_link.specs.declared.uses.target.Target.{Target}
use Rattle.pg_check.specs.parts.ByScope.{Placed, enum_id, placed_from, places_in}
use Rattle.pg_check.specs.parts.MadeEnums.{enumeration, made_enum}
use Rattle.pg_check.specs.parts.MadeParts.{ArePartsOf, Declared, EachIs, IsFileOf, IsTypeOf, Source, TypeTree, file_shape, nothing, placed_enums, placed_messages, type_tree, type_trees, with_file, with_files}
use Rattle.pg_check.specs.rules.Outline.{Enum, Message, enum_in, enum_scope, enum_stated, file_messages, own_enums, package_enums, package_of, scoped_enums, statements_behind}
use Rattle.pg_schema.specs.standing.InOrder.{enums_below, inner_enums, inner_types, types_below}
use Rattle.pg_schema.specs.standing.Nesting.{nest_within}
use Rattle.pg_schema.specs.standing.Places.{places_from}
use Rattle.pg_check.proofs.lemmas.parts.Eachs.{each-length, joined_all}
use Rattle.pg_syntax.specs.declared.tree as tree
use Rattle.pg_syntax.specs.declared.tree.Part.{Part}
use Rattle.pg_syntax.specs.declared.tree.Part.TheVariants as parts
use Rattle.pg_syntax.specs.declared.tree.Statement.TheVariants as statements
use Rattle.pg_check.proofs.lemmas.standing.UniqueNames.{IsUncalled, type_name, types_distinct, uncalled}
use Rattle.pg_check.proofs.lemmas.standing.TreePlaces.{apart, one_place}
use Rattle.pg_check.proofs.lemmas.standing.TypesInOrder.{each_splits, file_apart, file_in_order, files_declared, later_files, later_types, types_declared}
use Rattle.pg_check.proofs.lemmas.standing.Walks.{from_joined, full_of}

-- ---- scopes, each so many times

-- a scope and how much it declares
abbrev Block : Type 0
Block = List ℕ × ℕ

abbrev repeated : ℕ → List ℕ → List (List ℕ)
repeated zero scope = []
repeated (suc n) scope = scope ∷ repeated n scope

abbrev rows : List Block → List (List ℕ)
rows [] = []
rows (b ∷ bs) = repeated b.1 b.0 ++ rows bs

abbrev scopes : List Block → List (List ℕ)
scopes bs = map (λ (b : Block). b.0) bs

abbrev found : List ℕ → ℕ → List (List ℕ) → List ℕ
found scope k rest = places_in scope (placed_from k rest)

one_found : (scope : List ℕ) (k : ℕ) (s : List ℕ) (rest : List (List ℕ)) → found scope k (s ∷ rest) ≡ cond (bytes_eq scope s) (k ∷ found scope (k + 1) rest) (found scope (k + 1) rest)
one_found scope k s rest = search (rules, one_place)

repeated_long : (n : ℕ) (s : List ℕ) → length (repeated n s) ≡ n
repeated_long zero s = refl
repeated_long (suc n) s = ap suc (repeated_long n s)

-- its own are the next ones
own_found : (n : ℕ) (s : List ℕ) (k : ℕ) (rest : List (List ℕ)) → found s k (repeated n s ++ rest) ≡ places_from k n ++ found s (k + n) rest
own_found zero s k rest = let none : k ≡ k + 0 = omega arith in ap (λ n. found s n rest) none
own_found (suc n) s k rest = search (rules, one_found, bytes_eq-Decides, own_found n s (suc k) rest)

-- those of another are passed over
other_found : (n : ℕ) (s other : List ℕ) (k : ℕ) (rest : List (List ℕ)) → bytes_eq s other ≡ false → found s k (repeated n other ++ rest) ≡ found s (k + n) rest
other_found zero s other k rest differs = let none : k ≡ k + 0 = omega arith in ap (λ n. found s n rest) none
other_found (suc n) s other k rest differs =
    let more : (k + 1) + n ≡ k + suc n = omega arith in
    one_found s k other (repeated n other ++ rest)
    ∙ (ap (λ b. cond b (k ∷ found s (k + 1) (repeated n other ++ rest)) (found s (k + 1) (repeated n other ++ rest))) differs
    ∙ (other_found n s other (k + 1) rest differs ∙ ap (λ j. found s j rest) more))

turned : (a b : List ℕ) → not (bytes_eq a b) ≡ true → bytes_eq b a ≡ false
turned a b differs = apart b a (λ same. false≢true (ap not (sym ((bytes_eq-Decides a b).1 (sym same))) ∙ differs))

none_found : (s : List ℕ) (k : ℕ) (bs : List Block) → list_all (differ s) (scopes bs) ≡ true → found s k (rows bs) ≡ []
none_found s k [] differs = refl
none_found s k (b ∷ bs) differs = search (rules, other_found, was_not, and_left, and_right, none_found s (k + b.1) bs (and_right (differ s b.0) (list_all (differ s) (scopes bs)) differs))
  where
    was_not : (b : Bool) → not b ≡ true → b ≡ false
    was_not true is = absurd (false≢true is)
    was_not false is = refl

-- after one scope the others find what is theirs
others_found : (n : ℕ) (s : List ℕ) (k : ℕ) (rest : List (List ℕ)) (cs : List Block) → list_all (differ s) (scopes cs) ≡ true
    → flat_map (λ (c : Block). found c.0 k (repeated n s ++ rest)) cs ≡ flat_map (λ (c : Block). found c.0 (k + n) rest) cs
others_found n s k rest [] differs = refl
others_found n s k rest (c ∷ cs) differs = search (rules, other_found, turned, and_left, and_right, others_found n s k rest cs (and_right (differ s c.0) (list_all (differ s) (scopes cs)) differs))

-- scope by scope, one index after the other
in_order : (k : ℕ) (bs : List Block) → are_distinct (scopes bs) ≡ true → flat_map (λ (b : Block). found b.0 k (rows bs)) bs ≡ places_from k (length (rows bs))
in_order k [] once = refl
in_order k (b ∷ bs) once =
    let s = b.0 in
    let n = b.1 in
    let differs : list_all (differ s) (scopes bs) ≡ true = and_left (list_all (differ s) (scopes bs)) (are_distinct (scopes bs)) once in
    let long : length (repeated n s ++ rows bs) ≡ n + length (rows bs) = length-append (repeated n s) (rows bs) ∙ ap (λ m. m + length (rows bs)) (repeated_long n s) in
    let own : found s k (repeated n s ++ rows bs) ≡ places_from k n =
    own_found n s k (rows bs) ∙ (ap (λ ps. places_from k n ++ ps) (none_found s (k + n) bs differs) ∙ append-nil (places_from k n)) in
    let others : flat_map (λ (c : Block). found c.0 k (repeated n s ++ rows bs)) bs ≡ places_from (k + n) (length (rows bs)) =
    others_found n s k (rows bs) bs differs
    ∙ in_order (k + n) bs (and_right (list_all (differ s) (scopes bs)) (are_distinct (scopes bs)) once) in
    ap₂ (λ xs ys. xs ++ ys) own others ∙ (from_joined k n (length (rows bs)) ∙ ap (places_from k) (sym long))

-- ---- the enums of a file

abbrev block : Message → Block
block m = (m.full, length (own_enums m))

abbrev blocks : tree.FileTree.FileTree → List Block
blocks file = (package_of file, length (package_enums file)) ∷ map block (file_messages file)

abbrev Stands : List ℕ → Enum → Type 0
Stands scope e = e.scope ≡ scope

all_repeated : (scope : List ℕ) (es : List Enum) → AllByRecursion (Stands scope) es → map enum_scope es ≡ repeated (length es) scope
all_repeated scope [] stand = refl
all_repeated scope (e ∷ es) stand = ap₂ (λ s ss. s ∷ ss) stand.0 (all_repeated scope es stand.1)

body_stands : (scope : List ℕ) (ps : List Part) → AllByRecursion (Stands scope) (flat_map (enum_in scope) ps)
body_stands scope [] = tt
body_stands scope (p ∷ ps) = search (rules, joined_all, flat_map, body_stands scope ps)

statements_stand : (scope : List ℕ) (ss : List tree.Statement.Statement) → AllByRecursion (Stands scope) (flat_map (enum_stated scope) ss)
statements_stand scope [] = tt
statements_stand scope (s ∷ ss) = search (rules, joined_all, flat_map, statements_stand scope ss)

own_rows : (ms : List Message) → map enum_scope (flat_map own_enums ms) ≡ rows (map block ms)
own_rows [] = refl
own_rows (m ∷ ms) =
    map-append enum_scope (own_enums m) (flat_map own_enums ms) ∙ ap₂ (λ xs ys. xs ++ ys) (all_repeated m.full (own_enums m) (body_stands m.full m.body)) (own_rows ms)

scoped_rows : (file : tree.FileTree.FileTree) → map enum_scope (scoped_enums file) ≡ rows (blocks file)
scoped_rows file =
    let scope = package_of file in
    let front = flat_map (enum_stated scope) file.statements.items in
    let behind = flat_map (enum_stated scope) (statements_behind file.packaged) in
    map-append enum_scope (package_enums file) (flat_map own_enums (file_messages file))
    ∙ ap₂ (λ xs ys. xs ++ ys)
    (all_repeated scope (package_enums file) (joined_all (Stands scope) front behind (statements_stand scope file.statements.items) (statements_stand scope (statements_behind file.packaged))))
    (own_rows (file_messages file))

unlike : (scope : List ℕ) (names : List (List ℕ)) → is_among names scope ≡ false → list_all (differ scope) names ≡ true
unlike scope [] none = refl
unlike scope (n ∷ names) none = search (rules, false≢true, unlike scope names)

scopes_are : (ms : List Message) → scopes (map block ms) ≡ map full_of ms
scopes_are [] = refl
scopes_are (m ∷ ms) = ap (λ ns. m.full ∷ ns) (scopes_are ms)

blocks_found : (k : ℕ) (rest : List (List ℕ)) (ms : List Message) → flat_map (λ (b : Block). found b.0 k rest) (map block ms) ≡ flat_map (λ (m : Message). found m.full k rest) ms
blocks_found k rest [] = refl
blocks_found k rest (m ∷ ms) = ap (λ ps. found m.full k rest ++ ps) (blocks_found k rest ms)

file_found : (k : ℕ) (file : tree.FileTree.FileTree) → are_distinct (map full_of (file_messages file)) ≡ true → is_among (map full_of (file_messages file)) (package_of file) ≡ false
    → places_in (package_of file) (placed_enums k file) ++ flat_map (λ (m : Message). places_in m.full (placed_enums k file)) (file_messages file) ≡ places_from k (length (scoped_enums file))
file_found k file once uncalled =
    let ms = file_messages file in
    let same = scoped_rows file in
    let long : length (scoped_enums file) ≡ length (rows (blocks file)) = sym (length-map (scoped_enums file) enum_scope) ∙ ap length same in
    let names : are_distinct (scopes (blocks file)) ≡ true =
    ap (λ ns. are_distinct (package_of file ∷ ns)) (scopes_are ms) ∙ and_both (list_all (differ (package_of file)) (map full_of ms)) (are_distinct (map full_of ms)) (unlike (package_of file) (map full_of ms) uncalled) once in
    ap (λ ss. found (package_of file) k ss ++ flat_map (λ (m : Message). found m.full k ss) ms) same
    ∙ (ap (λ ps. found (package_of file) k (rows (blocks file)) ++ ps) (sym (blocks_found k (rows (blocks file)) ms))
    ∙ (in_order k (blocks file) names ∙ ap (places_from k) (sym long)))

-- ---- the enums of message types, one after the other

abbrev own_at : Option MessageType → List ℕ
own_at None = []
own_at (Some t) = enum_places t.nested_enums.items

module _ (types : List MessageType) where
  abbrev enums_at : ℕ → List ℕ
  enums_at k = own_at (slice_get types k)

  abbrev AreFlat : ℕ → Type 0
  AreFlat depth = (ids : List TypeId) → enums_below depth types ids ≡ flat_map enums_at (types_below depth types ids)

  one_flat : (depth : ℕ) → AreFlat depth → (o : Option MessageType) → inner_enums (enums_below depth types) o ≡ own_at o ++ flat_map enums_at (inner_types (types_below depth types) o)
  one_flat depth deeper o = grind arith

  each_flat : (depth : ℕ) → AreFlat depth → (ids : List TypeId) → enums_below (suc depth) types ids ≡ flat_map enums_at (types_below (suc depth) types ids)
  each_flat depth deeper [] = refl
  each_flat depth deeper (id ∷ ids) =
      let inside = inner_types (types_below depth types) (slice_get types id.index) in
      ap₂ (λ xs ys. xs ++ ys) (one_flat depth deeper (slice_get types id.index)) (each_flat depth deeper ids)
      ∙ sym (flat_map-append enums_at (id.index ∷ inside) (types_below (suc depth) types ids))

  are_flat : (depth : ℕ) → AreFlat depth
  are_flat zero ids = refl
  are_flat (suc depth) ids = each_flat depth (are_flat depth) ids

abbrev type_enums : MessageType → List ℕ
type_enums t = enum_places t.nested_enums.items

-- those of the message types that are from an index on
taken_from : (front own back : List MessageType) → flat_map (enums_at (front ++ (own ++ back))) (places_from (length front) (length own)) ≡ flat_map type_enums own
taken_from front [] back = refl
taken_from front (t ∷ own) back =
    let long : length (front ++ t ∷ []) ≡ suc (length front) = length-append front (t ∷ []) ∙ omega arith in
    let same : front ++ (t ∷ own ++ back) ≡ (front ++ t ∷ []) ++ (own ++ back) = sym (append_assoc front (t ∷ []) (own ++ back)) in
    ap₂ (λ xs ys. xs ++ ys) (ap own_at (there front t (own ++ back)))
    (ap₂ (λ ts k. flat_map (enums_at ts) (places_from k (length own))) same (sym long) ∙ taken_from (front ++ t ∷ []) own back)
  where
    there : (front : List MessageType) (t : MessageType) (back : List MessageType) → slice_get (front ++ t ∷ back) (length front) ≡ Some t
    there [] t back = refl
    there (x ∷ front) t back = there front t back

ids_back : (ps : List ℕ) → enum_places (map enum_id ps) ≡ ps
ids_back [] = refl
ids_back (p ∷ ps) = ap (λ qs. p ∷ qs) (ids_back ps)

made_enums : (targets : ℕ → Option Target) (types enums : List Placed) (ms : List Message) (ts : List MessageType) → EachIs IsTypeOf (map (type_tree targets types enums) ms) ts
    → flat_map type_enums ts ≡ flat_map (λ (m : Message). places_in m.full enums) ms
made_enums targets types enums [] [] each = refl
made_enums targets types enums [] (t ∷ ts) each = absurd each
made_enums targets types enums (m ∷ ms) [] each = absurd each
made_enums targets types enums (m ∷ ms) (t ∷ ts) each = search (rules, ids_back, made_enums targets types enums ms ts each.1)

-- ---- file after file

abbrev in_scopes : (depth : ℕ) → List MessageType → File → List ℕ
in_scopes depth types f = enum_places f.enums.items ++ enums_below depth types f.types.items

abbrev later_enums : List Source → List Enum
later_enums ss = flat_map (λ (s : Source). scoped_enums s.tree) ss

module _ (depth : ℕ) (types : List MessageType) (few : length types ≤ 2 ^ 32) (once : are_distinct (map type_name types) ≡ true) where
  file_enums_in_order : (front own back : List MessageType) (d : Declared) (s : Source) (f : File) → types ≡ front ++ (own ++ back) → length front ≡ length d.types
      → EachIs IsTypeOf (type_trees (length d.types) (length d.enums) s) own → IsFileOf (file_shape (length d.types) (length d.enums) (length d.services) s) f
      → IsUncalled (map type_name types) f → nest_within depth types f.types.items ≡ true
      → in_scopes depth types f ≡ places_from (length d.enums) (length (scoped_enums s.tree))
  file_enums_in_order front own back d s f whole long each is free shallow =
      let ms = file_messages s.tree in
      let all = placed_enums (length d.enums) s.tree in
      let apart = file_apart depth types few once front own back d s f whole each is free in
      let walked : types_below depth types f.types.items ≡ places_from (length d.types) (length own) = file_in_order depth types few once front own back d s f whole long each is free shallow in
      let inside : enums_below depth types f.types.items ≡ flat_map (λ (m : Message). places_in m.full all) ms =
      are_flat types depth f.types.items ∙ (ap (flat_map (enums_at types)) walked
      ∙ (ap₂ (λ ts k. flat_map (enums_at ts) (places_from k (length own))) whole (sym long)
      ∙ (taken_from front own back ∙ made_enums s.targets (placed_messages (length d.types) s.tree) all ms own each))) in
      ap₂ (λ xs ys. xs ++ ys) (ap enum_places is.enums ∙ ids_back (places_in (package_of s.tree) all)) inside
      ∙ file_found (length d.enums) s.tree apart.0 apart.1

  all_enums_in_order : (front back : List MessageType) (d : Declared) (ss : List Source) (fs : List File) → types ≡ front ++ back → length front ≡ length d.types
      → EachIs IsTypeOf (later_types d ss) back → EachIs IsFileOf (later_files d ss) fs → AllByRecursion (IsUncalled (map type_name types)) fs
      → list_all (λ (f : File). nest_within depth types f.types.items) fs ≡ true
      → flat_map (in_scopes depth types) fs ≡ places_from (length d.enums) (length (later_enums ss))
  all_enums_in_order front back d [] [] whole long each are free shallow = refl
  all_enums_in_order front back d [] (f ∷ fs) whole long each are free shallow = absurd are
  all_enums_in_order front back d (s ∷ ss) [] whole long each are free shallow = absurd are
  all_enums_in_order front back d (s ∷ ss) (f ∷ fs) whole long each are free shallow =
      let own : List TypeTree = type_trees (length d.types) (length d.enums) s in
      let found = scoped_enums s.tree in
      let split = each_splits IsTypeOf own (later_types (with_file d s) ss) back each in
      let here : types ≡ front ++ (split.front ++ split.back) = whole ∙ ap (λ ts. front ++ ts) split.splits in
      let further : types ≡ (front ++ split.front) ++ split.back = here ∙ sym (append_assoc front split.front split.back) in
      let longer : length (front ++ split.front) ≡ length (d.types ++ own) =
      length-append front split.front ∙ (ap₂ (λ n k. n + k) long (sym (each-length IsTypeOf own split.front split.each_front)) ∙ sym (length-append d.types own)) in
      let more : length (d.enums ++ map made_enum found) ≡ length d.enums + length found = length-append d.enums (map made_enum found) ∙ ap (λ n. length d.enums + n) (length-map found made_enum) in
      let both : length (found ++ later_enums ss) ≡ length found + length (later_enums ss) = length-append found (later_enums ss) in
      let inside = nest_within depth types f.types.items in
      let later = list_all (λ (g : File). nest_within depth types g.types.items) fs in
      ap₂ (λ xs ys. xs ++ ys) (file_enums_in_order front split.front split.back d s f here long split.each_front are.0 free.0 (and_left inside later shallow))
      (all_enums_in_order (front ++ split.front) split.back (with_file d s) ss fs further longer split.each_back are.1 free.1 (and_right inside later shallow)
      ∙ ap (λ n. places_from n (length (later_enums ss))) more)
      ∙ (from_joined (length d.enums) (length found) (length (later_enums ss)) ∙ ap (places_from (length d.enums)) (sym both))

enums_declared : (d : Declared) (ss : List Source) → length (with_files d ss).enums ≡ length d.enums + length (later_enums ss)
enums_declared d [] = omega arith
enums_declared d (s ∷ ss) = search (rules, length-append, length-map, enums_declared (with_file d s) ss)

-- enums of source files come scope by scope, where message types are nested no deeper than that
pub enums_in_order : (depth : ℕ) (sources : List Source) (parts : Parts) → ArePartsOf sources parts → IsSound parts
    → list_all (λ (f : File). nest_within depth parts.types.items f.types.items) parts.files.items ≡ true
    → flat_map (in_scopes depth parts.types.items) parts.files.items ≡ places_from 0 (length parts.enums.items)
enums_in_order depth sources parts are sound shallow =
    let few = sound.few_types in
    let many : length parts.enums.items ≡ length (with_files nothing sources).enums = sym (length-map parts.enums.items enumeration) ∙ ap length are.enums in
    let counted : length (with_files nothing sources).enums ≡ 0 + length (later_enums sources) = enums_declared nothing sources in
    all_enums_in_order depth parts.types.items (omega (arith, few)) (types_distinct parts sound) [] parts.types.items nothing sources parts.files.items refl refl
    (subst (λ ts. EachIs IsTypeOf ts parts.types.items) (types_declared nothing sources) are.types)
    (subst (λ ws. EachIs IsFileOf ws parts.files.items) (files_declared nothing sources) are.files)
    (uncalled parts parts.files.items sound.packages) shallow
    ∙ ap (places_from 0) (omega (arith, many, counted))
