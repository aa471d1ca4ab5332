-- The order of a set's files is a function: their post-order, where they have one.
use Rattle.std.proofs.Common.{◌≡◌, ℕ, ◌<◌, ◌⊎◌, inl, inr, Bool, true, false, ◌&&◌, List, [], ◌∷◌, map, length, Option, Some, None, option_map, slice_get, Result, Ok, Err, IfOk, IfErr, refl, ap, ap₂, sym, subst, ◌∙◌, Vec, Global, rules}
use Rattle.std.proofs.lemmas.List.{length-map}
use Rattle.std.proofs.lemmas.Option.{slice_get-map}
use Rattle.std.specs.List.{AllByRecursion, cons_option, list_all}
use Rattle.std.specs.Option.{option_and_then, unwrap_or}
use Rattle.pg_schema.specs.rules.Pairs.{are_distinct}
use Rattle.pg_schema.specs.standing.Places.{places_from}
use Rattle.pg_schema.proofs.lemmas.rules.PairLemmas.{and_both, and_false_right}
use Rattle.pg_dyn.specs.message.Kept.{Kept, message_of}
use Rattle.pg_dyn.specs.message.Message.{Message}
use Rattle.pg_set.specs.declared.error.Unstated.{Unstated}
use Rattle.pg_set.specs.declared.error.Unstated.TheVariants as errors
use Rattle.pg_set.specs.inner.reading.FilePlaces.{ImportsAt, name_at, HasNoOrder, IsPostOrder}
use Rattle.pg_set.specs.inner.reading.Walks.{AreWithin, Falls, Walks, lists_of}
use Rattle.pg_set.specs.inner.reading.OutlinedRows.{files_at}
use Rattle.pg_set.specs.stated.PostOrder.{Importer, importer_of, imports_at, imports_once, paths_of}
use Rattle.pg_set.specs.stated.SetMessages.{text_at}
use Rattle.pg_set.specs.stated.StatedNames.{each, only_if}
use Rattle.pg_set.specs.stated.StatedOrder.{file_at, in_post_order, paths_in_post_order, visit}
use Rattle.pg_set.proofs.lemmas.lists.Zips.{seen_length}
use Rattle.pg_set.proofs.lemmas.order.SetLaws.{paths_are}
use Rattle.pg_set.proofs.lemmas.order.VisitLaws.{lists_visit, visit_lists}
use Rattle.pg_set.proofs.lemmas.order.Visited.{Text, found_at, is_file}
use Rattle.pg_set.proofs.lemmas.order.Ordering.{as_many, in_order, no_ranks, of_files, there, within_count}
use Rattle.pg_set.proofs.lemmas.order.Walking.{lists_long}

-- ---- paths

pub paths_ordered : (files : List Importer) (paths : List Text) → are_distinct (paths_of files) ≡ true → list_all imports_once files ≡ true → IsPostOrder files paths
    → paths_in_post_order files ≡ Some paths
paths_ordered files paths once imports order = search (rules, and_both, length-map, lists_visit, is_file)

pub no_paths : (files : List Importer) → HasNoOrder files → paths_in_post_order files ≡ None
no_paths files (inl twice) = ap (λ b. only_if (b && list_all imports_once files) (visit (length files) (imports_at files) [] (paths_of files))) twice
no_paths files (inr (inl twice)) = search (rules, and_false_right)
no_paths files (inr (inr none)) =
    ap (only_if (are_distinct (paths_of files) && list_all imports_once files)) (of (visit (length files) (imports_at files) [] (paths_of files)) refl)
    ∙ still (are_distinct (paths_of files) && list_all imports_once files)
  where
    still : (b : Bool) → only_if {A = List Text} b None ≡ None
    still true = refl
    still false = refl

    of : (o : Option (List Text)) → visit (length files) (imports_at files) [] (paths_of files) ≡ o → o ≡ None
    of None e = refl
    of (Some paths) e = absurd (none paths (visit_lists (imports_at files) (length files) [] (paths_of files) paths e))

-- ---- the files of these paths

abbrev pub name : Message → Text
name m = text_at 1 m

-- where names occur once, a file is the one of its name
pub file_named : (files : List Message) (place : ℕ) (m : Message) → are_distinct (map name files) ≡ true → slice_get files place ≡ Some m → file_at files (name m) ≡ Some m
file_named files place m once is = found_at name files place m once is

abbrev pub IsFile : List Message → Message → Type 0
IsFile files m = file_at files (name m) ≡ Some m

each_file : (files listed : List Message) → AllByRecursion (IsFile files) listed → each (file_at files) (map name listed) ≡ Some listed
each_file files [] are = refl
each_file files (m ∷ listed) are = search (rules, each_file files listed are.1, option_map)

-- files at indices have the names there
files_named : (files : List Message) (places : List ℕ) → are_distinct (map name files) ≡ true → AllByRecursion (λ place. place < length files) places
    → (map (name_at (map name files)) places ≡ map name (files_at files places)) × AllByRecursion (IsFile files) (files_at files places)
files_named files [] once within = (refl, tt)
files_named files (p ∷ places) once within =
    let (m, found) = there files p within.0 in
    let named : name_at (map name files) p ≡ name m = ap (λ o. unwrap_or o []) (slice_get-map name files p ∙ ap (option_map name) found) in
    let later = files_named files places once within.1 in
    subst (λ o. (name_at (map name files) p ∷ map (name_at (map name files)) places ≡ map name (cons_option o (files_at files places))) × AllByRecursion (IsFile files) (cons_option o (files_at files places)))
    (sym found) (ap₂ (λ n ns. n ∷ ns) named later.0, (file_named files p m once found, later.1))

-- ---- the files in order

-- files of which the names are in post-order
pub files_ordered : (skips : Bool) (files listed : List Message) → are_distinct (paths_of (map (importer_of skips) files)) ≡ true → list_all imports_once (map (importer_of skips) files) ≡ true
    → IsPostOrder (map (importer_of skips) files) (map name listed) → AllByRecursion (IsFile files) listed → in_post_order skips files ≡ Some listed
files_ordered skips files listed once imports order are = search (rules, paths_ordered, each_file)

-- the files at indices in post-order
order_is : (skips : Bool) (files : List Message) (places : List ℕ) → are_distinct (paths_of (map (importer_of skips) files)) ≡ true
    → list_all imports_once (map (importer_of skips) files) ≡ true → IsPostOrder (map (importer_of skips) files) (map (name_at (paths_of (map (importer_of skips) files))) places)
    → AllByRecursion (λ place. place < length files) places → in_post_order skips files ≡ Some (files_at files places)
order_is skips files places once imports order within = search (rules, files_named, paths_are, files_ordered)

pub no_order : (skips : Bool) (files : List Message) → HasNoOrder (map (importer_of skips) files) → in_post_order skips files ≡ None
no_order skips files none = ap (option_and_then (each (file_at files))) (no_paths (map (importer_of skips) files) none)

-- ---- of a walk over indices

module _ (skips : Bool) (kept : List Kept) (is : List Importer) (same : is ≡ map (importer_of skips) (map message_of kept)) where
  abbrev files : List Message
  files = map message_of kept

  pub none_ordered : HasNoOrder is → in_post_order skips files ≡ None
  none_ordered none = no_order skips files (subst HasNoOrder same none)

  module _ (imported items : List (Vec ℕ Global)) (lent : imported ≡ items) (once : are_distinct (paths_of is) ≡ true) (found : ImportsAt is (lists_of items)) where
    abbrev all : List (List ℕ)
    all = lists_of imported

    at : ImportsAt is all
    at = subst (λ vs. ImportsAt is (lists_of vs)) (sym lent) found

    many : length imported ≡ length (paths_of is)
    many = sym (lists_long imported) ∙ as_many (paths_of is) all is at

    pub walk_within : AreWithin (length imported) all
    walk_within = within_count is all once at (length imported) many

    ordered : list_all imports_once is ≡ true → (places : List ℕ) → Walks all [] (places_from 0 (length imported)) places
        → AllByRecursion (λ place. place < length kept) places × (in_post_order skips files ≡ Some (files_at files places))
    ordered imports places walk = (subst Within (few ∙ seen_length kept) within, in_order_of (subst (λ js. IsPostOrder js (map (name_at (paths_of js)) places)) same (in_order is all once at (length imported) places many walk)))
      where
        Within : ℕ → Type 0
        Within n = AllByRecursion (λ place. place < n) places

        few : length is ≡ length files
        few = ap length same ∙ length-map files (importer_of skips)

        within : Within (length is)
        within = of_files is all once at (length imported) places walk

        in_order_of : IsPostOrder (map (importer_of skips) files) (map (name_at (paths_of (map (importer_of skips) files))) places) → in_post_order skips files ≡ Some (files_at files places)
        in_order_of order =
            order_is skips files places (subst (λ js. are_distinct (paths_of js) ≡ true) same once) (subst (λ js. list_all imports_once js ≡ true) same imports) order (subst Within few within)

    -- what is answered, and what is refused
    pub walked : list_all imports_once is ≡ true → (r : Result (Vec ℕ Global) Unstated) → IfOk r (λ order. Walks all [] (places_from 0 (length imported)) order.items)
        → IfErr r (λ e. (e ≡ errors.Memory) ⊎ ((rank : ℕ → ℕ) → Falls rank all → ⊥))
        → IfOk r (λ order. AllByRecursion (λ place. place < length kept) order.items) × IfOk r (λ order. in_post_order skips files ≡ Some (files_at files order.items))
        × IfErr r (λ e. (e ≡ errors.Memory) ⊎ (in_post_order skips files ≡ None))
    walked imports (Ok order) walk refused = let (within, is_so) = ordered imports order.items walk in (within, is_so, tt)
    walked imports (Err e) walk (inl memory) = (tt, tt, inl memory)
    walked imports (Err e) walk (inr round) = (tt, tt, inr (none_ordered (inr (inr (no_ranks is all once at round)))))
