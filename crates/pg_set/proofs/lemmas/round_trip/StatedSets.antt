-- What files state is a schema that is read again, messages nested at most 100 deep.
use Rattle.std.proofs.Common.{◌≡◌, ℕ, ℤ, zero, suc, Bool, true, false, cond, ◌&&◌, List, [], ◌∷◌, ◌++◌, flat_map, length, map, Option, Some, None, option_map, refl, ap, sym, subst, ◌∙◌, rules}
use Rattle.std.proofs.lemmas.List.{length-map}
use Rattle.std.proofs.lemmas.List.Folds.{list_all-map}
use Rattle.std.proofs.lemmas.Option.{none-some, same_Some}
use Rattle.std.specs.Bool.{⊤}
use Rattle.std.specs.Prelude.{IsSomeAnd}
use Rattle.std.specs.List.{AllByRecursion, list_all}
use Rattle.std.specs.Option.{option_and_then}
use Rattle.std.specs.Str.{bytes_eq}
use Rattle.pg_schema.specs.declared.parts.file.File.{File}
use Rattle.pg_schema.specs.declared.parts.file.Import.{Import}
use Rattle.pg_schema.specs.declared.parts.message_type.MessageType.{MessageType}
use Rattle.pg_schema.specs.declared.parts.Parts.{Parts}
use Rattle.pg_schema.specs.rules.Pairs.{are_distinct}
use Rattle.pg_schema.specs.rules.TextSets.{is_among}
use Rattle.pg_schema.proofs.lemmas.rules.PairLemmas.{and_both, and_left, and_right}
use Rattle.pg_dyn.specs.message.Message.{Message}
use Rattle.pg_dyn.specs.reading.Decoding.{dec}
use Rattle.pg_dyn.proofs.Lists.{and_then_some, option_map_some}
use Rattle.pg_schema.specs.standing.Imports.{AreBehind, file_name, imports_apart}
use Rattle.pg_schema.specs.standing.Places.{most_deep, places_from}
use Rattle.pg_set.specs.declared.descriptor.proto.TheConstants as proto
use Rattle.pg_set.specs.round_trip.Readable.{IsReadable}
use Rattle.pg_set.specs.round_trip.SetOrder.{SetsAreReadAgain}
use Rattle.pg_set.specs.descriptor.Descriptor.{enum_id, file_set, type_id, written_shape}
use Rattle.pg_set.specs.stated.Numbering.{Counts, PlacedType, behind_file, file_places, no_counts, placed_files, types_of_files}
use Rattle.pg_set.specs.stated.Outlines.{file_enums, file_services, file_types}
use Rattle.pg_set.specs.stated.PostOrder.{importer_of, imports_at, imports_once, kept_paths, paths_of}
use Rattle.pg_set.specs.stated.SetMessages.{numbers_at, text_at, texts_at}
use Rattle.pg_set.specs.stated.FileMessages.{kept_files, kept_imports, skips}
use Rattle.pg_set.specs.stated.Reads.{fds_reads}
use Rattle.pg_set.specs.stated.Stated.{are_taken, declared_by, parts_by, parts_of, stated, stated_of}
use Rattle.pg_set.specs.stated.StatedEnums.{enum_type}
use Rattle.pg_set.specs.stated.StatedFiles.{file, file_of, has_public_places, import_seen}
use Rattle.pg_set.specs.stated.StatedNames.{NameLookup, each}
use Rattle.pg_set.specs.stated.StatedOrder.{file_at, in_post_order, paths_in_post_order, visit}
use Rattle.pg_set.specs.stated.StatedServices.{service}
use Rattle.pg_set.specs.stated.StatedTable.{may_declare, meaning}
use Rattle.pg_set.specs.stated.StatedTypes.{declared_fields, message_type, type_of}
use Rattle.pg_set.specs.stated.Views.{FileView, ImportView, PartsView, TypeView, enum_view, file_view, import_view, parts_view, service_view, type_view}
use Rattle.pg_set.proofs.lemmas.round_trip.ListedFiles.{AllFollow, all_follow}
use Rattle.pg_set.proofs.lemmas.round_trip.StatedPlaces.{ArePlaced, FilesNext, Keep, files_next, types_long}
use Rattle.pg_set.proofs.lemmas.order.Visited.{Among, Text, same_bytes}
use Rattle.pg_set.proofs.lemmas.order.VisitLaws.{visit_lists}
use Rattle.pg_set.proofs.lemmas.refusals.Steps.{only_some}
use Rattle.pg_set.proofs.lemmas.written.WrittenFiles.{path_of}

-- ---- steps that came to something

-- the first of each, and the rest
each_some : {A B : Type 0} (f : A → Option B) (x : A) (xs : List A) (zs : List B) → each f (x ∷ xs) ≡ Some zs → (y : B) × (ys : List B) × (f x ≡ Some y) × (each f xs ≡ Some ys) × (y ∷ ys ≡ zs)
each_some f x xs zs h = search (rules, and_then_some, option_map, option_map_some)

same_first : {A : Type 0} (x y : A) (xs ys : List A) → x ∷ xs ≡ y ∷ ys → x ≡ y
same_first x y xs ys is = cc

same_later : {A : Type 0} (x y : A) (xs ys : List A) → x ∷ xs ≡ y ∷ ys → xs ≡ ys
same_later x y xs ys is = cc

each_long : {A B : Type 0} (f : A → Option B) (xs : List A) (ys : List B) → each f xs ≡ Some ys → length ys ≡ length xs
each_long f [] ys h = ap length (sym (same_Some [] ys h))
each_long f (x ∷ xs) zs h =
    let (y, ys, is, are, same) = each_some f x xs zs h in
    ap length (sym same) ∙ ap suc (each_long f xs ys are)

-- ---- message types

types_placed : (means : NameLookup) (whole : List PlacedType) (all : List MessageType) → each (message_type means) whole ≡ Some (map type_view all) → ArePlaced all whole
types_placed means [] all h place p at = absurd (none-some p at)
types_placed means (q ∷ whole) [] h place p at =
    let (y, ys, is, are, same) = each_some (message_type means) q whole [] h in
    absurd (cc)
types_placed means (q ∷ whole) (t ∷ all) h zero p at =
    let (y, ys, is, are, same) = each_some (message_type means) q whole (map type_view (t ∷ all)) h in
    let (fields, there, made) = option_map_some (type_of q) (declared_fields means q.named) y is in
    let view : type_of q fields ≡ type_view t = made ∙ same_first y (type_view t) ys (map type_view all) same in
    let found : q ≡ p = same_Some q p at in (
      t,
      refl,
      sym (ap (λ (v : TypeView). v.nested_types) view) ∙ ap (λ (x : PlacedType). map type_id x.types) found,
      sym (ap (λ (v : TypeView). v.nested_enums) view) ∙ ap (λ (x : PlacedType). map enum_id x.enums) found,
    )
types_placed means (q ∷ whole) (t ∷ all) h (suc place) p at =
    let (y, ys, is, are, same) = each_some (message_type means) q whole (map type_view (t ∷ all)) h in
    types_placed means whole all (are ∙ ap Some (same_later y (type_view t) ys (map type_view all) same)) place p at

-- ---- files

-- the schema's files have the names of these messages, and the imports that are kept of them
abbrev AreNamed : (skips : Bool) → List Message → List File → Type 0
AreNamed skips [] [] = ⊤
AreNamed skips [] (f ∷ fs) = ⊥
AreNamed skips (m ∷ ms) [] = ⊥
AreNamed skips (m ∷ ms) (f ∷ fs) =
    ((file_name f ≡ text_at proto.FILE_NAME m) × (map path_of f.imports.items ≡ kept_paths skips (texts_at proto.FILE_DEPENDENCY m))) × AreNamed skips ms fs

view_paths : (is : List Import) → map (λ (v : ImportView). v.path) (map import_view is) ≡ map path_of is
view_paths [] = refl
view_paths (i ∷ is) = ap (λ ps. path_of i ∷ ps) (view_paths is)

kept_seen : (skips : Bool) (public : List ℤ) (place : ℕ) (paths : List (List ℕ)) → map (λ (v : ImportView). v.path) (map import_seen (kept_imports skips public place paths)) ≡ kept_paths skips paths
kept_seen skips public place [] = refl
kept_seen skips public place (p ∷ paths) = search (rules, kept_seen skips public (suc place) paths)

module _ (skips : Bool) (depth : ℕ) where
  files_placed : (counts : Counts) (ms : List Message) (fs : List File) → each (file skips) (placed_files depth counts ms) ≡ Some (map file_view fs)
      → Keep fs (placed_files depth counts ms) × AreNamed skips ms fs
  files_placed counts [] [] h = (tt, tt)
  files_placed counts [] (f ∷ fs) h = absurd (cc)
  files_placed counts (m ∷ ms) [] h = search (rules, each_some)
  files_placed counts (m ∷ ms) (f ∷ fs) h =
      let p = file_places depth counts m in
      let (y, ys, is, are, same) = each_some (file skips) p (placed_files depth (behind_file depth counts m) ms) (map file_view (f ∷ fs)) h in
      let made = only_some (has_public_places m) (Some (file_of skips p)) y is in
      let view : file_of skips p ≡ file_view f = same_Some (file_of skips p) y made.1 ∙ same_first y (file_view f) ys (map file_view fs) same in
      let later = files_placed (behind_file depth counts m) ms fs (are ∙ ap Some (same_later y (file_view f) ys (map file_view fs) same)) in (
        ((sym (ap (λ (v : FileView). v.types) view), sym (ap (λ (v : FileView). v.enums) view), sym (ap (λ (v : FileView). v.services) view)), later.0),
        (
          (
            sym (ap (λ (v : FileView). v.name) view),
            sym (view_paths f.imports.items) ∙ (sym (ap (λ (v : FileView). map (λ (i : ImportView). i.path) v.imports) view)
                ∙ kept_seen skips (numbers_at proto.FILE_PUBLIC_DEPENDENCY m) 0 (texts_at proto.FILE_DEPENDENCY m)),
          ),
          later.1,
        ),
      )

-- ---- the order of files

module _ (skips : Bool) where
  found_imports : (x : Text) (files : List Message) (m : Message) → file_at files x ≡ Some m
      → (text_at proto.FILE_NAME m ≡ x) × (imports_at (map (importer_of skips) files) x ≡ Some (kept_paths skips (texts_at proto.FILE_DEPENDENCY m)))
  found_imports x [] m is = absurd (none-some m is)
  found_imports x (n ∷ files) m is = search (rules, found_imports x files m, option_map, same_Some, same_bytes)

  found_once : (x : Text) (files : List Message) (m : Message) → list_all imports_once (map (importer_of skips) files) ≡ true → file_at files x ≡ Some m
      → are_distinct (kept_paths skips (texts_at proto.FILE_DEPENDENCY m)) ≡ true
  found_once x [] m once is = absurd (none-some m is)
  found_once x (n ∷ files) m once is = of (bytes_eq (text_at proto.FILE_NAME n) x) is (found_once x files m (and_right (imports_once (importer_of skips n)) (list_all imports_once (map (importer_of skips) files)) once))
    where
      of : (b : Bool) → cond b (Some n) (file_at files x) ≡ Some m → (file_at files x ≡ Some m → are_distinct (kept_paths skips (texts_at proto.FILE_DEPENDENCY m)) ≡ true)
          → are_distinct (kept_paths skips (texts_at proto.FILE_DEPENDENCY m)) ≡ true
      of true h later =
          subst (λ o. are_distinct (kept_paths skips (texts_at proto.FILE_DEPENDENCY o)) ≡ true) (same_Some n m h)
          (and_left (imports_once (importer_of skips n)) (list_all imports_once (map (importer_of skips) files)) once)
      of false h later = later h

  all_among : (names own : List Text) → AllByRecursion (Among names) own → list_all (is_among names) own ≡ true
  all_among names [] all = refl
  all_among names (x ∷ own) all = and_both (is_among names x) (list_all (is_among names) own) all.0 (all_among names own all.1)

  module _ (files : List Message) (once : list_all imports_once (map (importer_of skips) files) ≡ true) where
    files_behind : (names paths : List Text) (ms : List Message) (fs : List File) → AllFollow (imports_at (map (importer_of skips) files)) names paths → each (file_at files) paths ≡ Some ms → AreNamed skips ms fs
        → AreBehind names fs × (list_all imports_apart fs ≡ true)
    files_behind names [] [] [] follow there named = (tt, refl)
    files_behind names [] [] (f ∷ fs) follow there named = absurd named
    files_behind names [] (m ∷ ms) fs follow there named = absurd (cc)
    files_behind names (x ∷ paths) ms [] follow there named = search (rules, each_some)
    files_behind names (x ∷ paths) ms (f ∷ fs) follow there named =
        let (m, later, is, are, same) = each_some (file_at files) x paths ms there in
        let (here, behind) = subst (λ ns. AreNamed skips ns (f ∷ fs)) (sym same) named in
        let found = found_imports x files m is in
        let called : file_name f ≡ x = here.0 ∙ found.0 in
        let (own, leads, among, new) = follow.0 in
        let imported : map path_of f.imports.items ≡ own = here.1 ∙ same_Some (kept_paths skips (texts_at proto.FILE_DEPENDENCY m)) own (sym found.1 ∙ leads) in
        let rest = files_behind (names ++ x ∷ []) paths later fs follow.1 are behind in (
          (
            sym (list_all-map (is_among names) path_of f.imports.items) ∙ (ap (list_all (is_among names)) imported ∙ all_among names own among),
            ap (is_among names) called ∙ new,
            subst (λ n. AreBehind (names ++ n ∷ []) fs) (sym called) rest.0,
          ),
          and_both (imports_apart f) (list_all imports_apart fs) (ap are_distinct here.1 ∙ found_once x files m once is) rest.1,
        )

-- ---- all of it

module _ (skips : Bool) (files : List Message) (parts : Parts) where
  abbrev all : List MessageType
  all = parts.types.items

  in_order : (ordered : List Message) → in_post_order skips files ≡ Some ordered → AreNamed skips ordered parts.files.items → AreBehind [] parts.files.items × (list_all imports_apart parts.files.items ≡ true)
  in_order ordered is named =
      let importers = map (importer_of skips) files in
      let (paths, there, found) = and_then_some (each (file_at files)) (paths_in_post_order importers) ordered is in
      let (once, visited) = only_some (are_distinct (paths_of importers) && list_all imports_once importers) (visit (length importers) (imports_at importers) [] (paths_of importers)) paths there in
      files_behind skips files (and_right (are_distinct (paths_of importers)) (list_all imports_once importers) once) [] paths ordered parts.files.items
      (all_follow (imports_at importers) (paths_of importers) paths (visit_lists (imports_at importers) (length importers) [] (paths_of importers) paths visited)) found named

  -- what is declared has indices that follow one another, and the files have the names and imports of these messages
  record AreMade (depth : ℕ) (ordered : List Message) : Type 0 where
    next : FilesNext all depth no_counts ordered parts.files.items
    named : AreNamed skips ordered parts.files.items
    types : length (flat_map (file_types depth) ordered) ≡ length all
    enums : length (flat_map (file_enums depth) ordered) ≡ length parts.enums.items
    services : length (flat_map file_services ordered) ≡ length parts.services.items

  are_made : (means : NameLookup) (depth : ℕ) (ordered : List Message)
      → parts_by means skips (placed_files depth no_counts ordered) (types_of_files depth no_counts ordered) (flat_map (file_enums depth) ordered) (flat_map file_services ordered) ≡ Some (parts_view parts)
      → AreMade depth ordered
  are_made means depth ordered h =
      let whole = types_of_files depth no_counts ordered in
      let enum_rows = flat_map (file_enums depth) ordered in
      let services = flat_map file_services ordered in
      let (made, files_are, rest) =
      and_then_some (λ made. option_and_then (λ named. option_map (λ called. parts_of named (map enum_type enum_rows) called made) (each (service means) services)) (each (message_type means) whole))
      (each (file skips) (placed_files depth no_counts ordered)) (parts_view parts) h in
      let (named, types_are, last) =
      and_then_some (λ named. option_map (λ called. parts_of named (map enum_type enum_rows) called made) (each (service means) services)) (each (message_type means) whole) (parts_view parts) rest in
      let (called, services_are, same) = option_map_some (λ called. parts_of named (map enum_type enum_rows) called made) (each (service means) services) (parts_view parts) last in
      let of_files : each (file skips) (placed_files depth no_counts ordered) ≡ Some (map file_view parts.files.items) = files_are ∙ ap (λ (v : PartsView). Some v.files) same in
      let of_types : each (message_type means) whole ≡ Some (map type_view all) = types_are ∙ ap (λ (v : PartsView). Some v.types) same in
      let of_services : each (service means) services ≡ Some (map service_view parts.services.items) = services_are ∙ ap (λ (v : PartsView). Some v.services) same in
      let of_enums : map enum_type enum_rows ≡ map enum_view parts.enums.items = ap (λ (v : PartsView). v.enums) same in
      let both = files_placed skips depth no_counts ordered parts.files.items of_files in
      record {
        next = files_next all whole (types_placed means whole all of_types) depth no_counts ordered parts.files.items [] refl refl both.0;
        named = both.1;
        types = sym (types_long depth no_counts ordered) ∙ (sym (each_long (message_type means) whole (map type_view all) of_types) ∙ length-map all type_view);
        enums = sym (length-map enum_rows enum_type) ∙ (ap length of_enums ∙ length-map parts.enums.items enum_view);
        services = sym (each_long (service means) services (map service_view parts.services.items) of_services) ∙ length-map parts.services.items service_view;
      }

  pub stated_readable : stated_of skips files ≡ Some (parts_view parts) → IsReadable parts
  stated_readable h =
      let (ordered, is, declared) = and_then_some (declared_by skips) (in_post_order skips files) (parts_view parts) h in
      let types = flat_map (file_types most_deep) ordered in
      let enums = flat_map (file_enums most_deep) ordered in
      let made =
      are_made (meaning types enums) most_deep ordered
      (only_some (may_declare most_deep ordered)
      (parts_by (meaning types enums) skips (placed_files most_deep no_counts ordered) (types_of_files most_deep no_counts ordered) enums (flat_map file_services ordered)) (parts_view parts) declared).1 in
      let behind = in_order ordered is made.named in
      record {
        imports_once = behind.1;
        behind = behind.0;
        places = record {
          types = made.next.types ∙ ap (places_from 0) made.types;
          enums = made.next.enums ∙ ap (places_from 0) made.enums;
          services = made.next.services ∙ ap (places_from 0) made.services;
        };
        shallow = made.next.shallow;
      }

-- the schema that the bytes of a set state
pub reads_readable : (bytes : List ℕ) (parts : Parts) → fds_reads bytes parts → IsReadable parts
reads_readable bytes parts reads = of (dec written_shape file_set bytes) reads
  where
    of : (o : Option Message) → IsSomeAnd o (λ set. stated set ≡ Some (parts_view parts)) → IsReadable parts
    of None h = absurd h
    of (Some set) h =
        stated_readable (skips set) (kept_files set) parts (only_some (are_taken (kept_files set)) (stated_of (skips set) (kept_files set)) (parts_view parts) h).1

pub sets_again : SetsAreReadAgain
sets_again bytes parts reads shallow = search (rules, reads_readable)
