-- The indices that files state follow one another: message types, enums and services are numbered in the order of a schema that is read again.
use Rattle.std.proofs.Common.{◌≡◌, ℕ, zero, suc, ◌+◌, true, List, [], ◌∷◌, ◌++◌, length, map, flat_map, Some, slice_get, refl, ap, ap₂, sym, subst, ◌∙◌, add-one, arith, rules}
use Rattle.std.proofs.lemmas.List.{append_assoc, length-append, length-map}
use Rattle.std.specs.Bool.{⊤}
use Rattle.std.specs.List.{list_all}
use Rattle.pg_schema.specs.declared.parts.file.File.{File}
use Rattle.pg_schema.specs.declared.parts.message_type.MessageType.{MessageType}
use Rattle.pg_schema.specs.rules.Scopes.{declared_services, enum_places, service_places}
use Rattle.pg_schema.proofs.lemmas.rules.PairLemmas.{and_both}
use Rattle.pg_dyn.specs.message.Message.{Message}
use Rattle.pg_schema.specs.standing.InOrder.{enums_below, inner_enums, inner_types as types_inside, types_below}
use Rattle.pg_schema.specs.standing.Nesting.{holds_inside, nest_within}
use Rattle.pg_schema.specs.standing.Places.{places_from}
use Rattle.pg_set.specs.declared.descriptor.proto.TheConstants as proto
use Rattle.pg_set.specs.stated.Numbering.{Counts, PlacedFile, PlacedType, behind_file, behind_type, inner_types, inside_file, inside_type, placed_files, placed_types, places_of_types, types_of_files}
use Rattle.pg_set.specs.stated.Outlines.{enum_rows, file_enums, file_services, file_types, row_in, rows_in, rows_of_enums, type_rows}
use Rattle.pg_set.specs.stated.SetMessages.{children_at}
use Rattle.pg_set.specs.stated.SetNames.{file_scope, qualified}
use Rattle.pg_set.specs.stated.StatedFiles.{service_id}
use Rattle.pg_set.specs.descriptor.Descriptor.{enum_id, type_id}
use Rattle.pg_set.proofs.lemmas.rows.PlacedRows.{files_named, named_row, types_named}

-- ---- indices in a row

from_both : (start a b : ℕ) → places_from start (a + b) ≡ places_from start a ++ places_from (start + a) b
from_both start zero b = search rules
from_both start (suc a) b =
    let moved : suc start + a ≡ start + suc a = omega arith in
    let many : suc a + b ≡ suc (a + b) = omega arith in
    ap (places_from start) many ∙ ap (λ ps. start ∷ ps) (from_both (suc start) a b ∙ ap (λ n. places_from (suc start) a ++ places_from n b) moved)

enums_named : (places : List ℕ) → enum_places (map enum_id places) ≡ places
enums_named [] = refl
enums_named (p ∷ places) = ap (λ ps. p ∷ ps) (enums_named places)

services_named : (places : List ℕ) → service_places (map service_id places) ≡ places
services_named [] = refl
services_named (p ∷ places) = ap (λ ps. p ∷ ps) (services_named places)

middle_at : {A : Type 0} (front : List A) (x : A) (later : List A) → slice_get (front ++ x ∷ later) (length front) ≡ Some x
middle_at [] x later = refl
middle_at (y ∷ front) x later = middle_at front x later

-- ---- as many placed message types as rows

placed_long : (depth : ℕ) (scope : List ℕ) (counts : Counts) (ms : List Message) → length (placed_types depth scope counts ms) ≡ length (type_rows depth scope ms)
placed_long depth scope counts ms = sym (length-map (placed_types depth scope counts ms) named_row) ∙ ap length (types_named depth scope counts ms)

pub types_long : (depth : ℕ) (counts : Counts) (ms : List Message) → length (types_of_files depth counts ms) ≡ length (flat_map (file_types depth) ms)
types_long depth counts ms = sym (length-map (types_of_files depth counts ms) named_row) ∙ ap length (files_named depth counts ms)

-- ---- message types

-- the message type at each index has inside it what is placed there
abbrev pub ArePlaced : List MessageType → List PlacedType → Type 0
ArePlaced all whole =
    (place : ℕ) (p : PlacedType) → slice_get whole place ≡ Some p
    → (t : MessageType) × (slice_get all place ≡ Some t) × (t.nested_types.items ≡ map type_id p.types) × (t.nested_enums.items ≡ map enum_id p.enums)

-- what the files declare by themselves is at these indices
abbrev pub Keep : List File → List PlacedFile → Type 0
Keep [] [] = ⊤
Keep [] (p ∷ ps) = ⊥
Keep (f ∷ fs) [] = ⊥
Keep (f ∷ fs) (p ∷ ps) =
    ((f.types.items ≡ map type_id p.types) × (f.enums.items ≡ map enum_id p.enums) × (f.services.items ≡ map service_id p.services)) × Keep fs ps

-- what the files declare follows what comes before, and is nested no deeper
pub record FilesNext (all : List MessageType) (depth : ℕ) (counts : Counts) (ms : List Message) (fs : List File) : Type 0 where
  pub types : flat_map (λ (f : File). types_below depth all f.types.items) fs ≡ places_from counts.types (length (flat_map (file_types depth) ms))
  pub enums : flat_map (λ (f : File). enum_places f.enums.items ++ enums_below depth all f.types.items) fs ≡ places_from counts.enums (length (flat_map (file_enums depth) ms))
  pub services : declared_services fs ≡ places_from counts.services (length (flat_map file_services ms))
  pub shallow : list_all (λ (f : File). nest_within depth all f.types.items) fs ≡ true

module _ (all : List MessageType) (whole : List PlacedType) (are : ArePlaced all whole) where
  -- what is inside these messages follows what comes before, and is nested no deeper
  record AreNext (depth : ℕ) (scope : List ℕ) (counts : Counts) (ms : List Message) : Type 0 where
    types : types_below depth all (map type_id (places_of_types depth scope counts ms)) ≡ places_from counts.types (length (type_rows depth scope ms))
    enums : enums_below depth all (map type_id (places_of_types depth scope counts ms)) ≡ places_from counts.enums (length (enum_rows depth scope ms))
    shallow : nest_within depth all (map type_id (places_of_types depth scope counts ms)) ≡ true

  abbrev Next : (depth : ℕ) → Type 0
  Next depth =
      (scope : List ℕ) (counts : Counts) (ms : List Message) (front back : List PlacedType) → front ++ (placed_types depth scope counts ms ++ back) ≡ whole → length front ≡ counts.types
      → AreNext depth scope counts ms

  -- one, with what is inside it, and the ones after it
  one_more : (depth : ℕ) (scope : List ℕ) (counts : Counts) (m : Message) (ms : List Message) (t : MessageType) → slice_get all counts.types ≡ Some t
      → t.nested_types.items ≡ map type_id (places_of_types depth (qualified scope m) (inside_type counts m) (inner_types m))
      → t.nested_enums.items ≡ map enum_id (places_from counts.enums (length (children_at proto.MESSAGE_ENUM_TYPE m))) → AreNext depth (qualified scope m) (inside_type counts m) (inner_types m)
      → AreNext (suc depth) scope (behind_type depth scope counts m) ms → AreNext (suc depth) scope counts (m ∷ ms)
  one_more depth scope counts m ms t at types enums deeper later =
      let full = qualified scope m in
      let inner = inner_types m in
      let behind = map type_id (places_of_types (suc depth) scope (behind_type depth scope counts m) ms) in
      let own = length (children_at proto.MESSAGE_ENUM_TYPE m) in
      let deep = length (type_rows depth full inner) in
      let deep_enums = length (enum_rows depth full inner) in
      let rest = length (type_rows (suc depth) scope ms) in
      let rest_enums = length (enum_rows (suc depth) scope ms) in
      let below : types_below depth all t.nested_types.items ≡ places_from (suc counts.types) deep =
      ap (types_below depth all) types ∙ (deeper.types ∙ ap (λ n. places_from n deep) (add-one counts.types)) in
      let enums_here : enum_places t.nested_enums.items ++ enums_below depth all t.nested_types.items ≡ places_from counts.enums (own + deep_enums) =
      ap₂ (λ xs ys. xs ++ ys) (ap enum_places enums ∙ enums_named (places_from counts.enums own)) (ap (enums_below depth all) types ∙ deeper.enums) ∙ sym (from_both counts.enums own deep_enums) in
      let many_enums : length (rows_of_enums (enum_rows depth) scope m) ≡ own + deep_enums =
      length-append (rows_in full (children_at proto.MESSAGE_ENUM_TYPE m)) (enum_rows depth full inner) ∙ ap (λ n. n + deep_enums) (length-map (children_at proto.MESSAGE_ENUM_TYPE m) (row_in full)) in
      let moved : counts.types + suc deep ≡ suc counts.types + deep = omega arith in
      record {
        types = ap (λ o. (counts.types ∷ types_inside (types_below depth all) o) ++ types_below (suc depth) all behind) at
            ∙ ap (λ ps. counts.types ∷ ps) (ap₂ (λ xs ys. xs ++ ys) below (later.types ∙ ap (λ n. places_from n rest) moved) ∙ sym (from_both (suc counts.types) deep rest))
            ∙ ap (λ n. counts.types ∷ places_from (suc counts.types) n) (sym (length-append (type_rows depth full inner) (type_rows (suc depth) scope ms)));
        enums = ap (λ o. inner_enums (enums_below depth all) o ++ enums_below (suc depth) all behind) at
            ∙ ap₂ (λ xs ys. xs ++ ys) (enums_here ∙ ap (places_from counts.enums) (sym many_enums)) later.enums
            ∙ sym (from_both counts.enums (length (rows_of_enums (enum_rows depth) scope m)) rest_enums)
            ∙ ap (places_from counts.enums) (sym (length-append (rows_of_enums (enum_rows depth) scope m) (enum_rows (suc depth) scope ms)));
        shallow = and_both (holds_inside (nest_within depth all) (slice_get all counts.types)) (nest_within (suc depth) all behind)
            (ap (holds_inside (nest_within depth all)) at ∙ (ap (nest_within depth all) types ∙ deeper.shallow)) later.shallow;
      }

  each_next : (depth : ℕ) → Next depth → Next (suc depth)
  each_next depth deeper scope counts [] front back is many = record { types = refl; enums = refl; shallow = refl }
  each_next depth deeper scope counts (m ∷ ms) front back is many =
      let full = qualified scope m in
      let here = inside_type counts m in
      let p : PlacedType = record {
        named = row_in scope m;
        types = places_of_types depth full here (inner_types m);
        enums = places_from counts.enums (length (children_at proto.MESSAGE_ENUM_TYPE m));
      } in
      let inside = placed_types depth full here (inner_types m) in
      let later = placed_types (suc depth) scope (behind_type depth scope counts m) ms in
      let opened : front ++ (p ∷ ((inside ++ later) ++ back)) ≡ whole = is in
      let after_one : (front ++ p ∷ []) ++ (inside ++ (later ++ back)) ≡ whole =
      append_assoc front (p ∷ []) (inside ++ (later ++ back)) ∙ (ap (λ xs. front ++ (p ∷ xs)) (sym (append_assoc inside later back)) ∙ opened) in
      let after_all : (front ++ p ∷ inside) ++ (later ++ back) ≡ whole =
      append_assoc front (p ∷ inside) (later ++ back) ∙ (ap (λ xs. front ++ (p ∷ xs)) (sym (append_assoc inside later back)) ∙ opened) in
      let (t, at, types, enums) = are (length front) p (subst (λ xs. slice_get xs (length front) ≡ Some p) opened (middle_at front p ((inside ++ later) ++ back))) in
      one_more depth scope counts m ms t (ap (slice_get all) (sym many) ∙ at) types enums
      (deeper full here (inner_types m) (front ++ p ∷ []) (later ++ back) after_one (length-append front (p ∷ []) ∙ ap (λ n. n + 1) many))
      (each_next depth deeper scope (behind_type depth scope counts m) ms (front ++ p ∷ inside) back after_all
      (length-append front (p ∷ inside) ∙ ap₂ (λ a b. a + suc b) many (placed_long depth full here (inner_types m))))

  next : (depth : ℕ) → Next depth
  next zero scope counts ms front back is many = record { types = refl; enums = refl; shallow = refl }
  next (suc depth) scope counts ms front back is many = each_next depth (next depth) scope counts ms front back is many

  -- ---- files

  pub files_next : (depth : ℕ) (counts : Counts) (ms : List Message) (fs : List File) (front : List PlacedType) → front ++ types_of_files depth counts ms ≡ whole → length front ≡ counts.types
      → Keep fs (placed_files depth counts ms) → FilesNext all depth counts ms fs
  files_next depth counts [] [] front is many keep = record { types = refl; enums = refl; services = refl; shallow = refl }
  files_next depth counts [] (f ∷ fs) front is many keep = absurd keep
  files_next depth counts (m ∷ ms) [] front is many keep = absurd keep
  files_next depth counts (m ∷ ms) (f ∷ fs) front is many keep =
      let scope = file_scope m in
      let declared = children_at proto.FILE_MESSAGE_TYPE m in
      let here = inside_file counts m in
      let own = placed_types depth scope here declared in
      let later = types_of_files depth (behind_file depth counts m) ms in
      let (types, enums, services) = keep.0 in
      let one = next depth scope here declared front later is many in
      let rest = files_next depth (behind_file depth counts m) ms fs (front ++ own) (append_assoc front own later ∙ is)
      (length-append front own ∙ ap₂ (λ a b. a + b) many (placed_long depth scope here declared)) keep.1 in
      let named = length (children_at proto.FILE_ENUM_TYPE m) in
      let below = length (enum_rows depth scope declared) in
      let many_enums : length (file_enums depth m) ≡ named + below =
      length-append (rows_in scope (children_at proto.FILE_ENUM_TYPE m)) (enum_rows depth scope declared) ∙ ap (λ n. n + below) (length-map (children_at proto.FILE_ENUM_TYPE m) (row_in scope)) in
      record {
        types = ap₂ (λ xs ys. xs ++ ys) (ap (types_below depth all) types ∙ one.types) rest.types
            ∙ sym (from_both counts.types (length (file_types depth m)) (length (flat_map (file_types depth) ms)))
            ∙ ap (places_from counts.types) (sym (length-append (file_types depth m) (flat_map (file_types depth) ms)));
        enums = ap₂ (λ xs ys. xs ++ ys)
            (ap₂ (λ xs ys. xs ++ ys) (ap enum_places enums ∙ enums_named (places_from counts.enums named)) (ap (enums_below depth all) types ∙ one.enums)
            ∙ sym (from_both counts.enums named below) ∙ ap (places_from counts.enums) (sym many_enums))
            rest.enums
            ∙ sym (from_both counts.enums (length (file_enums depth m)) (length (flat_map (file_enums depth) ms)))
            ∙ ap (places_from counts.enums) (sym (length-append (file_enums depth m) (flat_map (file_enums depth) ms)));
        services = ap₂ (λ xs ys. xs ++ ys)
            (ap service_places services ∙ services_named (places_from counts.services (length (children_at proto.FILE_SERVICE m)))
            ∙ ap (places_from counts.services) (sym (length-map (children_at proto.FILE_SERVICE m) (row_in scope))))
            rest.services
            ∙ sym (from_both counts.services (length (file_services m)) (length (flat_map file_services ms)))
            ∙ ap (places_from counts.services) (sym (length-append (file_services m) (flat_map file_services ms)));
        shallow = and_both (nest_within depth all f.types.items) (list_all (λ (g : File). nest_within depth all g.types.items) fs)
            (ap (nest_within depth all) types ∙ one.shallow) rest.shallow;
      }
