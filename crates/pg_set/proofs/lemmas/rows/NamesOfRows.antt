-- The names that files declare are those of their rows, as often, with those of what stands by itself in files.
use Rattle.std.proofs.Common.{◌≡◌, ℕ, zero, suc, ◌+◌, ◌≤◌, List, [], ◌∷◌, ◌++◌, filter, flat_map, refl, ap, ◌∙◌, arith, rules}
use Rattle.std.proofs.lemmas.Grind.{flat_map-append}
use Rattle.std.proofs.lemmas.List.{map-append}
use Rattle.pg_dyn.specs.message.Message.{Message}
use Rattle.pg_set.specs.stated.Outlines.{Row, enum_rows, file_enums, file_services, file_types, rows_in, rows_of_enums, rows_of_type, type_rows}
use Rattle.pg_set.specs.stated.SetMessages.{children_at}
use Rattle.pg_set.specs.stated.SetNames.{enum_names, enums_names, file_names, file_scope, files_names, member_names, own_names, qualified, qualified_names, services_names, type_names, types_names}
use Rattle.pg_set.specs.stated.StatedTable.{entry_names, names_of}
use Rattle.pg_set.specs.stated.TypeMessages.{is_no_entry}
use Rattle.pg_set.proofs.lemmas.lists.NameCounts.{count, count_append}

-- ---- the names of a row

-- those of the values of enums in a scope
abbrev pub values_names : (scope : List ℕ) → List Message → List (List ℕ)
values_names scope ms = flat_map (λ m. qualified_names scope (children_at 2 m)) ms

-- those of a message type's row, with those of the values of its enums
abbrev pub in_type : Row → List (List ℕ)
in_type r = own_names r.0 r.1 ++ values_names r.0 (children_at 4 r.1)

abbrev pub in_service : Row → List (List ℕ)
in_service r = r.0 ∷ qualified_names r.0 (children_at 2 r.1)

-- those of the values of a file's own enums
abbrev pub in_file : Message → List (List ℕ)
in_file m = values_names (file_scope m) (children_at 5 m)

module _ (n : List ℕ) where
  -- how often it is a row's, and how often an entry type's
  abbrev pub as_row : List Row → ℕ
  as_row rows = count n (names_of rows)

  abbrev pub as_entry : List Row → ℕ
  as_entry rows = count n (flat_map entry_names rows)

  abbrev as_type : List Row → ℕ
  as_type rows = count n (flat_map in_type rows)

  abbrev as_service : List Row → ℕ
  as_service rows = count n (flat_map in_service rows)

  as_row_append : (xs ys : List Row) → as_row (xs ++ ys) ≡ as_row xs + as_row ys
  as_row_append xs ys = ap (count n) (map-append (λ (r : Row). r.0) xs ys) ∙ count_append n (names_of xs) (names_of ys)

  as_type_append : (xs ys : List Row) → as_type (xs ++ ys) ≡ as_type xs + as_type ys
  as_type_append xs ys = ap (count n) (flat_map-append in_type xs ys) ∙ count_append n (flat_map in_type xs) (flat_map in_type ys)

  as_service_append : (xs ys : List Row) → as_service (xs ++ ys) ≡ as_service xs + as_service ys
  as_service_append xs ys = ap (count n) (flat_map-append in_service xs ys) ∙ count_append n (flat_map in_service xs) (flat_map in_service ys)

  -- ---- enums and services of one scope

  in_enums : (scope : List ℕ) (ms : List Message) → count n (enums_names scope ms) ≡ as_row (rows_in scope ms) + count n (values_names scope ms)
  in_enums scope [] = omega arith
  in_enums scope (m ∷ ms) =
      let values = qualified_names scope (children_at 2 m) in
      omega (arith, in_enums scope ms, count_append n (enum_names scope m) (enums_names scope ms), count_append n values (values_names scope ms))

  in_services : (scope : List ℕ) (ms : List Message) → count n (services_names scope ms) ≡ as_service (rows_in scope ms)
  in_services scope ms = ap (count n) (same ms)
    where
      same : (ms : List Message) → services_names scope ms ≡ flat_map in_service (rows_in scope ms)
      same [] = refl
      same (m ∷ ms) = ap (λ ns. qualified scope m ∷ qualified_names (qualified scope m) (children_at 2 m) ++ ns) (same ms)

  -- ---- message types

  abbrev AreCounted : ℕ → Type 0
  AreCounted depth = (scope : List ℕ) (ms : List Message) → count n (types_names depth scope ms) ≡ as_type (type_rows depth scope ms) + as_row (enum_rows depth scope ms)

  abbrev inner : Message → List Message
  inner m = filter is_no_entry (children_at 3 m)

  counted_one : (depth : ℕ) → AreCounted depth → (scope : List ℕ) (m : Message)
      → count n (type_names (types_names depth) scope m) ≡ as_type (rows_of_type (type_rows depth) scope m) + as_row (rows_of_enums (enum_rows depth) scope m)
  counted_one depth deeper scope m = search (rules, in_enums, as_row_append, count_append)

  counted_each : (depth : ℕ) → AreCounted depth → AreCounted (suc depth)
  counted_each depth deeper scope [] = omega arith
  counted_each depth deeper scope (m ∷ ms) =
      omega (
        arith,
        counted_one depth deeper scope m,
        counted_each depth deeper scope ms,
        as_type_append (rows_of_type (type_rows depth) scope m) (type_rows (suc depth) scope ms),
        as_row_append (rows_of_enums (enum_rows depth) scope m) (enum_rows (suc depth) scope ms),
        count_append n (type_names (types_names depth) scope m) (types_names (suc depth) scope ms),
      )

  counted : (depth : ℕ) → AreCounted depth
  counted zero scope ms = omega arith
  counted (suc depth) scope ms = counted_each depth (counted depth) scope ms

  -- ---- files

  in_one : (depth : ℕ) (m : Message) → count n (file_names depth m) ≡ as_type (file_types depth m) + as_row (file_enums depth m) + as_service (file_services m) + count n (in_file m)
  in_one depth m = search (rules, counted, in_enums, in_services, as_row_append, count_append)

  -- each name is in files as often as in their rows and in the files themselves
  pub in_files : (depth : ℕ) (ms : List Message)
      → count n (files_names depth ms)
      ≡ as_type (flat_map (file_types depth) ms) + as_row (flat_map (file_enums depth) ms) + as_service (flat_map file_services ms) + count n (flat_map in_file ms)
  in_files depth [] = omega arith
  in_files depth (m ∷ ms) =
      omega (
        arith,
        in_one depth m,
        in_files depth ms,
        as_type_append (file_types depth m) (flat_map (file_types depth) ms),
        as_row_append (file_enums depth m) (flat_map (file_enums depth) ms),
        as_service_append (file_services m) (flat_map file_services ms),
        count_append n (in_file m) (flat_map in_file ms),
        count_append n (file_names depth m) (files_names depth ms),
      )

  -- rows' own names and those of entry types are among them
  rows_few : (rows : List Row) → as_row rows + as_entry rows ≤ as_type rows
  rows_few [] = omega arith
  rows_few (r ∷ rows) =
      let entries = entry_names r in
      omega (
        arith,
        rows_few rows,
        count_append n entries (flat_map entry_names rows),
        count_append n (in_type r) (flat_map in_type rows),
        count_append n (own_names r.0 r.1) (values_names r.0 (children_at 4 r.1)),
        count_append n (member_names r.0 r.1) entries,
      )

  pub few_in_files : (depth : ℕ) (ms : List Message)
      → as_row (flat_map (file_types depth) ms) + as_row (flat_map (file_enums depth) ms) + as_entry (flat_map (file_types depth) ms) ≤ count n (files_names depth ms)
  few_in_files depth ms = omega (arith, in_files depth ms, rows_few (flat_map (file_types depth) ms))
