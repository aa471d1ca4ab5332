-- The message types, enums and entry types that files declare, by their indices.
use Rattle.std.proofs.Common.{◌≡◌, ℕ, suc, ◌+◌, Bool, true, false, cond, List, [], ◌∷◌, ◌++◌, map, filter, length, refl, ap, sym, ◌∙◌, arith, append-nil, rules}
use Rattle.std.proofs.lemmas.Grind.{flat_map-append}
use Rattle.std.proofs.lemmas.List.{length-map, map-append}
use Rattle.std.specs.List.{flat_map}
use Rattle.pg_dyn.specs.message.Message.{Message}
use Rattle.pg_set.specs.declared.reading.outline.Named.{Named}
use Rattle.pg_set.specs.declared.reading.outline.Named.TheVariants as nameds
use Rattle.pg_set.specs.inner.Declarations.{Declaration, all_named, enums_declared, files_declared, package_part, services_declared, type_declared}
use Rattle.pg_set.specs.stated.SetNames.{package_parts, file_scope, qualified, qualified_names}
use Rattle.pg_set.specs.stated.Numbering.{Counts, inner_types}
use Rattle.pg_set.specs.stated.Outlines.{Row, enum_rows, file_enums, file_types, row_in, rows_in, type_rows}
use Rattle.pg_set.specs.stated.SetMessages.{children_at}
use Rattle.pg_set.specs.stated.StatedTable.{entry_names, enum_named, names_of as row_names, type_named}
use Rattle.pg_set.specs.stated.TypeMessages.{is_entry}
use Rattle.pg_set.proofs.lemmas.outline.DeclaredLists.{files_are, pick_all, pick_append, pick_none}
use Rattle.pg_set.proofs.lemmas.outline.FreshNames.{pick}

-- ---- kinds

abbrev pub is_type_name : Named → Bool
is_type_name nameds.Package = false
is_type_name (nameds.Type id) = true
is_type_name (nameds.Enum id) = false
is_type_name nameds.Entry = false
is_type_name nameds.Other = false

abbrev pub is_enum_name : Named → Bool
is_enum_name nameds.Package = false
is_enum_name (nameds.Type id) = false
is_enum_name (nameds.Enum id) = true
is_enum_name nameds.Entry = false
is_enum_name nameds.Other = false

abbrev pub is_entry_name : Named → Bool
is_entry_name nameds.Package = false
is_entry_name (nameds.Type id) = false
is_entry_name (nameds.Enum id) = false
is_entry_name nameds.Entry = true
is_entry_name nameds.Other = false

-- names with the indices from that one on
abbrev pub placed : (ℕ → Named) → (place : ℕ) → List (List ℕ) → List Declaration
placed thing place [] = []
placed thing place (name ∷ names) = (name, thing place) ∷ placed thing (suc place) names

placed_append : (thing : ℕ → Named) (place : ℕ) (a b : List (List ℕ)) → placed thing place (a ++ b) ≡ placed thing place a ++ placed thing (place + length a) b
placed_append thing place [] b = search rules
placed_append thing place (x ∷ a) b =
    let same : suc place + length a ≡ place + suc (length a) = omega arith in
    ap (λ ds. (x, thing place) ∷ ds) (placed_append thing (suc place) a b ∙ ap (λ n. placed thing (suc place) a ++ placed thing n b) same)

placed_rows : (thing : ℕ → Named) (place : ℕ) (a b : List Row) → placed thing place (row_names (a ++ b)) ≡ placed thing place (row_names a) ++ placed thing (place + length a) (row_names b)
placed_rows thing place a b = search (rules, map-append, placed_append, length-map)

-- ---- what has none of a kind

module _ (test : Named → Bool) where
  no_services : test nameds.Other ≡ false → (scope : List ℕ) (ms : List Message) → pick test (services_declared scope ms) ≡ []
  no_services is scope [] = refl
  no_services is scope (m ∷ ms) = search (rules, no_services is scope ms, pick_append, pick, pick_none)

  no_parts : test nameds.Package ≡ false → (names : List (List ℕ)) → pick test (map package_part names) ≡ []
  no_parts is [] = refl
  no_parts is (n ∷ ns) = ap (λ b. cond b ((n, nameds.Package) ∷ pick test (map package_part ns)) (pick test (map package_part ns))) is ∙ no_parts is ns

  -- of a message type, but for its own name
  members_of : test nameds.Other ≡ false → (full : List ℕ) (place : ℕ) (m : Message) (own : List Declaration) → pick test ((full, nameds.Type (record { index = place })) ∷ []) ≡ own
      → pick test (type_declared full place m) ≡ own ++ pick test (all_named full nameds.Entry (filter is_entry (children_at 3 m)))
  members_of is full place m own first = search (rules, pick_append, pick, pick_none)

  no_enums : test nameds.Other ≡ false → ((id : ℕ) → test (enum_named id) ≡ false) → (scope : List ℕ) (place : ℕ) (ms : List Message) → pick test (enums_declared scope place ms) ≡ []
  no_enums is other scope place [] = refl
  no_enums is other scope place (m ∷ ms) = search (rules, no_enums is other scope (suc place) ms, pick_append, pick, pick_none)

-- ---- message types

types_type : (full : List ℕ) (place : ℕ) (m : Message) → pick is_type_name (type_declared full place m) ≡ (full, type_named place) ∷ []
types_type full place m =
    members_of is_type_name refl full place m ((full, type_named place) ∷ []) refl ∙ ap (λ ds. (full, type_named place) ∷ ds) (pick_none is_type_name full nameds.Entry refl (filter is_entry (children_at 3 m)))

-- they are at the indices from there on
pub types_files : (depth : ℕ) (counts : Counts) (ms : List Message) → pick is_type_name (files_declared depth counts ms) ≡ placed type_named counts.types (row_names (flat_map (file_types depth) ms))
types_files depth counts ms =
    files_are (pick is_type_name) refl (pick_append is_type_name) (λ full place m. (full, type_named place) ∷ []) types_type (λ scope place es. []) (no_enums is_type_name refl (λ id. refl))
    (λ d scope k ts. placed type_named k.types (row_names (type_rows d scope ts))) (λ scope k ts. refl) (λ d scope k. refl)
    (λ d scope k t ts.
    let inner = type_rows d (qualified scope t) (inner_types t) in
    let one : k.types + 1 ≡ suc k.types = omega arith in
    ap (λ n. ((qualified scope t, type_named k.types) ∷ placed type_named n (row_names inner)) ++ placed type_named (k.types + suc (length inner)) (row_names (type_rows (suc d) scope ts))) one
    ∙ sym (placed_rows type_named k.types (row_in scope t ∷ inner) (type_rows (suc d) scope ts)))
    (λ name. []) (λ name. no_parts is_type_name refl (package_parts name)) (λ scope ss. []) (no_services is_type_name refl) depth (λ k fs. placed type_named k.types (row_names (flat_map (file_types depth) fs))) (λ k. refl)
    (λ k f fs. ap (λ ds. ds ++ placed type_named (k.types + length (file_types depth f)) (row_names (flat_map (file_types depth) fs))) (append-nil (placed type_named k.types (row_names (file_types depth f))))
    ∙ sym (placed_rows type_named k.types (file_types depth f) (flat_map (file_types depth) fs))) ms counts

-- ---- enums

enums_type : (full : List ℕ) (place : ℕ) (m : Message) → pick is_enum_name (type_declared full place m) ≡ []
enums_type full place m = members_of is_enum_name refl full place m [] refl ∙ pick_none is_enum_name full nameds.Entry refl (filter is_entry (children_at 3 m))

enums_enums : (scope : List ℕ) (place : ℕ) (ms : List Message) → pick is_enum_name (enums_declared scope place ms) ≡ placed enum_named place (row_names (rows_in scope ms))
enums_enums scope place [] = refl
enums_enums scope place (m ∷ ms) = search (rules, enums_enums scope (suc place) ms, pick_append, pick_none)

-- enums of a scope, those of the message types in it, and those after
three_rows : (place : ℕ) (a b c : List Row) (second third : ℕ) → second ≡ place + length a → third ≡ place + length (a ++ b)
    → (placed enum_named place (row_names a) ++ placed enum_named second (row_names b)) ++ placed enum_named third (row_names c) ≡ placed enum_named place (row_names ((a ++ b) ++ c))
three_rows place a b c second third at behind = search (rules, placed_rows)

pub enums_files : (depth : ℕ) (counts : Counts) (ms : List Message) → pick is_enum_name (files_declared depth counts ms) ≡ placed enum_named counts.enums (row_names (flat_map (file_enums depth) ms))
enums_files depth counts ms =
    files_are (pick is_enum_name) refl (pick_append is_enum_name) (λ full place m. []) enums_type (λ scope place es. placed enum_named place (row_names (rows_in scope es))) enums_enums
    (λ d scope k ts. placed enum_named k.enums (row_names (enum_rows d scope ts))) (λ scope k ts. refl) (λ d scope k. refl)
    (λ d scope k t ts.
    three_rows k.enums (rows_in (qualified scope t) (children_at 4 t)) (enum_rows d (qualified scope t) (inner_types t)) (enum_rows (suc d) scope ts) (k.enums + length (children_at 4 t))
    (k.enums + length (rows_in (qualified scope t) (children_at 4 t) ++ enum_rows d (qualified scope t) (inner_types t))) (ap (λ n. k.enums + n) (sym (length-map (children_at 4 t) (row_in (qualified scope t))))) refl)
    (λ name. []) (λ name. no_parts is_enum_name refl (package_parts name)) (λ scope ss. []) (no_services is_enum_name refl) depth (λ k fs. placed enum_named k.enums (row_names (flat_map (file_enums depth) fs))) (λ k. refl)
    (λ k f fs.
    let own = rows_in (file_scope f) (children_at 5 f) in
    let inner = enum_rows depth (file_scope f) (children_at 4 f) in
    ap (λ ds. ds ++ placed enum_named (k.enums + length (file_enums depth f)) (row_names (flat_map (file_enums depth) fs)))
    (append-nil (placed enum_named k.enums (row_names own) ++ placed enum_named (k.enums + length (children_at 5 f)) (row_names inner)))
    ∙ three_rows k.enums own inner (flat_map (file_enums depth) fs) (k.enums + length (children_at 5 f)) (k.enums + length (file_enums depth f))
    (ap (λ n. k.enums + n) (sym (length-map (children_at 5 f) (row_in (file_scope f))))) refl) ms counts

-- ---- entry types

abbrev pub entries_named : List (List ℕ) → List Declaration
entries_named names = map (λ name. (name, nameds.Entry)) names

entries_append : (a b : List (List ℕ)) → entries_named (a ++ b) ≡ entries_named a ++ entries_named b
entries_append a b = map-append (λ name. (name, nameds.Entry)) a b

entries_all : (full : List ℕ) (ms : List Message) → all_named full nameds.Entry ms ≡ entries_named (qualified_names full ms)
entries_all full [] = refl
entries_all full (m ∷ ms) = ap (λ ds. (qualified full m, nameds.Entry) ∷ ds) (entries_all full ms)

entries_type : (full : List ℕ) (place : ℕ) (m : Message) → pick is_entry_name (type_declared full place m) ≡ entries_named (entry_names (full, m))
entries_type full place m =
    members_of is_entry_name refl full place m [] refl ∙ (pick_all is_entry_name full nameds.Entry refl (filter is_entry (children_at 3 m)) ∙ entries_all full (filter is_entry (children_at 3 m)))

entries_on : (a b : List Row) → entries_named (flat_map entry_names a) ++ entries_named (flat_map entry_names b) ≡ entries_named (flat_map entry_names (a ++ b))
entries_on a b = sym (entries_append (flat_map entry_names a) (flat_map entry_names b)) ∙ ap entries_named (sym (flat_map-append entry_names a b))

pub entries_files : (depth : ℕ) (counts : Counts) (ms : List Message) → pick is_entry_name (files_declared depth counts ms) ≡ entries_named (flat_map entry_names (flat_map (file_types depth) ms))
entries_files depth counts ms =
    files_are (pick is_entry_name) refl (pick_append is_entry_name) (λ full place m. entries_named (entry_names (full, m))) entries_type (λ scope place es. []) (no_enums is_entry_name refl (λ id. refl))
    (λ d scope k ts. entries_named (flat_map entry_names (type_rows d scope ts))) (λ scope k ts. refl) (λ d scope k. refl)
    (λ d scope k t ts.
    let inner = type_rows d (qualified scope t) (inner_types t) in
    ap (λ ds. ds ++ entries_named (flat_map entry_names (type_rows (suc d) scope ts)))
    (ap (λ ds. ds ++ entries_named (flat_map entry_names inner)) (append-nil (entries_named (entry_names (row_in scope t)))) ∙ sym (entries_append (entry_names (row_in scope t)) (flat_map entry_names inner)))
    ∙ entries_on (row_in scope t ∷ inner) (type_rows (suc d) scope ts))
    (λ name. []) (λ name. no_parts is_entry_name refl (package_parts name)) (λ scope ss. []) (no_services is_entry_name refl) depth (λ k fs. entries_named (flat_map entry_names (flat_map (file_types depth) fs))) (λ k. refl)
    (λ k f fs. ap (λ ds. ds ++ entries_named (flat_map entry_names (flat_map (file_types depth) fs))) (append-nil (entries_named (flat_map entry_names (file_types depth f))))
    ∙ entries_on (file_types depth f) (flat_map (file_types depth) fs)) ms counts
