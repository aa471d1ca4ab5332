-- What files and message types declare by index, as sums over all that is declared, one by one.
use Rattle.std.proofs.Common.{◌≡◌, ◌∙◌, ℕ, suc, ◌+◌, ◌^◌, ◌≤◌, List, [], ◌∷◌, ◌++◌, length, map, flat_map, Some, slice_get, sym, ap, ap₂, refl, arith, length-append}
use Rattle.std.specs.List.{AllByRecursion}
use Rattle.std.proofs.lemmas.List.{length-map, map-append}
use Rattle.pg_schema.specs.declared.parts.field.EnumId.{EnumId}
use Rattle.pg_schema.specs.declared.parts.field.TypeId.{TypeId}
use Rattle.pg_schema.specs.declared.parts.service.ServiceId.{ServiceId}
use Rattle.pg_check.specs.parts.ByScope.{Placed, enum_id, enums_in as enum_ids_in, placed_from, places_in, type_id, types_in}
use Rattle.pg_check.specs.rules.KeepsRules.{source_messages}
use Rattle.pg_check.specs.parts.MadeEnums.{made_enum}
use Rattle.pg_check.specs.parts.MadeNumbers.{index_of}
use Rattle.pg_check.specs.parts.MadeParts.{Declared, FileShape, Source, TypeTree, file_services, file_shape, placed_enums, placed_messages, type_tree, type_trees, with_file, with_files}
use Rattle.pg_check.specs.parts.MadeServices.{MadeService, service_ids}
use Rattle.pg_check.specs.rules.Outline.{Message, enum_scope, scoped_enums, file_messages, message_scope, package_of}
use Rattle.pg_check.proofs.lemmas.parts.kept.KeptFiles.{source_enums}
use Rattle.pg_check.proofs.lemmas.parts.places.Regrouped.{everywhere, regrouped}
use Rattle.pg_check.proofs.lemmas.parts.places.ScopesOnce.{IsScoped, full_of, scopes_of}
use Rattle.pg_check.proofs.lemmas.standing.TreePlaces.{index_is}
use Rattle.pg_check.proofs.lemmas.parts.Totals.{times, total, total_joined, total_map, total_same}

placed_once : {X : Type 0} (scope_of : X → List ℕ) (ss : List (List ℕ)) (before : ℕ) (xs : List X) → AllByRecursion (λ x. times (scope_of x) ss ≡ 1) xs → AllByRecursion (λ (p : Placed). times p.scope ss ≡ 1) (placed_from before (map scope_of xs))
placed_once scope_of ss before [] h = tt
placed_once scope_of ss before (x ∷ xs) h = (h.0, placed_once scope_of ss (before + 1) xs h.1)

placed_joined : (before : ℕ) (xs ys : List (List ℕ)) → placed_from before (xs ++ ys) ≡ placed_from before xs ++ placed_from (before + length xs) ys
placed_joined before [] ys = let none : before ≡ before + 0 = omega arith in ap (λ n. placed_from n ys) none
placed_joined before (x ∷ xs) ys =
    let next : (before + 1) + length xs ≡ before + length (x ∷ xs) = omega arith in
    let first : Placed = record { scope = x; index = before } in
    ap (λ ps. first ∷ ps) (placed_joined (before + 1) xs ys ∙ ap (λ n. placed_from (before + 1) xs ++ placed_from n ys) next)

abbrev pub of_place : (List ℕ → ℕ → ℕ) → Placed → ℕ
of_place h p = h p.scope p.index

-- what is at its index is what is looked up there
pub looked_up : {X : Type 0} (scope_of : X → List ℕ) (h : List ℕ → ℕ → ℕ) (w : X → ℕ) (before : ℕ) (xs : List X) → ((i : ℕ) (x : X) → slice_get xs i ≡ Some x → h (scope_of x) (before + i) ≡ w x) → total (λ (p : Placed). h p.scope p.index) (placed_from before (map scope_of xs)) ≡ total w xs
looked_up scope_of h w before [] at = refl
looked_up scope_of h w before (x ∷ xs) at =
    let none : before ≡ before + 0 = omega arith in
    let first : h (scope_of x) before ≡ w x = ap (h (scope_of x)) none ∙ at 0 x refl in
    let rest : total (λ (p : Placed). h p.scope p.index) (placed_from (before + 1) (map scope_of xs)) ≡ total w xs =
    looked_up scope_of h w (before + 1) xs (λ i y is. let next : (before + 1) + i ≡ before + suc i = omega arith in ap (h (scope_of y)) next ∙ at (suc i) y is) in
    omega (arith, first, rest)

-- so many message types have indexes of 32 bits
abbrev pub kept : (List ℕ → ℕ → ℕ) → List ℕ → ℕ → ℕ
kept h scope place = h scope (index_of place)

pub all_kept : (h : List ℕ → ℕ → ℕ) (before : ℕ) (xs : List (List ℕ)) → before + length xs ≤ 2 ^ 32
    → total (of_place (kept h)) (placed_from before xs) ≡ total (of_place h) (placed_from before xs)
all_kept h before [] few = refl
all_kept h before (x ∷ xs) few = ap₂ (λ i n. h x i + n) (index_is before (omega (arith, few))) (all_kept h (before + 1) xs (omega (arith, few)))

-- the scope of each service
abbrev pub service_scopes : Source → List (List ℕ)
service_scopes s = map (λ (x : MadeService). package_of s.tree) (file_services s)

module _ (h : List ℕ → ℕ → ℕ) where
  -- ---- message types

  abbrev pub types_of_file : FileShape → ℕ
  types_of_file w = total (λ (id : TypeId). h (package_of w.tree) id.index) w.types

  abbrev pub types_of_tree : TypeTree → ℕ
  types_of_tree w = total (λ (id : TypeId). h w.full id.index) w.nested

  abbrev pub types_of : Declared → ℕ
  types_of d = total types_of_file d.files + total types_of_tree d.types

  types_in_scope : (scope : List ℕ) (ps : List Placed) → total (λ (id : TypeId). h scope id.index) (types_in scope ps) ≡ total (kept h scope) (places_in scope ps)
  types_in_scope scope ps = total_map (λ (id : TypeId). h scope id.index) type_id (places_in scope ps)

  file_types : (d : Declared) (s : Source) → IsScoped s.tree
      → types_of_file (file_shape (length d.types) (length d.enums) (length d.services) s) + total types_of_tree (type_trees (length d.types) (length d.enums) s) ≡ total (of_place (kept h)) (placed_messages (length d.types) s.tree)
  file_types d s scoped =
      let ps = placed_messages (length d.types) s.tree in
      let es = placed_enums (length d.enums) s.tree in
      let scope = package_of s.tree in
      let ms = file_messages s.tree in
      let of_package : total (λ (id : TypeId). h scope id.index) (types_in scope ps) ≡ total (kept h scope) (places_in scope ps) = types_in_scope scope ps in
      let trees : total types_of_tree (map (type_tree s.targets ps es) ms) ≡ total (λ (m : Message). total (λ (id : TypeId). h m.full id.index) (types_in m.full ps)) ms = total_map types_of_tree (type_tree s.targets ps es) ms in
      let each : total (λ (m : Message). total (λ (id : TypeId). h m.full id.index) (types_in m.full ps)) ms ≡ total (λ (m : Message). total (kept h m.full) (places_in m.full ps)) ms =
      total_same _ _ ms (everywhere _ ms (λ (m : Message). types_in_scope m.full ps)) in
      let fulls : total (λ t. total (kept h t) (places_in t ps)) (map full_of ms) ≡ total (λ (m : Message). total (kept h m.full) (places_in m.full ps)) ms = total_map (λ t. total (kept h t) (places_in t ps)) full_of ms in
      let all : total (λ t. total (kept h t) (places_in t ps)) (scopes_of s.tree) ≡ total (of_place (kept h)) ps = regrouped (kept h) (scopes_of s.tree) ps (placed_once message_scope (scopes_of s.tree) (length d.types) ms scoped.messages) in
      omega (arith, of_package, trees, each, fulls, all)

  pub all_types : (d : Declared) (ss : List Source) → AllByRecursion (λ (s : Source). IsScoped s.tree) ss
      → types_of (with_files d ss) ≡ types_of d + total (of_place (kept h)) (placed_from (length d.types) (map message_scope (flat_map source_messages ss)))
  all_types d [] scoped = omega arith
  all_types d (s ∷ ss) scoped =
      let ms = file_messages s.tree in
      let trees = type_trees (length d.types) (length d.enums) s in
      let shape = file_shape (length d.types) (length d.enums) (length d.services) s in
      let others = flat_map source_messages ss in
      let rest : types_of (with_files (with_file d s) ss) ≡ types_of (with_file d s) + total (of_place (kept h)) (placed_from (length (d.types ++ trees)) (map message_scope others)) = all_types (with_file d s) ss scoped.1 in
      let files : total types_of_file (d.files ++ shape ∷ []) ≡ total types_of_file d.files + total types_of_file (shape ∷ []) = total_joined types_of_file d.files (shape ∷ []) in
      let types : total types_of_tree (d.types ++ trees) ≡ total types_of_tree d.types + total types_of_tree trees = total_joined types_of_tree d.types trees in
      let here : types_of_file shape + total types_of_tree trees ≡ total (of_place (kept h)) (placed_messages (length d.types) s.tree) = file_types d s scoped.0 in
      let long : length (d.types ++ trees) ≡ length d.types + length (map message_scope ms) =
      length-append d.types trees ∙ ap (λ n. length d.types + n) (length-map ms (type_tree s.targets (placed_messages (length d.types) s.tree) (placed_enums (length d.enums) s.tree)) ∙ sym (length-map ms message_scope)) in
      let moved : total (of_place (kept h)) (placed_from (length (d.types ++ trees)) (map message_scope others)) ≡ total (of_place (kept h)) (placed_from (length d.types + length (map message_scope ms)) (map message_scope others)) = ap (λ n. total (of_place (kept h)) (placed_from n (map message_scope others))) long in
      let split : total (of_place (kept h)) (placed_from (length d.types) (map message_scope (ms ++ others))) ≡ total (of_place (kept h)) (placed_from (length d.types) (map message_scope ms)) + total (of_place (kept h)) (placed_from (length d.types + length (map message_scope ms)) (map message_scope others)) =
      ap (λ xs. total (of_place (kept h)) (placed_from (length d.types) xs)) (map-append message_scope ms others)
      ∙ (ap (total (of_place (kept h))) (placed_joined (length d.types) (map message_scope ms) (map message_scope others))
      ∙ total_joined (of_place (kept h)) (placed_from (length d.types) (map message_scope ms)) (placed_from (length d.types + length (map message_scope ms)) (map message_scope others))) in
      omega (arith, rest, files, types, here, moved, split)

  -- ---- enums

  abbrev pub enums_of_file : FileShape → ℕ
  enums_of_file w = total (λ (id : EnumId). h (package_of w.tree) id.index) w.enums

  abbrev pub enums_of_tree : TypeTree → ℕ
  enums_of_tree w = total (λ (id : EnumId). h w.full id.index) w.enums

  abbrev pub enums_of : Declared → ℕ
  enums_of d = total enums_of_file d.files + total enums_of_tree d.types

  enums_in_scope : (scope : List ℕ) (ps : List Placed) → total (λ (id : EnumId). h scope id.index) (enum_ids_in scope ps) ≡ total (h scope) (places_in scope ps)
  enums_in_scope scope ps = total_map (λ (id : EnumId). h scope id.index) enum_id (places_in scope ps)

  file_enum_places : (d : Declared) (s : Source) → IsScoped s.tree
      → enums_of_file (file_shape (length d.types) (length d.enums) (length d.services) s) + total enums_of_tree (type_trees (length d.types) (length d.enums) s) ≡ total (of_place h) (placed_enums (length d.enums) s.tree)
  file_enum_places d s scoped =
      let ts = placed_messages (length d.types) s.tree in
      let ps = placed_enums (length d.enums) s.tree in
      let scope = package_of s.tree in
      let ms = file_messages s.tree in
      let of_package : total (λ (id : EnumId). h scope id.index) (enum_ids_in scope ps) ≡ total (h scope) (places_in scope ps) = enums_in_scope scope ps in
      let trees : total enums_of_tree (map (type_tree s.targets ts ps) ms) ≡ total (λ (m : Message). total (λ (id : EnumId). h m.full id.index) (enum_ids_in m.full ps)) ms = total_map enums_of_tree (type_tree s.targets ts ps) ms in
      let each : total (λ (m : Message). total (λ (id : EnumId). h m.full id.index) (enum_ids_in m.full ps)) ms ≡ total (λ (m : Message). total (h m.full) (places_in m.full ps)) ms =
      total_same _ _ ms (everywhere _ ms (λ (m : Message). enums_in_scope m.full ps)) in
      let fulls : total (λ t. total (h t) (places_in t ps)) (map full_of ms) ≡ total (λ (m : Message). total (h m.full) (places_in m.full ps)) ms = total_map (λ t. total (h t) (places_in t ps)) full_of ms in
      let all : total (λ t. total (h t) (places_in t ps)) (scopes_of s.tree) ≡ total (of_place h) ps = regrouped h (scopes_of s.tree) ps (placed_once enum_scope (scopes_of s.tree) (length d.enums) (scoped_enums s.tree) scoped.enums) in
      omega (arith, of_package, trees, each, fulls, all)

  pub all_enum_places : (d : Declared) (ss : List Source) → AllByRecursion (λ (s : Source). IsScoped s.tree) ss
      → enums_of (with_files d ss) ≡ enums_of d + total (of_place h) (placed_from (length d.enums) (map enum_scope (flat_map source_enums ss)))
  all_enum_places d [] scoped = omega arith
  all_enum_places d (s ∷ ss) scoped =
      let es = scoped_enums s.tree in
      let trees = type_trees (length d.types) (length d.enums) s in
      let shape = file_shape (length d.types) (length d.enums) (length d.services) s in
      let others = flat_map source_enums ss in
      let rest : enums_of (with_files (with_file d s) ss) ≡ enums_of (with_file d s) + total (of_place h) (placed_from (length (d.enums ++ map made_enum es)) (map enum_scope others)) = all_enum_places (with_file d s) ss scoped.1 in
      let files : total enums_of_file (d.files ++ shape ∷ []) ≡ total enums_of_file d.files + total enums_of_file (shape ∷ []) = total_joined enums_of_file d.files (shape ∷ []) in
      let types : total enums_of_tree (d.types ++ trees) ≡ total enums_of_tree d.types + total enums_of_tree trees = total_joined enums_of_tree d.types trees in
      let here : enums_of_file shape + total enums_of_tree trees ≡ total (of_place h) (placed_enums (length d.enums) s.tree) = file_enum_places d s scoped.0 in
      let long : length (d.enums ++ map made_enum es) ≡ length d.enums + length (map enum_scope es) =
      length-append d.enums (map made_enum es) ∙ ap (λ n. length d.enums + n) (length-map es made_enum ∙ sym (length-map es enum_scope)) in
      let moved : total (of_place h) (placed_from (length (d.enums ++ map made_enum es)) (map enum_scope others)) ≡ total (of_place h) (placed_from (length d.enums + length (map enum_scope es)) (map enum_scope others)) = ap (λ n. total (of_place h) (placed_from n (map enum_scope others))) long in
      let split : total (of_place h) (placed_from (length d.enums) (map enum_scope (es ++ others))) ≡ total (of_place h) (placed_from (length d.enums) (map enum_scope es)) + total (of_place h) (placed_from (length d.enums + length (map enum_scope es)) (map enum_scope others)) =
      ap (λ xs. total (of_place h) (placed_from (length d.enums) xs)) (map-append enum_scope es others)
      ∙ (ap (total (of_place h)) (placed_joined (length d.enums) (map enum_scope es) (map enum_scope others))
      ∙ total_joined (of_place h) (placed_from (length d.enums) (map enum_scope es)) (placed_from (length d.enums + length (map enum_scope es)) (map enum_scope others))) in
      omega (arith, rest, files, types, here, moved, split)

  -- ---- services

  abbrev pub services_of_file : FileShape → ℕ
  services_of_file w = total (λ (id : ServiceId). h (package_of w.tree) id.index) w.services

  abbrev pub services_of : Declared → ℕ
  services_of d = total services_of_file d.files

  service_places : (scope : List ℕ) (before : ℕ) (xs : List MadeService) → total (λ (id : ServiceId). h scope id.index) (service_ids before xs) ≡ total (of_place h) (placed_from before (map (λ (x : MadeService). scope) xs))
  service_places scope before [] = refl
  service_places scope before (x ∷ xs) = ap (λ n. h scope before + n) (service_places scope (before + 1) xs)

  pub all_service_places : (d : Declared) (ss : List Source)
      → services_of (with_files d ss) ≡ services_of d + total (of_place h) (placed_from (length d.services) (flat_map service_scopes ss))
  all_service_places d [] = omega arith
  all_service_places d (s ∷ ss) =
      let xs = file_services s in
      let shape = file_shape (length d.types) (length d.enums) (length d.services) s in
      let others = flat_map service_scopes ss in
      let rest : services_of (with_files (with_file d s) ss) ≡ services_of (with_file d s) + total (of_place h) (placed_from (length (d.services ++ xs)) others) = all_service_places (with_file d s) ss in
      let files : total services_of_file (d.files ++ shape ∷ []) ≡ total services_of_file d.files + total services_of_file (shape ∷ []) = total_joined services_of_file d.files (shape ∷ []) in
      let here : services_of_file shape ≡ total (of_place h) (placed_from (length d.services) (service_scopes s)) = service_places (package_of s.tree) (length d.services) xs in
      let long : length (d.services ++ xs) ≡ length d.services + length (service_scopes s) = length-append d.services xs ∙ ap (λ n. length d.services + n) (sym (length-map xs (λ (x : MadeService). package_of s.tree))) in
      let moved : total (of_place h) (placed_from (length (d.services ++ xs)) others) ≡ total (of_place h) (placed_from (length d.services + length (service_scopes s)) others) = ap (λ n. total (of_place h) (placed_from n others)) long in
      let split : total (of_place h) (placed_from (length d.services) (service_scopes s ++ others)) ≡ total (of_place h) (placed_from (length d.services) (service_scopes s)) + total (of_place h) (placed_from (length d.services + length (service_scopes s)) others) =
      ap (total (of_place h)) (placed_joined (length d.services) (service_scopes s) others)
      ∙ total_joined (of_place h) (placed_from (length d.services) (service_scopes s)) (placed_from (length d.services + length (service_scopes s)) others) in
      omega (arith, rest, files, here, moved, split)
