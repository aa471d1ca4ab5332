-- Files in order that declare nothing: just those with a cause.
use Rattle.std.proofs.Common.{◌≡◌, ℕ, suc, ◌^◌, ℤ, Bool, true, false, cond, not, ◌&&◌, nat_eq, List, [], ◌∷◌, filter, filter_map, length, map, Option, Some, None, option_map, option_and_then, refl, ap, sym, subst, ◌∙◌, rules}
use Rattle.std.proofs.lemmas.Bool.{false≢true}
use Rattle.std.proofs.lemmas.List.Folds.{Any-from_list_any, list_any-from_Any}
use Rattle.std.specs.List.{Any, cons_option, flat_map, list_all, list_any}
use Rattle.pg_schema.specs.rules.Packages.{is_free_of}
use Rattle.pg_schema.specs.rules.Pairs.{are_distinct}
use Rattle.pg_schema.proofs.lemmas.rules.PairLemmas.{and_left, and_right}
use Rattle.pg_dyn.specs.message.Message.{Message}
use Rattle.pg_schema.specs.standing.Places.{most_deep}
use Rattle.pg_set.specs.refusals.BadReferences.{IsBadDeclaration, IsBadField, IsBadMethod, IsBadType, means_in}
use Rattle.pg_set.specs.refusals.BadReferences as causes
use Rattle.pg_set.specs.stated.Numbering.{PlacedFile, PlacedType, no_counts, placed_files, types_of_files}
use Rattle.pg_set.specs.stated.Outlines.{Row, file_enums, file_services, file_types}
use Rattle.pg_set.specs.declared.descriptor.proto.TheConstants as proto
use Rattle.pg_set.specs.stated.SetMessages.{children_at, maybe_number_at, numbers_at, texts_at}
use Rattle.pg_set.specs.stated.FileMessages.{is_place}
use Rattle.pg_set.specs.stated.TypeMessages.{is_entry, is_optional, synthetic_places}
use Rattle.pg_set.specs.stated.SetNames.{files_names}
use Rattle.pg_set.specs.stated.Stated.{declared_by, parts_by, parts_of}
use Rattle.pg_set.specs.stated.StatedEnums.{enum_type}
use Rattle.pg_set.specs.stated.StatedFiles.{file, file_of, has_public_places}
use Rattle.pg_set.specs.stated.StatedNames.{NameLookup, each, only_if}
use Rattle.pg_set.specs.stated.StatedServices.{service}
use Rattle.pg_set.specs.stated.StatedTable.{few, has_no_entries, may_declare, names_oneofs, nests_within, packages_of}
use Rattle.pg_set.specs.stated.StatedTypes.{declared_fields, message_type, oneof_count, type_of}
use Rattle.pg_set.specs.stated.Views.{FileView, PartsView, TypeView}
use Rattle.pg_set.proofs.lemmas.lists.Tests.{not_below, too_great, unequal}
use Rattle.pg_set.proofs.lemmas.rows.PlacedRows.{files_named, message_in, messages_placed, named_row}
use Rattle.pg_set.proofs.lemmas.refusals.Fields.{bad_service, bad_type, service_none, type_none}
use Rattle.pg_set.proofs.lemmas.refusals.Steps.{any_false, any_here, any_seen, any_there, any_weaker, by_test, each_none, false_any, isnt, map_none, none_each, of_and, of_only, of_then, only_nothing, test_none, then_nothing}

-- ---- tests

clash : {Z : Type 0} (b : Bool) → b ≡ false → b ≡ true → Z
clash b h k = absurd (false≢true (sym h ∙ k))

-- what holds where all tests of a table do
kept : (a b c d e : Bool) → (a && b && c && d && e) ≡ true → (a ≡ true) × (b ≡ true) × (c ≡ true) × (d ≡ true) × (e ≡ true)
kept true true true true e h = (refl, refl, refl, refl, h)
kept a b c d e h = absurd (false≢true h)

none_kept : {A : Type 0} (test : A → Bool) (xs : List A) → nat_eq (length (filter test xs)) 0 ≡ not (list_any test xs)
none_kept test [] = refl
none_kept {A} test (x ∷ xs) = search (rules, none_kept test xs, unequal)

-- the field says a number that is no index
abbrev IsOut : ℕ → Message → Type 0
IsOut count m = (number : ℤ) × (maybe_number_at proto.FIELD_ONEOF_INDEX m ≡ Some number) × (is_place count number ≡ false)

some_out : (count : ℕ) (ms : List Message) → list_all (is_place count) (synthetic_places ms) ≡ false → Any (IsOut count) ms
some_out count [] h = absurd (false≢true (sym h))
some_out count (m ∷ ms) h = of (is_optional m) h (λ rest. any_there (IsOut count) m ms (some_out count ms rest))
  where
    own : (o : Option ℤ) → maybe_number_at proto.FIELD_ONEOF_INDEX m ≡ o → list_all (is_place count) (cons_option o (synthetic_places ms)) ≡ false
        → (list_all (is_place count) (synthetic_places ms) ≡ false → Any (IsOut count) (m ∷ ms)) → Any (IsOut count) (m ∷ ms)
    own None is h later = later h
    own (Some n) is h later = of_and (is_place count n) (list_all (is_place count) (synthetic_places ms)) h (λ out. any_here (IsOut count) m ms (n, is, out)) (λ in_range. later)

    of : (b : Bool) → list_all (is_place count) (filter_map (maybe_number_at 9) (cond b (m ∷ filter is_optional ms) (filter is_optional ms))) ≡ false
        → (list_all (is_place count) (synthetic_places ms) ≡ false → Any (IsOut count) (m ∷ ms)) → Any (IsOut count) (m ∷ ms)
    of true h later = own (maybe_number_at proto.FIELD_ONEOF_INDEX m) refl h later
    of false h later = later h

bad_names : (means : NameLookup) (r : Row) → names_oneofs r ≡ false → IsBadType means r
bad_names means r h =
    causes.bad_field
    (any_weaker (IsOut (oneof_count r.1)) (IsBadField means r) (children_at proto.MESSAGE_FIELD r.1) (λ m one out. causes.bad_oneof (causes.out_of_range out.0 out.1 out.2))
    (some_out (oneof_count r.1) (children_at proto.MESSAGE_FIELD r.1) h))

-- ---- what files declare

module _ (skips : Bool) (files : List Message) where
  abbrev means : NameLookup
  means = means_in files

  abbrev types : List Row
  types = flat_map (file_types most_deep) files

  abbrev enums : List Row
  enums = flat_map (file_enums most_deep) files

  abbrev services : List Row
  services = flat_map file_services files

  abbrev placed : List PlacedFile
  placed = placed_files most_deep no_counts files

  abbrev placed_rows : List PlacedType
  placed_rows = types_of_files most_deep no_counts files

  -- ---- the tests of the table

  abbrev names : List (List ℕ)
  names = files_names most_deep files

  abbrev once : Bool
  once = are_distinct names

  abbrev apart : Bool
  apart = list_all (is_free_of names) (packages_of files)

  abbrev no_entries : Bool
  no_entries = list_all has_no_entries files

  abbrev shallow : Bool
  shallow = list_all (nests_within most_deep) files

  abbrev placed_oneofs : Bool
  placed_oneofs = list_all names_oneofs types

  abbrev HasEntry : Message → Type 0
  HasEntry m = Any (λ type. is_entry type ≡ true) (children_at proto.FILE_MESSAGE_TYPE m)

  has_entry : (m : Message) → has_no_entries m ≡ false → HasEntry m
  has_entry m h = search (rules, Any-from_list_any, isnt, none_kept)

  entry_there : (m : Message) → HasEntry m → has_no_entries m ≡ false
  entry_there m any = let inside = children_at proto.FILE_MESSAGE_TYPE m in none_kept is_entry inside ∙ ap not (list_any-from_Any is_entry inside any)

  bad_table : may_declare most_deep files ≡ false → IsBadDeclaration files
  bad_table h =
      of_and (once && apart && no_entries && shallow && placed_oneofs) (few (length types)) h
      (λ h.
      of_and (once && apart && no_entries && shallow) placed_oneofs h
      (λ h.
      of_and (once && apart && no_entries) shallow h
      (λ h.
      of_and (once && apart) no_entries h
      (λ h. of_and once apart h causes.name_twice (λ first taken. causes.part_of_package (any_false (is_free_of names) (packages_of files) taken)))
      (λ first some. causes.entry_outside (any_weaker (λ m. has_no_entries m ≡ false) HasEntry files (λ m one. has_entry m) (any_false has_no_entries files some))))
      (λ first deep. causes.too_deep (any_false (nests_within most_deep) files deep)))
      (λ first out.
      causes.in_type (any_weaker (λ r. names_oneofs r ≡ false) (IsBadType means) types (λ r one. bad_names means r) (any_false names_oneofs types out))))
      (λ first many. causes.too_many_types (not_below (length types) (suc (2 ^ 32)) many))

  -- ---- what is made of it

  abbrev HasBadImport : Message → Type 0
  HasBadImport m = Any (λ number. is_place (length (texts_at proto.FILE_DEPENDENCY m)) number ≡ false) (numbers_at proto.FILE_PUBLIC_DEPENDENCY m)

  abbrev in_range : Message → ℤ → Bool
  in_range m = is_place (length (texts_at proto.FILE_DEPENDENCY m))

  abbrev HasBadMethod : Row → Type 0
  HasBadMethod r = Any (IsBadMethod means) (children_at proto.SERVICE_METHOD r.1)

  abbrev with_services : List FileView → List TypeView → Option PartsView
  with_services made named = option_map (λ called. parts_of named (map enum_type enums) called made) (each (service means) services)

  abbrev with_types : List FileView → Option PartsView
  with_types made = option_and_then (with_services made) (each (message_type means) placed_rows)

  abbrev made : Option PartsView
  made = parts_by means skips placed placed_rows enums services

  bad_files : each (file skips) placed ≡ None → IsBadDeclaration files
  bad_files h =
      causes.bad_public_import
      (subst (Any HasBadImport) (messages_placed most_deep no_counts files)
      ((any_seen HasBadImport message_in placed).0
      (any_weaker (λ p. file skips p ≡ None) (λ p. HasBadImport p.message) placed
      (λ p one e. any_false (in_range p.message) (numbers_at proto.FILE_PUBLIC_DEPENDENCY p.message) (test_none (has_public_places p.message) (file_of skips p) e))
      (each_none (file skips) placed h))))

  bad_types : each (message_type means) placed_rows ≡ None → IsBadDeclaration files
  bad_types h =
      causes.in_type
      (subst (Any (IsBadType means)) (files_named most_deep no_counts files)
      ((any_seen (IsBadType means) named_row placed_rows).0
      (any_weaker (λ p. message_type means p ≡ None) (λ p. IsBadType means p.named) placed_rows
      (λ p one e. bad_type means p.named (map_none (type_of p) (declared_fields means p.named) e)) (each_none (message_type means) placed_rows h))))

  bad_services : each (service means) services ≡ None → IsBadDeclaration files
  bad_services h =
      causes.in_service (any_weaker (λ r. service means r ≡ None) HasBadMethod services (λ r one. bad_service means r) (each_none (service means) services h))

  pub bad_declared : declared_by skips files ≡ None → IsBadDeclaration files
  bad_declared h =
      of_only (may_declare most_deep files) made h bad_table
      (λ none.
      of_then with_types (each (file skips) placed) none bad_files
      (λ filed are none.
      of_then (with_services filed) (each (message_type means) placed_rows) none bad_types
      (λ named have none. bad_services (map_none (λ called. parts_of named (map enum_type enums) called filed) (each (service means) services) none))))

  files_none : Any HasBadImport files → each (file skips) placed ≡ None
  files_none any =
      none_each (file skips) placed
      (any_weaker (λ p. HasBadImport p.message) (λ p. file skips p ≡ None) placed
      (λ p one bad. ap (λ b. only_if b (Some (file_of skips p))) (false_any (in_range p.message) (numbers_at proto.FILE_PUBLIC_DEPENDENCY p.message) bad))
      ((any_seen HasBadImport message_in placed).1 (subst (Any HasBadImport) (sym (messages_placed most_deep no_counts files)) any)))

  types_none : Any (IsBadType means) types → each (message_type means) placed_rows ≡ None
  types_none any =
      none_each (message_type means) placed_rows
      (any_weaker (λ p. IsBadType means p.named) (λ p. message_type means p ≡ None) placed_rows (λ p one bad. ap (option_map (type_of p)) (type_none means p.named bad))
      ((any_seen (IsBadType means) named_row placed_rows).1 (subst (Any (IsBadType means)) (sym (files_named most_deep no_counts files)) any)))

  services_none : Any HasBadMethod services → each (service means) services ≡ None
  services_none any = none_each (service means) services (any_weaker HasBadMethod (λ r. service means r ≡ None) services (λ r one. service_none means r) any)

  made_none : made ≡ None → declared_by skips files ≡ None
  made_none h = only_nothing (may_declare most_deep files) made h

  -- where the table may be, and where it may not
  pub declared_none : IsBadDeclaration files → declared_by skips files ≡ None
  declared_none bad = by_test (may_declare most_deep files) (λ may. of (kept (once && apart) no_entries shallow placed_oneofs (few (length types)) may) bad)
      (λ none. ap (λ b. only_if b made) none)
    where
      of : ((once && apart) ≡ true) × (no_entries ≡ true) × (shallow ≡ true) × (placed_oneofs ≡ true) × (few (length types) ≡ true)
          → IsBadDeclaration files → declared_by skips files ≡ None
      of h (causes.name_twice twice) = clash once twice (and_left once apart h.0)
      of h (causes.part_of_package any) = clash apart (false_any (is_free_of names) (packages_of files) any) (and_right once apart h.0)
      of h (causes.entry_outside any) =
          clash no_entries (false_any has_no_entries files (any_weaker HasEntry (λ m. has_no_entries m ≡ false) files (λ m one. entry_there m) any)) h.1
      of h (causes.too_deep any) = clash shallow (false_any (nests_within most_deep) files any) h.2
      of h (causes.too_many_types many) = clash (few (length types)) (too_great (length types) (suc (2 ^ 32)) many) h.4
      of h (causes.bad_public_import any) = made_none (ap (option_and_then with_types) (files_none any))
      of h (causes.in_type any) = made_none (then_nothing with_types (each (file skips) placed) (λ filed are. ap (option_and_then (with_services filed)) (types_none any)))
      of h (causes.in_service any) =
          made_none
          (then_nothing with_types (each (file skips) placed)
          (λ filed are.
          then_nothing (with_services filed) (each (message_type means) placed_rows)
          (λ named have. ap (option_map (λ called. parts_of named (map enum_type enums) called filed)) (services_none any))))
