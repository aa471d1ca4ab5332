-- The rows of all that is written of files are those of what these declare, by their indices, and so is what each file keeps, where indices
-- are counted from file to file.
use Rattle.std.proofs.Common.{◌≡◌, ℕ, ◌+◌, Bool, true, List, [], ◌∷◌, ◌++◌, length, map, refl, ap, ap₂, sym, subst, ◌∙◌, arith}
use Rattle.std.proofs.lemmas.List.{length-map}
use Rattle.std.specs.List.{flat_map, list_all}
use Rattle.std.specs.String.{string_bytes}
use Rattle.pg_schema.specs.declared.parts.file.File.{File}
use Rattle.pg_schema.specs.declared.parts.Parts.{Parts}
use Rattle.pg_schema.specs.rules.Files.{is_file}
use Rattle.pg_schema.specs.rules.Scopes.{enum_places, is_file_scope, service_places}
use Rattle.pg_schema.specs.rules.Sound.{IsSound}
use Rattle.pg_schema.proofs.lemmas.rules.PairLemmas.{and_left, and_right}
use Rattle.pg_dyn.specs.message.Message.{Message}
use Rattle.pg_schema.specs.standing.InOrder.{enums_below, types_below}
use Rattle.pg_schema.specs.standing.Nesting.{nest_within}
use Rattle.pg_schema.specs.standing.Places.{places_from}
use Rattle.pg_set.specs.stated.Numbering.{Counts, PlacedFile, behind_file, file_places, inside_file, placed_files, placed_types, types_of_files}
use Rattle.pg_set.specs.stated.Outlines.{Row, enum_rows, file_enums, file_services, file_types, row_in, rows_in}
use Rattle.pg_set.specs.writing.Places.{Declared, declared_in}
use Rattle.pg_set.specs.stated.SetMessages.{children_at}
use Rattle.pg_set.specs.stated.SetNames.{file_scope}
use Rattle.pg_set.proofs.lemmas.rows.RowPlaces.{AreAt, AreFrom, as_long, at_both, front_and_rest}
use Rattle.pg_set.proofs.lemmas.written.names.QualifiedNames.{scope_of}
use Rattle.pg_set.proofs.lemmas.written.levels.WrittenDepth.{nest_enough}
use Rattle.pg_set.proofs.lemmas.written.WrittenFiles.{enums_of_file, file_scoped, file_written, placed_file, services_of_file, types_of_file}
use Rattle.pg_set.proofs.lemmas.written.WrittenRows.{AreRows, EnumsAt, PlacedAt, TypesAt, enum_row, own_enums, own_services, service_row, types_written}
use Rattle.pg_set.proofs.lemmas.written.WrittenTypes.{placed_row, type_row}

same_placed : {m m' : Message} {ts ts' es es' ss ss' : List ℕ} → m ≡ m' → ts ≡ ts' → es ≡ es' → ss ≡ ss'
    → ◌≡◌ {A = PlacedFile} (record { message = m; types = ts; enums = es; services = ss }) (record { message = m'; types = ts'; enums = es'; services = ss' })
same_placed message types enums services = cc

module _ (all : Declared) (depth : ℕ) where
  abbrev pub types_in : File → List ℕ
  types_in f = types_below depth all.types f.types.items

  abbrev pub enums_in : File → List ℕ
  enums_in f = enum_places f.enums.items ++ enums_below depth all.types f.types.items

  abbrev pub services_in : File → List ℕ
  services_in f = service_places f.services.items

  abbrev ServicesAt : List Row → List ℕ → Type 0
  ServicesAt = AreAt (service_row all) all.services

  -- so many message types, enums and services come before these files
  pub record StandBehind (counts : Counts) (fs : List File) : Type 0 where
    pub types : AreFrom counts.types (flat_map types_in fs)
    pub enums : AreFrom counts.enums (flat_map enums_in fs)
    pub services : AreFrom counts.services (flat_map services_in fs)

  -- rows and indices of files are those of what they declare
  pub record AreFileRows (ms : List Message) (fs : List File) : Type 0 where
    pub types : TypesAt all (flat_map (file_types depth) ms) (flat_map types_in fs)
    pub enums : EnumsAt all (flat_map (file_enums depth) ms) (flat_map enums_in fs)
    pub services : ServicesAt (flat_map file_services ms) (flat_map services_in fs)
    pub placed : (counts : Counts) → StandBehind counts fs → PlacedAt all (types_of_files depth counts ms) (flat_map types_in fs)
    pub files : (counts : Counts) → StandBehind counts fs → placed_files depth counts ms ≡ map (placed_file all) fs

  -- what is in one
  record IsFileRow (m : Message) (f : File) : Type 0 where
    is : m ≡ file_written all f
    inner : AreRows all depth (file_scope m) (children_at 4 m) f.types.items
    own : EnumsAt all (rows_in (file_scope m) (children_at 5 m)) (enum_places f.enums.items)
    services : ServicesAt (file_services m) (services_in f)

  module _ (m : Message) (f : File) (one : IsFileRow m f) where
    enums_of_one : EnumsAt all (file_enums depth m) (enums_in f)
    enums_of_one = at_both enum_row all.enums (rows_in (file_scope m) (children_at 5 m)) (enum_rows depth (file_scope m) (children_at 4 m)) (enum_places f.enums.items) (enums_below depth all.types f.types.items) one.own one.inner.enums

    many : length (enum_places f.enums.items) ≡ length (children_at 5 m)
    many = sym (as_long enum_row all.enums (rows_in (file_scope m) (children_at 5 m)) (enum_places f.enums.items) one.own) ∙ length-map (children_at 5 m) (row_in (file_scope m))

    many_services : length (services_in f) ≡ length (children_at 6 m)
    many_services = sym (as_long (service_row all) all.services (file_services m) (services_in f) one.services) ∙ length-map (children_at 6 m) (row_in (file_scope m))

    behind_own : (counts : Counts) → AreFrom counts.enums (enums_in f) → AreFrom (counts.enums + length (children_at 5 m)) (enums_below depth all.types f.types.items)
    behind_own counts enums =
        subst (λ n. AreFrom (counts.enums + n) (enums_below depth all.types f.types.items)) many (front_and_rest counts.enums (enum_places f.enums.items) (enums_below depth all.types f.types.items) enums).1

    file_placed : (counts : Counts) → AreFrom counts.types (types_in f) → AreFrom counts.enums (enums_in f) → AreFrom counts.services (services_in f) → file_places depth counts m ≡ placed_file all f
    file_placed counts types enums services =
        same_placed one.is (sym (one.inner.places (inside_file counts m) types (behind_own counts enums)))
        (sym ((front_and_rest counts.enums (enum_places f.enums.items) (enums_below depth all.types f.types.items) enums).0 ∙ ap (places_from counts.enums) many))
        (sym (services ∙ ap (places_from counts.services) many_services))

    more_files : (ms : List Message) (fs : List File) → AreFileRows ms fs → AreFileRows (m ∷ ms) (f ∷ fs)
    more_files ms fs later =
        let split : (counts : Counts) → StandBehind counts (f ∷ fs)
        → (AreFrom counts.types (types_in f) × AreFrom counts.enums (enums_in f) × AreFrom counts.services (services_in f)) × StandBehind (behind_file depth counts m) fs =
        λ counts behind.
        let types = front_and_rest counts.types (types_in f) (flat_map types_in fs) behind.types in
        let enums = front_and_rest counts.enums (enums_in f) (flat_map enums_in fs) behind.enums in
        let services = front_and_rest counts.services (services_in f) (flat_map services_in fs) behind.services in
        let types_many = sym (as_long (type_row all) all.types (file_types depth m) (types_in f) one.inner.types) in
        let enums_many = sym (as_long enum_row all.enums (file_enums depth m) (enums_in f) enums_of_one) in
        let services_many = sym (as_long (service_row all) all.services (file_services m) (services_in f) one.services) in (
          (types.0, enums.0, services.0),
          record {
            types = subst (λ n. AreFrom (counts.types + n) (flat_map types_in fs)) types_many types.1;
            enums = subst (λ n. AreFrom (counts.enums + n) (flat_map enums_in fs)) enums_many enums.1;
            services = subst (λ n. AreFrom (counts.services + n) (flat_map services_in fs)) services_many services.1;
          },
        ) in
        record {
          types = at_both (type_row all) all.types (file_types depth m) (flat_map (file_types depth) ms) (types_in f) (flat_map types_in fs) one.inner.types later.types;
          enums = at_both enum_row all.enums (file_enums depth m) (flat_map (file_enums depth) ms) (enums_in f) (flat_map enums_in fs) enums_of_one later.enums;
          services = at_both (service_row all) all.services (file_services m) (flat_map file_services ms) (services_in f) (flat_map services_in fs) one.services later.services;
          placed = λ counts behind.
              let here = split counts behind in
              at_both (placed_row all) all.types (placed_types depth (file_scope m) (inside_file counts m) (children_at 4 m)) (types_of_files depth (behind_file depth counts m) ms) (types_in f) (flat_map types_in fs)
              (one.inner.placed (inside_file counts m) here.0.0 (behind_own counts here.0.1)) (later.placed (behind_file depth counts m) here.1);
          files = λ counts behind.
              let here = split counts behind in
              ap₂ (λ p ps. p ∷ ps) (file_placed counts here.0.0 here.0.1 here.0.2) (later.files (behind_file depth counts m) here.1);
        }

module _ (parts : Parts) (sound : IsSound parts) (depth : ℕ) where
  abbrev all : Declared
  all = declared_in parts

  abbrev is_scoped : File → Bool
  is_scoped = is_file_scope parts.types.items parts.enums.items parts.services.items

  abbrev is_shallow : File → Bool
  is_shallow f = nest_within depth parts.types.items f.types.items

  file_row : (f : File) → is_file f ≡ true → is_scoped f ≡ true → is_shallow f ≡ true → IsFileRow all depth (file_written all f) f
  file_row f kept scoped shallow =
      let m : Message = file_written all f in
      let name : List ℕ = string_bytes f.package in
      record {
        is = refl;
        inner = subst (λ s. AreRows all depth s (children_at 4 m) f.types.items) (sym (file_scoped all f kept))
            (subst (λ ms. AreRows all depth (scope_of name) ms f.types.items) (sym (types_of_file all f))
            (types_written parts sound depth (length all.types) (omega arith) name f.types.items shallow (nest_enough parts sound depth name f.types.items (and_left _ _ (and_left _ _ scoped)) shallow) (and_left _ _ (and_left _ _ scoped))));
        own = subst (λ s. EnumsAt all (rows_in s (children_at 5 m)) (enum_places f.enums.items)) (sym (file_scoped all f kept))
            (subst (λ ms. EnumsAt all (rows_in (scope_of name) ms) (enum_places f.enums.items)) (sym (enums_of_file all f)) (own_enums all name f.enums.items (and_right _ _ (and_left _ _ scoped))));
        services = subst (λ s. ServicesAt all depth (rows_in s (children_at 6 m)) (service_places f.services.items)) (sym (file_scoped all f kept))
            (subst (λ ms. ServicesAt all depth (rows_in (scope_of name) ms) (service_places f.services.items)) (sym (services_of_file all f)) (own_services all name f.services.items (and_right _ _ scoped)));
      }

  pub file_rows : (fs : List File) → list_all is_file fs ≡ true → list_all is_scoped fs ≡ true → list_all is_shallow fs ≡ true → AreFileRows all depth (map (file_written all) fs) fs
  file_rows [] kept scoped shallow = record { types = refl; enums = refl; services = refl; placed = λ counts behind. refl; files = λ counts behind. refl }
  file_rows (f ∷ fs) kept scoped shallow =
      more_files all depth (file_written all f) f (file_row f (and_left (is_file f) (list_all is_file fs) kept) (and_left (is_scoped f) (list_all is_scoped fs) scoped) (and_left (is_shallow f) (list_all is_shallow fs) shallow)) (map (file_written all) fs) fs
      (file_rows fs (and_right (is_file f) (list_all is_file fs) kept) (and_right (is_scoped f) (list_all is_scoped fs) scoped) (and_right (is_shallow f) (list_all is_shallow fs) shallow))
