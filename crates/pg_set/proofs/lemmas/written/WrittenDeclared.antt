-- What is written of the files of a schema may be in one table: it declares each name as often as the schema does.
use Rattle.std.proofs.Common.{◌≡◌, ℕ, zero, suc, ◌+◌, ◌≤◌, ◌^◌, Bool, true, false, cond, not, nat_eq, List, [], ◌∷◌, ◌++◌, map, flat_map, filter, length, Option, Some, None, slice_get, refl, ap, ap₂, sym, ◌∙◌, arith}
use Rattle.std.proofs.lemmas.Bool.{false≢true}
use Rattle.std.proofs.lemmas.Grind.{flat_map-append}
use Rattle.std.proofs.lemmas.List.{length-map, map-append}
use Rattle.std.proofs.lemmas.Option.{none-some, same_Some}
use Rattle.std.proofs.lemmas.Slice.Eq.{bytes_eq-Decides}
use Rattle.std.proofs.lemmas.Simd.{map-map}
use Rattle.std.specs.List.{list_all}
use Rattle.std.specs.Str.{bytes_eq}
use Rattle.std.specs.String.{string_bytes}
use Rattle.pg_schema.specs.declared.parts.enum_type.EnumType.{EnumType}
use Rattle.pg_schema.specs.declared.parts.enum_type.EnumValue.{EnumValue}
use Rattle.pg_schema.specs.declared.parts.field.EnumId.{EnumId}
use Rattle.pg_schema.specs.declared.parts.field.Field.{Field}
use Rattle.pg_schema.specs.declared.parts.file.File.{File}
use Rattle.pg_schema.specs.declared.parts.message_type.MessageType.{MessageType}
use Rattle.pg_schema.specs.declared.parts.Parts.{Parts}
use Rattle.pg_schema.specs.declared.parts.service.Method.{Method}
use Rattle.pg_schema.specs.declared.parts.service.Service.{Service}
use Rattle.pg_schema.specs.rules.DeclaredNames as schema
use Rattle.pg_schema.specs.rules.DeclaredNames.{declared_names, entry_names, entry_of, method_names, values_at, values_of, within}
use Rattle.pg_schema.specs.rules.Enums.{is_enum, value_names}
use Rattle.pg_schema.specs.rules.Files.{is_file, is_service}
use Rattle.pg_schema.specs.rules.Messages.{field_names, is_declared, is_message_type, numbers}
use Rattle.pg_schema.specs.rules.Packages.{are_free_of, is_free_of, is_front}
use Rattle.pg_schema.specs.rules.Pairs.{are_distinct, is_rising}
use Rattle.pg_schema.specs.rules.Sound.{IsSound}
use Rattle.pg_schema.proofs.lemmas.rules.PairLemmas.{and_both, and_left, and_right}
use Rattle.pg_dyn.specs.message.Message.{Message}
use Rattle.pg_schema.specs.standing.Places.{most_deep}
use Rattle.pg_set.specs.writing.Entries.{entries}
use Rattle.pg_set.specs.writing.Fields.{dotted, fields_items}
use Rattle.pg_set.specs.writing.Items.{Items}
use Rattle.pg_set.specs.writing.Messages.{declared_fields, enum_items, enums_items, types_items, value_items, where_found}
use Rattle.pg_set.specs.stated.Outlines.{Row, file_enums, file_services, file_types}
use Rattle.pg_set.specs.writing.Places.{Declared, declared_in}
use Rattle.pg_set.specs.stated.SetMessages.{children_at, text_at}
use Rattle.pg_set.specs.stated.FileMessages.{is_place}
use Rattle.pg_set.specs.stated.TypeMessages.{is_entry, is_no_entry, real_oneofs, synthetic_places}
use Rattle.pg_set.specs.writing.Set.{method_items}
use Rattle.pg_set.specs.stated.SetNames.{file_scope, files_names, name_in, qualified, qualified_names}
use Rattle.pg_set.specs.stated.StatedTable.{few, has_no_entries, may_declare, names_of, names_oneofs, nests_within}
use Rattle.pg_set.specs.stated.StatedTypes.{own_entries}
use Rattle.pg_set.proofs.lemmas.lists.Tests.{is_below}
use Rattle.pg_set.proofs.lemmas.written.DeclaredFields.{declared_size}
use Rattle.pg_set.proofs.lemmas.lists.NameCounts.{all_counted, at_most_once, count, count_append, each_once}
use Rattle.pg_set.proofs.lemmas.rows.NamesOfRows.{in_file, in_files, in_service, in_type, values_names}
use Rattle.pg_set.proofs.lemmas.outline.OutlinedFiles.{free_there}
use Rattle.pg_set.proofs.lemmas.rows.RowPlaces.{test_at}
use Rattle.pg_set.proofs.lemmas.written.names.NamedScopes.{service_is_scope, type_is_scope}
use Rattle.pg_set.proofs.lemmas.written.names.PlainNames.{methods_plain, type_plain, values_plain}
use Rattle.pg_set.proofs.lemmas.written.names.QualifiedNames.{all_in, distinct_dotted, is_plain, scope_free, scope_of}
use Rattle.pg_set.proofs.lemmas.written.Slots.{made}
use Rattle.pg_set.proofs.lemmas.written.TypeRules.{declared, rising}
use Rattle.pg_set.proofs.lemmas.written.WrittenEntries.{entries_called, none_passes}
use Rattle.pg_set.proofs.lemmas.written.WrittenEnums.{enum_values, map_made, value_called}
use Rattle.pg_set.proofs.lemmas.written.WrittenFields.{name_said}
use Rattle.pg_set.proofs.lemmas.written.WrittenFiles.{enums_of_file, file_scoped, file_written, types_of_file}
use Rattle.pg_set.proofs.lemmas.written.WrittenOneofs.{oneofs_named}
use Rattle.pg_set.proofs.lemmas.written.WrittenRows.{enum_row, service_row}
use Rattle.pg_set.proofs.lemmas.written.WrittenServices.{method_called, service_methods}
use Rattle.pg_set.proofs.lemmas.written.WrittenTypes.{inside, none_entry, type_row, type_entries, type_enums, type_fields, type_oneof_count, type_real_oneofs, type_written}

map_flat : {A : Type 0} (g : List ℕ → List ℕ) (f : A → List (List ℕ)) (xs : List A) → map g (flat_map f xs) ≡ flat_map (λ x. map g (f x)) xs
map_flat g f [] = refl
map_flat g f (x ∷ xs) = map-append g (f x) (flat_map f xs) ∙ ap (λ ys. map g (f x) ++ ys) (map_flat g f xs)

-- the qualified names of words in a scope that has a name are their full names with a dot in front
words_in : (scope : List ℕ) → scope_of scope ≡ dotted scope → (names : List (List ℕ)) → list_all is_plain names ≡ true → map dotted (map (within scope) names) ≡ map (name_in (dotted scope)) names
words_in scope named names plain = all_in scope names plain ∙ ap (λ s. map (name_in s) names) named

-- ---- the names of one message type

module _ (all : Declared) (scope : List ℕ) where
  fields_called : (full : List ℕ) (next : ℕ) (fs : List Field) → qualified_names scope (map made (fields_items all full next fs)) ≡ map (name_in scope) (field_names fs)
  fields_called full next [] = refl
  fields_called full next (f ∷ fs) = ap₂ (λ n ns. n ∷ ns) (ap (name_in scope) (name_said all full next f)) (fields_called full (cond f.states_optional (suc next) next) fs)

  each_called : (ms : List Message) (names : List (List ℕ)) → map (text_at 1) ms ≡ names → qualified_names scope ms ≡ map (name_in scope) names
  each_called ms names called = sym (map-map (name_in scope) (text_at 1) ms) ∙ ap (map (name_in scope)) called

  one_called : (e : EnumType) → qualified_names scope (children_at 2 (made (enum_items e))) ≡ map (name_in scope) (value_names e.values.items)
  one_called e =
      ap (qualified_names scope) (enum_values e)
      ∙ (map_made (qualified scope) value_items (λ (v : EnumValue). name_in scope (string_bytes v.name)) (λ v. ap (name_in scope) (value_called v)) e.values.items
      ∙ sym (map-map (name_in scope) (λ (v : EnumValue). string_bytes v.name) e.values.items))

  values_called : (ids : List EnumId) → values_names scope (map made (enums_items all ids)) ≡ map (name_in scope) (values_at all.enums ids)
  values_called [] = refl
  values_called (id ∷ ids) = of (slice_get all.enums id.index) (values_called ids)
    where
      of : (o : Option EnumType) → values_names scope (map made (enums_items all ids)) ≡ map (name_in scope) (values_at all.enums ids)
          → values_names scope (map made (where_found enum_items o ++ enums_items all ids)) ≡ map (name_in scope) (values_of o ++ values_at all.enums ids)
      of None later = later
      of (Some e) later = ap₂ (λ xs ys. xs ++ ys) (one_called e) later ∙ sym (map-append (name_in scope) (value_names e.values.items) (values_at all.enums ids))

-- how often a name occurs in what is made of each field
module _ (n : List ℕ) (scope : List ℕ) (names : List Field → List (List ℕ)) (apart : (xs ys : List Field) → names (xs ++ ys) ≡ names xs ++ names ys) where
  as_much : (xs ys : List Field) → count n (map (name_in scope) (names (xs ++ ys))) ≡ count n (map (name_in scope) (names xs)) + count n (map (name_in scope) (names ys))
  as_much xs ys =
      ap (λ ns. count n (map (name_in scope) ns)) (apart xs ys)
      ∙ (ap (count n) (map-append (name_in scope) (names xs) (names ys)) ∙ count_append n (map (name_in scope) (names xs)) (map (name_in scope) (names ys)))

names_apart : (xs ys : List Field) → field_names (xs ++ ys) ≡ field_names xs ++ field_names ys
names_apart xs ys = map-append (λ (f : Field). string_bytes f.name) xs ys

entries_apart : (xs ys : List Field) → entry_names (xs ++ ys) ≡ entry_names xs ++ entry_names ys
entries_apart xs ys = flat_map-append entry_of xs ys

abbrev together : List ℕ → (fields oneofs entries values : List (List ℕ)) → List (List ℕ)
together name fields oneofs entries values = (name ∷ (fields ++ oneofs) ++ entries) ++ values

-- the qualified names that a schema's message type declares
abbrev type_names : List EnumType → MessageType → List (List ℕ)
type_names enums t = map dotted (schema.type_names enums t)

module _ (all : Declared) (t : MessageType) (is_rising : is_rising (numbers t.fields.items) ≡ true) (is_declared : is_declared t.declared.items t.fields.items ≡ true) where
  abbrev full : List ℕ
  full = string_bytes t.name

  abbrev name : List ℕ
  name = dotted full

  abbrev its : List (List ℕ) → List (List ℕ)
  its names = map (name_in name) names

  abbrev fields : List (List ℕ)
  fields = field_names t.fields.items

  abbrev oneofs : List (List ℕ)
  oneofs = map string_bytes t.oneofs.items

  abbrev inner : List (List ℕ)
  inner = entry_names t.fields.items

  abbrev values : List (List ℕ)
  values = values_at all.enums t.nested_enums.items

  of_row : (nested : List Items) → list_all is_no_entry (map made nested) ≡ true
      → in_type (name, type_written all nested t) ≡ together name (its (field_names (declared_fields t))) (its oneofs) (its (entry_names (declared_fields t))) (its values)
  of_row nested plain =
      let m : Message = type_written all nested t in
      let own : List (List ℕ) = qualified_names name (own_entries m) in
      let last : List (List ℕ) = values_names name (children_at 4 m) in
      let real : List (List ℕ) = qualified_names name (real_oneofs (synthetic_places (children_at 2 m)) 0 (children_at 8 m)) in
      ap₂ (λ a b. together name a b own last) (ap (qualified_names name) (type_fields all nested t) ∙ fields_called all name full (length t.oneofs.items) (declared_fields t))
      (each_called all name (real_oneofs (synthetic_places (children_at 2 m)) 0 (children_at 8 m)) oneofs (type_real_oneofs all nested t))
      ∙ ap₂ (λ c d. together name (its (field_names (declared_fields t))) (its oneofs) c d)
      (ap (qualified_names name) (type_entries all nested t plain) ∙ each_called all name (map made (entries all (declared_fields t))) (entry_names (declared_fields t)) (entries_called all (declared_fields t)))
      (ap (values_names name) (type_enums all nested t) ∙ values_called all name t.nested_enums.items)

  entries_as_often : (n : List ℕ) → count n (its (entry_names (declared_fields t))) ≡ count n (its inner)
  entries_as_often n = declared_size t is_rising is_declared (λ fs. count n (its (entry_names fs))) refl (as_much n name entry_names entries_apart)

  -- where it has a name, and what it declares are words
  module _ (named : scope_of full ≡ name) (words : list_all is_plain (fields ++ oneofs ++ inner ++ values) ≡ true) where
    in_schema : (n : List ℕ) → count n (type_names all.enums t) ≡ cond (bytes_eq n name) 1 0 + count n (its fields) + count n (its oneofs) + count n (its inner) + count n (its values)
    in_schema n =
        ap (λ ns. count n (name ∷ ns)) (words_in full named (fields ++ oneofs ++ inner ++ values) words)
        ∙ omega (
          arith,
          ap (count n) (map-append (name_in name) (fields ++ oneofs ++ inner) values),
          ap (λ ns. count n (ns ++ its values)) (map-append (name_in name) (fields ++ oneofs) inner),
          ap (λ ns. count n (ns ++ its inner ++ its values)) (map-append (name_in name) fields oneofs),
          count_append n (its fields ++ its oneofs ++ its inner) (its values),
          count_append n (its fields ++ its oneofs) (its inner),
          count_append n (its fields) (its oneofs),
        )

    -- each name is in its row as often as in the message type
    row_counted : (nested : List Items) → list_all is_no_entry (map made nested) ≡ true → (n : List ℕ) → count n (in_type (name, type_written all nested t)) ≡ count n (type_names all.enums t)
    row_counted nested plain n =
        let own_fields : List (List ℕ) = its (field_names (declared_fields t)) in
        let own_entries : List (List ℕ) = its (entry_names (declared_fields t)) in
        ap (count n) (of_row nested plain)
        ∙ omega (
          arith,
          in_schema n,
          declared_size t is_rising is_declared (λ fs. count n (its (field_names fs))) refl (as_much n name field_names names_apart),
          entries_as_often n,
          count_append n (name ∷ (own_fields ++ its oneofs) ++ own_entries) (its values),
          count_append n (own_fields ++ its oneofs) own_entries,
          count_append n own_fields (its oneofs),
        )

-- ---- all of them

-- as often in what is made of each as in each
each_counted : {A B : Type 0} (n : List ℕ) (f : A → List (List ℕ)) (row : B → A) (g : B → List (List ℕ)) (xs : List B) → ((place : ℕ) (x : B) → slice_get xs place ≡ Some x → count n (f (row x)) ≡ count n (g x))
    → count n (flat_map f (map row xs)) ≡ count n (flat_map g xs)
each_counted n f row g [] each = refl
each_counted n f row g (x ∷ xs) each =
    omega (arith, each 0 x refl, each_counted n f row g xs (λ place y at. each (suc place) y at), count_append n (f (row x)) (flat_map f (map row xs)), count_append n (g x) (flat_map g xs))

fewer_at : {A : Type 0} (n : List ℕ) (g : A → List (List ℕ)) (xs : List A) (place : ℕ) (x : A) → slice_get xs place ≡ Some x → count n (g x) ≤ count n (flat_map g xs)
fewer_at n g [] place x at = absurd (none-some x at)
fewer_at n g (y ∷ xs) zero x at = omega (arith, ap (λ z. count n (g z)) (same_Some y x at), count_append n (g y) (flat_map g xs))
fewer_at n g (y ∷ xs) (suc place) x at = omega (arith, fewer_at n g xs place x at, count_append n (g y) (flat_map g xs))

count_mapped : (f : List ℕ → List ℕ) (n : List ℕ) (xs : List (List ℕ)) → count n xs ≤ count (f n) (map f xs)
count_mapped f n [] = omega arith
count_mapped f n (x ∷ xs) = of (bytes_eq n x) refl (count_mapped f n xs)
  where
    one : (b : Bool) (k l : ℕ) → b ≡ true → k ≤ l → 1 + k ≤ cond b 1 0 + l
    one true k l is h = omega (arith, h)
    one false k l is h = absurd (false≢true is)

    more : (b : Bool) (k l : ℕ) → k ≤ l → 0 + k ≤ cond b 1 0 + l
    more true k l h = omega (arith, h)
    more false k l h = omega (arith, h)

    of : (b : Bool) → bytes_eq n x ≡ b → count n xs ≤ count (f n) (map f xs) → cond b 1 0 + count n xs ≤ cond (bytes_eq (f n) (f x)) 1 0 + count (f n) (map f xs)
    of true same later = one (bytes_eq (f n) (f x)) (count n xs) (count (f n) (map f xs)) ((bytes_eq-Decides (f n) (f x)).1 (ap f ((bytes_eq-Decides n x).0 same))) later
    of false other later = more (bytes_eq (f n) (f x)) (count n xs) (count (f n) (map f xs)) later

module _ (all : Declared) (enum_rules : list_all is_enum all.enums ≡ true) where
  -- what a message type that keeps its rules declares are words
  type_words : (types enums : ℕ) (t : MessageType) → is_message_type types enums t ≡ true
      → list_all is_plain (field_names t.fields.items ++ map string_bytes t.oneofs.items ++ entry_names t.fields.items ++ values_at all.enums t.nested_enums.items) ≡ true
  type_words types enums t rules = type_plain types enums t rules (values_at all.enums t.nested_enums.items) (values_plain all.enums enum_rules t.nested_enums.items)

  -- the names of its entry types occur once
  entries_once : (types enums : ℕ) (t : MessageType) → is_message_type types enums t ≡ true → scope_of (string_bytes t.name) ≡ dotted (string_bytes t.name) → ((n : List ℕ) → count n (type_names all.enums t) ≤ 1)
      → are_distinct (entry_names (declared_fields t)) ≡ true
  entries_once types enums t rules named few =
      let within_it = name_in (dotted (string_bytes t.name)) in
      each_once (entry_names (declared_fields t)) (λ n. once n (within_it n) (count_mapped within_it n (entry_names (declared_fields t))) (few (within_it n)))
    where
      once : (n m : List ℕ) → count n (entry_names (declared_fields t)) ≤ count m (map (name_in (dotted (string_bytes t.name))) (entry_names (declared_fields t))) → count m (type_names all.enums t) ≤ 1
          → count n (entry_names (declared_fields t)) ≤ 1
      once n m less most =
          omega (
            arith,
            less,
            most,
            entries_as_often all t (rising types enums t rules) (declared types enums t rules) m,
            in_schema all t (rising types enums t rules) (declared types enums t rules) named (type_words types enums t rules) m,
          )

  -- ---- services, files and oneofs

  service_called_once : (types : ℕ) (s : Service) → is_service types s ≡ true → scope_of (string_bytes s.name) ≡ dotted (string_bytes s.name) → in_service (service_row all s) ≡ map dotted (schema.service_names s)
  service_called_once types s rules named =
      let full : List ℕ = string_bytes s.name in
      let name : List ℕ = dotted full in
      ap (λ ns. name ∷ ns)
      (ap (qualified_names name) (service_methods all s)
      ∙ (map_made (qualified name) (method_items all) (λ (d : Method). name_in name (string_bytes d.name)) (λ d. ap (name_in name) (method_called all d)) s.methods.items
      ∙ (sym (map-map (name_in name) (λ (d : Method). string_bytes d.name) s.methods.items) ∙ sym (words_in full named (method_names s.methods.items) (methods_plain types s rules)))))

  files_called : (fs : List File) → list_all is_file fs ≡ true → flat_map in_file (map (file_written all) fs) ≡ flat_map (λ f. map dotted (schema.file_names all.enums f)) fs
  files_called [] rules = refl
  files_called (f ∷ fs) rules =
      ap₂ (λ xs ys. xs ++ ys)
      (ap₂ values_names (file_scoped all f (and_left (is_file f) (list_all is_file fs) rules)) (enums_of_file all f)
      ∙ (values_called all (scope_of (string_bytes f.package)) f.enums.items ∙ sym (all_in (string_bytes f.package) (values_at all.enums f.enums.items) (values_plain all.enums enum_rules f.enums.items))))
      (files_called fs (and_right (is_file f) (list_all is_file fs) rules))

no_entries : (all : Declared) (fs : List File) → list_all has_no_entries (map (file_written all) fs) ≡ true
no_entries all [] = refl
no_entries all (f ∷ fs) =
    and_both (has_no_entries (file_written all f)) (list_all has_no_entries (map (file_written all) fs))
    (ap (λ ms. nat_eq (length (filter is_entry ms)) 0) (types_of_file all f)
    ∙ ap (λ (ms : List Message). nat_eq (length ms) 0) (none_passes is_entry (map made (types_items (length all.types) all f.types.items)) (none_entry all (length all.types) f.types.items)))
    (no_entries all fs)

name_own : (all : Declared) (ts : List MessageType) → list_all names_oneofs (map (type_row all) ts) ≡ true
name_own all [] = refl
name_own all (t ∷ ts) =
    and_both (names_oneofs (type_row all t)) (list_all names_oneofs (map (type_row all) ts))
    (ap₂ (λ count fields. list_all (is_place count) (synthetic_places fields)) (type_oneof_count all (inside all t) t) (type_fields all (inside all t) t)
    ∙ oneofs_named all (string_bytes t.name) (length t.oneofs.items) (declared_fields t))
    (name_own all ts)

-- ---- the files of a schema

module _ (parts : Parts) (sound : IsSound parts) where
  abbrev all : Declared
  all = declared_in parts

  abbrev ms : List Message
  ms = map (file_written all) parts.files.items

  rules : (place : ℕ) (t : MessageType) → slice_get all.types place ≡ Some t → is_message_type (length all.types) (length all.enums) t ≡ true
  rules place t at = test_at (is_message_type (length all.types) (length all.enums)) all.types place t sound.message_types at

  abbrev in_types : List (List ℕ)
  in_types = flat_map (type_names all.enums) all.types

  abbrev in_enums : List (List ℕ)
  in_enums = map (λ (e : EnumType). dotted (string_bytes e.name)) all.enums

  abbrev in_services : List (List ℕ)
  in_services = flat_map (λ s. map dotted (schema.service_names s)) all.services

  abbrev in_files_own : List (List ℕ)
  in_files_own = flat_map (λ f. map dotted (schema.file_names all.enums f)) parts.files.items

  -- the qualified names that the schema declares
  abbrev names : List (List ℕ)
  names = map dotted (declared_names parts)

  names_are : names ≡ in_types ++ in_enums ++ in_services ++ in_files_own
  names_are =
      let types : List (List ℕ) = flat_map (schema.type_names all.enums) all.types in
      let enums : List (List ℕ) = map (λ (e : EnumType). string_bytes e.name) all.enums in
      let services : List (List ℕ) = flat_map schema.service_names all.services in
      map-append dotted (types ++ enums ++ services) (flat_map (schema.file_names all.enums) parts.files.items)
      ∙ ap₂ (λ xs ys. xs ++ ys)
      (map-append dotted (types ++ enums) services
      ∙ ap₂ (λ xs ys. xs ++ ys)
      (map-append dotted types enums ∙ ap₂ (λ xs ys. xs ++ ys) (map_flat dotted (schema.type_names all.enums) all.types) (map-map dotted (λ (e : EnumType). string_bytes e.name) all.enums))
      (map_flat dotted schema.service_names all.services)) (map_flat dotted (schema.file_names all.enums) parts.files.items)

  once_each : (n : List ℕ) → count n names ≤ 1
  once_each n = at_most_once n names (distinct_dotted (declared_names parts) ∙ sound.names)

  whole : (n : List ℕ) → count n names ≡ count n in_types + count n in_enums + count n in_services + count n in_files_own
  whole n =
      ap (count n) names_are ∙ omega (arith, count_append n (in_types ++ in_enums ++ in_services) in_files_own, count_append n (in_types ++ in_enums) in_services, count_append n in_types in_enums)

  -- of each message type the names of its entry types occur once
  pub its_entries_once : (place : ℕ) (t : MessageType) → slice_get all.types place ≡ Some t → are_distinct (entry_names (declared_fields t)) ≡ true
  its_entries_once place t at =
      entries_once all sound.enums (length all.types) (length all.enums) t (rules place t at) (type_is_scope parts sound place t at)
      (λ n. few n (whole n) (fewer_at n (type_names all.enums) all.types place t at) (once_each n))
    where
      few : (n : List ℕ) → count n names ≡ count n in_types + count n in_enums + count n in_services + count n in_files_own → count n (type_names all.enums t) ≤ count n in_types
          → count n names ≤ 1 → count n (type_names all.enums t) ≤ 1
      few n is less most = omega (arith, is, less, most)

  module _ (types : flat_map (file_types most_deep) ms ≡ map (type_row all) all.types) (enums : flat_map (file_enums most_deep) ms ≡ map enum_row all.enums)
      (services : flat_map file_services ms ≡ map (service_row all) all.services) where
    type_counted : (n : List ℕ) (place : ℕ) (t : MessageType) → slice_get all.types place ≡ Some t → count n (in_type (type_row all t)) ≡ count n (type_names all.enums t)
    type_counted n place t at =
        row_counted all t (rising (length all.types) (length all.enums) t (rules place t at)) (declared (length all.types) (length all.enums) t (rules place t at)) (type_is_scope parts sound place t at)
        (type_words all sound.enums (length all.types) (length all.enums) t (rules place t at)) (inside all t) (none_entry all (length all.types) t.nested_types.items) n

    service_counted : (n : List ℕ) (place : ℕ) (s : Service) → slice_get all.services place ≡ Some s → count n (in_service (service_row all s)) ≡ count n (map dotted (schema.service_names s))
    service_counted n place s at =
        ap (count n) (service_called_once all sound.enums (length all.types) s (test_at (is_service (length all.types)) all.services place s sound.services at) (service_is_scope parts sound place s at))

    -- each name is in the set as often as in the schema
    as_often : (n : List ℕ) → count n (files_names most_deep ms) ≡ count n names
    as_often n =
        omega (
          arith,
          whole n,
          in_files n most_deep ms,
          ap (λ rows. count n (flat_map in_type rows)) types,
          each_counted n in_type (type_row all) (type_names all.enums) all.types (type_counted n),
          ap (λ rows. count n (names_of rows)) enums,
          ap (count n) (map-map (λ (r : Row). r.0) enum_row all.enums),
          ap (λ rows. count n (flat_map in_service rows)) services,
          each_counted n in_service (service_row all) (λ s. map dotted (schema.service_names s)) all.services (service_counted n),
          ap (count n) (files_called all sound.enums parts.files.items sound.files),
        )

    pub names_once : are_distinct (files_names most_deep ms) ≡ true
    names_once = each_once (files_names most_deep ms) (λ n. few n (as_often n) (once_each n))
      where
        few : (n : List ℕ) → count n (files_names most_deep ms) ≡ count n names → count n names ≤ 1 → count n (files_names most_deep ms) ≤ 1
        few n is most = omega (arith, is, most)

    packages_free : (fs : List File) → list_all is_file fs ≡ true → are_free_of (declared_names parts) fs ≡ true → list_all (is_free_of (files_names most_deep ms)) (map file_scope (map (file_written all) fs)) ≡ true
    packages_free [] kept free = refl
    packages_free (f ∷ fs) kept free =
        let written = files_names most_deep ms in
        let scope = scope_of (string_bytes f.package) in
        let own = and_left (is_free_of (declared_names parts) (string_bytes f.package)) (are_free_of (declared_names parts) fs) free in
        and_both (is_free_of written (file_scope (file_written all f))) (list_all (is_free_of written) (map file_scope (map (file_written all) fs)))
        (ap (is_free_of written) (file_scoped all f (and_left (is_file f) (list_all is_file fs) kept))
        ∙ all_counted (λ name. not (is_front name scope)) written names as_often (scope_free (declared_names parts) (string_bytes f.package) own))
        (packages_free fs (and_right (is_file f) (list_all is_file fs) kept) (and_right (is_free_of (declared_names parts) (string_bytes f.package)) (are_free_of (declared_names parts) fs) free))

    pub may_be_declared : list_all (nests_within most_deep) ms ≡ true → may_declare most_deep ms ≡ true
    may_be_declared deep =
        and_both _ _ (and_both _ _ (and_both _ _ (and_both _ _ (free_there most_deep ms names_once (packages_free parts.files.items sound.files sound.packages)) (no_entries all parts.files.items)) deep)
        (ap (list_all names_oneofs) types ∙ name_own all all.types))
        (is_below (length (flat_map (file_types most_deep) ms)) (suc (2 ^ 32)) (omega (arith, ap length types, length-map all.types (type_row all), sound.few_types)))
