-- The rows of what is written of message types, enums and services are theirs, one by one by their indices, and the indices that are counted
-- are these, where all are in order of declaration.
use Rattle.std.proofs.Common.{◌≡◌, ℕ, zero, suc, ◌+◌, ◌≤◌, true, List, [], ◌∷◌, ◌++◌, length, map, filter, Option, Some, None, slice_get, refl, ap, ap₂, sym, subst, ◌∙◌, add-one, arith}
use Rattle.std.proofs.lemmas.Bool.{false≢true}
use Rattle.std.proofs.lemmas.List.{length-map}
use Rattle.std.specs.String.{string_bytes}
use Rattle.pg_schema.specs.declared.parts.enum_type.EnumType.{EnumType}
use Rattle.pg_schema.specs.declared.parts.field.EnumId.{EnumId}
use Rattle.pg_schema.specs.declared.parts.field.TypeId.{TypeId}
use Rattle.pg_schema.specs.declared.parts.message_type.MessageType.{MessageType}
use Rattle.pg_schema.specs.declared.parts.Parts.{Parts}
use Rattle.pg_schema.specs.declared.parts.service.Service.{Service}
use Rattle.pg_schema.specs.declared.parts.service.ServiceId.{ServiceId}
use Rattle.pg_schema.specs.rules.Scopes.{are_enums_in, are_services_in, are_types_in, enum_name, enum_places, is_in, is_named_in, is_type_scope, service_name, service_places, type_name, type_places}
use Rattle.pg_schema.specs.rules.Sound.{IsSound}
use Rattle.pg_schema.proofs.lemmas.rules.PairLemmas.{and_left, and_right}
use Rattle.pg_dyn.specs.message.Message.{Message}
use Rattle.pg_schema.specs.standing.InOrder.{enums_below, inner_enums, inner_types, types_below}
use Rattle.pg_schema.specs.standing.Nesting.{holds_inside, nest_within}
use Rattle.pg_schema.specs.standing.Places.{places_from}
use Rattle.pg_set.specs.writing.Fields.{dotted}
use Rattle.pg_set.specs.writing.Items.{Items}
use Rattle.pg_set.specs.writing.Messages.{enum_items, enums_items, own_name, type_items, types_items, where_found}
use Rattle.pg_set.specs.stated.Numbering.{Counts, PlacedType, behind_type, inside_type, placed_types, placed_with, places_of_types}
use Rattle.pg_set.specs.stated.Outlines.{Row, enum_rows, row_in, rows_in, rows_of_enums, rows_of_type, type_rows}
use Rattle.pg_set.specs.writing.Places.{Declared, declared_in}
use Rattle.pg_set.specs.stated.SetMessages.{children_at, text_at}
use Rattle.pg_set.specs.stated.TypeMessages.{is_no_entry}
use Rattle.pg_set.specs.writing.Set.{service_items, services_items}
use Rattle.pg_set.specs.stated.SetNames.{name_in, qualified}
use Rattle.pg_set.proofs.lemmas.rows.RowPlaces.{AreAt, AreFrom, as_long, at_both, at_one, first_and_later, front_and_rest, test_at}
use Rattle.pg_set.proofs.lemmas.written.names.QualifiedNames.{scope_of}
use Rattle.pg_set.proofs.lemmas.written.Slots.{made}
use Rattle.pg_set.proofs.lemmas.written.WrittenEnums.{enum_called}
use Rattle.pg_set.proofs.lemmas.written.names.WrittenNames.{is_scope, name_qualified, named_there}
use Rattle.pg_set.proofs.lemmas.written.WrittenServices.{service_called}
use Rattle.pg_set.proofs.lemmas.written.WrittenTypes.{inside, none_entry, placed_row, type_called, type_enums, type_nested, type_row, type_written}

-- ---- enums and services of one scope

-- the row's qualified name and message are those written of the enum
abbrev pub enum_row : EnumType → Row
enum_row e = (dotted (string_bytes e.name), made (enum_items e))

abbrev pub service_row : Declared → Service → Row
service_row all s = (dotted (string_bytes s.name), made (service_items all s))

-- what is written of one that is in a scope has its qualified name there
in_scope : (scope name : List ℕ) (m : Message) → is_in scope name ≡ true → text_at 1 m ≡ own_name name → row_in (scope_of scope) m ≡ (dotted name, m)
in_scope scope name m inside called = ap (λ n. (n, m)) (ap (name_in (scope_of scope)) called ∙ name_qualified scope name inside)

module _ (all : Declared) where
  pub own_enums : (scope : List ℕ) (ids : List EnumId) → are_enums_in all.enums scope ids ≡ true → AreAt enum_row all.enums (rows_in (scope_of scope) (map made (enums_items all ids))) (enum_places ids)
  own_enums scope [] inside = refl
  own_enums scope (id ∷ ids) inside =
      named_there (λ (e : EnumType). string_bytes e.name) scope (slice_get all.enums id.index) (AreAt enum_row all.enums (rows_in (scope_of scope) (map made (enums_items all (id ∷ ids)))) (enum_places (id ∷ ids)))
      (λ e at here.
      subst (λ o. AreAt enum_row all.enums (rows_in (scope_of scope) (map made (where_found enum_items o ++ enums_items all ids))) (enum_places (id ∷ ids))) (sym at)
      (at_one enum_row all.enums e (row_in (scope_of scope) (made (enum_items e))) id.index (rows_in (scope_of scope) (map made (enums_items all ids))) (enum_places ids) at (in_scope scope (string_bytes e.name) (made (enum_items e)) here (enum_called e))
      (own_enums scope ids (and_right (is_named_in scope (enum_name all.enums id)) (are_enums_in all.enums scope ids) inside))))
      (and_left (is_named_in scope (enum_name all.enums id)) (are_enums_in all.enums scope ids) inside)

  pub own_services : (scope : List ℕ) (ids : List ServiceId) → are_services_in all.services scope ids ≡ true
      → AreAt (service_row all) all.services (rows_in (scope_of scope) (map made (services_items all ids))) (service_places ids)
  own_services scope [] inside = refl
  own_services scope (id ∷ ids) inside =
      named_there (λ (s : Service). string_bytes s.name) scope (slice_get all.services id.index)
      (AreAt (service_row all) all.services (rows_in (scope_of scope) (map made (services_items all (id ∷ ids)))) (service_places (id ∷ ids)))
      (λ s at here.
      subst (λ o. AreAt (service_row all) all.services (rows_in (scope_of scope) (map made (where_found (service_items all) o ++ services_items all ids))) (service_places (id ∷ ids))) (sym at)
      (at_one (service_row all) all.services s (row_in (scope_of scope) (made (service_items all s))) id.index (rows_in (scope_of scope) (map made (services_items all ids))) (service_places ids) at
      (in_scope scope (string_bytes s.name) (made (service_items all s)) here (service_called all s)) (own_services scope ids (and_right (is_named_in scope (service_name all.services id)) (are_services_in all.services scope ids) inside))))
      (and_left (is_named_in scope (service_name all.services id)) (are_services_in all.services scope ids) inside)

-- ---- what is inside message types

none_there : (all : Declared) (deep : ℕ) → types_items deep all [] ≡ []
none_there all zero = refl
none_there all (suc deep) = refl

-- below the depth to which message types are nested nothing more is written
module _ (all : Declared) where
  abbrev IsSettled : (deep high : ℕ) → Type 0
  IsSettled deep high = (ids : List TypeId) → nest_within deep all.types ids ≡ true → types_items deep all ids ≡ types_items high all ids

  settled_each : (deep high : ℕ) → IsSettled deep high → IsSettled (suc deep) (suc high)
  settled_each deep high deeper [] shallow = refl
  settled_each deep high deeper (id ∷ ids) shallow =
      ap₂ (λ xs ys. xs ++ ys) (of (slice_get all.types id.index) (and_left (holds_inside (nest_within deep all.types) (slice_get all.types id.index)) (nest_within (suc deep) all.types ids) shallow))
      (settled_each deep high deeper ids (and_right (holds_inside (nest_within deep all.types) (slice_get all.types id.index)) (nest_within (suc deep) all.types ids) shallow))
    where
      of : (o : Option MessageType) → holds_inside (nest_within deep all.types) o ≡ true
          → where_found (λ (t : MessageType). type_items all (types_items deep all t.nested_types.items) t) o ≡ where_found (λ (t : MessageType). type_items all (types_items high all t.nested_types.items) t) o
      of None h = refl
      of (Some t) h = ap (λ nested. type_items all nested t ∷ []) (deeper t.nested_types.items h)

  settled : (deep high : ℕ) → deep ≤ high → IsSettled deep high
  settled zero high h [] shallow = sym (none_there all high)
  settled zero high h (id ∷ ids) shallow = absurd (false≢true shallow)
  settled (suc deep) zero h ids shallow = absurd (omega (arith, h))
  settled (suc deep) (suc high) h ids shallow = settled_each deep high (settled deep high (omega (arith, h))) ids shallow

-- ---- message types

same_placed : {r r' : Row} {ts ts' es es' : List ℕ} → r ≡ r' → ts ≡ ts' → es ≡ es' → ◌≡◌ {A = PlacedType} (record { named = r; types = ts; enums = es }) (record { named = r'; types = ts'; enums = es' })
same_placed row types enums = cc

module _ (all : Declared) where
  abbrev pub TypesAt : List Row → List ℕ → Type 0
  TypesAt = AreAt (type_row all) all.types

  abbrev pub EnumsAt : List Row → List ℕ → Type 0
  EnumsAt = AreAt enum_row all.enums

  abbrev pub PlacedAt : List PlacedType → List ℕ → Type 0
  PlacedAt = AreAt (placed_row all) all.types

  -- the messages are those of the message types at these indices, nested less deep than that: so are their rows, and the counted indices
  pub record AreRows (depth : ℕ) (scope : List ℕ) (ms : List Message) (ids : List TypeId) : Type 0 where
    pub types : TypesAt (type_rows depth scope ms) (types_below depth all.types ids)
    pub enums : EnumsAt (enum_rows depth scope ms) (enums_below depth all.types ids)
    pub places : (counts : Counts) → AreFrom counts.types (types_below depth all.types ids) → AreFrom counts.enums (enums_below depth all.types ids) → type_places ids ≡ places_of_types depth scope counts ms
    pub placed : (counts : Counts) → AreFrom counts.types (types_below depth all.types ids) → AreFrom counts.enums (enums_below depth all.types ids)
        → PlacedAt (placed_types depth scope counts ms) (types_below depth all.types ids)

  -- the same of one, with what is inside it
  record IsRow (depth : ℕ) (scope : List ℕ) (m : Message) (place : ℕ) (t : MessageType) : Type 0 where
    types : TypesAt (rows_of_type (type_rows depth) scope m) (place ∷ types_below depth all.types t.nested_types.items)
    enums : EnumsAt (rows_of_enums (enum_rows depth) scope m) (enum_places t.nested_enums.items ++ enums_below depth all.types t.nested_types.items)
    placed : (counts : Counts) → AreFrom counts.types (place ∷ types_below depth all.types t.nested_types.items)
        → AreFrom counts.enums (enum_places t.nested_enums.items ++ enums_below depth all.types t.nested_types.items)
        → PlacedAt (placed_with depth (placed_types depth) scope counts m) (place ∷ types_below depth all.types t.nested_types.items)

  one_row : (depth : ℕ) (scope : List ℕ) (m : Message) (place : ℕ) (t : MessageType) → slice_get all.types place ≡ Some t → row_in scope m ≡ type_row all t
      → EnumsAt (rows_in (qualified scope m) (children_at 4 m)) (enum_places t.nested_enums.items) → AreRows depth (qualified scope m) (filter is_no_entry (children_at 3 m)) t.nested_types.items → IsRow depth scope m place t
  one_row depth scope m place t at is own deeper =
      let full = qualified scope m in
      let inner = filter is_no_entry (children_at 3 m) in
      let below = types_below depth all.types t.nested_types.items in
      let enums_inside = enums_below depth all.types t.nested_types.items in
      record {
        types = at_one (type_row all) all.types t (row_in scope m) place (type_rows depth full inner) below at is deeper.types;
        enums = at_both enum_row all.enums (rows_in full (children_at 4 m)) (enum_rows depth full inner) (enum_places t.nested_enums.items) enums_inside own deeper.enums;
        placed = λ counts types enums.
            let later : AreFrom (counts.types + 1) below = subst (λ n. AreFrom n below) (sym (add-one counts.types)) (first_and_later counts.types place below types).1 in
            let both = front_and_rest counts.enums (enum_places t.nested_enums.items) enums_inside enums in
            let many : length (enum_places t.nested_enums.items) ≡ length (children_at 4 m) =
            sym (as_long enum_row all.enums (rows_in full (children_at 4 m)) (enum_places t.nested_enums.items) own) ∙ length-map (children_at 4 m) (row_in full) in
            let behind : AreFrom (counts.enums + length (children_at 4 m)) enums_inside = subst (λ n. AreFrom (counts.enums + n) enums_inside) many both.1 in
            at_one (placed_row all) all.types t
            (record { named = row_in scope m; types = places_of_types depth full (inside_type counts m) inner; enums = places_from counts.enums (length (children_at 4 m)) }) place (placed_types depth full (inside_type counts m) inner) below at
            (same_placed is (sym (deeper.places (inside_type counts m) later behind)) (sym (both.0 ∙ ap (places_from counts.enums) many))) (deeper.placed (inside_type counts m) later behind);
      }

  more_rows : (depth : ℕ) (scope : List ℕ) (m : Message) (ms : List Message) (id : TypeId) (ids : List TypeId) (t : MessageType) → slice_get all.types id.index ≡ Some t → IsRow depth scope m id.index t
      → AreRows (suc depth) scope ms ids → AreRows (suc depth) scope (m ∷ ms) (id ∷ ids)
  more_rows depth scope m ms id ids t at one later =
      let own = id.index ∷ types_below depth all.types t.nested_types.items in
      let own_enums = enum_places t.nested_enums.items ++ enums_below depth all.types t.nested_types.items in
      let behind = types_below (suc depth) all.types ids in
      let enums_behind = enums_below (suc depth) all.types ids in
      let many : length own ≡ length (rows_of_type (type_rows depth) scope m) = sym (as_long (type_row all) all.types (rows_of_type (type_rows depth) scope m) own one.types) in
      let many_enums : length own_enums ≡ length (rows_of_enums (enum_rows depth) scope m) = sym (as_long enum_row all.enums (rows_of_enums (enum_rows depth) scope m) own_enums one.enums) in
      let types_are : types_below (suc depth) all.types (id ∷ ids) ≡ own ++ behind = ap (λ o. (id.index ∷ inner_types (types_below depth all.types) o) ++ behind) at in
      let enums_are : enums_below (suc depth) all.types (id ∷ ids) ≡ own_enums ++ enums_behind = ap (λ o. inner_enums (enums_below depth all.types) o ++ enums_behind) at in
      let split : (counts : Counts) → AreFrom counts.types (types_below (suc depth) all.types (id ∷ ids)) → AreFrom counts.types own × AreFrom (counts.types + length (rows_of_type (type_rows depth) scope m)) behind =
      λ counts types.
      let parts = front_and_rest counts.types own behind (subst (AreFrom counts.types) types_are types) in
      (parts.0, subst (λ n. AreFrom (counts.types + n) behind) many parts.1) in
      let split_enums : (counts : Counts) → AreFrom counts.enums (enums_below (suc depth) all.types (id ∷ ids))
      → AreFrom counts.enums own_enums × AreFrom (counts.enums + length (rows_of_enums (enum_rows depth) scope m)) enums_behind =
      λ counts enums.
      let parts = front_and_rest counts.enums own_enums enums_behind (subst (AreFrom counts.enums) enums_are enums) in
      (parts.0, subst (λ n. AreFrom (counts.enums + n) enums_behind) many_enums parts.1) in
      record {
        types = subst (TypesAt (type_rows (suc depth) scope (m ∷ ms))) (sym types_are)
            (at_both (type_row all) all.types (rows_of_type (type_rows depth) scope m) (type_rows (suc depth) scope ms) own behind one.types later.types);
        enums = subst (EnumsAt (enum_rows (suc depth) scope (m ∷ ms))) (sym enums_are)
            (at_both enum_row all.enums (rows_of_enums (enum_rows depth) scope m) (enum_rows (suc depth) scope ms) own_enums enums_behind one.enums later.enums);
        places = λ counts types enums.
            ap₂ (λ x xs. x ∷ xs) (first_and_later counts.types id.index (types_below depth all.types t.nested_types.items) (split counts types).0).0
            (later.places (behind_type depth scope counts m) (split counts types).1 (split_enums counts enums).1);
        placed = λ counts types enums.
            subst (PlacedAt (placed_types (suc depth) scope counts (m ∷ ms))) (sym types_are)
            (at_both (placed_row all) all.types (placed_with depth (placed_types depth) scope counts m) (placed_types (suc depth) scope (behind_type depth scope counts m) ms) own behind
            (one.placed counts (split counts types).0 (split_enums counts enums).0) (later.placed (behind_type depth scope counts m) (split counts types).1 (split_enums counts enums).1));
      }

module _ (parts : Parts) (sound : IsSound parts) where
  abbrev all : Declared
  all = declared_in parts

  -- message types inside, nested less deep than that on both sides
  abbrev Inner : ℕ → ℕ → Type 0
  Inner depth deep =
      (scope : List ℕ) (ids : List TypeId) → nest_within depth all.types ids ≡ true → nest_within deep all.types ids ≡ true → are_types_in all.types scope ids ≡ true
      → AreRows all depth (scope_of scope) (map made (types_items deep all ids)) ids

  whole : (depth deep : ℕ) → deep ≤ length all.types → Inner depth deep → (scope : List ℕ) (i : ℕ) (t : MessageType) → slice_get all.types i ≡ Some t → is_in scope (string_bytes t.name) ≡ true
      → nest_within depth all.types t.nested_types.items ≡ true → nest_within deep all.types t.nested_types.items ≡ true
      → IsRow all depth (scope_of scope) (type_written all (types_items deep all t.nested_types.items) t) i t
  whole depth deep low inner scope i t at here shallow enough =
      let nested : List Items = types_items deep all t.nested_types.items in
      let name : List ℕ = string_bytes t.name in
      let m : Message = type_written all nested t in
      let scoped : is_type_scope all.types all.enums t ≡ true = test_at (is_type_scope all.types all.enums) all.types i t sound.type_scopes at in
      let full : qualified (scope_of scope) m ≡ scope_of name = ap (name_in (scope_of scope)) (type_called all nested t) ∙ (name_qualified scope name here ∙ sym (is_scope scope name here)) in
      one_row all depth (scope_of scope) m i t at (in_scope scope name m here (type_called all nested t) ∙ ap (λ xs. (dotted name, type_written all xs t)) (settled all deep (length all.types) low t.nested_types.items enough))
      (subst (λ s. EnumsAt all (rows_in s (children_at 4 m)) (enum_places t.nested_enums.items)) (sym full)
      (subst (λ ms. EnumsAt all (rows_in (scope_of name) ms) (enum_places t.nested_enums.items)) (sym (type_enums all nested t))
      (own_enums all name t.nested_enums.items (and_right (are_types_in all.types name t.nested_types.items) (are_enums_in all.enums name t.nested_enums.items) scoped))))
      (subst (λ s. AreRows all depth s (filter is_no_entry (children_at 3 m)) t.nested_types.items) (sym full)
      (subst (λ ms. AreRows all depth (scope_of name) ms t.nested_types.items) (sym (type_nested all nested t (none_entry all deep t.nested_types.items)))
      (inner name t.nested_types.items shallow enough (and_left (are_types_in all.types name t.nested_types.items) (are_enums_in all.enums name t.nested_enums.items) scoped))))

  each_type : (depth deep : ℕ) → deep ≤ length all.types → Inner depth deep → Inner (suc depth) (suc deep)
  each_type depth deep low inner scope [] shallow enough inside = record { types = refl; enums = refl; places = λ counts types enums. refl; placed = λ counts types enums. refl }
  each_type depth deep low inner scope (id ∷ ids) shallow enough inside =
      named_there (λ (t : MessageType). string_bytes t.name) scope (slice_get all.types id.index) (AreRows all (suc depth) (scope_of scope) (map made (types_items (suc deep) all (id ∷ ids))) (id ∷ ids))
      (λ t at here.
      subst (λ o. AreRows all (suc depth) (scope_of scope) (map made (where_found (λ (x : MessageType). type_items all (types_items deep all x.nested_types.items) x) o ++ types_items (suc deep) all ids)) (id ∷ ids)) (sym at)
      (more_rows all depth (scope_of scope) (type_written all (types_items deep all t.nested_types.items) t) (map made (types_items (suc deep) all ids)) id ids t at
      (whole depth deep low inner scope id.index t at here
      (sym (ap (holds_inside (nest_within depth all.types)) at) ∙ and_left (holds_inside (nest_within depth all.types) (slice_get all.types id.index)) (nest_within (suc depth) all.types ids) shallow)
      (sym (ap (holds_inside (nest_within deep all.types)) at) ∙ and_left (holds_inside (nest_within deep all.types) (slice_get all.types id.index)) (nest_within (suc deep) all.types ids) enough))
      (each_type depth deep low inner scope ids
      (and_right (holds_inside (nest_within depth all.types) (slice_get all.types id.index)) (nest_within (suc depth) all.types ids) shallow)
      (and_right (holds_inside (nest_within deep all.types) (slice_get all.types id.index)) (nest_within (suc deep) all.types ids) enough)
      (and_right (is_named_in scope (type_name all.types id)) (are_types_in all.types scope ids) inside))))
      (and_left (is_named_in scope (type_name all.types id)) (are_types_in all.types scope ids) inside)

  pub types_written : (depth deep : ℕ) → deep ≤ length all.types → Inner depth deep
  types_written zero deep low scope [] shallow enough inside = record { types = refl; enums = refl; places = λ counts types enums. refl; placed = λ counts types enums. refl }
  types_written zero deep low scope (id ∷ ids) shallow enough inside = absurd (false≢true shallow)
  types_written (suc depth) zero low scope [] shallow enough inside = record { types = refl; enums = refl; places = λ counts types enums. refl; placed = λ counts types enums. refl }
  types_written (suc depth) zero low scope (id ∷ ids) shallow enough inside = absurd (false≢true enough)
  types_written (suc depth) (suc deep) low scope ids shallow enough inside = each_type depth deep (omega (arith, low)) (types_written depth deep (omega (arith, low))) scope ids shallow enough inside
