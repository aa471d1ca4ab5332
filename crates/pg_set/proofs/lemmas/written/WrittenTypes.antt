-- What is written of message types states them, with all that is inside.
use Rattle.std.proofs.Common.{◌≡◌, ℕ, zero, suc, ◌+◌, ◌-◌, ◌<◌, ◌≤◌, Bool, true, false, cond, List, [], ◌∷◌, ◌++◌, map, filter, length, Option, Some, None, option_map, slice_get, refl, ap, ap₂, sym, subst, ◌∙◌, arith, unwrap_or, rules}
use Rattle.std.proofs.lemmas.Bool.{false≢true}
use Rattle.std.proofs.lemmas.List.{length-map}
use Rattle.std.specs.List.{AllByRecursion, list_all}
use Rattle.std.specs.String.{string_bytes}
use Rattle.pg_schema.specs.declared.parts.field.Field.{Field}
use Rattle.pg_schema.specs.declared.parts.field.TypeId.{TypeId}
use Rattle.pg_schema.specs.declared.parts.message_type.MessageType.{MessageType}
use Rattle.pg_schema.specs.declared.parts.message_type.ReservedFields.{ReservedFields}
use Rattle.pg_schema.specs.rules.DeclaredNames.{entry_names}
use Rattle.pg_schema.specs.rules.Fields.{is_oneof}
use Rattle.pg_schema.specs.rules.Messages.{is_message_type}
use Rattle.pg_schema.specs.rules.Pairs.{are_distinct}
use Rattle.pg_schema.specs.rules.Scopes.{enum_places, type_places}
use Rattle.pg_schema.specs.rules.Uses.{is_reserved_range}
use Rattle.pg_schema.proofs.lemmas.rules.PairLemmas.{and_both, and_left, and_right}
use Rattle.pg_dyn.specs.message.Message.{Message}
use Rattle.pg_set.specs.declared.reading.outline.Named.TheVariants as nameds
use Rattle.pg_set.specs.writing.Entries.{entries}
use Rattle.pg_set.specs.writing.Fields.{dotted, fields_items}
use Rattle.pg_set.specs.writing.Items.{Items, stated}
use Rattle.pg_set.specs.writing.Messages.{declared_fields, enums_items, field_range, names_within, oneof_items, oneof_names, own_type_name, type_items, types_items, where_found}
use Rattle.pg_set.specs.stated.Numbering.{PlacedType}
use Rattle.pg_set.specs.stated.Outlines.{Row}
use Rattle.pg_set.specs.writing.Places.{Declared}
use Rattle.pg_set.specs.stated.SetMessages.{children_at, flag_at, flag_of, maybe_flag_at, options_at, text_at, texts_at}
use Rattle.pg_set.specs.stated.TypeMessages.{is_entry, is_no_entry}
use Rattle.pg_set.specs.stated.SetNames.{qualified}
use Rattle.pg_set.specs.stated.StatedFields as fields
use Rattle.pg_set.specs.stated.StatedFields.{Owner}
use Rattle.pg_set.specs.stated.StatedNames.{NameLookup, each}
use Rattle.pg_set.specs.stated.StatedOneofs.{members_in, synthetic_in}
use Rattle.pg_set.specs.stated.StatedTypes as set_types
use Rattle.pg_set.specs.stated.Views.{field_view, type_view}
use Rattle.pg_set.proofs.lemmas.lists.Tests.{at_most, below}
use Rattle.pg_set.proofs.lemmas.written.DeclaredFields.{such_declared}
use Rattle.pg_set.proofs.lemmas.written.DeclaredViews.{numbers_are, sorted_are}
use Rattle.pg_set.proofs.lemmas.lists.Each.{each_cons}
use Rattle.pg_set.proofs.lemmas.reading.FieldSteps.{fields_named}
use Rattle.pg_set.proofs.lemmas.reading.NamedOnce.{written_once}
use Rattle.pg_set.proofs.lemmas.rows.PlaceIds.{enums_of_places, types_of_places}
use Rattle.pg_set.proofs.lemmas.written.names.QualifiedNames.{is_plain, scope_of}
use Rattle.pg_set.proofs.lemmas.written.Slots.{Slot, children_said, children_slot, count_slot, made, number_said, options_said, options_slot, says, stated_said, stated_slot, text_said, text_slot, texts_said, texts_slot}
use Rattle.pg_set.proofs.lemmas.written.TypeRules.{declared, fields_in_oneofs, fields_keep, ranges_kept, rising}
use Rattle.pg_set.proofs.lemmas.lists.ViewLaws.{same_type}
use Rattle.pg_set.proofs.lemmas.written.WrittenEntries.{entries_kept, entries_named, have_entries, others_kept}
use Rattle.pg_set.proofs.lemmas.written.WrittenFields.{written}
use Rattle.pg_set.proofs.lemmas.written.WrittenItems.{HasEntry, HasEntryName, Keeps, field_is, natural_is}
use Rattle.pg_set.proofs.lemmas.written.WrittenOneofs.{oneof_is, oneofs_called, oneofs_count, optional_fields}
use Rattle.pg_set.proofs.lemmas.written.WrittenServices.{HasNames}

-- ---- what is reserved

one_less : (n : ℕ) → suc n - 1 ≡ n
one_less n = omega arith

same_range : {f f' l l' : ℕ} → f ≡ f' → l ≡ l' → ◌≡◌ {A = ReservedFields} (record { first = f; last = l }) (record { first = f'; last = l' })
same_range first last = cc

abbrev range_slots : ReservedFields → List Slot
range_slots r = count_slot 2 (suc r.last) ∷ count_slot 1 r.first ∷ []

range_is : (r : ReservedFields) → is_reserved_range r ≡ true → set_types.field_range (made (field_range r)) ≡ r
range_is r rule = search (rules, made, below, and_right, at_most, and_left, unwrap_or, number_said, says, same_range, natural_is, one_less)

ranges_are : (rs : List ReservedFields) → list_all is_reserved_range rs ≡ true → map set_types.field_range (map made (map field_range rs)) ≡ rs
ranges_are [] rules = refl
ranges_are (r ∷ rs) rules =
    ap₂ (λ x xs. x ∷ xs) (range_is r (and_left (is_reserved_range r) (list_all is_reserved_range rs) rules)) (ranges_are rs (and_right (is_reserved_range r) (list_all is_reserved_range rs) rules))

-- ---- what one message type says

module _ (all : Declared) (nested : List Items) (t : MessageType) where
  abbrev pub type_written : Message
  type_written = made (type_items all nested t)

  abbrev slots : List Slot
  slots =
      texts_slot 10 (map string_bytes t.reserved_names.items) ∷ children_slot 9 (map field_range t.reserved_numbers.items) ∷ children_slot 8 (map oneof_items (oneof_names all t))
      ∷ options_slot 7 (stated 3 t.options.deprecated) ∷ children_slot 4 (enums_items all t.nested_enums.items) ∷ children_slot 3 (nested ++ entries all (declared_fields t))
      ∷ children_slot 2 (fields_items all (string_bytes t.name) (length t.oneofs.items) (declared_fields t)) ∷ text_slot 1 (own_type_name t) ∷ []

  abbrev pub field_messages : List Message
  field_messages = map made (fields_items all (string_bytes t.name) (length t.oneofs.items) (declared_fields t))

  pub type_called : text_at 1 type_written ≡ own_type_name t
  type_called = text_said 1 type_written (own_type_name t) (says 1 slots refl)

  pub type_fields : children_at 2 type_written ≡ field_messages
  type_fields = children_said 2 type_written (fields_items all (string_bytes t.name) (length t.oneofs.items) (declared_fields t)) (says 2 slots refl)

  pub type_inside : children_at 3 type_written ≡ map made (nested ++ entries all (declared_fields t))
  type_inside = children_said 3 type_written (nested ++ entries all (declared_fields t)) (says 3 slots refl)

  pub type_enums : children_at 4 type_written ≡ map made (enums_items all t.nested_enums.items)
  type_enums = children_said 4 type_written (enums_items all t.nested_enums.items) (says 4 slots refl)

  pub type_oneofs : children_at 8 type_written ≡ map made (map oneof_items (oneof_names all t))
  type_oneofs = children_said 8 type_written (map oneof_items (oneof_names all t)) (says 8 slots refl)

  told : options_at 7 type_written ≡ made (stated 3 t.options.deprecated)
  told = options_said 7 type_written (stated 3 t.options.deprecated) (says 7 slots refl)

  type_deprecated : maybe_flag_at 3 (options_at 7 type_written) ≡ t.options.deprecated
  type_deprecated = ap (maybe_flag_at 3) told ∙ stated_said 3 (made (stated 3 t.options.deprecated)) t.options.deprecated (says 3 (stated_slot 3 t.options.deprecated ∷ []) refl)

  pub type_no_entry : is_entry type_written ≡ false
  type_no_entry = ap (flag_at 7) told ∙ ap (λ xs. unwrap_or (option_map flag_of (slice_get xs 0)) false) (says 7 (stated_slot 3 t.options.deprecated ∷ []) refl)

  type_ranges : list_all is_reserved_range t.reserved_numbers.items ≡ true → map set_types.field_range (children_at 9 type_written) ≡ t.reserved_numbers.items
  type_ranges kept = ap (map set_types.field_range) (children_said 9 type_written (map field_range t.reserved_numbers.items) (says 9 slots refl)) ∙ ranges_are t.reserved_numbers.items kept

  type_reserved : texts_at 10 type_written ≡ map string_bytes t.reserved_names.items
  type_reserved = texts_said 10 type_written (map string_bytes t.reserved_names.items) (says 10 slots refl)

  abbrev real : List (List ℕ)
  real = map string_bytes t.oneofs.items

  pub as_many_real : length real ≡ length t.oneofs.items
  as_many_real = length-map t.oneofs.items string_bytes

  pub type_real_oneofs : set_types.oneof_names type_written ≡ real
  type_real_oneofs = search (rules, type_fields, type_oneofs, oneofs_called, as_many_real)

  pub type_oneof_count : set_types.oneof_count type_written ≡ length t.oneofs.items + length (optional_fields (declared_fields t))
  type_oneof_count = ap length type_oneofs ∙ oneofs_count all (string_bytes t.name) real (length t.oneofs.items) as_many_real (declared_fields t) (names_within all t)

  module _ (plain : list_all is_no_entry (map made nested) ≡ true) where
    pub type_entries : set_types.own_entries type_written ≡ map made (entries all (declared_fields t))
    type_entries = ap (filter is_entry) type_inside ∙ entries_kept all nested (declared_fields t) plain

    pub type_nested : filter is_no_entry (children_at 3 type_written) ≡ map made nested
    type_nested = ap (filter is_no_entry) type_inside ∙ others_kept all nested (declared_fields t) plain

-- ---- none of them is an entry type

abbrev found_type : Declared → ℕ → Option MessageType → List Items
found_type all depth o = where_found (λ (t : MessageType). type_items all (types_items depth all t.nested_types.items) t) o

none_found : (all : Declared) (depth : ℕ) (o : Option MessageType) (later : List Items) → list_all is_no_entry (map made later) ≡ true
    → list_all is_no_entry (map made (found_type all depth o ++ later)) ≡ true
none_found all depth None later h = h
none_found all depth (Some t) later h = search (rules, and_both, made, type_no_entry)

none_within : (all : Declared) (depth : ℕ) (ids : List TypeId) → list_all is_no_entry (map made (types_items (suc depth) all ids)) ≡ true
none_within all depth [] = refl
none_within all depth (id ∷ ids) = none_found all depth (slice_get all.types id.index) (types_items (suc depth) all ids) (none_within all depth ids)

pub none_entry : (all : Declared) (depth : ℕ) (ids : List TypeId) → list_all is_no_entry (map made (types_items depth all ids)) ≡ true
none_entry all zero ids = refl
none_entry all (suc depth) ids = none_within all depth ids

-- ---- its fields

later_above : (b : Bool) (n next : ℕ) → n ≤ next → n ≤ cond b (suc next) next
later_above true n next h = omega (arith, h)
later_above false n next h = h

later_within : (b : Bool) (f : Field) (gs : List Field) (next most : ℕ) → next + length (cond b (f ∷ gs) gs) ≤ most → cond b (suc next) next + length gs ≤ most
later_within true f gs next most h = omega (arith, h)
later_within false f gs next most h = h

room : (b : Bool) (f : Field) (gs : List Field) (next most : ℕ) → next + length (cond b (f ∷ gs) gs) ≤ most → b ≡ true → next < most
room true f gs next most h is = omega (arith, h)
room false f gs next most h is = absurd (false≢true is)

module _ (all : Declared) (means : NameLookup) (has : HasNames all means) (name : List ℕ) (is_name : scope_of name ≡ dotted name) (n : ℕ) (fs : List Field) (own : List Message)
    (within : AllByRecursion (λ (f : Field). is_oneof n f.oneof ≡ true) fs) where
  abbrev messages : List Message
  messages = map made (fields_items all name n fs)

  abbrev count : ℕ
  count = n + length (optional_fields fs)

  abbrev made_with : Owner
  made_with = record { full = dotted name; synthetic = synthetic_in messages count; members = members_in messages count; entries = set_types.last_named own }

  each_field : (next : ℕ) (gs : List Field) → n ≤ next → next + length (optional_fields gs) ≤ count → AllByRecursion (Keeps (length all.types) (length all.enums)) gs → AllByRecursion (λ (f : Field). is_oneof n f.oneof ≡ true) gs
      → AllByRecursion (HasEntryName means name) gs → AllByRecursion (HasEntry all (set_types.last_named own)) gs → each (fields.field means made_with) (map made (fields_items all name next gs)) ≡ Some (map field_view gs)
  each_field next [] above inside keep in_oneofs named had = refl
  each_field next (f ∷ gs) above inside keep in_oneofs named had =
      each_cons (fields.field means made_with) (written all name next f) (map made (fields_items all name (cond f.states_optional (suc next) next) gs)) (field_view f) (map field_view gs)
      (field_is all means has name made_with (sym is_name) next f keep.0 named.0 had.0
      (oneof_is all name n fs within f next in_oneofs.0 keep.0.oneof keep.0.has (λ optional. (above, room f.states_optional f (optional_fields gs) next count inside optional))))
      (each_field (cond f.states_optional (suc next) next) gs (later_above f.states_optional n next above) (later_within f.states_optional f (optional_fields gs) next count inside) keep.1 in_oneofs.1 named.1 had.1)

-- ---- one message type

-- what is written of the message types inside one
abbrev pub inside : Declared → MessageType → List Items
inside all t = types_items (length all.types) all t.nested_types.items

-- its qualified name and what is written of it
abbrev pub type_row : Declared → MessageType → Row
type_row all t = (dotted (string_bytes t.name), type_written all (inside all t) t)

-- with the indices of what is declared in it
abbrev pub placed_row : Declared → MessageType → PlacedType
placed_row all t = record { named = type_row all t; types = type_places t.nested_types.items; enums = enum_places t.nested_enums.items }

-- the qualified names of its map fields' entry types mean these
abbrev pub EntriesMean : NameLookup → Declared → MessageType → Type 0
EntriesMean means all t = AllByRecursion (λ e. means (qualified (dotted (string_bytes t.name)) e) ≡ Some nameds.Entry) (map made (entries all (declared_fields t)))

are_called : (types enums : ℕ) (fs : List Field) → AllByRecursion (Keeps types enums) fs → AllByRecursion (λ (f : Field). is_plain (string_bytes f.name) ≡ true) fs
are_called types enums [] keep = tt
are_called types enums (f ∷ fs) keep = (keep.0.called, are_called types enums fs keep.1)

module _ (all : Declared) (means : NameLookup) (has : HasNames all means) (t : MessageType) (rules : is_message_type (length all.types) (length all.enums) t ≡ true)
    (is_name : scope_of (string_bytes t.name) ≡ dotted (string_bytes t.name)) (once : are_distinct (entry_names (declared_fields t)) ≡ true) (mean : EntriesMean means all t) where
  abbrev name : List ℕ
  name = string_bytes t.name

  abbrev n : ℕ
  n = length t.oneofs.items

  abbrev fs : List Field
  fs = declared_fields t

  abbrev its : List Message
  its = map made (entries all fs)

  within_oneofs : AllByRecursion (λ (f : Field). is_oneof n f.oneof ≡ true) fs
  within_oneofs = such_declared (λ (f : Field). is_oneof n f.oneof ≡ true) t (fields_in_oneofs (length all.types) (length all.enums) t rules)

  abbrev its_owner : Owner
  its_owner = made_with all means has name is_name n fs its within_oneofs

  its_fields : AllByRecursion (Keeps (length all.types) (length all.enums)) fs
  its_fields = such_declared (Keeps (length all.types) (length all.enums)) t (fields_keep (length all.types) (length all.enums) t rules)

  fields_made : fields.fields means its_owner its (map made (fields_items all name n fs)) ≡ Some (map field_view fs)
  fields_made =
      fields_named means its_owner its (map made (fields_items all name n fs)) fs true
      (each_field all means has name is_name n fs its within_oneofs n fs (omega arith) (omega arith) its_fields within_oneofs
      (entries_named all means name fs (are_called (length all.types) (length all.enums) fs its_fields) (subst (λ s. AllByRecursion (λ e. means (qualified s e) ≡ Some nameds.Entry) its) (sym is_name) mean)) (have_entries all fs once))
      (written_once all fs once)

  abbrev m : Message
  m = type_written all (inside all t) t

  abbrev owned : List Message → ℕ → List Message → Owner
  owned ms count es = record { full = dotted name; synthetic = synthetic_in ms count; members = members_in ms count; entries = set_types.last_named es }

  declared_are : set_types.declared_fields means (dotted name, m) ≡ Some (map field_view fs)
  declared_are =
      ap (λ ms. fields.fields means (owned ms (set_types.oneof_count m) (set_types.own_entries m)) (set_types.own_entries m) ms) (type_fields all (inside all t) t)
      ∙ (ap₂ (λ count es. fields.fields means (owned (map made (fields_items all name n fs)) count es) es (map made (fields_items all name n fs))) (type_oneof_count all (inside all t) t)
      (type_entries all (inside all t) t (none_entry all (length all.types) t.nested_types.items))
      ∙ fields_made)

  -- what is written states it
  pub type_is : set_types.message_type means (placed_row all t) ≡ Some (type_view t)
  type_is =
      let is_rising = rising (length all.types) (length all.enums) t rules in
      let is_declared = declared (length all.types) (length all.enums) t rules in
      ap (option_map (set_types.type_of (placed_row all t))) declared_are
      ∙ ap Some (same_type refl (sorted_are t is_rising is_declared) (numbers_are t is_rising is_declared) (type_real_oneofs all (inside all t) t) (types_of_places t.nested_types.items) (enums_of_places t.nested_enums.items)
      (type_ranges all (inside all t) t (ranges_kept (length all.types) (length all.enums) t rules)) (type_reserved all (inside all t) t) (type_deprecated all (inside all t) t))
