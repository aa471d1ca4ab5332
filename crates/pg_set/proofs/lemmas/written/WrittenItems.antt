-- What is written of a field states its items, and so does what is written of its entry type.
use Rattle.std.proofs.Common.{◌≡◌, ℕ, ◌<◌, ◌^◌, ℤ, pos, Bool, true, false, cond, not, nat_eq, ◌&&◌, ◌||◌, List, [], length, codes, Option, None, Some, is_some, refl, ap, ap₂, sym, subst, ◌∙◌, option_map, option_and_then, unwrap_or, IfSome, rules}
use Rattle.std.proofs.lemmas.Bool.{false≢true}
use Rattle.std.proofs.lemmas.Option.{none-some}
use Rattle.std.proofs.lemmas.Slice.Eq.{bytes_eq-Decides}
use Rattle.std.specs.Ordering.{int_eq}
use Rattle.std.specs.Str.{bytes_eq}
use Rattle.std.specs.String.{string_bytes}
use Rattle.pg_schema.specs.declared.parts.field.Element.{Element}
use Rattle.pg_schema.specs.declared.parts.field.Element.TheVariants as elements
use Rattle.pg_schema.specs.declared.parts.field.Field.{Field}
use Rattle.pg_schema.specs.declared.parts.field.Presence.{Presence}
use Rattle.pg_schema.specs.declared.parts.field.Presence.TheVariants as presences
use Rattle.pg_schema.specs.declared.parts.field.Scalar.{Scalar}
use Rattle.pg_schema.specs.declared.parts.field.Scalar.TheVariants as kinds
use Rattle.pg_schema.specs.rules.DeclaredNames.{entry_name, within}
use Rattle.pg_schema.specs.rules.Fields.{has_presence, is_known, is_message, is_packed}
use Rattle.pg_schema.specs.rules.Fields.{is_key}
use Rattle.pg_schema.specs.Shape.{is_map}
use Rattle.pg_schema.proofs.lemmas.rules.PairLemmas.{and_both, and_left}
use Rattle.pg_dyn.specs.message.Message.{Item, Message}
use Rattle.pg_set.specs.declared.reading.outline.Named.{Named}
use Rattle.pg_set.specs.declared.reading.outline.Named.TheVariants as nameds
use Rattle.pg_set.specs.writing.Fields.{dotted, element_code, element_name, label, named_type, scalar_code, type_code}
use Rattle.pg_set.specs.writing.Places.{Declared}
use Rattle.pg_set.specs.stated.SetMessages.{children_at, items_at, maybe_text_at, natural, number_at, text_at, text_of}
use Rattle.pg_set.specs.stated.TypeMessages.{is_optional}
use Rattle.pg_set.specs.stated.SetNames.{name_in}
use Rattle.pg_set.specs.stated.StatedEntries as entries
use Rattle.pg_set.specs.stated.StatedFields as stated
use Rattle.pg_set.specs.stated.StatedFields.{Owner}
use Rattle.pg_set.specs.stated.StatedNames.{NameLookup, both, element_of_named, is_entry_type, meant, only_if}
use Rattle.pg_set.specs.stated.StatedOneofs.{oneof}
use Rattle.pg_set.specs.stated.Views.{field_view}
use Rattle.pg_set.proofs.lemmas.lists.Tests.{is_below, not_so}
use Rattle.pg_set.proofs.lemmas.lists.ViewLaws.{same_field}
use Rattle.pg_set.proofs.lemmas.written.names.QualifiedNames.{entry_plain, is_plain, plain_in, scope_of}
use Rattle.pg_set.proofs.lemmas.written.WrittenFields as fields
use Rattle.pg_set.proofs.lemmas.written.WrittenFields.{entry_written, key_and_value, of_entry, written}
use Rattle.pg_set.proofs.lemmas.written.WrittenServices.{HasNames, means_enum, means_type}

-- ---- tests

not_false : (b : Bool) → b ≡ false → not b ≡ true
not_false true is = absurd (false≢true (sym is))
not_false false is = refl

same_bytes : (a b : List ℕ) → a ≡ b → bytes_eq a b ≡ true
same_bytes a b is = (bytes_eq-Decides a b).1 is

-- ---- elements

each_found : (s : Scalar) → entries.scalar_of (pos (scalar_code s)) ≡ Some s
each_found kinds.Double = refl
each_found kinds.Float = refl
each_found kinds.Int64 = refl
each_found kinds.Uint64 = refl
each_found kinds.Int32 = refl
each_found kinds.Fixed64 = refl
each_found kinds.Fixed32 = refl
each_found kinds.Bool = refl
each_found kinds.String = refl
each_found kinds.Bytes = refl
each_found kinds.Uint32 = refl
each_found kinds.Sfixed32 = refl
each_found kinds.Sfixed64 = refl
each_found kinds.Sint32 = refl
each_found kinds.Sint64 = refl

missing_item : (o : Option Item) → option_map text_of o ≡ None → is_some o ≡ false
missing_item None none = refl
missing_item (Some i) none = absurd (none-some (text_of i) (sym none))

has_item : (means : NameLookup) (o : Option Item) (n : Named) → meant means (option_map text_of o) ≡ Some n → is_some o ≡ true
has_item means None n named = absurd (none-some n named)
has_item means (Some i) n named = refl

module _ (all : Declared) (means : NameLookup) (has : HasNames all means) where
  named_is : (m : Message) (e : Element) (n : Named) → meant means (maybe_text_at 6 m) ≡ Some n → element_of_named n ≡ Some e → entries.of_code (number_at 5 m) e ≡ Some e → entries.element means m ≡ Some e
  named_is m e n named is code = search (rules, option_map, has_item, option_and_then)

  -- a message that says the code and the name of an element that is there says that element
  element_is : (m : Message) (e : Element) → number_at 5 m ≡ pos (element_code e) → maybe_text_at 6 m ≡ element_name all e → is_known (length all.types) (length all.enums) e ≡ true → entries.element means m ≡ Some e
  element_is m (elements.Scalar s) code name known = search (rules, option_map, missing_item, each_found)
  element_is m (elements.Message t) code name known = search (rules, named_is, means_type, has)
  element_is m (elements.Enum e) code name known = search (rules, named_is, means_enum, has)

  -- ---- entry types

  part_is : (called : List ℕ) (place : ℕ) (e : Element) → int_eq (pos place) (pos place) ≡ true → entries.is_entry_field called place (of_entry all called place e) ≡ true
  part_is called place e itself = search (rules, of_entry, and_both, same_bytes, is_some, unwrap_or, not_false)

  part_element : (called : List ℕ) (place : ℕ) (e : Element) → is_known (length all.types) (length all.enums) e ≡ true → entries.element means (of_entry all called place e) ≡ Some e
  part_element called place e known = element_is (of_entry all called place e) e (fields.part_type_said all called place e) (fields.part_type_name_said all called place e) known

  alone : (f : Field) (key : Scalar) → entries.has_fields_alone (entry_written all f key) ≡ true
  alone f key =
      let m : Message = entry_written all f key in
      and_both _ _ (and_both _ _ (and_both _ _ (and_both _ _ (and_both _ _ (none (items_at 3 m) (fields.entry_types all f key)) (none (items_at 4 m) (fields.entry_enums all f key)))
      (ap (λ (o : Option Bool). not (is_some o)) (fields.entry_undeprecated all f key))) (none (items_at 8 m) (fields.entry_oneofs all f key))) (none (items_at 9 m) (fields.entry_ranges all f key)))
      (none (items_at 10 m) (fields.entry_reserved all f key))
    where
      none : (is : List Item) → is ≡ [] → nat_eq (length is) 0 ≡ true
      none is empty = ap (λ (xs : List Item). nat_eq (length xs) 0) empty

  -- it has the key and the value
  entry_is : (f : Field) (key : Scalar) → is_known (length all.types) (length all.enums) f.element ≡ true → entries.entry means (entry_written all f key) ≡ Some (key, f.element)
  entry_is f key known =
      let k : Message = of_entry all (codes "key") 1 (elements.Scalar key) in
      let v : Message = of_entry all (codes "value") 2 f.element in
      ap (λ b. only_if b (entries.key_and_value means (children_at 2 (entry_written all f key)))) (alone f key)
      ∙ (ap (entries.key_and_value means) (fields.entry_fields all f key)
      ∙ (ap (λ b. only_if b (both entries.key_with (entries.element means k) (entries.element means v))) (and_both _ _ (part_is (codes "key") 1 (elements.Scalar key) refl) (part_is (codes "value") 2 f.element refl))
      ∙ (ap (λ o. both entries.key_with o (entries.element means v)) (part_element (codes "key") 1 (elements.Scalar key) refl)
      ∙ ap (λ o. both entries.key_with (Some (elements.Scalar key)) o) (part_element (codes "value") 2 f.element known))))

-- ---- presence

unstated : (member stated : Bool) → not (member || stated) ≡ true → stated ≡ false
unstated true stated h = absurd (false≢true h)
unstated false true h = absurd (false≢true h)
unstated false false h = refl

same_flag : (a b : Bool) → cond a b (not b) ≡ true → b ≡ a
same_flag true b h = h
same_flag false b h = not_so b h

-- how often items occur that are no map's, by their label and what is stated
abbrev stands : Presence → Element → (member optional : Bool) → (packed : Option Bool) → Option Presence
stands p e member optional packed = cond (int_eq (pos (label p)) (pos 3)) (only_if (not optional) (Some (stated.repeated e packed))) (Some (stated.singular e member optional))

stands_so : (p : Presence) (e : Element) (member optional : Bool) (packed : Option Bool) → is_map p ≡ false → has_presence p e member optional ≡ true → is_packed p e packed ≡ true → stands p e member optional packed ≡ Some p
stands_so presences.Implicit e member optional packed plain has packs = ap (λ b. Some (cond b presences.Explicit presences.Implicit)) (not_so (is_message e || member || optional) has)
stands_so presences.Explicit e member optional packed plain has packs = ap (λ b. Some (cond b presences.Explicit presences.Implicit)) (and_left (is_message e || member || optional) (not (member && optional)) has)
stands_so (presences.Repeated own) e member optional packed plain has packs = search (rules, unstated, same_flag, and_left)
stands_so (presences.Map key) e member optional packed plain has packs = absurd (false≢true (sym plain))

-- ---- fields

-- what the rules say of a field by itself
pub record Keeps (types enums : ℕ) (f : Field) : Type 0 where
  pub number : f.number < 2 ^ 32
  pub oneof : IfSome f.oneof (λ place. place < 2 ^ 32)
  pub has : has_presence f.presence f.element (is_some f.oneof) f.states_optional ≡ true
  pub packs : is_packed f.presence f.element f.options.packed ≡ true
  pub known : is_known types enums f.element ≡ true
  pub called : is_plain (string_bytes f.name) ≡ true

pub natural_is : (n : ℕ) (z : ℤ) → z ≡ pos n → n < 2 ^ 32 → natural z ≡ n
natural_is n z is small = ap natural is ∙ ap (λ b. cond b n 0) (is_below n (2 ^ 32) small)

-- the qualified name of the field's entry type means one, where the field, of a message type of that full name, is a map
abbrev pub HasEntryName : NameLookup → (scope : List ℕ) → Field → Type 0
HasEntryName means scope f = is_map f.presence ≡ true → means (dotted (within scope (entry_name (string_bytes f.name)))) ≡ Some nameds.Entry

-- a map field has its entry type under its name
abbrev pub HasEntry : Declared → (List ℕ → Option Message) → Field → Type 0
HasEntry all entry f = (key : Scalar) → f.presence ≡ presences.Map key → entry (entry_name (string_bytes f.name)) ≡ Some (entry_written all f key)

plain_code : (p : Presence) (e : Element) → is_map p ≡ false → type_code p e ≡ element_code e
plain_code presences.Implicit e plain = refl
plain_code presences.Explicit e plain = refl
plain_code (presences.Repeated packed) e plain = refl
plain_code (presences.Map key) e plain = absurd (false≢true (sym plain))

plain_name : (all : Declared) (scope : List ℕ) (f : Field) (p : Presence) → is_map p ≡ false → named_type all scope (record f { presence = p }) ≡ element_name all f.element
plain_name all scope f presences.Implicit plain = refl
plain_name all scope f presences.Explicit plain = refl
plain_name all scope f (presences.Repeated packed) plain = refl
plain_name all scope f (presences.Map key) plain = absurd (false≢true (sym plain))

module _ (all : Declared) (means : NameLookup) (has : HasNames all means) (scope : List ℕ) (o : Owner) (full : o.full ≡ scope_of scope) (next : ℕ) (f : Field) (keeps : Keeps (length all.types) (length all.enums) f) where
  abbrev m : Message
  m = written all scope next f

  abbrev are : Type 0
  are = stated.items means o m (is_some f.oneof) ≡ Some (f.presence, f.element)

  plain_element : is_map f.presence ≡ false → entries.element means m ≡ Some f.element
  plain_element plain =
      element_is all means has m f.element (fields.type_said all scope next f ∙ ap pos (plain_code f.presence f.element plain)) (fields.type_name_said all scope next f ∙ plain_name all scope f f.presence plain) keeps.known

  no_element : meant means (maybe_text_at 6 m) ≡ Some nameds.Entry → entries.element means m ≡ None
  no_element named = search (rules, option_map, has_item, option_and_then)

  not_map : is_map f.presence ≡ false → stated.is_map_field means m ≡ false
  not_map plain = search (rules, plain_element, none-some, no_element)

  presence_is : is_map f.presence ≡ false → stated.presence m f.element (is_some f.oneof) ≡ Some f.presence
  presence_is plain =
      ap (λ n. cond (int_eq n (pos 3)) (only_if (not (is_optional m)) (Some (stated.repeated f.element (stated.packed_at m)))) (Some (stated.singular f.element (is_some f.oneof) (is_optional m)))) (fields.label_said all scope next f)
      ∙ (ap (λ b. stands f.presence f.element (is_some f.oneof) b (stated.packed_at m)) (fields.optional_said all scope next f)
      ∙ (ap (stands f.presence f.element (is_some f.oneof) f.states_optional) (fields.packed_said all scope next f)
      ∙ stands_so f.presence f.element (is_some f.oneof) f.states_optional f.options.packed plain keeps.has keeps.packs))

  plain_items : is_map f.presence ≡ false → are
  plain_items plain =
      ap (λ b. cond b (stated.map_items means o m) (stated.plain_items means m (is_some f.oneof))) (not_map plain)
      ∙ (ap (option_and_then (λ e. option_map (λ p. (p, e)) (stated.presence m e (is_some f.oneof)))) (plain_element plain) ∙ ap (option_map (λ p. (p, f.element))) (presence_is plain))

  module _ (entry : HasEntryName means scope f) (own : HasEntry all o.entries f) where
    map_items : (key : Scalar) → f.presence ≡ presences.Map key → are
    map_items key is =
        let name : maybe_text_at 6 m ≡ Some (dotted (within scope (entry_name (string_bytes f.name)))) =
        fields.type_name_said all scope next f ∙ subst (λ p. named_type all scope (record f { presence = p }) ≡ Some (dotted (within scope (entry_name (string_bytes f.name))))) (sym is) refl in
        let mapped : stated.is_map_field means m ≡ true =
        and_both _ _ (ap is_entry_type (ap (meant means) name ∙ entry (ap is_map is))) (ap (λ n. int_eq n (pos 11)) (fields.type_said all scope next f ∙ ap (λ p. pos (type_code p f.element)) is)) in
        let plain : f.states_optional ≡ false = unstated (is_some f.oneof) f.states_optional (and_left (not (is_some f.oneof || f.states_optional)) (is_key key) (subst (λ p. has_presence p f.element (is_some f.oneof) f.states_optional ≡ true) is keeps.has)) in
        let its : stated.names_its_entry o m ≡ true =
        and_both _ _ (and_both _ _ (ap (λ n. int_eq n (pos 3)) (fields.label_said all scope next f ∙ ap (λ p. pos (label p)) is)) (not_false (is_optional m) (fields.optional_said all scope next f ∙ plain)))
        (same_bytes _ _ (ap (λ t. unwrap_or t []) name ∙ (sym (plain_in scope (entry_name (string_bytes f.name)) (entry_plain (string_bytes f.name) keeps.called))
        ∙ ap₂ (λ s n. name_in s (entry_name n)) (sym full) (sym (fields.name_said all scope next f))))) in
        ap (λ b. cond b (stated.map_items means o m) (stated.plain_items means m (is_some f.oneof))) mapped
        ∙ (ap (λ b. only_if b (option_and_then (λ e. option_map stated.map_of (entries.entry means e)) (o.entries (entry_name (text_at 1 m))))) its
        ∙ (ap (λ n. option_and_then (λ e. option_map stated.map_of (entries.entry means e)) (o.entries (entry_name n))) (fields.name_said all scope next f)
        ∙ (ap (option_and_then (λ e. option_map stated.map_of (entries.entry means e))) (own key is)
        ∙ (ap (option_map stated.map_of) (entry_is all means has f key keeps.known) ∙ ap (λ p. Some (p, f.element)) (sym is)))))

    items_are : are
    items_are = search (rules, plain_items, map_items)

    -- what is written states the field, where it says in which oneof that is
    pub field_is : oneof o.synthetic o.members m ≡ Some f.oneof → stated.field means o m ≡ Some (field_view f)
    field_is stands =
        ap (option_and_then (λ one. option_map (stated.field_of m one) (stated.items means o m (is_some one)))) stands
        ∙ (ap (option_map (stated.field_of m f.oneof)) items_are
        ∙ ap Some (same_field (natural_is f.number (number_at 3 m) (fields.field_number_said all scope next f) keeps.number) (fields.name_said all scope next f) refl refl refl (fields.json_said all scope next f)
        (fields.optional_said all scope next f) (fields.packed_said all scope next f) (fields.deprecated_said all scope next f)))
