-- What is written of a field or of an entry type, and what it says.
use Rattle.std.proofs.Common.{◌≡◌, ℕ, pos, true, false, List, [], ◌∷◌, ◌++◌, map, codes, None, Some, option_map, slice_get, refl, ap, ◌∙◌, unwrap_or}
use Rattle.std.specs.String.{string_bytes}
use Rattle.pg_schema.specs.declared.parts.field.Element.{Element}
use Rattle.pg_schema.specs.declared.parts.field.Element.TheVariants as elements
use Rattle.pg_schema.specs.declared.parts.field.Field.{Field}
use Rattle.pg_schema.specs.declared.parts.field.Scalar.{Scalar}
use Rattle.pg_schema.specs.rules.DeclaredNames.{entry_name}
use Rattle.pg_schema.specs.JsonName.{default_json_name}
use Rattle.pg_dyn.specs.message.Message.{Message, ends, parts}
use Rattle.pg_set.specs.writing.Entries.{entry_field}
use Rattle.pg_set.specs.writing.Fields.{element_code, element_name, field_items, field_options, label, named_type, oneof_place, type_code}
use Rattle.pg_set.specs.writing.Items.{Items, child, children, flag, text}
use Rattle.pg_set.specs.writing.Places.{Declared}
use Rattle.pg_set.specs.stated.SetMessages.{child_of, children_at, flag_at, flag_of, item_at, items_at, maybe_flag_at, maybe_number_at, maybe_text_at, number_at, options_at, text_at}
use Rattle.pg_set.specs.stated.TypeMessages.{is_entry, json_name_at, label_at}
use Rattle.pg_set.proofs.lemmas.written.Slots.{Slot, child_slot, children_said, children_slot, count_slot, made, mark_said, mark_slot, maybe_count_slot, maybe_number_said, maybe_text_said, maybe_text_slot, number_said, options_said, options_slot, says, stated_said, stated_slot, text_said, text_slot}

-- ---- fields

abbrev field_slots : Declared → (scope : List ℕ) → (next : ℕ) → Field → List Slot
field_slots all scope next f =
    mark_slot 17 f.states_optional ∷ text_slot 10 (string_bytes f.json_name) ∷ maybe_count_slot 9 (oneof_place next f) ∷ options_slot 8 (field_options f.options)
    ∷ maybe_text_slot 6 (named_type all scope f) ∷ count_slot 5 (type_code f.presence f.element) ∷ count_slot 4 (label f.presence) ∷ count_slot 3 f.number
    ∷ text_slot 1 (string_bytes f.name) ∷ []

abbrev field_option_slots : Field → List Slot
field_option_slots f = stated_slot 3 f.options.deprecated ∷ stated_slot 2 f.options.packed ∷ []

module _ (all : Declared) (scope : List ℕ) (next : ℕ) (f : Field) where
  abbrev pub written : Message
  written = made (field_items all scope next f)

  abbrev slots : List Slot
  slots = field_slots all scope next f

  pub name_said : text_at 1 written ≡ string_bytes f.name
  name_said = text_said 1 written (string_bytes f.name) (says 1 slots refl)

  pub field_number_said : number_at 3 written ≡ pos f.number
  field_number_said = ap (λ o. unwrap_or o (pos 0)) (number_said 3 written (pos f.number) (says 3 slots refl))

  pub label_said : label_at written ≡ pos (label f.presence)
  label_said = ap (λ o. unwrap_or o (pos 1)) (number_said 4 written (pos (label f.presence)) (says 4 slots refl))

  pub type_said : number_at 5 written ≡ pos (type_code f.presence f.element)
  type_said = ap (λ o. unwrap_or o (pos 0)) (number_said 5 written (pos (type_code f.presence f.element)) (says 5 slots refl))

  pub type_name_said : maybe_text_at 6 written ≡ named_type all scope f
  type_name_said = maybe_text_said 6 written (named_type all scope f) (says 6 slots refl)

  told : options_at 8 written ≡ made (field_options f.options)
  told = options_said 8 written (field_options f.options) (says 8 slots refl)

  pub packed_said : maybe_flag_at 2 (options_at 8 written) ≡ f.options.packed
  packed_said = ap (maybe_flag_at 2) told ∙ stated_said 2 (made (field_options f.options)) f.options.packed (says 2 (field_option_slots f) refl)

  pub deprecated_said : maybe_flag_at 3 (options_at 8 written) ≡ f.options.deprecated
  deprecated_said = ap (maybe_flag_at 3) told ∙ stated_said 3 (made (field_options f.options)) f.options.deprecated (says 3 (field_option_slots f) refl)

  pub json_said : json_name_at written ≡ string_bytes f.json_name
  json_said = ap (λ o. unwrap_or o (default_json_name (text_at 1 written))) (maybe_text_said 10 written (Some (string_bytes f.json_name)) (says 10 slots refl))

  pub optional_said : flag_at 17 written ≡ f.states_optional
  optional_said = mark_said 17 written f.states_optional (says 17 slots refl)

  pub place_said : maybe_number_at 9 written ≡ option_map pos (oneof_place next f)
  place_said = maybe_number_said 9 written (oneof_place next f) (says 9 slots refl)

-- ---- the fields of entry types

abbrev entry_field_slots : Declared → (name : List ℕ) → (number : ℕ) → Element → List Slot
entry_field_slots all name number element =
    text_slot 10 name ∷ maybe_text_slot 6 (element_name all element) ∷ count_slot 5 (element_code element) ∷ count_slot 4 1 ∷ count_slot 3 number ∷ text_slot 1 name ∷ []

module _ (all : Declared) (name : List ℕ) (number : ℕ) (element : Element) where
  abbrev pub of_entry : Message
  of_entry = made (entry_field all name number element)

  abbrev entry_field_said : List Slot
  entry_field_said = entry_field_slots all name number element

  pub part_name_said : text_at 1 of_entry ≡ name
  part_name_said = text_said 1 of_entry name (says 1 entry_field_said refl)

  pub part_number_said : number_at 3 of_entry ≡ pos number
  part_number_said = ap (λ o. unwrap_or o (pos 0)) (number_said 3 of_entry (pos number) (says 3 entry_field_said refl))

  pub part_label_said : label_at of_entry ≡ pos 1
  part_label_said = ap (λ o. unwrap_or o (pos 1)) (number_said 4 of_entry (pos 1) (says 4 entry_field_said refl))

  pub part_type_said : number_at 5 of_entry ≡ pos (element_code element)
  part_type_said = ap (λ o. unwrap_or o (pos 0)) (number_said 5 of_entry (pos (element_code element)) (says 5 entry_field_said refl))

  pub part_type_name_said : maybe_text_at 6 of_entry ≡ element_name all element
  part_type_name_said = maybe_text_said 6 of_entry (element_name all element) (says 6 entry_field_said refl)

  pub part_no_options : parts (options_at 8 of_entry) ≡ []
  part_no_options = ap (λ xs. parts (unwrap_or (option_map child_of (slice_get xs 0)) (ends []))) (says 8 entry_field_said refl)

  pub part_no_oneof : item_at 9 of_entry ≡ None
  part_no_oneof = ap (λ xs. slice_get xs 0) (says 9 entry_field_said refl)

  pub part_json_said : maybe_text_at 10 of_entry ≡ Some name
  part_json_said = maybe_text_said 10 of_entry (Some name) (says 10 entry_field_said refl)

  pub part_not_optional : flag_at 17 of_entry ≡ false
  part_not_optional = ap (λ xs. unwrap_or (option_map flag_of (slice_get xs 0)) false) (says 17 entry_field_said refl)

-- ---- entry types

-- the fields of the entry type of a map field with that key
abbrev pub key_and_value : Declared → Field → Scalar → List Items
key_and_value all f key = entry_field all (codes "key") 1 (elements.Scalar key) ∷ entry_field all (codes "value") 2 f.element ∷ []

-- and its parts
abbrev pub entry_parts : Declared → Field → Scalar → Items
entry_parts all f key = text 1 (entry_name (string_bytes f.name)) ++ children 2 (key_and_value all f key) ++ child 7 (flag 7 true)

module _ (all : Declared) (f : Field) (key : Scalar) where
  abbrev pub entry_written : Message
  entry_written = made (entry_parts all f key)

  abbrev entry_slots : List Slot
  entry_slots = child_slot 7 (flag 7 true) ∷ children_slot 2 (key_and_value all f key) ∷ text_slot 1 (entry_name (string_bytes f.name)) ∷ []

  -- other numbers say nothing
  pub entry_types : items_at 3 entry_written ≡ []
  entry_types = says 3 entry_slots refl

  pub entry_enums : items_at 4 entry_written ≡ []
  entry_enums = says 4 entry_slots refl

  pub entry_oneofs : items_at 8 entry_written ≡ []
  entry_oneofs = says 8 entry_slots refl

  pub entry_ranges : items_at 9 entry_written ≡ []
  entry_ranges = says 9 entry_slots refl

  pub entry_reserved : items_at 10 entry_written ≡ []
  entry_reserved = says 10 entry_slots refl

  pub entry_called : text_at 1 entry_written ≡ entry_name (string_bytes f.name)
  entry_called = text_said 1 entry_written (entry_name (string_bytes f.name)) (says 1 entry_slots refl)

  pub entry_fields : children_at 2 entry_written ≡ map made (key_and_value all f key)
  entry_fields = children_said 2 entry_written (key_and_value all f key) (says 2 entry_slots refl)

  entry_told : options_at 7 entry_written ≡ made (flag 7 true)
  entry_told = ap (λ xs. unwrap_or (option_map child_of (slice_get xs 0)) (ends [])) (says 7 entry_slots refl)

  pub entry_undeprecated : maybe_flag_at 3 (options_at 7 entry_written) ≡ None
  entry_undeprecated = ap (maybe_flag_at 3) entry_told

  pub entry_is_entry : is_entry entry_written ≡ true
  entry_is_entry = ap (flag_at 7) entry_told
