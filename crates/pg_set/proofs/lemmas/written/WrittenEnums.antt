-- What is written of an enum states it.
use Rattle.std.proofs.Common.{◌≡◌, ℕ, ℤ, pos, Bool, List, [], ◌∷◌, map, Option, refl, ap, ap₂, ◌∙◌, unwrap_or, rules}
use Rattle.std.specs.String.{string_bytes}
use Rattle.pg_schema.specs.declared.parts.enum_type.EnumType.{EnumType}
use Rattle.pg_schema.specs.declared.parts.enum_type.EnumValue.{EnumValue}
use Rattle.pg_schema.specs.declared.parts.enum_type.ReservedValues.{ReservedValues}
use Rattle.pg_dyn.specs.message.Message.{Message}
use Rattle.pg_set.specs.writing.Fields.{dotted}
use Rattle.pg_set.specs.writing.Items.{Items, stated}
use Rattle.pg_set.specs.writing.Messages.{enum_items, enum_options, own_name, value_items, value_range}
use Rattle.pg_set.specs.stated.SetMessages.{children_at, maybe_flag_at, options_at, text_at}
use Rattle.pg_set.specs.stated.StatedEnums.{enum_type, range, value}
use Rattle.pg_set.specs.stated.Views.{EnumView, ValueView, enum_view, value_view}
use Rattle.pg_set.proofs.lemmas.written.Slots.{Slot, children_said, children_slot, made, number_said, options_said, options_slot, says, stated_said, stated_slot, text_said, text_slot, texts_said, texts_slot, whole_slot}

-- ---- views

same_value : {n n' : List ℕ} {k k' : ℤ} {d d' : Option Bool} → n ≡ n' → k ≡ k' → d ≡ d'
    → ◌≡◌ {A = ValueView} (record { name = n; number = k; options = record { deprecated = d } }) (record { name = n'; number = k'; options = record { deprecated = d' } })
same_value name number deprecated = cc

same_range : {f f' l l' : ℤ} → f ≡ f' → l ≡ l' → ◌≡◌ {A = ReservedValues} (record { first = f; last = l }) (record { first = f'; last = l' })
same_range first last = cc

same_enum : {n n' : List ℕ} {vs vs' : List ValueView} {rs rs' : List ReservedValues} {ns ns' : List (List ℕ)} {a a' d d' : Option Bool} → n ≡ n' → vs ≡ vs' → rs ≡ rs' → ns ≡ ns' → a ≡ a' → d ≡ d'
    → ◌≡◌ {A = EnumView} (record { name = n; values = vs; reserved_numbers = rs; reserved_names = ns; options = record { allow_alias = a; deprecated = d } })
    (record { name = n'; values = vs'; reserved_numbers = rs'; reserved_names = ns'; options = record { allow_alias = a'; deprecated = d' } })
same_enum name values ranges names alias deprecated = cc

-- what is seen of all that is made is what is seen of each
pub map_made : {A B : Type 0} (see : Message → B) (items : A → Items) (view : A → B) → ((x : A) → see (made (items x)) ≡ view x) → (xs : List A) → map see (map made (map items xs)) ≡ map view xs
map_made see items view one [] = refl
map_made see items view one (x ∷ xs) = ap₂ (λ y ys. y ∷ ys) (one x) (map_made see items view one xs)

-- ---- one enum

abbrev value_slots : EnumValue → List Slot
value_slots v = options_slot 3 (stated 1 v.options.deprecated) ∷ whole_slot 2 v.number ∷ text_slot 1 (string_bytes v.name) ∷ []

pub value_called : (v : EnumValue) → text_at 1 (made (value_items v)) ≡ string_bytes v.name
value_called v = text_said 1 (made (value_items v)) (string_bytes v.name) (says 1 (value_slots v) refl)

value_is : (v : EnumValue) → value (made (value_items v)) ≡ value_view v
value_is v = search (rules, made, same_value, value_called, unwrap_or, number_said, says, options_said, stated_said, stated_slot)

abbrev range_slots : ReservedValues → List Slot
range_slots r = whole_slot 2 r.last ∷ whole_slot 1 r.first ∷ []

range_is : (r : ReservedValues) → range (made (value_range r)) ≡ r
range_is r =
    same_range (ap (λ o. unwrap_or o (pos 0)) (number_said 1 (made (value_range r)) r.first (says 1 (range_slots r) refl)))
    (ap (λ o. unwrap_or o (pos 0)) (number_said 2 (made (value_range r)) r.last (says 2 (range_slots r) refl)))

ranges_are : (rs : List ReservedValues) → map range (map made (map value_range rs)) ≡ rs
ranges_are [] = refl
ranges_are (r ∷ rs) = ap₂ (λ x xs. x ∷ xs) (range_is r) (ranges_are rs)

abbrev option_slots : EnumType → List Slot
option_slots e = stated_slot 3 e.options.deprecated ∷ stated_slot 2 e.options.allow_alias ∷ []

abbrev enum_slots : EnumType → List Slot
enum_slots e =
    texts_slot 5 (map string_bytes e.reserved_names.items) ∷ children_slot 4 (map value_range e.reserved_numbers.items) ∷ options_slot 3 (enum_options e.options)
    ∷ children_slot 2 (map value_items e.values.items) ∷ text_slot 1 (own_name (string_bytes e.name)) ∷ []

pub enum_called : (e : EnumType) → text_at 1 (made (enum_items e)) ≡ own_name (string_bytes e.name)
enum_called e = text_said 1 (made (enum_items e)) (own_name (string_bytes e.name)) (says 1 (enum_slots e) refl)

pub enum_values : (e : EnumType) → children_at 2 (made (enum_items e)) ≡ map made (map value_items e.values.items)
enum_values e = children_said 2 (made (enum_items e)) (map value_items e.values.items) (says 2 (enum_slots e) refl)

-- under its qualified name
pub enum_is : (e : EnumType) → enum_type (dotted (string_bytes e.name), made (enum_items e)) ≡ enum_view e
enum_is e =
    let m : Message = made (enum_items e) in
    let slots : List Slot = enum_slots e in
    let told : options_at 3 m ≡ made (enum_options e.options) = options_said 3 m (enum_options e.options) (says 3 slots refl) in
    same_enum refl (ap (map value) (enum_values e) ∙ map_made value value_items value_view value_is e.values.items)
    (ap (map range) (children_said 4 m (map value_range e.reserved_numbers.items) (says 4 slots refl)) ∙ ranges_are e.reserved_numbers.items)
    (texts_said 5 m (map string_bytes e.reserved_names.items) (says 5 slots refl))
    (ap (maybe_flag_at 2) told ∙ stated_said 2 (made (enum_options e.options)) e.options.allow_alias (says 2 (option_slots e) refl))
    (ap (maybe_flag_at 3) told ∙ stated_said 3 (made (enum_options e.options)) e.options.deprecated (says 3 (option_slots e) refl))
