-- What is written of a service states it.
use Rattle.std.proofs.Common.{◌≡◌, ℕ, true, nat_lt, List, [], ◌∷◌, map, length, Option, Some, None, option_map, option_and_then, slice_get, refl, ap, sym, ◌∙◌}
use Rattle.std.proofs.lemmas.Option.{none-some}
use Rattle.std.specs.List.{list_all}
use Rattle.std.specs.String.{string_bytes}
use Rattle.pg_schema.specs.declared.parts.enum_type.EnumType.{EnumType}
use Rattle.pg_schema.specs.declared.parts.field.EnumId.{EnumId}
use Rattle.pg_schema.specs.declared.parts.field.TypeId.{TypeId}
use Rattle.pg_schema.specs.declared.parts.message_type.MessageType.{MessageType}
use Rattle.pg_schema.specs.declared.parts.service.Method.{Method}
use Rattle.pg_schema.specs.declared.parts.service.Service.{Service}
use Rattle.pg_schema.specs.rules.Files.{is_method, is_service}
use Rattle.pg_schema.specs.rules.Scopes.{enum_name, type_name}
use Rattle.pg_schema.proofs.lemmas.rules.PairLemmas.{and_left, and_right}
use Rattle.pg_dyn.specs.message.Message.{Message}
use Rattle.pg_set.specs.declared.reading.outline.Named.TheVariants as nameds
use Rattle.pg_set.specs.writing.Fields.{dotted}
use Rattle.pg_set.specs.writing.Items.{item, stated}
use Rattle.pg_set.specs.writing.Messages.{own_name}
use Rattle.pg_set.specs.writing.Places.{Declared}
use Rattle.pg_set.specs.stated.SetMessages.{children_at, maybe_flag_at, maybe_text_at, text_at}
use Rattle.pg_set.specs.writing.Set.{called_type, method_items, service_items}
use Rattle.pg_set.specs.stated.StatedNames.{NameLookup, each, meant, type_meant, type_of_named}
use Rattle.pg_set.specs.stated.StatedServices.{method, method_of, service, service_of}
use Rattle.pg_set.specs.stated.Views.{method_view, service_view}
use Rattle.pg_set.proofs.lemmas.lists.Tests.{below}
use Rattle.pg_set.proofs.lemmas.lists.Each.{both_are, each_cons}
use Rattle.pg_set.proofs.lemmas.written.Slots.{Slot, children_said, children_slot, made, mark_said, mark_slot, maybe_bytes, maybe_text_said, options_said, options_slot, says, stated_said, stated_slot, text_said, text_slot}
use Rattle.pg_set.proofs.lemmas.lists.ViewLaws.{same_method, same_service}
use Rattle.pg_set.proofs.lemmas.order.Ordering.{there}

-- ---- what names mean

-- the full name of each message type and enum, with a dot in front, means it, by its index
pub record HasNames (all : Declared) (means : NameLookup) : Type 0 where
  pub types : (id : TypeId) (name : List ℕ) → type_name all.types id ≡ Some name → means (dotted name) ≡ Some (nameds.Type id)
  pub enums : (id : EnumId) (name : List ℕ) → enum_name all.enums id ≡ Some name → means (dotted name) ≡ Some (nameds.Enum id)

within_list : {A : Type 0} (xs : List A) (i : ℕ) → slice_get xs i ≡ None → nat_lt i (length xs) ≡ true → ⊥
within_list xs i none h = let found = there xs i (below i (length xs) h) in none-some found.0 (sym none ∙ found.1)

module _ (all : Declared) (means : NameLookup) (has : HasNames all means) where
  pub means_type : (t : TypeId) → nat_lt t.index (length all.types) ≡ true → meant means (option_map dotted (type_name all.types t)) ≡ Some (nameds.Type t)
  means_type t below = of (slice_get all.types t.index) refl
    where
      of : (o : Option MessageType) → slice_get all.types t.index ≡ o → meant means (option_map dotted (option_map (λ (x : MessageType). string_bytes x.name) o)) ≡ Some (nameds.Type t)
      of None is = absurd (within_list all.types t.index is below)
      of (Some x) is = has.types t (string_bytes x.name) (ap (option_map (λ (y : MessageType). string_bytes y.name)) is)

  pub means_enum : (e : EnumId) → nat_lt e.index (length all.enums) ≡ true → meant means (option_map dotted (enum_name all.enums e)) ≡ Some (nameds.Enum e)
  means_enum e below = of (slice_get all.enums e.index) refl
    where
      of : (o : Option EnumType) → slice_get all.enums e.index ≡ o → meant means (option_map dotted (option_map (λ (x : EnumType). string_bytes x.name) o)) ≡ Some (nameds.Enum e)
      of None is = absurd (within_list all.enums e.index is below)
      of (Some x) is = has.enums e (string_bytes x.name) (ap (option_map (λ (y : EnumType). string_bytes y.name)) is)

-- ---- methods

pub called_is : (k : ℕ) (name : Option (List ℕ)) → called_type k name ≡ map (item k) (maybe_bytes (option_map dotted name))
called_is k (Some name) = refl
called_is k None = refl

abbrev called_slot : ℕ → Option (List ℕ) → Slot
called_slot k name = record { number = k; piece = called_type k name; holds = maybe_bytes (option_map dotted name); is = called_is k name }

abbrev method_slots : Declared → Method → List Slot
method_slots all d =
    mark_slot 6 d.server_streaming ∷ mark_slot 5 d.client_streaming ∷ options_slot 4 (stated 33 d.options.deprecated) ∷ called_slot 3 (type_name all.types d.output)
    ∷ called_slot 2 (type_name all.types d.input) ∷ text_slot 1 (string_bytes d.name) ∷ []

pub method_called : (all : Declared) (d : Method) → text_at 1 (made (method_items all d)) ≡ string_bytes d.name
method_called all d = text_said 1 (made (method_items all d)) (string_bytes d.name) (says 1 (method_slots all d) refl)

abbrev service_slots : Declared → Service → List Slot
service_slots all s = options_slot 3 (stated 33 s.options.deprecated) ∷ children_slot 2 (map (method_items all) s.methods.items) ∷ text_slot 1 (own_name (string_bytes s.name)) ∷ []

pub service_called : (all : Declared) (s : Service) → text_at 1 (made (service_items all s)) ≡ own_name (string_bytes s.name)
service_called all s = text_said 1 (made (service_items all s)) (own_name (string_bytes s.name)) (says 1 (service_slots all s) refl)

pub service_methods : (all : Declared) (s : Service) → children_at 2 (made (service_items all s)) ≡ map made (map (method_items all) s.methods.items)
service_methods all s = children_said 2 (made (service_items all s)) (map (method_items all) s.methods.items) (says 2 (service_slots all s) refl)

module _ (all : Declared) (means : NameLookup) (has : HasNames all means) where
  type_is : (k : ℕ) (m : Message) (t : TypeId) → nat_lt t.index (length all.types) ≡ true → maybe_text_at k m ≡ option_map dotted (type_name all.types t) → type_meant means (maybe_text_at k m) ≡ Some t
  type_is k m t below told = ap (type_meant means) told ∙ ap (option_and_then type_of_named) (means_type all means has t below)

  method_is : (d : Method) → is_method (length all.types) d ≡ true → method means (made (method_items all d)) ≡ Some (method_view d)
  method_is d keeps =
      let m : Message = made (method_items all d) in
      let slots : List Slot = method_slots all d in
      both_are (method_of m) (type_meant means (maybe_text_at 2 m)) (type_meant means (maybe_text_at 3 m)) d.input d.output
      (type_is 2 m d.input (and_right _ _ (and_left _ _ keeps)) (maybe_text_said 2 m (option_map dotted (type_name all.types d.input)) (says 2 slots refl)))
      (type_is 3 m d.output (and_right _ _ keeps) (maybe_text_said 3 m (option_map dotted (type_name all.types d.output)) (says 3 slots refl)))
      ∙ ap Some (same_method (method_called all d) refl refl (mark_said 5 m d.client_streaming (says 5 slots refl)) (mark_said 6 m d.server_streaming (says 6 slots refl))
      (ap (maybe_flag_at 33) (options_said 4 m (stated 33 d.options.deprecated) (says 4 slots refl))
      ∙ stated_said 33 (made (stated 33 d.options.deprecated)) d.options.deprecated (says 33 (stated_slot 33 d.options.deprecated ∷ []) refl)))

  methods_are : (ds : List Method) → list_all (is_method (length all.types)) ds ≡ true → each (method means) (map made (map (method_items all) ds)) ≡ Some (map method_view ds)
  methods_are [] keep = refl
  methods_are (d ∷ ds) keep =
      each_cons (method means) (made (method_items all d)) (map made (map (method_items all) ds)) (method_view d) (map method_view ds)
      (method_is d (and_left (is_method (length all.types) d) (list_all (is_method (length all.types)) ds) keep))
      (methods_are ds (and_right (is_method (length all.types) d) (list_all (is_method (length all.types)) ds) keep))

  -- under its qualified name
  pub service_is : (s : Service) → is_service (length all.types) s ≡ true → service means (dotted (string_bytes s.name), made (service_items all s)) ≡ Some (service_view s)
  service_is s keeps =
      let m : Message = made (service_items all s) in
      ap (λ ms. option_map (service_of (dotted (string_bytes s.name), m)) (each (method means) ms)) (service_methods all s)
      ∙ (ap (option_map (service_of (dotted (string_bytes s.name), m))) (methods_are s.methods.items keeps)
      ∙ ap Some (same_service refl refl (ap (maybe_flag_at 33) (options_said 3 m (stated 33 s.options.deprecated) (says 3 (service_slots all s) refl))
      ∙ stated_said 33 (made (stated 33 s.options.deprecated)) s.options.deprecated (says 33 (stated_slot 33 s.options.deprecated ∷ []) refl))))
