-- What names no type, and fields and entry types without items: just those with a cause.
use Rattle.std.proofs.Common.{◌≡◌, ◌≢◌, inl, inr, ℕ, pos, Bool, cond, ◌&&◌, List, [], ◌∷◌, length, Option, Some, None, is_some, option_map, option_and_then, refl, ap, sym, subst, ◌∙◌, arith}
use Rattle.std.proofs.lemmas.Option.{option_and_then_some}
use Rattle.std.specs.Prelude.{codes}
use Rattle.std.specs.List.{Any}
use Rattle.std.specs.Ordering.{int_eq}
use Rattle.pg_schema.specs.declared.parts.field.Element.{Element}
use Rattle.pg_schema.specs.declared.parts.field.Element.TheVariants as elements
use Rattle.pg_schema.proofs.lemmas.rules.PairLemmas.{and_false_right}
use Rattle.pg_dyn.specs.message.Message.{Item, Message}
use Rattle.pg_set.specs.declared.reading.outline.Named.{Named}
use Rattle.pg_set.specs.refusals.BadReferences.{HasBadType, IsBadEntry, IsBadMethod, NamesNoType}
use Rattle.pg_set.specs.refusals.BadReferences as causes
use Rattle.pg_set.specs.writing.Fields.{element_code}
use Rattle.pg_set.specs.declared.descriptor.proto.TheConstants as proto
use Rattle.pg_set.specs.stated.SetMessages.{children_at, item_at, maybe_text_at, number_at, text_of}
use Rattle.pg_set.specs.stated.StatedEntries.{element, entry, has_fields_alone, is_entry_field, key_and_value, key_with, named_element, of_code, pair_of, scalar_of}
use Rattle.pg_set.specs.stated.StatedNames.{NameLookup, both, element_of_named, meant, type_meant, type_of_named}
use Rattle.pg_set.specs.stated.StatedServices.{method, method_of}
use Rattle.pg_set.proofs.lemmas.refusals.Steps.{any_here, any_of, any_there, map_none, none_any, of_and, of_both, of_only, of_then, only_nothing, second_none, test_none}

-- ---- methods

module _ (means : NameLookup) where
  names_no_type : (name : Option (List ℕ)) → type_meant means name ≡ None → NamesNoType means name
  names_no_type None h = causes.unnamed refl
  names_no_type (Some text) h = of_then type_of_named (means text) h (causes.unknown_type text refl) causes.no_type

  type_none : (name : Option (List ℕ)) → NamesNoType means name → type_meant means name ≡ None
  type_none name (causes.unnamed is) = cc
  type_none name (causes.unknown_type text is nothing) = cc
  type_none name (causes.no_type thing is none) = cc

  module _ (m : Message) where
    abbrev sent : Option (List ℕ)
    sent = maybe_text_at proto.METHOD_INPUT_TYPE m

    abbrev answered : Option (List ℕ)
    answered = maybe_text_at proto.METHOD_OUTPUT_TYPE m

    pub bad_method : method means m ≡ None → IsBadMethod means m
    bad_method h = of_both (method_of m) (type_meant means sent) (type_meant means answered) h (λ none. inl (names_no_type sent none)) (λ none. inr (names_no_type answered none))

    pub method_none : IsBadMethod means m → method means m ≡ None
    method_none (inl bad) = rw (type_none sent bad)
    method_none (inr bad) = second_none (method_of m) (type_meant means sent) (type_meant means answered) (type_none answered bad)

-- ---- types of fields

named_item : (o : Option Item) → is_some (option_map text_of o) ≡ is_some o
named_item None = refl
named_item (Some i) = refl

module _ (means : NameLookup) (m : Message) where
  abbrev type_name : Option (List ℕ)
  type_name = maybe_text_at proto.FIELD_TYPE_NAME m

  abbrev scalar : Option Element
  scalar = option_map elements.Scalar (scalar_of (number_at proto.FIELD_TYPE m))

  element_by : cond (is_some type_name) (named_element means m) scalar ≡ element means m
  element_by = ap (λ b. cond b (named_element means m) scalar) (named_item (item_at proto.FIELD_TYPE_NAME m))

  bad_named : (name : List ℕ) → type_name ≡ Some name → named_element means m ≡ None → HasBadType means m
  bad_named name is h =
      of_then (of_code (number_at proto.FIELD_TYPE m)) (option_and_then element_of_named (meant means type_name)) h
      (λ none. of_then element_of_named (meant means type_name) none (λ nothing. causes.unknown_name name is (ap (meant means) (sym is) ∙ nothing)) causes.no_element)
      (λ e has none.
      option_and_then_some element_of_named (meant means type_name) e has
      (λ thing means_it it. causes.other_kind thing e means_it it (test_none (int_eq (number_at proto.FIELD_TYPE m) (pos (element_code e))) e none)))

  pub bad_element : element means m ≡ None → HasBadType means m
  bad_element h = of type_name refl (element_by ∙ h)
    where
      of : (o : Option (List ℕ)) → type_name ≡ o → cond (is_some o) (named_element means m) scalar ≡ None → HasBadType means m
      of None is h = causes.without_name is (map_none elements.Scalar (scalar_of (number_at proto.FIELD_TYPE m)) h)
      of (Some name) is h = bad_named name is h

  -- where its type has a name, and that comes to nothing
  named_none : (name : List ℕ) → type_name ≡ Some name → named_element means m ≡ None → element means m ≡ None
  named_none name is h = sym element_by ∙ cc

  meant_none : (thing : Named) → meant means type_name ≡ Some thing → named_element means m ≡ None → element means m ≡ None
  meant_none thing is h = option_and_then_some means type_name thing is (λ name has it. named_none name has h)

  pub element_none : HasBadType means m → element means m ≡ None
  element_none (causes.without_name none no_scalar) = sym element_by ∙ cc
  element_none (causes.unknown_name name is nothing) = named_none name is (cc)
  element_none (causes.no_element thing is none) = meant_none thing is (cc)
  element_none (causes.other_kind thing e is has other) = meant_none thing is (cc)

-- ---- entry types

module _ (means : NameLookup) (e : Message) where
  abbrev fields_of : List Message
  fields_of = children_at proto.MESSAGE_FIELD e

  abbrev is_key : Message → Bool
  is_key k = is_entry_field (codes "key") 1 k

  abbrev is_value : Message → Bool
  is_value v = is_entry_field (codes "value") 2 v

  bad_pair : (k v : Message) → fields_of ≡ k ∷ v ∷ [] → pair_of means k v ≡ None → IsBadEntry means e
  bad_pair k v is h =
      of_only (is_key k && is_value v) (both key_with (element means k) (element means v)) h
      (λ none. of_and (is_key k) (is_value v) none (causes.bad_key k v is) (λ here. causes.bad_value k v is))
      (λ none.
      of_both key_with (element means k) (element means v) none
      (λ nothing. some (any_here (HasBadType means) k (v ∷ []) (bad_element means k nothing)))
      (λ nothing. some (any_there (HasBadType means) k (v ∷ []) (any_here (HasBadType means) v [] (bad_element means v nothing)))))
    where
      some : Any (HasBadType means) (k ∷ v ∷ []) → IsBadEntry means e
      some any = causes.bad_item (subst (Any (HasBadType means)) (sym is) any)

  bad_fields : (ms : List Message) → fields_of ≡ ms → key_and_value means ms ≡ None → IsBadEntry means e
  bad_fields [] is h = causes.not_two (λ two. absurd (omega (arith, ap length (sym is) ∙ two)))
  bad_fields (k ∷ []) is h = causes.not_two (λ two. absurd (omega (arith, ap length (sym is) ∙ two)))
  bad_fields (k ∷ v ∷ []) is h = bad_pair k v is h
  bad_fields (k ∷ v ∷ m ∷ ms) is h = causes.not_two (λ two. let long = ap length (sym is) ∙ two in absurd (omega (arith, long)))

  pub bad_entry : entry means e ≡ None → IsBadEntry means e
  bad_entry h = of_only (has_fields_alone e) (key_and_value means fields_of) h causes.not_only_fields (bad_fields fields_of refl)

  types_none : (ms : List Message) → Any (HasBadType means) ms → key_and_value means ms ≡ None
  types_none [] any = refl
  types_none (k ∷ []) any = refl
  types_none (k ∷ v ∷ []) any =
      only_nothing (is_key k && is_value v) (both key_with (element means k) (element means v))
      (any_of (HasBadType means) k (v ∷ []) any
      (λ bad. rw (element_none means k bad))
      (λ rest.
      any_of (HasBadType means) v [] rest (λ bad. second_none key_with (element means k) (element means v) (element_none means v bad)) (none_any (HasBadType means))))
  types_none (k ∷ v ∷ m ∷ ms) any = refl

  count_none : (ms : List Message) → length ms ≢ 2 → key_and_value means ms ≡ None
  count_none [] other = refl
  count_none (k ∷ []) other = refl
  count_none (k ∷ v ∷ []) other = absurd (other refl)
  count_none (k ∷ v ∷ m ∷ ms) other = refl

  fields_none : key_and_value means fields_of ≡ None → entry means e ≡ None
  fields_none h = only_nothing (has_fields_alone e) (key_and_value means fields_of) h

  pub entry_none : IsBadEntry means e → entry means e ≡ None
  entry_none (causes.not_only_fields h) = rw h
  entry_none (causes.not_two h) = fields_none (count_none fields_of h)
  entry_none (causes.bad_key k v is h) = fields_none (cc)
  entry_none (causes.bad_value k v is h) = fields_none (cc (and_false_right (is_key k)))
  entry_none (causes.bad_item any) = fields_none (types_none fields_of any)
