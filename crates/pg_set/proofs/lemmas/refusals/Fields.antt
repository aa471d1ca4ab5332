-- Fields, message types and services that come to nothing: just those with a cause.
use Rattle.std.proofs.Common.{◌≡◌, ℕ, pos, suc, Bool, true, false, cond, not, nat_eq, ◌&&◌, ◌||◌, List, [], ◌∷◌, filter, length, map, Option, Some, None, is_some, option_map, option_and_then, refl, ap, sym, ◌∙◌, rules}
use Rattle.std.proofs.lemmas.Bool.{false≢true}
use Rattle.std.proofs.lemmas.Option.{none-some, same_Some}
use Rattle.std.specs.List.{Any, list_all}
use Rattle.std.specs.Ordering.{int_eq}
use Rattle.std.specs.Str.{bytes_eq}
use Rattle.pg_schema.specs.declared.parts.field.Element.{Element}
use Rattle.pg_schema.specs.declared.parts.field.Presence.{Presence}
use Rattle.pg_schema.specs.rules.DeclaredNames.{entry_name}
use Rattle.pg_schema.specs.rules.TextSets.{is_among}
use Rattle.pg_schema.specs.Shape.{is_map}
use Rattle.pg_schema.proofs.lemmas.rules.PairLemmas.{and_false_right, bytes_eq-sym}
use Rattle.pg_dyn.specs.message.Message.{Message}
use Rattle.pg_dyn.proofs.Lists.{and_then_some, option_map_some}
use Rattle.pg_set.specs.refusals.BadReferences.{IsBadField, IsBadMap, IsBadMethod, IsBadType, fields_of_entry, own_entry_name}
use Rattle.pg_set.specs.refusals.BadReferences as causes
use Rattle.pg_set.specs.stated.Outlines.{Row}
use Rattle.pg_set.specs.declared.descriptor.proto.TheConstants as proto
use Rattle.pg_set.specs.stated.SetMessages.{children_at, text_at}
use Rattle.pg_set.specs.stated.TypeMessages.{is_optional, label_at}
use Rattle.pg_set.specs.stated.StatedEntries.{element, entry, says}
use Rattle.pg_set.specs.stated.StatedFields.{Items, Owner, field, field_of, is_map_field, is_map_of, is_named_once, items, map_items, map_of, names_its_entry, packed_at, plain_items, presence, repeated, singular}
use Rattle.pg_set.specs.stated.StatedNames.{NameLookup, each, first_of, only_if}
use Rattle.pg_set.specs.stated.StatedOneofs.{oneof}
use Rattle.pg_set.specs.stated.StatedServices.{service}
use Rattle.pg_set.specs.stated.StatedTypes.{declared_fields, last_named, own_entries, owner}
use Rattle.pg_set.specs.stated.Views.{FieldView}
use Rattle.pg_set.proofs.lemmas.lists.Each.{not_some}
use Rattle.pg_set.proofs.lemmas.lists.Tests.{unequal}
use Rattle.pg_set.proofs.lemmas.refusals.Oneofs.{bad_oneof, oneof_none}
use Rattle.pg_set.proofs.lemmas.refusals.Steps.{any_false, any_weaker, each_none, false_any, isnt, map_none, none_each, of_and, of_cond, of_only, of_then, only_nothing, test_none, then_nothing}
use Rattle.pg_set.proofs.lemmas.refusals.Types.{bad_element, bad_entry, bad_method, element_none, entry_none, method_none}

-- ---- entry types of a name

first_is : (o : Option Message) (b : Bool) (m : Message) → is_some (first_of o (cond b (Some m) None)) ≡ (b || is_some o)
first_is None true m = refl
first_is None false m = refl
first_is (Some x) true m = refl
first_is (Some x) false m = refl

named_among : (ms : List Message) (name : List ℕ) → is_some (last_named ms name) ≡ is_among (map (text_at proto.MESSAGE_NAME) ms) name
named_among [] name = refl
named_among (m ∷ ms) name = search (rules, named_among ms name, first_is, bytes_eq-sym)

-- ---- how often items occur

abbrev pub with_element : Element → Presence → Items
with_element e p = (p, e)

module _ (means : NameLookup) (r : Row) (m : Message) where
  abbrev repeats : Bool
  repeats = int_eq (label_at m) (pos 3)

  abbrev many : Element → Option Presence
  many e = only_if (not (is_optional m)) (Some (repeated e (packed_at m)))

  abbrev single : Element → Bool → Presence
  single e member = singular e member (is_optional m)

  bad_presence : (e : Element) (member : Bool) → presence m e member ≡ None → IsBadField means r m
  bad_presence e member h = search (rules, of_cond, isnt, test_none, none-some)

  presence_none : (e : Element) (member : Bool) → is_optional m ≡ true → repeats ≡ true → presence m e member ≡ None
  presence_none e member optional is = cc

  -- ---- fields

  abbrev with_presence : Bool → Element → Option Items
  with_presence member e = option_map (with_element e) (presence m e member)

  bad_plain : (member : Bool) → is_map_field means m ≡ false → plain_items means m member ≡ None → IsBadField means r m
  bad_plain member plain h =
      of_then (with_presence member) (element means m) h (λ none. causes.bad_type plain (bad_element means m none))
      (λ e is none. bad_presence e member (map_none (with_element e) (presence m e member) none))

  abbrev own_name : List ℕ
  own_name = entry_name (text_at proto.FIELD_NAME m)

  abbrev own_entry : Option Message
  own_entry = last_named (own_entries r.1) own_name

  abbrev of_entry : Message → Option Items
  of_entry e = option_map map_of (entry means e)

  abbrev says_own : Bool
  says_own = says proto.FIELD_TYPE_NAME m (own_entry_name r m)

  bad_naming : is_map_field means m ≡ true → names_its_entry (owner r) m ≡ false → IsBadField means r m
  bad_naming is_map h =
      of_and (repeats && not (is_optional m)) says_own h
      (λ none.
      of_and repeats (not (is_optional m)) none (λ single. causes.bad_map is_map (causes.not_repeated single)) (λ is other. causes.repeated_optional (isnt (is_optional m) other) is))
      (λ label none. causes.bad_map is_map (causes.other_entry none))

  bad_map : is_map_field means m ≡ true → map_items means (owner r) m ≡ None → IsBadField means r m
  bad_map is_map h =
      of_only (names_its_entry (owner r) m) (option_and_then of_entry own_entry) h (bad_naming is_map)
      (λ none.
      of_then of_entry own_entry none
      (λ nothing. causes.bad_map is_map (causes.no_entry (sym (named_among (own_entries r.1) own_name) ∙ ap is_some nothing)))
      (λ e is nothing. causes.bad_map is_map (causes.bad_entry e is (bad_entry means e (map_none map_of (entry means e) nothing)))))

  abbrev made : Option ℕ → Option FieldView
  made own = option_map (field_of m own) (items means (owner r) m (is_some own))

  abbrev own_oneof : Option (Option ℕ)
  own_oneof = oneof (owner r).synthetic (owner r).members m

  bad_items : (member : Bool) → items means (owner r) m member ≡ None → IsBadField means r m
  bad_items member h = of_cond (is_map_field means m) (map_items means (owner r) m) (plain_items means m member) h bad_map (bad_plain member)

  bad_field : Any (λ y. y ≡ m) (children_at proto.MESSAGE_FIELD r.1) → field means (owner r) m ≡ None → IsBadField means r m
  bad_field one h =
      of_then made own_oneof h (λ none. causes.bad_oneof (bad_oneof r.1 m one none))
      (λ own is none. bad_items (is_some own) (map_none (field_of m own) (items means (owner r) m (is_some own)) none))

  map_nothing : IsBadMap means r m → map_items means (owner r) m ≡ None
  map_nothing (causes.not_repeated h) = cc
  map_nothing (causes.other_entry h) =
      ap (λ b. only_if b (option_and_then of_entry own_entry))
      (ap (λ b. repeats && not (is_optional m) && b) h ∙ and_false_right (repeats && not (is_optional m)))
  map_nothing (causes.no_entry h) =
      only_nothing (names_its_entry (owner r) m) (option_and_then of_entry own_entry)
      (ap (option_and_then of_entry) (not_some own_entry (named_among (own_entries r.1) own_name ∙ h)))
  map_nothing (causes.bad_entry e is bad) =
      only_nothing (names_its_entry (owner r) m) (option_and_then of_entry own_entry) (ap (option_and_then of_entry) is ∙ ap (option_map map_of) (entry_none means e bad))

  optional_none : (member : Bool) → is_optional m ≡ true → repeats ≡ true → (b : Bool) → cond b (map_items means (owner r) m) (plain_items means m member) ≡ None
  optional_none member optional is true = cc
  optional_none member optional is false = then_nothing (with_presence member) (element means m) (λ e has. ap (option_map (with_element e)) (presence_none e member optional is))

  of_items : ((member : Bool) → items means (owner r) m member ≡ None) → field means (owner r) m ≡ None
  of_items none = then_nothing made own_oneof (λ own is. ap (option_map (field_of m own)) (none (is_some own)))

  field_none : IsBadField means r m → field means (owner r) m ≡ None
  field_none (causes.bad_oneof bad) = ap (option_and_then made) (oneof_none r.1 m bad)
  field_none (causes.repeated_optional optional is) = of_items (λ member. optional_none member optional is (is_map_field means m))
  field_none (causes.bad_map is_map bad) = of_items (λ member. cc (map_nothing bad))
  field_none (causes.bad_type plain bad) = of_items (λ member. cc (element_none means m bad))

-- ---- which fields are maps

module _ (means : NameLookup) (o : Owner) where
  no_map : (m : Message) (e : Element) (member : Bool) (p : Presence) → presence m e member ≡ Some p → is_map p ≡ false
  no_map m e member p h = search (rules, same_Some, none-some)

  items_map : (m : Message) (member : Bool) (i : Items) → items means o m member ≡ Some i → is_map i.0 ≡ is_map_field means m
  items_map m member i h = of (is_map_field means m) h
    where
      mapped : (b : Bool) (entries : Option Message) → only_if b (option_and_then (λ e. option_map map_of (entry means e)) entries) ≡ Some i → is_map i.0 ≡ true
      mapped true entries h =
          let (e, is, then) = and_then_some (λ e. option_map map_of (entry means e)) entries i h in
          let (pair, has, same) = option_map_some map_of (entry means e) i then in
          sym (ap (λ (j : Items). is_map j.0) same)
      mapped false entries h = absurd (none-some i h)

      plain : plain_items means m member ≡ Some i → is_map i.0 ≡ false
      plain h =
          let (e, is, then) = and_then_some (λ e. option_map (with_element e) (presence m e member)) (element means m) i h in
          let (p, has, same) = option_map_some (with_element e) (presence m e member) i then in
          sym (ap (λ (j : Items). is_map j.0) same) ∙ no_map m e member p has

      of : (b : Bool) → cond b (map_items means o m) (plain_items means m member) ≡ Some i → is_map i.0 ≡ b
      of true h = mapped (names_its_entry o m) (o.entries (entry_name (text_at proto.FIELD_NAME m))) h
      of false h = plain h

  abbrev is_of_entry : (entry : List ℕ) → Message → Bool
  is_of_entry entry m = is_map_field means m && bytes_eq (entry_name (text_at proto.FIELD_NAME m)) entry

  field_map : (entry : List ℕ) (m : Message) (f : FieldView) → field means o m ≡ Some f → is_map_of entry f ≡ is_of_entry entry m
  field_map entry m f h =
      let (own, is, then) = and_then_some (λ own. option_map (field_of m own) (items means o m (is_some own))) (oneof o.synthetic o.members m) f h in
      let (i, has, same) = option_map_some (field_of m own) (items means o m (is_some own)) f then in
      sym (ap (is_map_of entry) same) ∙ ap (λ b. b && bytes_eq (entry_name (text_at proto.FIELD_NAME m)) entry) (items_map m (is_some own) i has)

  -- as many fields are maps of an entry type as messages say so
  named_as : (entry : List ℕ) (ms : List Message) (fs : List FieldView) → each (field means o) ms ≡ Some fs → length (filter (is_map_of entry) fs) ≡ length (filter (is_of_entry entry) ms)
  named_as entry [] fs h = ap (λ gs. length (filter (is_map_of entry) gs)) (sym (same_Some [] fs h))
  named_as entry (m ∷ ms) fs h =
      let (f, is, then) = and_then_some (λ y. option_map (λ ys. y ∷ ys) (each (field means o) ms)) (field means o m) fs h in
      let (gs, are, same) = option_map_some (λ ys. f ∷ ys) (each (field means o) ms) fs then in
      sym (ap (λ hs. length (filter (is_map_of entry) hs)) same)
      ∙ (ap (λ b. length (cond b (f ∷ filter (is_map_of entry) gs) (filter (is_map_of entry) gs))) (field_map entry m f is)
      ∙ more f gs (is_of_entry entry m) (named_as entry ms gs are))
    where
      more : (f : FieldView) (gs : List FieldView) (b : Bool) → length (filter (is_map_of entry) gs) ≡ length (filter (is_of_entry entry) ms)
          → length (cond b (f ∷ filter (is_map_of entry) gs) (filter (is_map_of entry) gs)) ≡ length (cond b (m ∷ filter (is_of_entry entry) ms) (filter (is_of_entry entry) ms))
      more f gs true later = ap suc later
      more f gs false later = later

-- ---- message types and services

module _ (means : NameLookup) (r : Row) where
  abbrev fields_of : List Message
  fields_of = children_at proto.MESSAGE_FIELD r.1

  abbrev counted : List FieldView → Option (List FieldView)
  counted fs = only_if (list_all (is_named_once fs) (own_entries r.1)) (Some fs)

  abbrev uses : Message → ℕ
  uses e = length (fields_of_entry means r e)

  abbrev NotOnce : Message → Type 0
  NotOnce e = nat_eq (uses e) 1 ≡ false

  -- the fields that were made name an entry type as often as messages do
  once_as : (fs : List FieldView) → each (field means (owner r)) fields_of ≡ Some fs → (e : Message) → is_named_once fs e ≡ nat_eq (uses e) 1
  once_as fs are e = ap (λ n. nat_eq n 1) (named_as means (owner r) (text_at proto.MESSAGE_NAME e) fields_of fs are)

  bad_uses : Any NotOnce (own_entries r.1) → IsBadType means r
  bad_uses (k, e, h, is, other) = search (rules, false≢true)

  pub bad_type : declared_fields means r ≡ None → IsBadType means r
  bad_type h =
      of_then counted (each (field means (owner r)) fields_of) h
      (λ none.
      causes.bad_field
      (any_weaker (λ m. field means (owner r) m ≡ None) (IsBadField means r) fields_of (bad_field means r) (each_none (field means (owner r)) fields_of none)))
      (λ fs are none.
      bad_uses
      (any_weaker (λ e. is_named_once fs e ≡ false) NotOnce (own_entries r.1) (λ e one other. sym (once_as fs are e) ∙ other)
      (any_false (is_named_once fs) (own_entries r.1) (test_none (list_all (is_named_once fs) (own_entries r.1)) fs none))))

  uses_none : Any NotOnce (own_entries r.1) → declared_fields means r ≡ None
  uses_none any = search (rules, then_nothing, false_any, any_weaker, once_as)

  pub type_none : IsBadType means r → declared_fields means r ≡ None
  type_none (causes.bad_field any) =
      ap (option_and_then counted)
      (none_each (field means (owner r)) fields_of (any_weaker (IsBadField means r) (λ m. field means (owner r) m ≡ None) fields_of (λ m one. field_none means r m) any))
  type_none (causes.spare_entry any) = search (rules, uses_none, any_weaker)
  type_none (causes.shared_entry any) = search (rules, uses_none, any_weaker, unequal)

  abbrev methods_of : List Message
  methods_of = children_at proto.SERVICE_METHOD r.1

  pub bad_service : service means r ≡ None → Any (IsBadMethod means) methods_of
  bad_service h = search (rules, any_weaker, bad_method, each_none, map_none)

  pub service_none : Any (IsBadMethod means) methods_of → service means r ≡ None
  service_none any = search (rules, option_map, none_each, any_weaker, method_none)
