-- What is written has types and labels that are taken.
use Rattle.std.proofs.Common.{◌≡◌, ℕ, zero, suc, pos, Bool, true, cond, ◌&&◌, List, [], ◌∷◌, ◌++◌, codes, map, filter_map, length, refl, ap, ◌∙◌, rules}
use Rattle.std.proofs.lemmas.List.Folds.{list_all-append}
use Rattle.std.specs.List.{list_all, list_any}
use Rattle.std.specs.Ordering.{int_eq}
use Rattle.pg_schema.specs.declared.parts.field.Element.{Element}
use Rattle.pg_schema.specs.declared.parts.field.Element.TheVariants as elements
use Rattle.pg_schema.specs.declared.parts.field.Field.{Field}
use Rattle.pg_schema.specs.declared.parts.field.Presence.{Presence}
use Rattle.pg_schema.specs.declared.parts.field.Presence.TheVariants as presences
use Rattle.pg_schema.specs.declared.parts.field.Scalar.{Scalar}
use Rattle.pg_schema.specs.declared.parts.field.Scalar.TheVariants as scalars
use Rattle.pg_schema.specs.declared.parts.field.TypeId.{TypeId}
use Rattle.pg_schema.specs.declared.parts.file.File.{File}
use Rattle.pg_schema.specs.declared.parts.message_type.MessageType.{MessageType}
use Rattle.pg_schema.proofs.lemmas.rules.PairLemmas.{and_both}
use Rattle.pg_dyn.specs.message.Message.{Message}
use Rattle.pg_schema.specs.standing.Places.{most_deep}
use Rattle.pg_set.specs.stated.Codes.{file_has_types, has_types, have_types, is_taken, label_codes, type_codes}
use Rattle.pg_set.specs.writing.Entries.{entries}
use Rattle.pg_set.specs.writing.Fields.{element_code, fields_items, label, scalar_code, type_code}
use Rattle.pg_set.specs.writing.Items.{Items}
use Rattle.pg_set.specs.writing.Messages.{types_items}
use Rattle.pg_set.specs.writing.Places.{Declared}
use Rattle.pg_set.specs.stated.SetMessages.{child_in, children_at, number_at}
use Rattle.pg_set.specs.stated.TypeMessages.{label_at}
use Rattle.pg_set.proofs.lemmas.written.Slots.{made}
use Rattle.pg_set.proofs.lemmas.written.WrittenEntries.{each_entry, made_parted}
use Rattle.pg_set.proofs.lemmas.written.WrittenFields.{entry_fields, entry_types, entry_written, label_said, of_entry, part_label_said, part_type_said, type_said, written}
use Rattle.pg_set.proofs.lemmas.written.WrittenFiles.{file_written, types_of_file}
use Rattle.pg_set.proofs.lemmas.written.WrittenTypes.{type_fields, type_inside, type_written}

-- ---- codes

scalar_taken : (s : Scalar) → list_any (int_eq (pos (scalar_code s))) type_codes ≡ true
scalar_taken scalars.Double = refl
scalar_taken scalars.Float = refl
scalar_taken scalars.Int64 = refl
scalar_taken scalars.Uint64 = refl
scalar_taken scalars.Int32 = refl
scalar_taken scalars.Fixed64 = refl
scalar_taken scalars.Fixed32 = refl
scalar_taken scalars.Bool = refl
scalar_taken scalars.String = refl
scalar_taken scalars.Bytes = refl
scalar_taken scalars.Uint32 = refl
scalar_taken scalars.Sfixed32 = refl
scalar_taken scalars.Sfixed64 = refl
scalar_taken scalars.Sint32 = refl
scalar_taken scalars.Sint64 = refl

element_taken : (e : Element) → list_any (int_eq (pos (element_code e))) type_codes ≡ true
element_taken (elements.Scalar s) = scalar_taken s
element_taken (elements.Message t) = refl
element_taken (elements.Enum e) = refl

type_taken : (p : Presence) (e : Element) → list_any (int_eq (pos (type_code p e))) type_codes ≡ true
type_taken presences.Implicit e = element_taken e
type_taken presences.Explicit e = element_taken e
type_taken (presences.Repeated packed) e = element_taken e
type_taken (presences.Map key) e = refl

label_taken : (p : Presence) → list_any (int_eq (pos (label p))) label_codes ≡ true
label_taken presences.Implicit = refl
label_taken presences.Explicit = refl
label_taken (presences.Repeated packed) = refl
label_taken (presences.Map key) = refl

taken : (m : Message) (type label : ℕ) → list_any (int_eq (pos type)) type_codes ≡ true → list_any (int_eq (pos label)) label_codes ≡ true
    → number_at 5 m ≡ pos type → label_at m ≡ pos label → is_taken m ≡ true
taken m type label typed labelled is_type is_label = search (rules, and_both)

-- ---- fields and entry types

none_inside : (depth : ℕ) (ms : List Message) → ms ≡ [] → have_types depth ms ≡ true
none_inside zero ms none = refl
none_inside (suc depth) ms none = ap (list_all (has_types (have_types depth))) none

module _ (all : Declared) where
  fields_taken : (scope : List ℕ) (next : ℕ) (fs : List Field) → list_all is_taken (map made (fields_items all scope next fs)) ≡ true
  fields_taken scope next [] = refl
  fields_taken scope next (f ∷ fs) =
      let later : ℕ = cond f.states_optional (suc next) next in
      and_both (is_taken (written all scope next f)) (list_all is_taken (map made (fields_items all scope later fs)))
      (taken (written all scope next f) (type_code f.presence f.element) (label f.presence) (type_taken f.presence f.element) (label_taken f.presence) (type_said all scope next f) (label_said all scope next f))
      (fields_taken scope later fs)

  part_taken : (called : List ℕ) (place : ℕ) (e : Element) → is_taken (of_entry all called place e) ≡ true
  part_taken called place e = taken (of_entry all called place e) (element_code e) 1 (element_taken e) refl (part_type_said all called place e) (part_label_said all called place e)

  entry_typed : (depth : ℕ) (f : Field) (key : Scalar) → has_types (have_types depth) (entry_written all f key) ≡ true
  entry_typed depth f key =
      let m : Message = entry_written all f key in
      let k : Message = of_entry all (codes "key") 1 (elements.Scalar key) in
      let v : Message = of_entry all (codes "value") 2 f.element in
      and_both (list_all is_taken (children_at 2 m)) (have_types depth (children_at 3 m))
      (ap (list_all is_taken) (entry_fields all f key) ∙ and_both (is_taken k) (is_taken v && true) (part_taken (codes "key") 1 (elements.Scalar key)) (and_both (is_taken v) true (part_taken (codes "value") 2 f.element) refl))
      (none_inside depth (children_at 3 m) (ap (filter_map child_in) (entry_types all f key)))

  entries_typed : (depth : ℕ) (fs : List Field) → list_all (has_types (have_types depth)) (map made (entries all fs)) ≡ true
  entries_typed depth =
      each_entry all (λ fs es. list_all (has_types (have_types depth)) (map made es) ≡ true) refl (λ f fs es plain later. later)
      (λ f key fs es is later. and_both (has_types (have_types depth) (entry_written all f key)) (list_all (has_types (have_types depth)) (map made es)) (entry_typed depth f key) later)

  -- ---- message types

  inside_typed : (depth : ℕ) (nested : List Items) (fs : List Field) → have_types depth (map made nested) ≡ true → have_types depth (map made (nested ++ entries all fs)) ≡ true
  inside_typed zero nested fs typed = refl
  inside_typed (suc depth) nested fs typed =
      let test : Message → Bool = has_types (have_types depth) in
      ap (list_all test) (made_parted nested (entries all fs))
      ∙ (list_all-append test (map made nested) (map made (entries all fs)) ∙ and_both (list_all test (map made nested)) (list_all test (map made (entries all fs))) typed (entries_typed depth fs))

  type_typed : (depth : ℕ) (nested : List Items) (t : MessageType) → have_types depth (map made nested) ≡ true → has_types (have_types depth) (type_written all nested t) ≡ true
  type_typed depth nested t typed = search (rules, type_written, and_both, type_fields, fields_taken, type_inside, inside_typed)

  each_typed : (depth deep : ℕ) → ((ids : List TypeId) → have_types depth (map made (types_items deep all ids)) ≡ true) → (ids : List TypeId) → have_types (suc depth) (map made (types_items (suc deep) all ids)) ≡ true
  each_typed depth deep deeper [] = refl
  each_typed depth deep deeper (id ∷ ids) = search (rules, each_typed depth deep deeper ids, made, and_both, type_written, type_typed)

  typed : (depth deep : ℕ) (ids : List TypeId) → have_types depth (map made (types_items deep all ids)) ≡ true
  typed zero deep ids = refl
  typed (suc depth) zero ids = refl
  typed (suc depth) (suc deep) ids = each_typed depth deep (typed depth deep) ids

  pub file_typed : (f : File) → file_has_types (file_written all f) ≡ true
  file_typed f = ap (have_types most_deep) (types_of_file all f) ∙ typed most_deep (length all.types) f.types.items
