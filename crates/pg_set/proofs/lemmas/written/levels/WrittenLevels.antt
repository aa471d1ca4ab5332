-- How many levels a set has: its own, that of files, those of nested message types, and at most three more, of an enum inside
-- the innermost, its values and their options.
use Rattle.std.proofs.Common.{◌≡◌, ℕ, zero, suc, ◌+◌, ◌≤◌, Bool, true, false, List, [], ◌∷◌, ◌++◌, map, flat_map, Option, Some, None, slice_get, arith}
use Rattle.std.proofs.lemmas.Bool.{false≢true}
use Rattle.std.specs.List.{AllByRecursion, list_all}
use Rattle.pg_schema.specs.declared.parts.enum_type.EnumType.{EnumType}
use Rattle.pg_schema.specs.declared.parts.enum_type.EnumValue.{EnumValue}
use Rattle.pg_schema.specs.declared.parts.field.Element.{Element}
use Rattle.pg_schema.specs.declared.parts.field.EnumId.{EnumId}
use Rattle.pg_schema.specs.declared.parts.field.Field.{Field}
use Rattle.pg_schema.specs.declared.parts.field.Presence.{Presence}
use Rattle.pg_schema.specs.declared.parts.field.Presence.TheVariants as presences
use Rattle.pg_schema.specs.declared.parts.field.TypeId.{TypeId}
use Rattle.pg_schema.specs.declared.parts.file.File.{File}
use Rattle.pg_schema.specs.declared.parts.message_type.MessageType.{MessageType}
use Rattle.pg_schema.specs.declared.parts.options.FileOption.{FileOption}
use Rattle.pg_schema.specs.declared.parts.options.OptionValue.{OptionValue}
use Rattle.pg_schema.specs.declared.parts.options.OptionValue.TheVariants as values
use Rattle.pg_schema.specs.declared.parts.Parts.{Parts}
use Rattle.pg_schema.specs.declared.parts.service.Method.{Method}
use Rattle.pg_schema.specs.declared.parts.service.Service.{Service}
use Rattle.pg_schema.specs.declared.parts.service.ServiceId.{ServiceId}
use Rattle.pg_schema.proofs.lemmas.rules.PairLemmas.{and_left, and_right}
use Rattle.pg_dyn.specs.message.Message.{Item, Msg, Part, Plain, message_from, with_part}
use Rattle.pg_schema.specs.standing.Nesting.{holds_inside, nest_within}
use Rattle.pg_set.specs.writing.Entries.{entries, entry_field, entry_items}
use Rattle.pg_set.specs.writing.Fields.{field_items, fields_items}
use Rattle.pg_set.specs.writing.Items.{Items, children, counts, filled, flag, mark, maybe_count, maybe_text, options, stated, texts}
use Rattle.pg_set.specs.writing.Messages.{enum_items, enums_items, type_items, types_items, value_items, where_found}
use Rattle.pg_set.specs.writing.Places.{Declared, declared_in}
use Rattle.pg_set.specs.writing.Set.{called_type, file_items, file_options, method_items, option_items, service_items, services_items, set_message}
use Rattle.pg_set.proofs.lemmas.written.levels.Levels.{levels}

abbrev ItemIsLow : ℕ → Item → Type 0
ItemIsLow n (Plain leaf) = Unit {0}
ItemIsLow n (Msg m) = levels m ≤ n

-- the messages among these parts have at most so many levels
abbrev AreLow : ℕ → Items → Type 0
AreLow n its = AllByRecursion (λ (p : Part Item). ItemIsLow n p.item) its

low_made : (n : ℕ) (its : Items) → AreLow n its → levels (message_from its []) ≤ suc n
low_made n [] low = omega arith
low_made n (p ∷ ps) low = of p.item low.0 (low_made n ps low.1)
  where
    of : (it : Item) → ItemIsLow n it → levels (message_from ps []) ≤ suc n → levels (with_part p.number p.key it (message_from ps [])) ≤ suc n
    of (Plain leaf) here later = later
    of (Msg m) here later = omega (arith, here, later)

both_low : (n : ℕ) (xs ys : Items) → AreLow n xs → AreLow n ys → AreLow n (xs ++ ys)
both_low n [] ys low later = later
both_low n (x ∷ xs) ys low later = (low.0, both_low n xs ys low.1 later)

-- ---- pieces

low_texts : (n k : ℕ) (list : List (List ℕ)) → AreLow n (texts k list)
low_texts n k [] = tt
low_texts n k (t ∷ ts) = (tt, low_texts n k ts)

low_counts : (n k : ℕ) (list : List ℕ) → AreLow n (counts k list)
low_counts n k [] = tt
low_counts n k (t ∷ ts) = (tt, low_counts n k ts)

low_flag : (n k : ℕ) (b : Bool) → AreLow n (flag k b)
low_flag n k true = (tt, tt)
low_flag n k false = (tt, tt)

low_mark : (n k : ℕ) (b : Bool) → AreLow n (mark k b)
low_mark n k true = (tt, tt)
low_mark n k false = tt

low_stated : (n k : ℕ) (o : Option Bool) → AreLow n (stated k o)
low_stated n k (Some b) = low_flag n k b
low_stated n k None = tt

low_filled : (n k : ℕ) (bytes : List ℕ) → AreLow n (filled k bytes)
low_filled n k [] = tt
low_filled n k (b ∷ bytes) = (tt, tt)

low_maybe_text : (n k : ℕ) (o : Option (List ℕ)) → AreLow n (maybe_text k o)
low_maybe_text n k (Some t) = (tt, tt)
low_maybe_text n k None = tt

low_maybe_count : (n k : ℕ) (o : Option ℕ) → AreLow n (maybe_count k o)
low_maybe_count n k (Some c) = (tt, tt)
low_maybe_count n k None = tt

low_called : (n k : ℕ) (o : Option (List ℕ)) → AreLow n (called_type k o)
low_called n k (Some t) = (tt, tt)
low_called n k None = tt

low_options : (n k : ℕ) (its : Items) → AreLow n its → AreLow (suc n) (options k its)
low_options n k [] low = tt
low_options n k (p ∷ ps) low = (low_made n (p ∷ ps) low, tt)

low_children : (n k : ℕ) (list : List Items) → AllByRecursion (AreLow n) list → AreLow (suc n) (children k list)
low_children n k [] low = tt
low_children n k (its ∷ list) low = (low_made n its low.0, low_children n k list low.1)

each_low : {A : Type 0} (n : ℕ) (f : A → Items) → ((x : A) → AreLow n (f x)) → (xs : List A) → AllByRecursion (AreLow n) (map f xs)
each_low n f low [] = tt
each_low n f low (x ∷ xs) = (low x, each_low n f low xs)

found_low : {A B : Type 0} (n : ℕ) (f : A → Items) → ((x : A) → AreLow n (f x)) → (find : B → Option A) (xs : List B) → AllByRecursion (AreLow n) (flat_map (λ x. where_found f (find x)) xs)
found_low n f low find [] = tt
found_low n f low find (x ∷ xs) = of (find x) (found_low n f low find xs)
  where
    of : (o : Option _) → AllByRecursion (AreLow n) (flat_map (λ y. where_found f (find y)) xs) → AllByRecursion (AreLow n) (where_found f o ++ flat_map (λ y. where_found f (find y)) xs)
    of None later = later
    of (Some y) later = (low y, later)

all_low : (n : ℕ) (xs ys : List Items) → AllByRecursion (AreLow n) xs → AllByRecursion (AreLow n) ys → AllByRecursion (AreLow n) (xs ++ ys)
all_low n [] ys low later = later
all_low n (x ∷ xs) ys low later = (low.0, all_low n xs ys low.1 later)

ruleset pieces = (both_low, low_texts, low_counts, low_flag, low_mark, low_stated, low_filled, low_maybe_text, low_maybe_count, low_called, low_options, low_children, each_low, all_low)

-- ---- enums

low_value : (n : ℕ) (v : EnumValue) → AreLow (suc n) (value_items v)
low_value n v = search pieces

low_enum : (n : ℕ) (e : EnumType) → AreLow (suc (suc n)) (enum_items e)
low_enum n e = search (pieces, low_value) depth 9

low_enums : (n : ℕ) (all : Declared) (ids : List EnumId) → AllByRecursion (AreLow (suc (suc n))) (enums_items all ids)
low_enums n all ids = found_low (suc (suc n)) enum_items (low_enum n) (λ (id : EnumId). slice_get all.enums id.index) ids

-- ---- fields

low_field : (n : ℕ) (all : Declared) (scope : List ℕ) (next : ℕ) (f : Field) → AreLow (suc n) (field_items all scope next f)
low_field n all scope next f = search pieces depth 9

low_fields : (n : ℕ) (all : Declared) (scope : List ℕ) (next : ℕ) (fs : List Field) → AllByRecursion (AreLow (suc n)) (fields_items all scope next fs)
low_fields n all scope next [] = tt
low_fields n all scope next (f ∷ fs) = (low_field n all scope next f, low_fields n all scope _ fs)

low_entry_field : (n : ℕ) (all : Declared) (name : List ℕ) (number : ℕ) (e : Element) → AreLow n (entry_field all name number e)
low_entry_field n all name number e = search pieces depth 9

low_entry : (n : ℕ) (all : Declared) (f : Field) → AllByRecursion (AreLow (suc n)) (entry_items all f)
low_entry n all f = of f.presence
  where
    of : (p : Presence) → AllByRecursion (AreLow (suc n)) (entry_items all (record f { presence = p }))
    of presences.Implicit = tt
    of presences.Explicit = tt
    of (presences.Repeated packed) = tt
    of (presences.Map key) = search (low_made, low_entry_field, low_flag)

low_entries : (n : ℕ) (all : Declared) (fs : List Field) → AllByRecursion (AreLow (suc n)) (entries all fs)
low_entries n all [] = tt
low_entries n all (f ∷ fs) = all_low (suc n) (entry_items all f) (entries all fs) (low_entry n all f) (low_entries n all fs)

-- ---- message types

low_type : (n : ℕ) (all : Declared) (nested : List Items) (t : MessageType) → AllByRecursion (AreLow (suc (suc n))) nested → AreLow (suc (suc (suc n))) (type_items all nested t)
low_type n all nested t low = search (pieces, low_fields, low_entries, low_enums) depth 12

abbrev AreTypesLow : (depth : ℕ) (n : ℕ) (all : Declared) → Type 0
AreTypesLow depth n all = (ids : List TypeId) → nest_within n all.types ids ≡ true → AllByRecursion (AreLow (suc (suc n))) (types_items depth all ids)

type_low : (depth : ℕ) (n : ℕ) (all : Declared) → AreTypesLow depth n all → (o : Option MessageType) → holds_inside (nest_within n all.types) o ≡ true
    → AllByRecursion (AreLow (suc (suc (suc n)))) (where_found (λ (t : MessageType). type_items all (types_items depth all t.nested_types.items) t) o)
type_low depth n all inner None h = tt
type_low depth n all inner (Some t) h = (low_type n all (types_items depth all t.nested_types.items) t (inner t.nested_types.items h), tt)

each_type : (depth : ℕ) (n : ℕ) (all : Declared) → AreTypesLow depth n all → (ids : List TypeId) → nest_within (suc n) all.types ids ≡ true → AllByRecursion (AreLow (suc (suc (suc n)))) (types_items (suc depth) all ids)
each_type depth n all inner [] h = tt
each_type depth n all inner (id ∷ ids) h =
    all_low (suc (suc (suc n))) (where_found (λ (t : MessageType). type_items all (types_items depth all t.nested_types.items) t) (slice_get all.types id.index)) (types_items (suc depth) all ids)
    (type_low depth n all inner (slice_get all.types id.index) (and_left (holds_inside (nest_within n all.types) (slice_get all.types id.index)) (nest_within (suc n) all.types ids) h))
    (each_type depth n all inner ids (and_right (holds_inside (nest_within n all.types) (slice_get all.types id.index)) (nest_within (suc n) all.types ids) h))

-- message types that are nested so deep, whatever depth is written
low_types : (depth : ℕ) (n : ℕ) (all : Declared) → AreTypesLow depth n all
low_types zero n all ids within = tt
low_types (suc depth) zero all [] within = tt
low_types (suc depth) zero all (id ∷ ids) within = absurd (false≢true within)
low_types (suc depth) (suc n) all ids within = each_type depth n all (low_types depth n all) ids within

-- ---- services

low_method : (n : ℕ) (all : Declared) (d : Method) → AreLow (suc n) (method_items all d)
low_method n all d = search pieces depth 9

low_service : (n : ℕ) (all : Declared) (s : Service) → AreLow (suc (suc n)) (service_items all s)
low_service n all s = search (pieces, low_method) depth 9

low_services : (n : ℕ) (all : Declared) (ids : List ServiceId) → AllByRecursion (AreLow (suc (suc n))) (services_items all ids)
low_services n all ids = found_low (suc (suc n)) (service_items all) (low_service n all) (λ (id : ServiceId). slice_get all.services id.index) ids

-- ---- files

low_option : (n k : ℕ) (v : OptionValue) → AreLow n (option_items k v)
low_option n k (values.Flag b) = low_flag n k b
low_option n k (values.Mode mode) = (tt, tt)
low_option n k (values.Text t) = (tt, tt)

low_file_options : (n : ℕ) (os : List FileOption) → AreLow n (file_options os)
low_file_options n [] = tt
low_file_options n (o ∷ os) = both_low n (option_items o.number o.value) (file_options os) (low_option n o.number o.value) (low_file_options n os)

low_file : (n : ℕ) (all : Declared) (f : File) → nest_within n all.types f.types.items ≡ true → AreLow (suc (suc (suc n))) (file_items all f)
low_file n all f within = search (pieces, low_types, low_enums, low_services, low_file_options) depth 12

low_files : (n : ℕ) (all : Declared) (fs : List File) → list_all (λ (f : File). nest_within n all.types f.types.items) fs ≡ true → AllByRecursion (AreLow (suc (suc (suc n)))) (map (file_items all) fs)
low_files n all [] within = tt
low_files n all (f ∷ fs) within =
    (low_file n all f (and_left (nest_within n all.types f.types.items) (list_all (λ (g : File). nest_within n all.types g.types.items) fs) within), low_files n all fs (and_right (nest_within n all.types f.types.items) (list_all (λ (g : File). nest_within n all.types g.types.items) fs) within))

-- a set has at most five levels more than its message types
pub set_levels : (n : ℕ) (parts : Parts) → list_all (λ (f : File). nest_within n parts.types.items f.types.items) parts.files.items ≡ true → levels (set_message parts) ≤ 5 + n
set_levels n parts within =
    let low = low_made (suc (suc (suc (suc n)))) (children 1 (map (file_items (declared_in parts)) parts.files.items))
    (low_children (suc (suc (suc n))) 1 (map (file_items (declared_in parts)) parts.files.items) (low_files n (declared_in parts) parts.files.items within)) in
    omega (arith, low)
