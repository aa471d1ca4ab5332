-- The parts of a schema keep to the rules.
use Rattle.std.proofs.Common.{◌≡◌, ◌∙◌, ℕ, ℤ, ◌+◌, ◌^◌, Bool, true, false, cond, not, ◌&&◌, ◌||◌, nat_lt, nat_le, nat_eq, List, [], ◌∷◌, length, map, Option, is_some, string_bytes, sym, ap, refl, arith, rules}
use Rattle.std.specs.List.{list_all, AllByRecursion}
use Rattle.std.proofs.lemmas.Bool.{false≢true}
use Rattle.std.proofs.lemmas.Bool.Decides.{nat_tests}
use Rattle.std.proofs.lemmas.List.Folds.{list_all-map}
use Rattle.pg_schema.specs.declared.parts.enum_type.EnumType.{EnumType}
use Rattle.pg_schema.specs.declared.parts.enum_type.EnumValue.{EnumValue}
use Rattle.pg_schema.specs.declared.parts.enum_type.ReservedValues.{ReservedValues}
use Rattle.pg_schema.specs.declared.parts.field.Element.{Element}
use Rattle.pg_schema.specs.declared.parts.field.Field.{Field}
use Rattle.pg_schema.specs.declared.parts.field.Presence.{Presence}
use Rattle.pg_schema.specs.declared.parts.file.File.{File}
use Rattle.pg_schema.specs.declared.parts.message_type.MessageType.{MessageType}
use Rattle.pg_schema.specs.declared.parts.message_type.ReservedFields.{ReservedFields}
use Rattle.pg_schema.specs.declared.parts.Parts.{Parts}
use Rattle.pg_schema.specs.rules.Enums as schema_enums
use Rattle.pg_schema.specs.rules.Fields as schema_fields
use Rattle.pg_schema.specs.rules.Files.{is_file}
use Rattle.pg_schema.specs.rules.Messages as schema
use Rattle.pg_schema.specs.rules.Pairs.{all_pairs, differ}
use Rattle.pg_schema.specs.rules.Sound.{IsSound}
use Rattle.pg_schema.specs.rules.TextSets.{are_named_once}
use Rattle.pg_schema.specs.rules.Uses.{are_aliases, are_apart as uses_apart, field_use, from_lowest, is_reserved_range, is_used_once, is_value_range, message_uses, enum_uses, reserved_use, reserved_values_use, value_use}
use Rattle.pg_schema.specs.Shape.{is_packable, is_repeated, is_singular}
use Rattle.pg_schema.proofs.lemmas.rules.PairLemmas.{and_left, and_right, and_both, bytes_eq-sym}
use Rattle.pg_check.specs.admitting.DeclaredParts as declared
use Rattle.pg_check.specs.admitting.KeepsParts as keeps
use Rattle.pg_check.specs.admitting.KeepsParts.{KeepsAll, KeepsEnumType, KeepsFilePart, KeepsType}
use Rattle.pg_check.specs.admitting.SoundParts.{HasInt32s, HaveInt32s, is_int32, range_is_int32, value_is_int32}
use Rattle.pg_check.specs.rules.KeepsRules.{begins_with_zero, has_field_number, has_some, is_free_name, lies_within, rises}
use Rattle.pg_check.specs.rules.Names as names
use Rattle.pg_check.specs.rules.Numbers as numbers
use Rattle.pg_check.proofs.lemmas.admitting.SoundUses.{all_free, items_apart, keys_apart, or_left, pairs_split}
use Rattle.pg_check.proofs.lemmas.parts.kept.KeptEnums.{free_of_each_other}
use Rattle.pg_check.proofs.lemmas.parts.Moved.{all_weaker, pairs_of_map, pairs_weaker}

-- ---- lists

-- a test of each item is one of what is made of each
moved : {A B : Type 0} (test : A → Bool) (wanted : B → Bool) (f : A → B) → ((a : A) → test a ≡ true → wanted (f a) ≡ true) → (xs : List A) → list_all test xs ≡ true → list_all wanted (map f xs) ≡ true
moved test wanted f k xs h = list_all-map wanted f xs ∙ all_weaker test (λ a. wanted (f a)) k xs h

moved_pairs : {A B : Type 0} (test : A → A → Bool) (wanted : B → B → Bool) (f : A → B) → ((a b : A) → test a b ≡ true → wanted (f a) (f b) ≡ true) → (xs : List A)
    → all_pairs test xs ≡ true → all_pairs wanted (map f xs) ≡ true
moved_pairs test wanted f k xs h = pairs_of_map wanted f xs ∙ pairs_weaker test (λ a b. wanted (f a) (f b)) k xs h

-- names of which none is reserved
free_names : {A : Type 0} (name : A → List ℕ) (named : A → names.Named) → ((a : A) → (named a).text ≡ name a) → (xs : List A) (reserved : List (List ℕ)) → are_named_once (map name xs) reserved ≡ true
    → list_all (is_free_name reserved) (map named xs) ≡ true
free_names name named same xs reserved h = search (rules, moved, list_all-map, free_of_each_other, and_right)

-- ---- numbers

field_number_fits : (n r : ℕ) → n + 2 ^ 64 ≡ r → schema_fields.is_field_number n ≡ true → numbers.is_field_number r ≡ true
field_number_fits n r e h = grind (arith, nat_tests)

ranked : (n : ℕ) → n + 2 ^ 64 ≡ numbers.rank false n
ranked n = omega arith

range_lies : (s t a b : ℕ) → s + 2 ^ 64 ≡ a → t + 2 ^ 64 ≡ b → (nat_le 1 s && nat_le s t && nat_lt t (2 ^ 29)) ≡ true
    → (numbers.is_within numbers.lowest_field numbers.highest_field a && numbers.is_within numbers.lowest_field numbers.highest_field b) ≡ true
range_lies s t a b e f h = grind (arith, nat_tests)

range_rises : (s t a b : ℕ) → s + 2 ^ 64 ≡ a → t + 2 ^ 64 ≡ b → (nat_le 1 s && nat_le s t && nat_lt t (2 ^ 29)) ≡ true → not (nat_lt b a) ≡ true
range_rises s t a b e f h = grind (arith, nat_tests)

-- ---- fields

key_kept : (p : Presence) (e : Element) (member stated : Bool) → schema_fields.has_presence p e member stated ≡ true → keeps.has_key p ≡ true
key_kept p e member stated h = grind (arith, and_right)

member_kept : (p : Presence) (e : Element) (member stated : Bool) → schema_fields.has_presence p e member stated ≡ true → (not member || (is_singular p && not stated)) ≡ true
member_kept p e member stated h = grind (arith, false≢true, and_right)

none_packed : (s c : Bool) → not s ≡ true → (not (false || s) || c) ≡ true
none_packed s c h = grind (arith, false≢true)

list_packed : (packed packable : Bool) (stated : Option Bool)
    → ((cond packed (schema_fields.stated_or stated packable) (not (schema_fields.stated_or stated packable))) && (not packed || packable)) ≡ true
    → (not (packed || schema_fields.stated_or stated false) || packable) ≡ true
list_packed packed packable stated h = grind (arith, and_right, false≢true)

packed_kept : (p : Presence) (e : Element) (stated : Option Bool) → schema_fields.is_packed p e stated ≡ true
    → (not (keeps.is_packed p || schema_fields.stated_or stated false) || (is_repeated p && is_packable e)) ≡ true
packed_kept p e stated h = grind (arith, none_packed, list_packed)

-- ---- message types

abbrev holds : {A : Type 0} → A → Bool
holds a = true

all_hold : {A : Type 0} (xs : List A) → list_all holds xs ≡ true
all_hold [] = refl
all_hold (x ∷ xs) = all_hold xs

module _ (oneofs types enums : ℕ) (f : Field) (h : schema.is_field oneofs types enums f ≡ true) where
  pub number_is : schema_fields.is_field_number f.number ≡ true
  number_is = search (rules, and_left)

  pub presence_is : schema_fields.has_presence f.presence f.element (is_some f.oneof) f.states_optional ≡ true
  presence_is = search (rules, and_left, and_right)

  pub packed_is : schema_fields.is_packed f.presence f.element f.options.packed ≡ true
  packed_is = search (rules, and_left, and_right)

of_field : (f : Field) → holds f ≡ true → f.number + 2 ^ 64 ≡ (declared.key_of f).key
of_field f h = ranked f.number

of_range : (r : ReservedFields) → holds r ≡ true → (r.first + 2 ^ 64 ≡ (declared.item_of r).first) × (r.last + 2 ^ 64 ≡ (declared.item_of r).last)
of_range r h = (ranked r.first, ranked r.last)

differ_again : (a b : List ℕ) → differ a b ≡ true → differ b a ≡ true
differ_again a b h = ap not (bytes_eq-sym b a) ∙ h

type_keeps : (types enums : ℕ) (t : MessageType) → schema.is_message_type types enums t ≡ true → KeepsType t
type_keeps types enums t h =
    let fs = t.fields.items in
    let rs = t.reserved_numbers.items in
    let with_reserved = and_left _ _ h in
    let with_oneofs = and_left _ _ with_reserved in
    let of_fields : schema.has_fields types enums t ≡ true = and_left _ _ with_oneofs in
    let of_oneofs : schema.has_oneofs t ≡ true = and_right (schema.has_fields types enums t) _ with_oneofs in
    let of_reserved : schema.has_reserved t ≡ true = and_right _ _ with_reserved in
    let each : list_all (schema.is_field (length t.oneofs.items) types enums) fs ≡ true = and_left _ _ (and_left _ _ of_fields) in
    let ranges : list_all is_reserved_range rs ≡ true = and_left _ _ (and_left _ _ of_reserved) in
    let once : is_used_once false (message_uses fs rs) ≡ true = and_right _ _ (and_left _ _ of_reserved) in
    let split = pairs_split _ (map field_use fs) (map reserved_use rs) once in
    let is_field = schema.is_field (length t.oneofs.items) types enums in
    record {
      fields = record {
        numbers_fit = moved is_field has_field_number declared.key_of (λ f k. field_number_fits f.number _ (ranked f.number) (number_is _ types enums f k)) fs each;
        numbers_once = keys_apart (2 ^ 64) (λ a b. uses_apart a b || are_aliases false a b) field_use reserved_use declared.key_of declared.item_of (λ (f : Field). f.number) (λ (r : ReservedFields). r.first) (λ (r : ReservedFields). r.last) holds holds of_field of_range (λ f g k. or_left (uses_apart (field_use f) (field_use g)) _ refl k) fs (all_hold fs) split.0;
        numbers_free = all_free (2 ^ 64) (λ a b. uses_apart a b || are_aliases false a b) field_use reserved_use declared.key_of declared.item_of (λ (f : Field). f.number) (λ (r : ReservedFields). r.first) (λ (r : ReservedFields). r.last) holds holds of_field of_range (λ f r k. or_left (uses_apart (field_use f) (reserved_use r)) _ refl k) fs rs (all_hold fs) (all_hold rs) split.1.1;
        names_free = free_names (λ (f : Field). string_bytes f.name) declared.name_of (λ f. refl) fs (map string_bytes t.reserved_names.items) (and_right _ _ of_reserved);
        reserved = record {
          within = moved is_reserved_range (lies_within numbers.lowest_field numbers.highest_field) declared.item_of (λ r k. range_lies r.first r.last _ _ (ranked r.first) (ranked r.last) k) rs ranges;
          rising = moved is_reserved_range rises declared.item_of (λ r k. range_rises r.first r.last _ _ (ranked r.first) (ranked r.last) k) rs ranges;
          apart = items_apart (2 ^ 64) (λ a b. uses_apart a b || are_aliases false a b) field_use reserved_use declared.key_of declared.item_of (λ (f : Field). f.number) (λ (r : ReservedFields). r.first) (λ (r : ReservedFields). r.last) holds holds of_field of_range (λ q r k. or_left (uses_apart (reserved_use q) (reserved_use r)) _ refl k) rs (all_hold rs) split.1.0;
        };
        json_names_once = moved_pairs (λ (f g : Field). differ (string_bytes f.json_name) (string_bytes g.json_name)) (λ a b. not (names.is_same b a)) declared.json_name_of
            (λ f g k. differ_again (string_bytes f.json_name) (string_bytes g.json_name) k) fs
            (sym (pairs_of_map differ (λ (f : Field). string_bytes f.json_name) fs) ∙ and_right _ _ h);
      };
      map_keys = all_weaker is_field keeps.field_has_key (λ f k. key_kept f.presence f.element (is_some f.oneof) f.states_optional (presence_is _ types enums f k)) fs each;
      oneof_members = all_weaker is_field keeps.may_be_member (λ f k. member_kept f.presence f.element (is_some f.oneof) f.states_optional (presence_is _ types enums f k)) fs each;
      oneofs = and_right _ _ of_oneofs;
      packed = all_weaker is_field keeps.is_packed_rightly (λ f k. packed_kept f.presence f.element f.options.packed (packed_is _ types enums f k)) fs each;
    }

-- ---- enums

-- counted from the lowest, and from -2^64
int32_ranked : (n : ℤ) → is_int32 n ≡ true → from_lowest n + numbers.lowest_value ≡ declared.value_rank n
int32_ranked n h = grind (arith, nat_tests)

of_value : (v : EnumValue) → value_is_int32 v ≡ true → from_lowest v.number + numbers.lowest_value ≡ (declared.value_key v).key
of_value v h = int32_ranked v.number h

of_values : (r : ReservedValues) → range_is_int32 r ≡ true
    → (from_lowest r.first + numbers.lowest_value ≡ (declared.value_item r).first) × (from_lowest r.last + numbers.lowest_value ≡ (declared.value_item r).last)
of_values r h = (int32_ranked r.first (and_left _ _ h), int32_ranked r.last (and_right (is_int32 r.first) _ h))

no_alias : (al a : Bool) → (al && a && false) ≡ false
no_alias al a = grind arith

denied : (al : Bool) → al ≡ false → (al && true && true) ≡ false
denied al off = ap (λ b. b && true && true) off

rises_on : (s t a b base : ℕ) → s + base ≡ a → t + base ≡ b → nat_le s t ≡ true → not (nat_lt b a) ≡ true
rises_on s t a b base e f h = grind (arith, nat_tests)

ranges_rise : (rs : List ReservedValues) → list_all range_is_int32 rs ≡ true → list_all is_value_range rs ≡ true → list_all rises (map declared.value_item rs) ≡ true
ranges_rise [] fit h = refl
ranges_rise (r ∷ rs) fit h = search (rules, and_left, and_both, rises_on, int32_ranked, and_right, ranges_rise rs (and_right (range_is_int32 r) _ fit) (and_right (is_value_range r) _ h))

zero_key : (n r : ℕ) → n + 2 ^ 64 ≡ r → nat_eq n 0 ≡ true → nat_eq r (numbers.rank false 0) ≡ true
zero_key n r e h = grind (arith, nat_tests)

zero_ranked : (n : ℤ) → schema_enums.is_zero n ≡ true → nat_eq (declared.value_rank n) (numbers.rank false 0) ≡ true
zero_ranked n h = grind (arith, zero_key, ranked, false≢true)

zero_first : (vs : List EnumValue) → schema_enums.begins_with_zero vs ≡ true → (has_some (map declared.value_key vs) ≡ true) × (begins_with_zero (map declared.value_key vs) ≡ true)
zero_first vs h = grind (arith, false≢true, zero_ranked)

with_aliases : (al : Bool) (c : Bool) → (al ≡ false → c ≡ true) → (al || c) ≡ true
with_aliases al c k = grind arith

enum_keeps : (e : EnumType) → HasInt32s e → schema_enums.is_enum e ≡ true → KeepsEnumType e
enum_keeps e fit h =
    let vs = e.values.items in
    let rs = e.reserved_numbers.items in
    let al = schema_fields.stated_or e.options.allow_alias false in
    let with_names = and_left _ _ h in
    let with_ranges = and_left _ _ with_names in
    let ranges : list_all is_value_range rs ≡ true = and_right _ _ with_ranges in
    let zeroth : schema_enums.begins_with_zero vs ≡ true = and_left _ _ (and_left _ _ with_ranges) in
    let once : is_used_once al (enum_uses vs rs) ≡ true = and_right _ _ h in
    let split = pairs_split _ (map value_use vs) (map reserved_values_use rs) once in
    record {
      has_values = (zero_first vs zeroth).0;
      first_value = (zero_first vs zeroth).1;
      numbers_fit = moved value_is_int32 _ declared.value_key (λ v k. k) vs fit.values;
      numbers_free = all_free numbers.lowest_value (λ a b. uses_apart a b || are_aliases al a b) value_use reserved_values_use declared.value_key declared.value_item (λ (v : EnumValue). from_lowest v.number) (λ (r : ReservedValues). from_lowest r.first) (λ (r : ReservedValues). from_lowest r.last) value_is_int32 range_is_int32 of_value of_values (λ v r k. or_left (uses_apart (value_use v) (reserved_values_use r)) _ (no_alias al true) k) vs rs fit.values fit.reserved split.1.1;
      names_free = free_names (λ (v : EnumValue). string_bytes v.name) declared.value_name (λ v. refl) vs (map string_bytes e.reserved_names.items) (and_right _ _ with_names);
      reserved = record {
        within = moved range_is_int32 (lies_within numbers.lowest_value numbers.highest_value) declared.value_item (λ r k. k) rs fit.reserved;
        rising = ranges_rise rs fit.reserved ranges;
        apart = items_apart numbers.lowest_value (λ a b. uses_apart a b || are_aliases al a b) value_use reserved_values_use declared.value_key declared.value_item (λ (v : EnumValue). from_lowest v.number) (λ (r : ReservedValues). from_lowest r.first) (λ (r : ReservedValues). from_lowest r.last) value_is_int32 range_is_int32 of_value of_values (λ q r k. or_left (uses_apart (reserved_values_use q) (reserved_values_use r)) _ (no_alias al false) k) rs fit.reserved split.1.0;
      };
      aliases = with_aliases al _ (λ off. keys_apart numbers.lowest_value (λ a b. uses_apart a b || are_aliases al a b) value_use reserved_values_use declared.value_key declared.value_item (λ (v : EnumValue). from_lowest v.number) (λ (r : ReservedValues). from_lowest r.first) (λ (r : ReservedValues). from_lowest r.last) value_is_int32 range_is_int32 of_value of_values (λ v w k. or_left (uses_apart (value_use v) (value_use w)) _ (denied al off) k) vs fit.values split.0);
    }

-- ---- files

below_other : (m n : ℕ) → nat_lt m n ≡ true → not (nat_eq n m) ≡ true
below_other m n h = grind (arith, nat_tests)

file_keeps : (f : File) → is_file f ≡ true → KeepsFilePart f
file_keeps f h = search (rules, and_right, and_left, moved_pairs, nat_lt, below_other, pairs_of_map)

-- ---- all parts

each_keeps : {A : Type 0} (P : A → Type 0) (test : A → Bool) → ((a : A) → test a ≡ true → P a) → (xs : List A) → list_all test xs ≡ true → AllByRecursion P xs
each_keeps P test k [] h = tt
each_keeps P test k (x ∷ xs) h = (k x (and_left _ _ h), each_keeps P test k xs (and_right (test x) _ h))

enums_keep : (es : List EnumType) → AllByRecursion HasInt32s es → list_all schema_enums.is_enum es ≡ true → AllByRecursion KeepsEnumType es
enums_keep [] fit h = tt
enums_keep (e ∷ es) fit h = (enum_keeps e fit.0 (and_left _ _ h), enums_keep es fit.1 (and_right (schema_enums.is_enum e) _ h))

pub sound_keep : (parts : Parts) → IsSound parts → HaveInt32s parts → KeepsAll parts
sound_keep parts sound fit = search (rules, each_keeps, type_keeps, enums_keep, file_keeps)
