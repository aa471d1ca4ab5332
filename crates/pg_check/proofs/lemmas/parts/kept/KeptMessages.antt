-- Message types of files that keep to the rules.
use Rattle.std.proofs.Common.{◌≡◌, ◌∙◌, ℕ, ◌+◌, ◌^◌, ◌<◌, ◌≤◌, Bool, true, false, not, ◌&&◌, ◌||◌, nat_lt, nat_le, nat_eq, List, [], ◌∷◌, length, map, Option, string_bytes, arith, sym, ap, refl, rules}
use Rattle.std.specs.List.{list_all, list_any}
use Rattle.std.specs.List.Sorted.{IsPermutation}
use Rattle.std.proofs.lemmas.Bool.Decides.{nat_tests}
use Rattle.std.proofs.lemmas.List.{length-map}
use Rattle.std.proofs.lemmas.List.Folds.{list_all-map}
use Rattle.std.proofs.lemmas.List.Sorted.{IsPermutation-map, length_permutation}
use Rattle.std.proofs.lemmas.Simd.{map-map}
use Rattle.pg_schema.specs.declared.parts.field.EnumId.{EnumId}
use Rattle.pg_schema.specs.declared.parts.field.Field.{Field}
use Rattle.pg_schema.specs.declared.parts.field.TypeId.{TypeId}
use Rattle.pg_schema.specs.declared.parts.message_type.MessageType.{MessageType}
use Rattle.pg_schema.specs.declared.parts.message_type.ReservedFields.{ReservedFields}
use Rattle.pg_schema.specs.rules.Messages as rules
use Rattle.pg_schema.specs.rules.Pairs.{all_pairs, are_distinct, differ, is_rising}
use Rattle.pg_schema.specs.rules.TextSets.{is_among}
use Rattle.pg_schema.specs.rules.Uses.{are_aliases, are_apart as uses_apart, field_use, is_reserved_range, is_used_once, message_uses, reserved_use}
use Rattle.pg_link.specs.declared.uses.target.Target.{Target}
use Rattle.pg_schema.proofs.lemmas.rules.PairLemmas.{and_left, and_right, and_both, bytes_eq-sym}
use Rattle.pg_check.specs.declared.rules.numbers.Keyed.{Keyed}
use Rattle.pg_check.specs.declared.rules.numbers.Numbers.{Numbers}
use Rattle.pg_check.specs.rules.KeepsRules.{MessageKeeps, has_field_number, lies_within, rises}
use Rattle.pg_check.proofs.lemmas.parts.kept.KeptParts.{KeptMessage, is_kept_field}
use Rattle.pg_check.specs.parts.MadeFields.{MadeField, field, made_field, made_number}
use Rattle.pg_check.specs.parts.MadeMessages.{AreFields, IsMessage, made_fields, oneofs}
use Rattle.pg_check.specs.parts.MadeNumbers.{field_number, field_range}
use Rattle.pg_check.specs.rules.Members.{DeclaredField, json_name, key_of, members, named}
use Rattle.pg_check.specs.rules.Messages as messages
use Rattle.pg_check.specs.rules.Names as names
use Rattle.pg_check.specs.rules.Numbers.{highest_field, is_within, lowest_field}
use Rattle.pg_check.proofs.lemmas.parts.kept.KeptEnums.{free_of_each_other}
use Rattle.pg_check.proofs.lemmas.parts.kept.KeptFields.{all_in_oneofs, field_counts, fields_kept, is_kept, oneof_count}
use Rattle.pg_check.proofs.lemmas.parts.Moved.{IsSymmetric, all_moved, all_weaker, pairs_moved, pairs_of_map, pairs_weaker}
use Rattle.pg_check.proofs.lemmas.parts.kept.KeptOneofs.{fewer_oneofs, oneofs_have_members, rising_short}
use Rattle.pg_check.proofs.lemmas.parts.Rising.{rising_from, two_symmetric}
use Rattle.pg_check.proofs.lemmas.parts.UsesApart.{all_uses, is_outside, items_apart, keys_apart, keys_free, or_first, ranges_apart, two_apart}
use Rattle.pg_syntax.specs.declared.tree.Part.{Part}
use Rattle.pg_syntax.specs.declared.tree.Part.TheVariants as parts

-- ---- what holds of all fields as they are declared

-- a test of fields as they are made, of the fields as they are sorted
moved_test : (test : MadeField → Bool) (made : List MadeField) (fields : List Field) → IsPermutation made (map field fields) → list_all test made ≡ true → list_all (λ f. test (field f)) fields ≡ true
moved_test test made fields moved h = sym (list_all-map test field fields) ∙ all_moved test made (map field fields) moved h

moved_pairs : {B : Type 0} (of : MadeField → B) (test : B → B → Bool) → IsSymmetric test → (made : List MadeField) (fields : List Field) → IsPermutation made (map field fields)
    → all_pairs test (map of made) ≡ true → all_pairs test (map (λ f. of (field f)) fields) ≡ true
moved_pairs of test same made fields moved h =
    ap (all_pairs test) (sym (map-map of field fields)) ∙ pairs_moved test same (map of made) (map of (map field fields)) (IsPermutation-map of made (map field fields) moved) h

in_bounds : (ks : List Keyed) → list_all has_field_number ks ≡ true → list_all (λ (k : Keyed). is_within lowest_field highest_field k.key) ks ≡ true
in_bounds ks h = all_weaker has_field_number (λ (k : Keyed). is_within lowest_field highest_field k.key) (λ k e. and_left _ _ e) ks h

-- ---- numbers in order

not_zero : (targets : ℕ) (f : Field) → is_kept_field targets f ≡ true → nat_lt 0 f.number ≡ true
not_zero n f h = grind (arith, nat_tests)

in_range : (n : ℕ) (f : Field) → is_kept_field n f ≡ true → nat_lt f.number (2 ^ 29) ≡ true
in_range n f h = grind (arith, nat_tests)

-- ---- numbers in order of declaration

same_number : (n : ℕ) → nat_eq n n ≡ true
same_number n = grind (arith, nat_tests)

or_later : (a b : Bool) → b ≡ true → (a || b) ≡ true
or_later a b h = grind arith

all_there : (ns : List ℕ) → list_all (λ n. list_any (nat_eq n) ns) ns ≡ true
all_there [] = refl
all_there (n ∷ ns) = search (rules, and_both, or_first, same_number, all_weaker, or_later, all_there ns)

-- ---- reserved items

range_fits : (a b s t : ℕ) → s + 2 ^ 64 ≡ a → t + 2 ^ 64 ≡ b → is_within lowest_field highest_field a ≡ true → is_within lowest_field highest_field b ≡ true → not (nat_lt b a) ≡ true
    → (nat_le 1 s && nat_le s t && nat_lt t (2 ^ 29)) ≡ true
range_fits a b s t e f g h k = grind (arith, nat_tests)

field_ranges : (items : List Numbers) → list_all (lies_within lowest_field highest_field) items ≡ true → list_all rises items ≡ true → list_all is_reserved_range (map field_range items) ≡ true
field_ranges [] ws us = refl
field_ranges (r ∷ rs) ws us = search (rules, and_left, and_right, and_both, range_fits, field_counts, field_ranges rs (and_right (lies_within lowest_field highest_field r) _ ws) (and_right (rises r) _ us))

abbrev span_of : ReservedFields → ℕ × ℕ
span_of r = (r.first, r.last)

abbrev number_of_field : Field → ℕ
number_of_field f = f.number

message_once : (fs : List Field) (rs : List ReservedFields) → all_pairs two_apart (map number_of_field fs) ≡ true → all_pairs ranges_apart (map span_of rs) ≡ true
    → list_all (λ f. list_all (is_outside (number_of_field f)) (map span_of rs)) fs ≡ true → is_used_once false (message_uses fs rs) ≡ true
message_once fs rs h k m =
    all_uses (λ a b. uses_apart a b || are_aliases false a b) field_use reserved_use number_of_field span_of (λ p q l. or_first (uses_apart (reserved_use p) (reserved_use q)) _ l)
    (λ f p l. or_first (uses_apart (field_use f) (reserved_use p)) _ l) fs rs
    (pairs_weaker (λ f g. two_apart f.number g.number) (λ f g. uses_apart (field_use f) (field_use g) || are_aliases false (field_use f) (field_use g))
    (λ f g l. or_first (uses_apart (field_use f) (field_use g)) _ l) fs (sym (pairs_of_map two_apart number_of_field fs) ∙ h)) k
    (list_all-map (λ n. list_all (is_outside n) (map span_of rs)) number_of_field fs ∙ m)

-- ---- JSON names

differ_symmetric : IsSymmetric differ
differ_symmetric a b h = ap not (bytes_eq-sym b a) ∙ h

-- ---- the message

-- without the oneofs, which the count of them says
module _ (targets : ℕ → Option Target) (body : List Part) (t : MessageType) (fields : AreFields (made_fields targets body) t.fields.items) (keep : MessageKeeps targets body) where
  abbrev ms : List DeclaredField
  ms = members body

  abbrev list : List MadeField
  list = made_fields targets body

  abbrev keys : List Keyed
  keys = map key_of ms

  pub kept_fields : (n : ℕ) → oneof_count body ≤ n → list_all (is_kept_field n) t.fields.items ≡ true
  kept_fields n le =
      moved_test (is_kept n) list t.fields.items fields.same
      (fields_kept targets n ms keep.fields.numbers_fit keep.map_keys keep.oneof_members keep.packed (all_in_oneofs 0 n body (omega (arith, le))))

  abbrev number : MadeField → ℕ
  number f = f.number

  numbers_are : map number list ≡ map (λ (k : Keyed). field_number k.key) keys
  numbers_are = map-map number (made_field targets) ms ∙ sym (map-map (λ (k : Keyed). field_number k.key) key_of ms)

  pub numbers_apart : all_pairs two_apart (map number_of_field t.fields.items) ≡ true
  numbers_apart =
      moved_pairs number two_apart two_symmetric list t.fields.items fields.same
      (ap (all_pairs two_apart) numbers_are ∙ keys_apart lowest_field highest_field (2 ^ 64) field_number field_counts keys (in_bounds keys keep.fields.numbers_fit) keep.fields.numbers_once)

  pub in_order : list_all (is_kept_field (oneof_count body)) t.fields.items ≡ true → is_rising (0 ∷ rules.numbers t.fields.items) ≡ true
  in_order all = search (rules, and_both, nat_lt, list_all-map, all_weaker, is_kept_field, oneof_count, not_zero, rising_from, numbers_apart)

  pub declared_there : list_all (λ (f : Field). list_any (nat_eq f.number) (map made_number ms)) t.fields.items ≡ true
  declared_there =
      moved_test (λ f. list_any (nat_eq f.number) (map made_number ms)) list t.fields.items fields.same
      (list_all-map (λ f. list_any (nat_eq f.number) (map made_number ms)) (made_field targets) ms
      ∙ (sym (list_all-map (λ n. list_any (nat_eq n) (map made_number ms)) made_number ms) ∙ all_there (map made_number ms)))

  as_many : length (map made_number ms) ≡ length t.fields.items
  as_many = search (rules, length-map, length_permutation)

  pub is_declared_so : rules.is_declared (map made_number ms) t.fields.items ≡ true
  is_declared_so = search (rules, and_both, as_many, same_number, declared_there)

  pub spans : (rs : List ReservedFields) → rs ≡ map field_range (messages.items body) → map span_of rs ≡ map (λ (r : Numbers). (field_number r.first, field_number r.last)) (messages.items body)
  spans rs is = ap (map span_of) is ∙ map-map span_of field_range (messages.items body)

  pub used_once : (rs : List ReservedFields) → rs ≡ map field_range (messages.items body) → is_used_once false (message_uses t.fields.items rs) ≡ true
  used_once rs is =
      let ps = map (λ (r : Numbers). (field_number r.first, field_number r.last)) (messages.items body) in
      let bounds = in_bounds keys keep.fields.numbers_fit in
      let free : list_all (λ n. list_all (is_outside n) ps) (map number list) ≡ true =
      ap (list_all (λ n. list_all (is_outside n) ps)) numbers_are
      ∙ keys_free lowest_field highest_field (2 ^ 64) field_number field_counts keys (messages.items body) bounds keep.fields.reserved.within keep.fields.reserved.rising keep.fields.numbers_free in
      let free_fields : list_all (λ f. list_all (is_outside (number_of_field f)) ps) t.fields.items ≡ true =
      moved_test (λ f. list_all (is_outside f.number) ps) list t.fields.items fields.same (sym (list_all-map (λ n. list_all (is_outside n) ps) number list) ∙ free) in
      message_once t.fields.items rs numbers_apart
      (ap (all_pairs ranges_apart) (spans rs is) ∙ items_apart lowest_field highest_field (2 ^ 64) field_number field_counts (messages.items body) keep.fields.reserved.within keep.fields.reserved.rising keep.fields.reserved.apart)
      (ap (λ qs. list_all (λ f. list_all (is_outside (number_of_field f)) qs) t.fields.items) (spans rs is) ∙ free_fields)

  pub names_free : (taken : List (List ℕ)) → taken ≡ messages.reserved_names body → list_all (λ name. not (is_among (rules.field_names t.fields.items) name)) taken ≡ true
  names_free taken is =
      free_of_each_other (rules.field_names t.fields.items) taken
      (list_all-map (λ n. not (is_among taken n)) (λ (f : Field). string_bytes f.name) t.fields.items
      ∙ moved_test (λ f. not (is_among taken f.name)) list t.fields.items fields.same
      (list_all-map (λ f. not (is_among taken f.name)) (made_field targets) ms
      ∙ (sym (list_all-map (λ (n : names.Named). not (is_among taken n.text)) named ms)
      ∙ (ap (λ ns. list_all (λ (n : names.Named). not (is_among ns n.text)) (map named ms)) is ∙ keep.fields.names_free))))

  pub oneofs_kept : list_all (is_kept_field (oneof_count body)) t.fields.items ≡ true → rules.have_members (oneof_count body) t.fields.items ≡ true
  oneofs_kept all =
      let bounds : list_all (λ n. nat_lt n (2 ^ 29)) (rules.numbers t.fields.items) ≡ true =
      list_all-map (λ n. nat_lt n (2 ^ 29)) number_of_field t.fields.items ∙ all_weaker (is_kept_field (oneof_count body)) (λ f. nat_lt f.number (2 ^ 29)) (λ f h. in_range (oneof_count body) f h) t.fields.items all in
      let short : 0 + length (rules.numbers t.fields.items) < 2 ^ 29 = rising_short (2 ^ 29) 0 (rules.numbers t.fields.items) (in_order all) bounds (omega arith) in
      let fields_are : length (rules.numbers t.fields.items) ≡ length t.fields.items = length-map t.fields.items number_of_field in
      let declared_are : length (map made_number ms) ≡ length t.fields.items = as_many in
      let members_are : length (map made_number ms) ≡ length ms = length-map ms made_number in
      let fewer : oneof_count body ≤ length ms = fewer_oneofs 0 body keep.oneofs in
      oneofs_have_members targets body t.fields.items fields.same keep.oneofs (omega (arith, short, fields_are, declared_are, members_are, fewer))

  json_apart : all_pairs differ (map (λ (f : MadeField). f.json_name) list) ≡ true
  json_apart = search (rules, map-map, pairs_of_map, pairs_weaker, differ_symmetric)

  pub json_names_once : are_distinct (rules.json_names t.fields.items) ≡ true
  json_names_once = moved_pairs (λ (f : MadeField). f.json_name) differ differ_symmetric list t.fields.items fields.same json_apart

-- as many oneofs as are counted
oneofs_counted : (body : List Part) → length (oneofs body) ≡ oneof_count body
oneofs_counted [] = refl
oneofs_counted (parts.Empty span ∷ ps) = let others : length (oneofs ps) ≡ oneof_count ps = oneofs_counted ps in omega (arith, others)
oneofs_counted (parts.Message' name shape row span ∷ ps) = let others : length (oneofs ps) ≡ oneof_count ps = oneofs_counted ps in omega (arith, others)
oneofs_counted (parts.Enum e ∷ ps) = let others : length (oneofs ps) ≡ oneof_count ps = oneofs_counted ps in omega (arith, others)
oneofs_counted (parts.Oneof o ∷ ps) = let others : length (oneofs ps) ≡ oneof_count ps = oneofs_counted ps in omega (arith, others)
oneofs_counted (parts.Option o ∷ ps) = let others : length (oneofs ps) ≡ oneof_count ps = oneofs_counted ps in omega (arith, others)
oneofs_counted (parts.Reserved r ∷ ps) = let others : length (oneofs ps) ≡ oneof_count ps = oneofs_counted ps in omega (arith, others)
oneofs_counted (parts.Map m ∷ ps) = let others : length (oneofs ps) ≡ oneof_count ps = oneofs_counted ps in omega (arith, others)
oneofs_counted (parts.Field f ∷ ps) = let others : length (oneofs ps) ≡ oneof_count ps = oneofs_counted ps in omega (arith, others)

pub kept_message : (targets : ℕ → Option Target) (full : List ℕ) (body : List Part) (nested : List TypeId) (enums : List EnumId) (t : MessageType) → IsMessage targets full body nested enums t → MessageKeeps targets body → KeptMessage t
kept_message targets full body nested enums t is keep =
    let n : length t.oneofs.items ≡ oneof_count body = sym (length-map t.oneofs.items string_bytes) ∙ (ap length is.oneofs ∙ oneofs_counted body) in
    let least : oneof_count body ≤ oneof_count body = omega arith in
    let all : list_all (is_kept_field (oneof_count body)) t.fields.items ≡ true = kept_fields targets body t is.fields keep (oneof_count body) least in
    record {
      fields = ap (λ k. list_all (is_kept_field k) t.fields.items) n ∙ all;
      in_order = in_order targets body t is.fields keep all;
      declared = ap (λ ns. rules.is_declared ns t.fields.items) is.declared ∙ is_declared_so targets body t is.fields keep;
      oneofs = ap (λ k. rules.have_members k t.fields.items) n ∙ oneofs_kept targets body t is.fields keep all;
      ranges = ap (list_all is_reserved_range) is.reserved_numbers ∙ field_ranges (messages.items body) keep.fields.reserved.within keep.fields.reserved.rising;
      numbers_once = used_once targets body t is.fields keep t.reserved_numbers.items is.reserved_numbers;
      names_free = names_free targets body t is.fields keep (map string_bytes t.reserved_names.items) is.reserved_names;
      json_names_once = json_names_once targets body t is.fields keep;
    }
