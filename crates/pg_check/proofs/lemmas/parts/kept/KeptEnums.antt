-- Enums of files that keep to the rules.
use Rattle.std.proofs.Common.{◌≡◌, ◌∙◌, ℕ, ◌+◌, ◌-◌, ◌^◌, ◌<◌, ℤ, pos, neg_ℤ, Bool, true, false, cond, not, ◌&&◌, ◌||◌, nat_lt, nat_le, nat_eq, List, [], ◌∷◌, ◌++◌, map, flat_map, Some, None, codes, string_bytes, arith, sym, ap, refl, rules}
use Rattle.std.specs.List.{list_all}
use Rattle.std.specs.Str.{bytes_eq}
use Rattle.std.proofs.lemmas.Bool.{false≢true}
use Rattle.std.proofs.lemmas.Bool.Decides.{nat_tests}
use Rattle.std.proofs.lemmas.List.{map-append}
use Rattle.std.proofs.lemmas.List.Folds.{list_all-map}
use Rattle.std.proofs.lemmas.Simd.{map-map}
use Rattle.std.proofs.lemmas.Slice.Eq.{bytes_eq-Decides}
use Rattle.pg_schema.specs.declared.parts.enum_type.EnumType.{EnumType}
use Rattle.pg_schema.specs.declared.parts.enum_type.EnumValue as schema
use Rattle.pg_schema.specs.declared.parts.enum_type.ReservedValues.{ReservedValues}
use Rattle.pg_schema.specs.rules.Enums as rules
use Rattle.pg_schema.specs.rules.Fields.{stated_or}
use Rattle.pg_schema.specs.rules.Pairs.{all_pairs}
use Rattle.pg_schema.specs.rules.TextSets.{is_among}
use Rattle.pg_schema.specs.rules.Uses.{are_aliases, are_apart as uses_apart, enum_uses, from_lowest, is_used_once, is_value_range, reserved_values_use, value_use}
use Rattle.pg_schema.proofs.lemmas.rules.PairLemmas.{and_left, and_right, and_both, bytes_eq-sym}
use Rattle.pg_check.specs.declared.rules.numbers.Keyed.{Keyed}
use Rattle.pg_check.specs.declared.rules.numbers.Numbers.{Numbers}
use Rattle.pg_check.specs.rules.Enums as enums
use Rattle.pg_check.specs.rules.KeepsRules.{EnumKeeps, are_apart, begins_with_zero, has_some, lies_within, rises}
use Rattle.pg_check.proofs.lemmas.parts.kept.KeptParts.{KeptEnum}
use Rattle.pg_check.specs.parts.MadeEnums.{MadeEnum, MadeValue, body_flag, enumeration, made_body, made_value, made_values, value}
use Rattle.pg_check.specs.parts.MadeNumbers.{of_rank, value_number, value_range}
use Rattle.pg_check.specs.parts.MadeOptions.{flag_value, or_flag}
use Rattle.pg_check.specs.rules.Names.{Named, is_same as is_same_name}
use Rattle.pg_check.specs.rules.Numbers.{highest_value, is_same, is_within, lowest_value, rank}
use Rattle.pg_check.specs.rules.Options.{is_alone, is_word, name_of}
use Rattle.pg_check.proofs.lemmas.parts.Moved.{all_weaker, pairs_of_map, pairs_weaker}
use Rattle.pg_check.proofs.lemmas.parts.UsesApart.{all_uses, is_outside, items_apart, keys_apart, keys_free, or_first, ranges_apart, two_apart}
use Rattle.pg_syntax.specs.declared.tree as tree
use Rattle.pg_syntax.specs.declared.tree.EnumPart.TheVariants as parts
use Rattle.pg_syntax.specs.declared.tree.Value.TheVariants as values

-- ---- lists of what a body has

pub map_out : {A B P : Type 0} (f : A → B) (g : P → List A) (ps : List P) → flat_map (λ p. map f (g p)) ps ≡ map f (flat_map g ps)
map_out f g [] = refl
map_out f g (p ∷ ps) = ap (λ ys. map f (g p) ++ ys) (map_out f g ps) ∙ sym (map-append f (g p) (flat_map g ps))

abbrev stated_values : List enums.Part → List tree.EnumValue.EnumValue
stated_values body = flat_map enums.value_in body

-- ---- numbers, counted from the lowest

abbrev counted : ℕ → ℕ
counted r = from_lowest (value_number r)

behind_zero : (d : ℕ) → 0 < d → from_lowest (neg_ℤ (pos d)) ≡ 2 ^ 31 - d
behind_zero d h = grind arith

of_rank_counts : (r : ℕ) → is_within lowest_value highest_value r ≡ true → from_lowest (of_rank r) + lowest_value ≡ r
of_rank_counts r h = search (rules, nat_tests, behind_zero)

counts : (r : ℕ) → is_within lowest_value highest_value r ≡ true → counted r + lowest_value ≡ r
counts r h = ap (λ b. from_lowest (cond b (of_rank r) (pos 0)) + lowest_value) h ∙ of_rank_counts r h

-- ---- the first value

first_is_zero : (key : ℕ) → nat_eq key (rank false 0) ≡ true → key ≡ rank false 0
first_is_zero key h = grind (arith, nat_tests)

head_is : {A : Type 0} (x y : A) (xs ys : List A) → x ∷ xs ≡ y ∷ ys → x ≡ y
head_is x y xs ys h = cc (h)

zero_first : (vs : List schema.EnumValue) (ks : List Keyed) → map (λ (v : schema.EnumValue). v.number) vs ≡ map (λ (k : Keyed). value_number k.key) ks → has_some ks ≡ true → begins_with_zero ks ≡ true
    → rules.begins_with_zero vs ≡ true
zero_first vs ks same some zeroth = grind (arith, false≢true, head_is, first_is_zero)

-- ---- reserved items

rises_on : (a b s t : ℕ) → s + lowest_value ≡ a → t + lowest_value ≡ b → not (nat_lt b a) ≡ true → nat_le s t ≡ true
rises_on a b s t e f h = grind (arith, nat_tests)

value_ranges : (items : List Numbers) → list_all (lies_within lowest_value highest_value) items ≡ true → list_all rises items ≡ true → list_all is_value_range (map value_range items) ≡ true
value_ranges [] ws us = refl
value_ranges (r ∷ rs) ws us = search (rules, and_left, and_both, rises_on, counts, and_right, value_ranges rs (and_right (lies_within lowest_value highest_value r) _ ws) (and_right (rises r) _ us))

-- ---- names

none_same : (r : List ℕ) (ns : List (List ℕ)) → list_all (λ n. not (bytes_eq n r)) ns ≡ true → not (is_among ns r) ≡ true
none_same r [] h = refl
none_same r (n ∷ ns) h = search (rules, bytes_eq-sym, and_left, and_right, false≢true, none_same r ns (and_right (not (bytes_eq n r)) _ h))

not_first : (a b : Bool) → not (a || b) ≡ true → not a ≡ true
not_first a b h = grind (arith, false≢true)

not_others : (a b : Bool) → not (a || b) ≡ true → not b ≡ true
not_others a b h = grind (arith, false≢true)

-- none of the ones is among the others
pub free_of_each_other : (ns rs : List (List ℕ)) → list_all (λ n. not (is_among rs n)) ns ≡ true → list_all (λ r. not (is_among ns r)) rs ≡ true
free_of_each_other ns [] h = refl
free_of_each_other ns (r ∷ rs) h =
    and_both _ _ (none_same r ns (all_weaker (λ n. not (is_among (r ∷ rs) n)) (λ n. not (bytes_eq n r)) (λ n k. not_first (bytes_eq n r) (is_among rs n) k) ns h))
    (free_of_each_other ns rs (all_weaker (λ n. not (is_among (r ∷ rs) n)) (λ n. not (is_among rs n)) (λ n k. not_others (bytes_eq n r) (is_among rs n) k) ns h))

-- ---- allow_alias

abbrev alias_word : List ℕ
alias_word = codes "allow_alias"

word_is : (word : List ℕ) (d : tree.Dotted.Dotted) → is_word word d ≡ true → string_bytes d.first.text ≡ word
word_is word d h = (bytes_eq-Decides (string_bytes d.first.text) word).0 (and_right (is_alone d.more.items) _ h)

true_flag : (v : tree.Value.Value) → enums.is_true v ≡ true → flag_value v ≡ Some true
true_flag v h = grind (arith, codes, false≢true)

or_true : (a b : Bool) → (a || b) ≡ true → (a ≡ true → ⊥) → b ≡ true
or_true a b h k = grind arith

-- no later option of the same name
none_later : (x : Named) (body : List enums.Part) → x.text ≡ alias_word → list_all (λ y. not (is_same_name y x)) (map name_of (enums.lines body)) ≡ true → enums.has_aliases body ≡ true → ⊥
none_later x [] is h there = false≢true there
none_later x (parts.Empty span ∷ ps) is h there = none_later x ps is h there
none_later x (parts.Reserved r ∷ ps) is h there = none_later x ps is h there
none_later x (parts.Value v ∷ ps) is h there = none_later x ps is h there
none_later x (parts.Option o ∷ ps) is h there =
    none_later x ps is (and_right (not (bytes_eq (string_bytes o.setting.name.first.text) x.text)) _ h)
    (or_true (is_word alias_word o.setting.name && enums.is_true o.setting.value) (enums.has_aliases ps) there (λ w.
    let same : string_bytes o.setting.name.first.text ≡ x.text = word_is alias_word o.setting.name (and_left _ _ w) ∙ sym is in
    false≢true (sym (ap not ((bytes_eq-Decides (string_bytes o.setting.name.first.text) x.text).1 same)) ∙ and_left _ _ h)))

alias_stated : (body : List enums.Part) → are_apart is_same_name (map name_of (enums.lines body)) ≡ true → enums.has_aliases body ≡ true → body_flag alias_word body ≡ Some true
alias_stated [] h there = absurd (false≢true there)
alias_stated (parts.Empty span ∷ ps) h there = alias_stated ps h there
alias_stated (parts.Reserved r ∷ ps) h there = alias_stated ps h there
alias_stated (parts.Value v ∷ ps) h there = alias_stated ps h there
alias_stated (parts.Option o ∷ ps) h there =
    by (is_word alias_word o.setting.name) (enums.is_true o.setting.value) refl refl there (alias_stated ps (and_right (list_all (λ y. not (is_same_name y here)) (map name_of (enums.lines ps))) _ h))
  where
    here : Named
    here = record { text = string_bytes o.setting.name.first.text; at = o.span.from }

    by : (b c : Bool) → is_word alias_word o.setting.name ≡ b → enums.is_true o.setting.value ≡ c → ((b && c) || enums.has_aliases ps) ≡ true → (enums.has_aliases ps ≡ true → body_flag alias_word ps ≡ Some true)
        → or_flag (cond (is_word alias_word o.setting.name) (flag_value o.setting.value) None) (body_flag alias_word ps) ≡ Some true
    by true true w t k others = ap (λ z. or_flag (cond z (flag_value o.setting.value) None) (body_flag alias_word ps)) w ∙ ap (λ f. or_flag f (body_flag alias_word ps)) (true_flag o.setting.value t)
    by true false w t k others = absurd (none_later here ps (word_is alias_word o.setting.name w) (and_left (list_all (λ y. not (is_same_name y here)) (map name_of (enums.lines ps))) _ h) k)
    by false c w t k others = ap (λ z. or_flag (cond z (flag_value o.setting.value) None) (body_flag alias_word ps)) w ∙ others k

-- ---- numbers

or_last : (a : Bool) → (a || true) ≡ true
or_last a = grind arith

abbrev span_of : ReservedValues → ℕ × ℕ
span_of r = (from_lowest r.first, from_lowest r.last)

abbrev counted_value : schema.EnumValue → ℕ
counted_value v = from_lowest v.number

all_aliases : (v : schema.EnumValue) (vs : List schema.EnumValue) → list_all (λ w. uses_apart (value_use v) (value_use w) || are_aliases true (value_use v) (value_use w)) vs ≡ true
all_aliases v [] = refl
all_aliases v (w ∷ vs) = and_both _ _ (or_last (uses_apart (value_use v) (value_use w))) (all_aliases v vs)

aliases_fit : (vs : List schema.EnumValue) → all_pairs (λ v w. uses_apart (value_use v) (value_use w) || are_aliases true (value_use v) (value_use w)) vs ≡ true
aliases_fit [] = refl
aliases_fit (v ∷ vs) = and_both _ _ (all_aliases v vs) (aliases_fit vs)

values_fit : (al : Bool) (vs : List schema.EnumValue) → (al ≡ false → all_pairs two_apart (map counted_value vs) ≡ true)
    → all_pairs (λ v w. uses_apart (value_use v) (value_use w) || are_aliases al (value_use v) (value_use w)) vs ≡ true
values_fit true vs h = aliases_fit vs
values_fit false vs h = search (rules, pairs_weaker, two_apart, or_first, pairs_of_map)

enum_once : (al : Bool) (vs : List schema.EnumValue) (rs : List ReservedValues) → (al ≡ false → all_pairs two_apart (map counted_value vs) ≡ true) → all_pairs ranges_apart (map span_of rs) ≡ true
    → list_all (λ n. list_all (is_outside n) (map span_of rs)) (map counted_value vs) ≡ true → is_used_once al (enum_uses vs rs) ≡ true
enum_once al vs rs h k m =
    all_uses (λ a b. uses_apart a b || are_aliases al a b) value_use reserved_values_use counted_value span_of
    (λ p q l. or_first (uses_apart (reserved_values_use p) (reserved_values_use q)) _ l) (λ v p l. or_first (uses_apart (value_use v) (reserved_values_use p)) _ l) vs rs (values_fit al vs h) k m

-- ---- the enum

abbrev key_number : Keyed → ℤ
key_number k = value_number k.key

numbers_are : (vs : List schema.EnumValue) (body : List enums.Part) → map value vs ≡ made_values body → map (λ (v : schema.EnumValue). v.number) vs ≡ map key_number (enums.keys body)
numbers_are vs body is =
    sym (map-map (λ (m : MadeValue). m.number) value vs)
    ∙ (ap (map (λ (m : MadeValue). m.number)) (is ∙ map_out made_value enums.value_in body)
    ∙ (map-map (λ (m : MadeValue). m.number) made_value (stated_values body)
    ∙ (sym (map-map key_number enums.key_of (stated_values body)) ∙ sym (ap (map key_number) (map_out enums.key_of enums.value_in body)))))

names_are : (vs : List schema.EnumValue) (body : List enums.Part) → map value vs ≡ made_values body → rules.value_names vs ≡ map (λ (n : Named). n.text) (enums.value_names body)
names_are vs body is =
    sym (map-map (λ (m : MadeValue). m.name) value vs)
    ∙ (ap (map (λ (m : MadeValue). m.name)) (is ∙ map_out made_value enums.value_in body)
    ∙ (map-map (λ (m : MadeValue). m.name) made_value (stated_values body)
    ∙ (sym (map-map (λ (n : Named). n.text) enums.name_of (stated_values body)) ∙ sym (ap (map (λ (n : Named). n.text)) (map_out enums.name_of enums.value_in body)))))

pub kept_enum : (e : EnumType) (full : List ℕ) (body : List enums.Part) → enumeration e ≡ made_body full body → EnumKeeps body → KeptEnum e
kept_enum e full body is keep =
    let vs = e.values.items in
    let of_values : map value vs ≡ made_values body = ap (λ (m : MadeEnum). m.values) is in
    let of_numbers = numbers_are vs body of_values in
    let of_names = names_are vs body of_values in
    let of_ranges : e.reserved_numbers.items ≡ map value_range (enums.items body) = ap (λ (m : MadeEnum). m.reserved_numbers) is in
    let of_reserved : map string_bytes e.reserved_names.items ≡ enums.reserved_names body = ap (λ (m : MadeEnum). m.reserved_names) is in
    let of_flag : e.options.allow_alias ≡ body_flag alias_word body = ap (λ (m : MadeEnum). m.options.allow_alias) is in
    let keys = enums.keys body in
    let counted_keys : map counted_value vs ≡ map (λ (k : Keyed). counted k.key) keys = sym (map-map from_lowest (λ (v : schema.EnumValue). v.number) vs) ∙ (ap (map from_lowest) of_numbers ∙ map-map from_lowest key_number keys) in
    let spans : map span_of e.reserved_numbers.items ≡ map (λ (r : Numbers). (counted r.first, counted r.last)) (enums.items body) = ap (map span_of) of_ranges ∙ map-map span_of value_range (enums.items body) in
    let free : list_all (λ n. list_all (is_outside n) (map span_of e.reserved_numbers.items)) (map counted_value vs) ≡ true =
    ap (λ ps. list_all (λ n. list_all (is_outside n) ps) (map counted_value vs)) spans
    ∙ (ap (list_all (λ n. list_all (is_outside n) (map (λ (r : Numbers). (counted r.first, counted r.last)) (enums.items body)))) counted_keys
    ∙ keys_free lowest_value highest_value lowest_value counted counts keys (enums.items body) keep.values.numbers_fit keep.values.reserved.within keep.values.reserved.rising keep.values.numbers_free) in
    let apart : stated_or e.options.allow_alias false ≡ false → all_pairs two_apart (map counted_value vs) ≡ true = λ no.
    ap (all_pairs two_apart) counted_keys ∙ keys_apart lowest_value highest_value lowest_value counted counts keys keep.values.numbers_fit
    (or_true (enums.has_aliases body) (are_apart is_same keys) keep.values.aliases (λ yes. false≢true (sym no ∙ ap (λ f. stated_or f false) (of_flag ∙ alias_stated body keep.options.once yes)))) in
    record {
      first_value = zero_first vs keys of_numbers keep.values.has_values keep.values.first_value;
      ranges = ap (list_all is_value_range) of_ranges ∙ value_ranges (enums.items body) keep.values.reserved.within keep.values.reserved.rising;
      names_free = ap (list_all (λ name. not (is_among (rules.value_names vs) name))) of_reserved
          ∙ free_of_each_other (rules.value_names vs) (enums.reserved_names body)
          (ap (list_all (λ n. not (is_among (enums.reserved_names body) n))) of_names ∙ (list_all-map (λ n. not (is_among (enums.reserved_names body) n)) (λ (n : Named). n.text) (enums.value_names body) ∙ keep.values.names_free));
      numbers_once = enum_once (stated_or e.options.allow_alias false) vs e.reserved_numbers.items apart
          (ap (all_pairs ranges_apart) spans ∙ items_apart lowest_value highest_value lowest_value counted counts (enums.items body) keep.values.reserved.within keep.values.reserved.rising keep.values.reserved.apart) free;
    }
