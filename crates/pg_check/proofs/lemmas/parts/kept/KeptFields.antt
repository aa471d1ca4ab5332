-- Fields of messages that keep to the rules, each by itself.
use Rattle.std.proofs.Common.{◌≡◌, ◌∙◌, ℕ, ◌+◌, ◌^◌, ◌<◌, ◌≤◌, Bool, true, false, not, ◌&&◌, ◌||◌, nat_lt, List, [], ◌∷◌, map, Option, Some, None, is_some, codes, arith, refl, rules}
use Rattle.std.specs.List.{list_all}
use Rattle.std.specs.Option.{option_map}
use Rattle.std.proofs.lemmas.Bool.{false≢true}
use Rattle.std.proofs.lemmas.Bool.Decides.{nat_tests}
use Rattle.std.proofs.lemmas.List.Folds.{list_all-append}
use Rattle.pg_schema.specs.declared.parts.field.Element.{Element}
use Rattle.pg_schema.specs.declared.parts.field.Presence.TheVariants as presences
use Rattle.pg_schema.specs.declared.parts.field.Scalar.{Scalar}
use Rattle.pg_schema.specs.rules.Fields as rules
use Rattle.pg_schema.specs.rules.Fields.{is_key}
use Rattle.pg_schema.specs.Shape.{is_packable}
use Rattle.pg_link.specs.declared.uses.target.Target.{Target}
use Rattle.pg_schema.proofs.lemmas.rules.PairLemmas.{and_left, and_right, and_both}
use Rattle.pg_check.specs.rules.Enums.{is_true}
use Rattle.pg_check.specs.rules.KeepsRules.{has_field_number, has_key, is_packed_rightly, may_be_member}
use Rattle.pg_check.specs.parts.MadeFields.{MadeField, element, element_of, is_optional, key_or, labelled, made_field, oneof_of}
use Rattle.pg_check.specs.parts.MadeNumbers.{field_number, index_of}
use Rattle.pg_check.specs.parts.MadeOptions.{flag_in, flag_of, flag_value}
use Rattle.pg_check.specs.rules.Members.{DeclaredField, Plain, Mapped, key_of, members_from, members_in, oneof_members, oneofs_in, settings}
use Rattle.pg_check.specs.rules.Messages as messages
use Rattle.pg_check.specs.rules.Numbers as numbers
use Rattle.pg_check.specs.rules.Types as types
use Rattle.pg_syntax.specs.declared.tree as tree
use Rattle.pg_syntax.specs.declared.tree.OneofPart.TheVariants as oneof_parts
use Rattle.pg_syntax.specs.declared.tree.Part.{Part}
use Rattle.pg_syntax.specs.declared.tree.Part.TheVariants as parts
use Rattle.pg_syntax.specs.declared.tree.Label.{Label}
use Rattle.pg_syntax.specs.declared.tree.Label.TheVariants as labels

-- ---- numbers

in_bounds : (r : ℕ) → numbers.is_field_number r ≡ true → numbers.is_within numbers.lowest_field numbers.highest_field r ≡ true
in_bounds r h = and_left _ _ h

pub field_counts : (r : ℕ) → numbers.is_within numbers.lowest_field numbers.highest_field r ≡ true → field_number r + 2 ^ 64 ≡ r
field_counts r h = search (rules, nat_tests)

counted_fits : (r n : ℕ) → n + 2 ^ 64 ≡ r → numbers.is_field_number r ≡ true → rules.is_field_number n ≡ true
counted_fits r n e h = grind (arith, nat_tests)

pub number_fits : (r : ℕ) → numbers.is_field_number r ≡ true → rules.is_field_number (field_number r) ≡ true
number_fits r h = counted_fits r (field_number r) (field_counts r (in_bounds r h)) h

-- ---- packed

abbrev packed_word : List ℕ
packed_word = codes "packed"

not_true : (v : tree.Value.Value) → not (is_true v) ≡ true → flag_value v ≡ Some true → ⊥
not_true v h e = grind (arith, codes, false≢true)

not_stated : (s : tree.Setting.Setting) → not (messages.states_packed s) ≡ true → flag_in packed_word s ≡ Some true → ⊥
not_stated s h e = search (rules, not_true)

unpacked : (list : List tree.Setting.Setting) → list_all (λ s. not (messages.states_packed s)) list ≡ true → flag_of packed_word list ≡ Some true → ⊥
unpacked [] h e = absurd (cc (e))
unpacked (s ∷ ss) h e = search (rules, not_stated, and_left, and_right, unpacked ss (and_right (not (messages.states_packed s)) _ h))

not_packed : (stated : Option Bool) → (stated ≡ Some true → ⊥) → not (rules.stated_or stated false) ≡ true
not_packed stated h = grind arith

-- the element may be packed where the type name says so
element_packable : (s : Option Scalar) (target : Option Target) → types.is_packable s target ≡ true → is_packable (element_of s target) ≡ true
element_packable s target h = grind (arith, false≢true)

list_packed : (e : Element) (stated : Option Bool) → (stated ≡ Some true → is_packable e ≡ true)
    → rules.is_packed (presences.Repeated (rules.stated_or stated (is_packable e))) e stated ≡ true
list_packed e stated h = grind arith

-- ---- presence

abbrev Right : MadeField → Type 0
Right f = (rules.has_presence f.presence f.element (is_some f.oneof) f.states_optional ≡ true) × (rules.is_packed f.presence f.element f.options.packed ≡ true)

single : (e : Element) (oneof : Option ℕ) (stated : Option Bool) → (stated ≡ Some true → ⊥)
    → (rules.has_presence (labelled None (is_some oneof) e stated) e (is_some (option_map index_of oneof)) false ≡ true) × (rules.is_packed (labelled None (is_some oneof) e stated) e stated ≡ true)
single e oneof stated h = grind (arith, not_packed)

optional : (e : Element) (stated : Option Bool) → (stated ≡ Some true → ⊥) → (rules.has_presence presences.Explicit e false true ≡ true) × (rules.is_packed presences.Explicit e stated ≡ true)
optional e stated h = search (rules, not_packed)

bare_repeated : (e : Element) (stated : Option Bool) → (stated ≡ Some true → is_packable e ≡ true)
    → (rules.has_presence (presences.Repeated (rules.stated_or stated (is_packable e))) e false false ≡ true) × (rules.is_packed (presences.Repeated (rules.stated_or stated (is_packable e))) e stated ≡ true)
bare_repeated e stated h = (refl, list_packed e stated h)

-- `packed = true` is only where the element may be packed
rightly : (b : Bool) (list : List tree.Setting.Setting) → (b || list_all (λ s. not (messages.states_packed s)) list) ≡ true → flag_of packed_word list ≡ Some true → b ≡ true
rightly b list h e = grind (arith, unpacked)

plain_right : (e : Element) (label : Option Label) (oneof : Option ℕ) (list : List tree.Setting.Setting) (packable : Bool) → (packable ≡ true → is_packable e ≡ true)
    → not (is_some oneof && is_some label) ≡ true → ((messages.is_repeated label && packable) || list_all (λ s. not (messages.states_packed s)) list) ≡ true
    → (rules.has_presence (labelled label (is_some oneof) e (flag_of packed_word list)) e (is_some (option_map index_of oneof)) (is_optional label) ≡ true)
    × (rules.is_packed (labelled label (is_some oneof) e (flag_of packed_word list)) e (flag_of packed_word list) ≡ true)
plain_right e None oneof list packable f inside packed = single e oneof (flag_of packed_word list) (λ is. unpacked list packed is)
plain_right e (Some labels.Repeated) None list packable f inside packed = bare_repeated e (flag_of packed_word list) (λ is. f (rightly packable list packed is))
plain_right e (Some labels.Repeated) (Some place) list packable f inside packed = absurd (false≢true inside)
plain_right e (Some labels.Optional) None list packable f inside packed = optional e (flag_of packed_word list) (λ is. unpacked list packed is)
plain_right e (Some labels.Optional) (Some place) list packable f inside packed = absurd (false≢true inside)

key_right : (s : Option Scalar) → not (not (types.is_key_scalar s)) ≡ true → is_key (key_or s) ≡ true
key_right s h = grind (arith, false≢true)

map_right : (key : Scalar) (e : Element) (oneof : Option ℕ) (list : List tree.Setting.Setting) → is_key key ≡ true → not (is_some oneof) ≡ true → list_all (λ s. not (messages.states_packed s)) list ≡ true
    → (rules.has_presence (presences.Map key) e (is_some (option_map index_of oneof)) false ≡ true) × (rules.is_packed (presences.Map key) e (flag_of packed_word list) ≡ true)
map_right key e oneof list is inside packed = grind (arith, not_packed, unpacked, false≢true)

member_right : (targets : ℕ → Option Target) (m : DeclaredField) → has_key m ≡ true → may_be_member m ≡ true → is_packed_rightly targets m ≡ true → Right (made_field targets m)
member_right targets (Plain f oneof) key inside packed =
    plain_right (element targets f.type_name) f.label oneof (settings f.settings) (types.is_packable_type targets f.type_name)
    (element_packable (types.scalar_named f.type_name) (targets f.type_name.span.from)) inside packed
member_right targets (Mapped m oneof) key inside packed =
    map_right (key_or (types.scalar_named m.key.value)) (element targets m.value) oneof (settings m.settings) (key_right (types.scalar_named m.key.value) key) inside packed

-- ---- oneofs

abbrev pub in_oneofs : ℕ → DeclaredField → Bool
in_oneofs oneofs m = rules.is_oneof oneofs (option_map index_of (oneof_of m))

place_below : (place n : ℕ) → place < n → nat_lt (index_of place) n ≡ true
place_below place n lt = search (rules, nat_lt, nat_tests)

parts_in : (place n : ℕ) → place < n → (body : List tree.OneofPart.OneofPart) → list_all (in_oneofs n) (oneof_members place body) ≡ true
parts_in place n lt [] = refl
parts_in place n lt (oneof_parts.Empty span ∷ ps) = parts_in place n lt ps
parts_in place n lt (oneof_parts.Option o ∷ ps) = parts_in place n lt ps
parts_in place n lt (oneof_parts.Map m ∷ ps) = and_both _ _ (place_below place n lt) (parts_in place n lt ps)
parts_in place n lt (oneof_parts.Field f ∷ ps) = and_both _ _ (place_below place n lt) (parts_in place n lt ps)

abbrev pub oneof_count : List Part → ℕ
oneof_count [] = 0
oneof_count (p ∷ ps) = oneofs_in p + oneof_count ps

-- each member of a oneof names one of the message's
pub all_in_oneofs : (place n : ℕ) (body : List Part) → place + oneof_count body ≤ n → list_all (in_oneofs n) (members_from place body) ≡ true
all_in_oneofs place n [] h = refl
all_in_oneofs place n (p ∷ ps) h = list_all-append (in_oneofs n) (members_in place p) (members_from (place + oneofs_in p) ps) ∙ and_both (list_all (in_oneofs n) (members_in place p)) _ (first p h) (all_in_oneofs (place + oneofs_in p) n ps (omega (arith, h)))
  where
    first : (q : Part) → place + (oneofs_in q + oneof_count ps) ≤ n → list_all (in_oneofs n) (members_in place q) ≡ true
    first (parts.Empty span) le = refl
    first (parts.Message' name shape row span) le = refl
    first (parts.Enum e) le = refl
    first (parts.Oneof o) le = parts_in place n (omega (arith, le)) o.parts.items
    first (parts.Option o) le = refl
    first (parts.Reserved r) le = refl
    first (parts.Map m) le = refl
    first (parts.Field f) le = refl

-- ---- the fields

abbrev pub is_kept : ℕ → MadeField → Bool
is_kept oneofs f =
    rules.is_field_number f.number && rules.has_presence f.presence f.element (is_some f.oneof) f.states_optional && rules.is_packed f.presence f.element f.options.packed
    && rules.is_oneof oneofs f.oneof

pub fields_kept : (targets : ℕ → Option Target) (n : ℕ) (ms : List DeclaredField) → list_all has_field_number (map key_of ms) ≡ true → list_all has_key ms ≡ true → list_all may_be_member ms ≡ true
    → list_all (is_packed_rightly targets) ms ≡ true → list_all (in_oneofs n) ms ≡ true → list_all (is_kept n) (map (made_field targets) ms) ≡ true
fields_kept targets n [] a b c d e = refl
fields_kept targets n (m ∷ ms) a b c d e = search (rules, member_right, and_left, number_fits, and_both, is_some, and_right, fields_kept targets n ms (and_right (has_field_number (key_of m)) _ a) (and_right (has_key m) _ b) (and_right (may_be_member m) _ c) (and_right (is_packed_rightly targets m) _ d) (and_right (in_oneofs n m) _ e))
