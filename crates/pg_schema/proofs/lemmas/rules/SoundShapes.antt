-- Sound parts have a shape that messages and bytes can rest on.
use Rattle.std.proofs.Common.{◌≡◌, ℕ, ◌^◌, ◌≤◌, ◌<◌, ◌⊎◌, inl, inr, Bool, true, false, not, ◌&&◌, ◌||◌, nat_lt, cond, List, [], ◌∷◌, length, map, Option, Some, None, is_some, arith, sym, subst, refl}
use Rattle.std.specs.List.{list_all, AllByRecursion}
use Rattle.std.proofs.lemmas.Bool.{false≢true}
use Rattle.std.proofs.lemmas.Bool.Decides.{nat_tests}
use Rattle.std.proofs.lemmas.List.{length-map}
use Rattle.pg_schema.specs.declared.parts.field.Element.{Element}
use Rattle.pg_schema.specs.declared.parts.field.Element.TheVariants as elements
use Rattle.pg_schema.specs.declared.parts.field.Field.{Field}
use Rattle.pg_schema.specs.declared.parts.field.Presence.{Presence}
use Rattle.pg_schema.specs.declared.parts.field.Presence.TheVariants as presences
use Rattle.pg_schema.specs.declared.parts.message_type.MessageType.{MessageType}
use Rattle.pg_schema.specs.declared.parts.Parts.{Parts}
use Rattle.pg_schema.specs.rules.Fields.{has_presence, is_field_number, is_known, is_packed, stated_or, is_key}
use Rattle.pg_schema.specs.rules.Messages.{has_fields, is_field, is_message_type, numbers}
use Rattle.pg_schema.specs.rules.Pairs.{is_rising}
use Rattle.pg_schema.specs.Parts.{field_shape, shape_of}
use Rattle.pg_schema.specs.ShapeRules.{ElementFits, IsField, IsShape, IsType, PresenceFits, Rising}
use Rattle.pg_schema.specs.Shape.{FieldShape, is_packable}
use Rattle.pg_schema.specs.rules.Sound.{IsSound}
use Rattle.pg_schema.proofs.lemmas.rules.PairLemmas.{and_left, and_right}

number_above : (n : ℕ) → is_field_number n ≡ true → 1 ≤ n
number_above n h = grind (arith, nat_tests)

number_below : (n : ℕ) → is_field_number n ≡ true → n < 2 ^ 29
number_below n h = grind (arith, nat_tests)

one_of : (n : ℕ) (b : Bool) → nat_lt n 19000 ≡ b → is_field_number n ≡ true → (n < 19000) ⊎ (20000 ≤ n)
one_of n true e h = inl (grind (arith, nat_tests))
one_of n false e h = inr (grind (arith, nat_tests))

no_member : (o : Option ℕ) (b : Bool) → not (is_some o || b) ≡ true → o ≡ None
no_member None b h = refl
no_member (Some k) b h = absurd (false≢true h)

no_member_of : (o : Option ℕ) (a b : Bool) → not (a || is_some o || b) ≡ true → o ≡ None
no_member_of None a b h = refl
no_member_of (Some k) true b h = absurd (false≢true h)
no_member_of (Some k) false b h = absurd (false≢true h)

packed_fits : (packed packable : Bool) (s : Bool) → (cond packed s (not s) && (not packed || packable)) ≡ true → packed ≡ true → packable ≡ true
packed_fits true packable s h e = and_right s packable h
packed_fits false packable s h e = absurd (false≢true e)

pub presence_fits : (p : Presence) (e : Element) (o : Option ℕ) (stated : Bool) (option : Option Bool) → has_presence p e (is_some o) stated ≡ true → is_packed p e option ≡ true → PresenceFits p e o
presence_fits presences.Implicit (elements.Scalar s) o stated option h k = no_member_of o false stated h
presence_fits presences.Implicit (elements.Enum i) o stated option h k = no_member_of o false stated h
presence_fits presences.Implicit (elements.Message i) o stated option h k = absurd (false≢true h)
presence_fits presences.Explicit e o stated option h k = tt
presence_fits (presences.Repeated packed) e o stated option h k =
    (no_member o stated h, packed_fits packed (is_packable e) (stated_or option (is_packable e)) k)
presence_fits (presences.Map key) e o stated option h k = (no_member o stated (and_left _ _ h), and_right (not (is_some o || stated)) (is_key key) h)

element_fits : (types enums : ℕ) (e : Element) → is_known types enums e ≡ true → ElementFits types e
element_fits types enums (elements.Scalar s) h = tt
element_fits types enums (elements.Enum i) h = tt
element_fits types enums (elements.Message t) h = grind (arith, nat_tests)

-- what a field keeps to, by its parts
field_is : (oneofs types enums : ℕ) (f : Field) → is_field oneofs types enums f ≡ true → IsField types (field_shape f)
field_is oneofs types enums f h =
    let known_and = and_left _ _ h in
    let packed_and = and_left _ _ known_and in
    let presence_and = and_left _ _ packed_and in
    let word_and = and_left _ _ presence_and in
    let number : is_field_number f.number ≡ true = and_left _ _ word_and in
    record {
      number_above = number_above f.number number;
      number_below = number_below f.number number;
      not_reserved = one_of f.number (nat_lt f.number 19000) refl number;
      presence_fits = presence_fits f.presence f.element f.oneof f.states_optional f.options.packed (and_right _ _ presence_and) (and_right _ _ packed_and);
      element_fits = element_fits types enums f.element (and_right _ _ known_and);
    }

each_field : (oneofs types enums : ℕ) (fs : List Field) → list_all (is_field oneofs types enums) fs ≡ true → AllByRecursion (IsField types) (map field_shape fs)
each_field oneofs types enums [] h = tt
each_field oneofs types enums (f ∷ fs) h = (field_is oneofs types enums f (and_left _ _ h), each_field oneofs types enums fs (and_right (is_field oneofs types enums f) _ h))

below_test : (m n : ℕ) → nat_lt m n ≡ true → m < n
below_test m n h = grind (arith, nat_tests)

all_above : (n : ℕ) (fs : List Field) → list_all (nat_lt n) (numbers fs) ≡ true → AllByRecursion (λ (g : FieldShape). n < g.number) (map field_shape fs)
all_above n [] h = tt
all_above n (f ∷ fs) h = (below_test n f.number (and_left _ _ h), all_above n fs (and_right (nat_lt n f.number) _ h))

rising : (fs : List Field) → is_rising (numbers fs) ≡ true → Rising (map field_shape fs)
rising [] h = tt
rising (f ∷ fs) h = (all_above f.number fs (and_left _ _ h), rising fs (and_right (list_all (nat_lt f.number) (numbers fs)) _ h))

type_is : (types enums : ℕ) (t : MessageType) → is_message_type types enums t ≡ true → IsType types (map field_shape t.fields.items)
type_is types enums t h =
    let fields : has_fields types enums t ≡ true = and_left _ _ (and_left _ _ (and_left _ _ h)) in
    let ruled = and_left _ _ fields in
    record {
      each = each_field (length t.oneofs.items) types enums t.fields.items (and_left _ _ ruled);
      rising = rising t.fields.items (and_right (list_all (nat_lt 0) (numbers t.fields.items)) _ (and_right _ _ ruled));
    }

each_type : (types enums : ℕ) (ts : List MessageType) → list_all (is_message_type types enums) ts ≡ true → AllByRecursion (IsType types) (map (λ (t : MessageType). map field_shape t.fields.items) ts)
each_type types enums [] h = tt
each_type types enums (t ∷ ts) h = (type_is types enums t (and_left _ _ h), each_type types enums ts (and_right (is_message_type types enums t) _ h))

pub shape_from_sound : (parts : Parts) → IsSound parts → IsShape (shape_of parts)
shape_from_sound parts sound =
    let many : length parts.types.items ≡ length (shape_of parts) = sym (length-map parts.types.items (λ (t : MessageType). map field_shape t.fields.items)) in
    record {
      few = subst (λ n. n ≤ 4096) many sound.few_types;
      each = subst (λ n. AllByRecursion (IsType n) (shape_of parts)) many (each_type (length parts.types.items) (length parts.enums.items) parts.types.items sound.message_types);
    }
