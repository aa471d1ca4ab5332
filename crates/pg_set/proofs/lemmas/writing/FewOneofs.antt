-- A message type has no more oneofs than fields, of which there are less than 2^29.
use Rattle.std.proofs.Common.{◌≡◌, ℕ, zero, suc, ◌+◌, ◌≤◌, ◌<◌, ◌^◌, true, false, not, nat_lt, List, [], ◌∷◌, filter, length, Option, Some, None, IfSome, refl, ap, arith, rules}
use Rattle.std.proofs.lemmas.Bool.{false≢true}
use Rattle.std.specs.List.{list_all, list_any}
use Rattle.pg_schema.specs.declared.parts.field.Field.{Field}
use Rattle.pg_schema.specs.declared.parts.message_type.MessageType.{MessageType}
use Rattle.pg_schema.specs.rules.Fields.{is_oneof}
use Rattle.pg_schema.specs.rules.Messages.{have_members, is_field, is_member, is_message_type, is_place, numbers}
use Rattle.pg_schema.specs.rules.Pairs.{is_rising}
use Rattle.pg_schema.proofs.lemmas.rules.PairLemmas.{and_both, and_left, and_right}
use Rattle.pg_set.proofs.lemmas.lists.Tests.{below, same_number}

-- numbers that rise are as far above the first as they are many
rising_long : (most a : ℕ) (xs : List ℕ) → is_rising (a ∷ xs) ≡ true → list_all (λ x. nat_lt x most) xs ≡ true → a < most → a + length xs < most
rising_long most a [] rising all h = omega (arith, h)
rising_long most a (x ∷ xs) rising all h =
    let above = below a x (and_left (nat_lt a x) (list_all (nat_lt a) xs) (and_left (list_all (nat_lt a) (x ∷ xs)) (is_rising (x ∷ xs)) rising)) in
    let later = rising_long most x xs (and_right (list_all (nat_lt a) (x ∷ xs)) (is_rising (x ∷ xs)) rising) (and_right (nat_lt x most) (list_all (λ y. nat_lt y most) xs) all) (below x most (and_left (nat_lt x most) (list_all (λ y. nat_lt y most) xs) all)) in
    omega (arith, above, later)

numbers_long : (fs : List Field) → length (numbers fs) ≡ length fs
numbers_long [] = refl
numbers_long (f ∷ fs) = ap suc (numbers_long fs)

numbers_below : (oneofs types enums : ℕ) (fs : List Field) → list_all (is_field oneofs types enums) fs ≡ true → list_all (λ x. nat_lt x (2 ^ 29)) (numbers fs) ≡ true
numbers_below oneofs types enums [] h = refl
numbers_below oneofs types enums (f ∷ fs) h =
    and_both (nat_lt f.number (2 ^ 29)) (list_all (λ x. nat_lt x (2 ^ 29)) (numbers fs))
    (and_right _ _ (and_left _ _ (and_left _ _ (and_left _ _ (and_left _ _ (and_left _ _ (and_left _ _ (and_left (is_field oneofs types enums f) _ h))))))))
    (numbers_below oneofs types enums fs (and_right (is_field oneofs types enums f) _ h))

few_fields : (oneofs types enums : ℕ) (fs : List Field) → list_all (is_field oneofs types enums) fs ≡ true → is_rising (0 ∷ numbers fs) ≡ true → length fs < 2 ^ 29
few_fields oneofs types enums fs h rising =
    let long = rising_long (2 ^ 29) 0 (numbers fs) rising (numbers_below oneofs types enums fs h) (omega arith) in
    let many = numbers_long fs in
    omega (arith, long, many)

-- ---- each oneof has a field

abbrev without : ℕ → List Field → List Field
without place fs = filter (λ f. not (is_member place f)) fs

no_more : (place : ℕ) (fs : List Field) → length (without place fs) ≤ length fs
no_more place [] = omega arith
no_more place (f ∷ fs) = search (rules, no_more place fs)

fewer : (place : ℕ) (fs : List Field) → list_any (is_member place) fs ≡ true → length (without place fs) < length fs
fewer place [] h = absurd (false≢true h)
fewer place (f ∷ fs) h = search (rules, fewer place fs, no_more)

apart : (p q : ℕ) → q < p → (o : Option ℕ) → is_place q o ≡ true → is_place p o ≡ false
apart p q h None is = refl
apart p q h (Some k) is = search rules

still_member : (p q : ℕ) → q < p → (fs : List Field) → list_any (is_member q) fs ≡ true → list_any (is_member q) (without p fs) ≡ true
still_member p q h [] has = has
still_member p q h (f ∷ fs) has = search (rules, still_member p q h fs, apart, false≢true)

still_members : (p n : ℕ) → n ≤ p → (fs : List Field) → have_members n fs ≡ true → have_members n (without p fs) ≡ true
still_members p zero h fs has = refl
still_members p (suc n) h fs has =
    and_both (list_any (is_member n) (without p fs)) (have_members n (without p fs)) (still_member p n (omega (arith, h)) fs (and_left (list_any (is_member n) fs) (have_members n fs) has))
    (still_members p n (omega (arith, h)) fs (and_right (list_any (is_member n) fs) (have_members n fs) has))

few_oneofs : (n : ℕ) (fs : List Field) → have_members n fs ≡ true → n ≤ length fs
few_oneofs zero fs has = omega arith
few_oneofs (suc n) fs has =
    let less = fewer n fs (and_left (list_any (is_member n) fs) (have_members n fs) has) in
    let later = few_oneofs n (without n fs) (still_members n n (omega arith) fs (and_right (list_any (is_member n) fs) (have_members n fs) has)) in
    omega (arith, less, later)

below_twice : (oneofs declared fields : ℕ) → fields < 2 ^ 29 → oneofs ≤ fields → declared ≡ fields → oneofs + declared < 2 ^ 31
below_twice oneofs declared fields few less same = omega (arith, few, less, same)

-- so 32 bits hold the index of a oneof
pub oneof_small : (oneofs types enums : ℕ) (fs : List Field) → list_all (is_field oneofs types enums) fs ≡ true → is_rising (0 ∷ numbers fs) ≡ true → have_members oneofs fs ≡ true
    → (o : Option ℕ) → is_oneof oneofs o ≡ true → IfSome o (λ place. place < 2 ^ 32)
oneof_small oneofs types enums fs h rising has None is = tt
oneof_small oneofs types enums fs h rising has (Some place) is = search (rules, few_fields, few_oneofs, below)

-- and an int32 the indices of a message type's oneofs, of which each field may have one of its own
pub few_places : (types enums : ℕ) (t : MessageType) → is_message_type types enums t ≡ true → length t.oneofs.items + length t.declared.items < 2 ^ 31
few_places types enums t h = search (rules, and_left, and_right, below_twice, few_fields, few_oneofs, same_number)
