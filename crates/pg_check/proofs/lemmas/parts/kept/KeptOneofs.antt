-- Oneofs of messages that keep to the rules: each has a member.
use Rattle.std.proofs.Common.{◌≡◌, ◌∙◌, ℕ, zero, suc, ◌+◌, ◌^◌, ◌<◌, ◌≤◌, Bool, true, false, ◌||◌, ◌&&◌, nat_lt, nat_eq, List, [], ◌∷◌, ◌++◌, length, map, Option, arith, sym, ap, subst, refl, length-append}
use Rattle.std.specs.List.{list_all, list_any}
use Rattle.std.specs.List.Sorted.{IsPermutation}
use Rattle.std.specs.Option.{option_map}
use Rattle.std.proofs.lemmas.Bool.{false≢true}
use Rattle.std.proofs.lemmas.Bool.Decides.{nat_tests}
use Rattle.std.proofs.lemmas.List.Folds.{list_all-append, list_any-append}
use Rattle.std.proofs.lemmas.List.Sorted.{list_any-IsPermutation}
use Rattle.pg_schema.specs.declared.parts.field.Field.{Field}
use Rattle.pg_schema.specs.rules.Messages.{have_members, is_member, is_place}
use Rattle.pg_schema.specs.rules.Pairs.{is_rising}
use Rattle.pg_link.specs.declared.uses.target.Target.{Target}
use Rattle.pg_schema.proofs.lemmas.rules.PairLemmas.{and_left, and_right, and_both}
use Rattle.pg_check.specs.rules.KeepsRules.{is_no_option, oneof_keeps}
use Rattle.pg_check.specs.parts.MadeFields.{MadeField, field, made_field, oneof_of}
use Rattle.pg_check.specs.parts.MadeNumbers.{index_of}
use Rattle.pg_check.specs.rules.Members.{DeclaredField, members_from, members_in, oneof_in, oneof_members, oneofs_in}
use Rattle.pg_check.specs.rules.Messages.{has_member, oneofs}
use Rattle.pg_check.proofs.lemmas.parts.kept.KeptFields.{oneof_count}
use Rattle.pg_syntax.specs.declared.tree as tree
use Rattle.pg_syntax.specs.declared.tree.OneofPart.TheVariants as oneof_parts
use Rattle.pg_syntax.specs.declared.tree.Part.{Part}
use Rattle.pg_syntax.specs.declared.tree.Part.TheVariants as parts

or_first : (a b : Bool) → a ≡ true → (a || b) ≡ true
or_first a b h = grind (arith, false≢true)

or_later : (a b : Bool) → b ≡ true → (a || b) ≡ true
or_later a b h = grind arith

-- ---- how many there are

some_members : (start : ℕ) (body : List tree.OneofPart.OneofPart) → has_member body ≡ true → 1 ≤ length (oneof_members start body)
some_members start [] h = absurd (false≢true h)
some_members start (oneof_parts.Empty span ∷ ps) h = some_members start ps h
some_members start (oneof_parts.Option o ∷ ps) h = some_members start ps h
some_members start (oneof_parts.Map m ∷ ps) h = omega arith
some_members start (oneof_parts.Field f ∷ ps) h = omega arith

has_own : (o : tree.Oneof.Oneof) → list_all oneof_keeps (o ∷ []) ≡ true → has_member o.parts.items ≡ true
has_own o k = and_left (has_member o.parts.items) (list_all is_no_option o.parts.items) (and_left (oneof_keeps o) true k)

-- no more oneofs than fields
split_oneofs : (p : Part) (ps : List Part) → list_all oneof_keeps (oneofs (p ∷ ps)) ≡ true → (list_all oneof_keeps (oneof_in p) && list_all oneof_keeps (oneofs ps)) ≡ true
split_oneofs p ps h = sym (list_all-append oneof_keeps (oneof_in p) (oneofs ps)) ∙ h

pub fewer_oneofs : (start : ℕ) (body : List Part) → list_all oneof_keeps (oneofs body) ≡ true → oneof_count body ≤ length (members_from start body)
fewer_oneofs start [] h = omega arith
fewer_oneofs start (p ∷ ps) h =
    let others : oneof_count ps ≤ length (members_from (start + oneofs_in p) ps) = fewer_oneofs (start + oneofs_in p) ps (and_right (list_all oneof_keeps (oneof_in p)) _ (split_oneofs p ps h)) in
    let one : oneofs_in p ≤ length (members_in start p) = first p (and_left (list_all oneof_keeps (oneof_in p)) (list_all oneof_keeps (oneofs ps)) (split_oneofs p ps h)) in
    let all : length (members_in start p ++ members_from (start + oneofs_in p) ps) ≡ length (members_in start p) + length (members_from (start + oneofs_in p) ps) = length-append (members_in start p) (members_from (start + oneofs_in p) ps) in
    omega (arith, others, one, all)
  where
    first : (q : Part) → list_all oneof_keeps (oneof_in q) ≡ true → oneofs_in q ≤ length (members_in start q)
    first (parts.Empty span) k = omega arith
    first (parts.Message' name shape row span) k = omega arith
    first (parts.Enum e) k = omega arith
    first (parts.Oneof o) k = some_members start o.parts.items (has_own o k)
    first (parts.Option o) k = omega arith
    first (parts.Reserved r) k = omega arith
    first (parts.Map m) k = omega arith
    first (parts.Field f) k = omega arith

below : (m n : ℕ) → nat_lt m n ≡ true → m < n
below m n h = grind (arith, nat_tests)

-- as many numbers as rise below one are at most that one
pub rising_short : (highest first : ℕ) (ns : List ℕ) → is_rising (first ∷ ns) ≡ true → list_all (λ n. nat_lt n highest) ns ≡ true → first < highest → first + length ns < highest
rising_short highest first [] h k lt = omega (arith, lt)
rising_short highest first (n ∷ ns) h k lt =
    let up : first < n = below first n (and_left (nat_lt first n) (list_all (nat_lt first) ns) (and_left (list_all (nat_lt first) (n ∷ ns)) (is_rising (n ∷ ns)) h)) in
    let in_bounds : n < highest = below n highest (and_left _ _ k) in
    let others : n + length ns < highest = rising_short highest n ns (and_right (list_all (nat_lt first) (n ∷ ns)) _ h) (and_right (nat_lt n highest) _ k) in_bounds in
    omega (arith, up, others)

-- ---- members

abbrev stands_in : ℕ → DeclaredField → Bool
stands_in place m = is_place place (option_map index_of (oneof_of m))

own_place : (start : ℕ) → start < 2 ^ 32 → nat_eq (index_of start) start ≡ true
own_place start lt = grind (arith, nat_tests)

member_here : (start : ℕ) (body : List tree.OneofPart.OneofPart) → start < 2 ^ 32 → has_member body ≡ true → list_any (stands_in start) (oneof_members start body) ≡ true
member_here start [] lt h = absurd (false≢true h)
member_here start (oneof_parts.Empty span ∷ ps) lt h = member_here start ps lt h
member_here start (oneof_parts.Option o ∷ ps) lt h = member_here start ps lt h
member_here start (oneof_parts.Map m ∷ ps) lt h = or_first (nat_eq (index_of start) start) _ (own_place start lt)
member_here start (oneof_parts.Field f ∷ ps) lt h = or_first (nat_eq (index_of start) start) _ (own_place start lt)

-- the oneof at each index has one
member_there : (start place : ℕ) (body : List Part) → start ≤ place → place < start + oneof_count body → place < 2 ^ 32 → list_all oneof_keeps (oneofs body) ≡ true → list_any (stands_in place) (members_from start body) ≡ true
member_there start place [] low high lt h = absurd (omega (arith, low, high))
member_there start place (p ∷ ps) low high lt h =
    list_any-append (stands_in place) (members_in start p) (members_from (start + oneofs_in p) ps)
    ∙ by p high (and_left (list_all oneof_keeps (oneof_in p)) (list_all oneof_keeps (oneofs ps)) (split_oneofs p ps h))
    (λ from below. member_there (start + oneofs_in p) place ps from below lt (and_right (list_all oneof_keeps (oneof_in p)) _ (split_oneofs p ps h)))
  where
    later : (q : Part) → oneofs_in q ≡ 0 → place < start + (oneofs_in q + oneof_count ps) → (start + oneofs_in q ≤ place → place < start + oneofs_in q + oneof_count ps → list_any (stands_in place) (members_from (start + oneofs_in q) ps) ≡ true)
        → (list_any (stands_in place) (members_in start q) || list_any (stands_in place) (members_from (start + oneofs_in q) ps)) ≡ true
    later q none top others = or_later (list_any (stands_in place) (members_in start q)) _ (others (omega (arith, low, none)) (omega (arith, top)))

    at_oneof : (o : tree.Oneof.Oneof) (b : Bool) → nat_lt start place ≡ b → place < start + (1 + oneof_count ps) → has_member o.parts.items ≡ true
        → (start + 1 ≤ place → place < start + 1 + oneof_count ps → list_any (stands_in place) (members_from (start + 1) ps) ≡ true)
        → (list_any (stands_in place) (oneof_members start o.parts.items) || list_any (stands_in place) (members_from (start + 1) ps)) ≡ true
    at_oneof o true e top k others = let less : start < place = below start place e in or_later (list_any (stands_in place) (oneof_members start o.parts.items)) _ (others (omega (arith, less)) (omega (arith, top)))
    at_oneof o false e top k others =
        let same : start ≡ place = grind (arith, nat_tests) in
        or_first _ (list_any (stands_in place) (members_from (start + 1) ps)) (subst (λ n. list_any (stands_in n) (oneof_members start o.parts.items) ≡ true) same (member_here start o.parts.items (subst (λ n. n < 2 ^ 32) (sym same) lt) k))

    by : (q : Part) → place < start + (oneofs_in q + oneof_count ps) → list_all oneof_keeps (oneof_in q) ≡ true
        → (start + oneofs_in q ≤ place → place < start + oneofs_in q + oneof_count ps → list_any (stands_in place) (members_from (start + oneofs_in q) ps) ≡ true)
        → (list_any (stands_in place) (members_in start q) || list_any (stands_in place) (members_from (start + oneofs_in q) ps)) ≡ true
    by (parts.Empty span) top k others = later (parts.Empty span) refl top others
    by (parts.Message' name shape row span) top k others = later (parts.Message' name shape row span) refl top others
    by (parts.Enum e) top k others = later (parts.Enum e) refl top others
    by (parts.Oneof o) top k others = at_oneof o (nat_lt start place) refl top (has_own o k) others
    by (parts.Option o) top k others = later (parts.Option o) refl top others
    by (parts.Reserved r) top k others = later (parts.Reserved r) refl top others
    by (parts.Map m) top k others = later (parts.Map m) refl top others
    by (parts.Field f) top k others = later (parts.Field f) refl top others

-- ---- of the fields as they are sorted

any_of_map : {A B : Type 0} (test : B → Bool) (f : A → B) (xs : List A) → list_any test (map f xs) ≡ list_any (λ x. test (f x)) xs
any_of_map test f [] = refl
any_of_map test f (x ∷ xs) = ap (λ b. test (f x) || b) (any_of_map test f xs)

each_has : (n : ℕ) (fields : List Field) → ((place : ℕ) → place < n → list_any (is_member place) fields ≡ true) → have_members n fields ≡ true
each_has zero fields h = refl
each_has (suc n) fields h = and_both _ _ (h n (omega arith)) (each_has n fields (λ place lt. h place (omega (arith, lt))))

pub oneofs_have_members : (targets : ℕ → Option Target) (body : List Part) (fields : List Field) → IsPermutation (map (made_field targets) (members_from 0 body)) (map field fields) → list_all oneof_keeps (oneofs body) ≡ true
    → oneof_count body ≤ 2 ^ 32 → have_members (oneof_count body) fields ≡ true
oneofs_have_members targets body fields moved keep few = each_has (oneof_count body) fields (λ place lt.
    let there : list_any (stands_in place) (members_from 0 body) ≡ true = member_there 0 place body (omega arith) (omega (arith, lt)) (omega (arith, lt, few)) keep in
    let test : MadeField → Bool = λ f. is_place place f.oneof in
    sym (any_of_map test field fields)
    ∙ (sym (list_any-IsPermutation test (map (made_field targets) (members_from 0 body)) (map field fields) moved)
    ∙ (any_of_map test (made_field targets) (members_from 0 body) ∙ there)))
