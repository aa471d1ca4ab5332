-- What is named at an offset, among offsets that rise and others.
use Rattle.std.proofs.Common.{◌≡◌, ◌∙◌, ◌==◌, ◌<◌, ◌≤◌, ℕ, zero, suc, Bool, true, false, cond, List, [], ◌∷◌, Option, Some, None, length, map, get_or, slice_get, nat_lt, refl, sym, ap, arith, rules}
use Rattle.std.specs.List.{list_all}
use Rattle.std.specs.Borrow.{Bor}
use Rattle.std.specs.Option.{IfSome, MatchOption, option_and_then, option_copied}
use Rattle.std.proofs.lemmas.Bool.Decides.{nat_tests}
use Rattle.std.proofs.lemmas.Option.{slice_get_past, slice_get_read}
use Rattle.pg_link.specs.declared.uses.target.Target.{Target}
use Rattle.pg_link.specs.uses.Targets.{Resolution, resolved_at}
use Rattle.pg_link.specs.uses.Uses.{Use}
use Rattle.pg_schema.specs.rules.Pairs.{is_rising}
use Rattle.pg_schema.proofs.lemmas.rules.PairLemmas.{and_left, and_right}
use Rattle.pg_check.specs.inner.ByPlace.{named_at}

abbrev rest_of : {X : Type 0} → List X → List X
rest_of [] = []
rest_of (x ∷ xs) = xs

-- what is in front of others
by_test : (resolve : Resolution) (u : Use) (others : Option Use) (b : Bool) (t : Target) (old : Option Target) → resolve u ≡ Some t → old ≡ option_and_then resolve others
    → cond b (Some t) old ≡ option_and_then resolve (cond b (Some u) others)
by_test resolve u others b t old is before = grind arith

resolved_uses : (resolve : Resolution) (us : List Use) (targets : List Target) → map (λ (t : Target). Some t) targets ≡ map resolve us
    → (at : ℕ) → named_at (map (λ (u : Use). u.at) us) targets at ≡ resolved_at resolve us at
resolved_uses resolve [] targets same at = refl
resolved_uses resolve (u ∷ us) [] same at = absurd (omega (arith, ap length same))
resolved_uses resolve (u ∷ us) (t ∷ ts) same at = search (rules, by_test, resolved_uses resolve us ts (ap rest_of same) at)

-- the targets of uses, by the offsets of these
pub resolved_places : (resolve : Resolution) (us : List Use) (places : List ℕ) (targets : List Target) → map (λ (t : Target). Some t) targets ≡ map resolve us
    → places ≡ map (λ (u : Use). u.at) us → (at : ℕ) → named_at places targets at ≡ resolved_at resolve us at
resolved_places resolve us places targets same are at = ap (λ (ps : List ℕ). named_at ps targets at) are ∙ resolved_uses resolve us targets same at

-- ---- where offsets rise

above : (p : ℕ) (ps : List ℕ) (i : ℕ) → list_all (nat_lt p) ps ≡ true → i < length ps → p < get_or ps i 0
above p [] i h lt = absurd (omega (arith, lt))
above p (q ∷ qs) zero h lt = let first = and_left (nat_lt p q) (list_all (nat_lt p) qs) h in grind (arith, nat_tests)
above p (q ∷ qs) (suc i) h lt = above p qs i (and_right (nat_lt p q) (list_all (nat_lt p) qs) h) (omega (arith, lt))

pub in_order : (ps : List ℕ) → is_rising ps ≡ true → (i j : ℕ) → i ≤ j → j < length ps → get_or ps i 0 ≤ get_or ps j 0
in_order [] h i j le lt = absurd (omega (arith, lt))
in_order (p ∷ ps) h zero zero le lt = omega arith
in_order (p ∷ ps) h zero (suc j) le lt = let more = above p ps j (and_left (list_all (nat_lt p) ps) (is_rising ps) h) (omega (arith, lt)) in omega (arith, more)
in_order (p ∷ ps) h (suc i) zero le lt = absurd (omega (arith, le))
in_order (p ∷ ps) h (suc i) (suc j) le lt = in_order ps (and_right (list_all (nat_lt p) ps) (is_rising ps) h) i j (omega (arith, le)) (omega (arith, lt))

is_same : (p at : ℕ) → p ≡ at → (p == at) ≡ true
is_same p at e = grind (arith, nat_tests)

is_other : (p at : ℕ) → (p ≡ at → ⊥) → (p == at) ≡ false
is_other p at e = grind (arith, nat_tests)

-- what is at one of the offsets
pub found_there : (ps : List ℕ) (ts : List Target) (i at : ℕ) → is_rising ps ≡ true → i < length ps → get_or ps i 0 ≡ at → named_at ps ts at ≡ slice_get ts i
found_there [] ts i at h lt is = absurd (omega (arith, lt))
found_there (p ∷ ps) [] i at h lt is = sym (slice_get_past [] i (omega arith))
found_there (p ∷ ps) (t ∷ ts) zero at h lt is = ap (λ (b : Bool). cond b (Some t) (named_at ps ts at)) (is_same p at is)
found_there (p ∷ ps) (t ∷ ts) (suc i) at h lt is = search (rules, above, and_left, nat_lt, is_other, and_right, found_there ps ts i at (and_right (list_all (nat_lt p) ps) (is_rising ps) h) (omega (arith, lt)) is)

-- none of the offsets is that one
pub found_nowhere : (ps : List ℕ) (ts : List Target) (at : ℕ) → ((i : ℕ) → i < length ps → get_or ps i 0 ≡ at → ⊥) → named_at ps ts at ≡ None
found_nowhere [] ts at none = refl
found_nowhere (p ∷ ps) [] at none = refl
found_nowhere (p ∷ ps) (t ∷ ts) at none =
    ap (λ (b : Bool). cond b (Some t) (named_at ps ts at)) (is_other p at (none 0 (omega arith)))
    ∙ found_nowhere ps ts at (λ i lt is. none (suc i) (omega (arith, lt)) is)

-- ---- how a slice answers

pub copied_is : (ts : List Target) (i : ℕ) (found : Option (Bor Target)) (P : Bor Target → Type 0) → IfSome found (λ x. x.now ≡ get_or ts i x.now)
    → MatchOption found (length ts ≤ i) (λ x. (i < length ts) × P x) → option_copied found ≡ slice_get ts i
copied_is ts i found P is there = grind (arith, slice_get_past, slice_get_read)
