-- Names that their keys tell apart are there once each.
use Rattle.std.proofs.Common.{◌≡◌, ℕ, Bool, true, false, ◌||◌, List, [], ◌∷◌, ◌++◌, map, nat_eq, Option, Some, None, arith, refl, rules}
use Rattle.std.specs.List.{list_any}
use Rattle.std.specs.Str.{bytes_eq}
use Rattle.std.proofs.lemmas.Bool.{false≢true}
use Rattle.std.proofs.lemmas.Bool.Decides.{nat_tests}
use Rattle.std.proofs.lemmas.List.{map-append}
use Rattle.std.proofs.lemmas.Slice.Eq.{bytes_eq-Decides}
use Rattle.pg_check.specs.rules.Names as names
use Rattle.pg_check.specs.inner.NameFaults as name_faults
use Rattle.pg_check.specs.rules.Names.{Named}
use Rattle.pg_check.specs.rules.Numbers as numbers
use Rattle.pg_check.specs.inner.NumberFaults as number_faults
use Rattle.pg_check.specs.inner.NumberFaults.{first_again}
use Rattle.pg_check.specs.inner.TextKeys.{keyed}
use Rattle.pg_check.proofs.lemmas.rules.FirstLaws.{new_item, old_item}

left_false : (a b : Bool) → (a || b) ≡ false → a ≡ false
left_false a b h = grind arith

right_false : (a b : Bool) → (a || b) ≡ false → b ≡ false
right_false a b h = grind arith

both_false : (a b : Bool) → a ≡ false → b ≡ false → (a || b) ≡ false
both_false a b h k = grind arith

same_number : (a b : ℕ) → a ≡ b → nat_eq a b ≡ true
same_number a b e = grind (arith, nat_tests)

apart : (n m : Named) (t : Bool) → bytes_eq n.text m.text ≡ t → numbers.is_same (keyed n) (keyed m) ≡ false → t ≡ false
apart n m t e other = grind (arith, false≢true, same_number, bytes_eq-Decides)

none_same : (n : Named) (before : List Named) → list_any (numbers.is_same (keyed n)) (map keyed before) ≡ false → list_any (names.is_same n) before ≡ false
none_same n [] other = refl
none_same n (m ∷ ms) other = search (rules, both_false, apart, left_false, right_false, none_same n ms (right_false (numbers.is_same (keyed n) (keyed m)) (list_any (numbers.is_same (keyed n)) (map keyed ms)) other))

not_both : (o : Option ℕ) (x : ℕ) → o ≡ Some x → o ≡ None → ⊥
not_both o x found none = cc (found, none)

-- after a list of names that none of these is the same as
abbrev StandOnce : (before ns : List Named) → Type 0
StandOnce before ns = first_again numbers.is_same number_faults.at (map keyed before) (map keyed ns) ≡ None → first_again names.is_same name_faults.at before ns ≡ None

one_more : (before ns : List Named) (n : Named) (t : Bool) → list_any (numbers.is_same (keyed n)) (map keyed before) ≡ t → StandOnce (before ++ n ∷ []) ns → StandOnce before (n ∷ ns)
one_more before ns n t e rest h = grind (arith, not_both, old_item, new_item, none_same, map-append)

once_behind : (before ns : List Named) → StandOnce before ns
once_behind before [] h = refl
once_behind before (n ∷ ns) h = one_more before ns n (list_any (numbers.is_same (keyed n)) (map keyed before)) refl (once_behind (before ++ n ∷ []) ns) h

-- names whose keys are there once each are there once each
pub all_once : (ns : List Named) → number_faults.first_twice (map keyed ns) ≡ None → name_faults.first_twice ns ≡ None
all_once ns h = once_behind [] ns h
