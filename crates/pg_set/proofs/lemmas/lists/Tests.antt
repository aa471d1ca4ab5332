-- What tests of numbers say, and what is known of marks that are joined.
use Rattle.std.proofs.Common.{◌≡◌, ◌≢◌, ℕ, suc, ◌<◌, ◌≤◌, Bool, true, false, not, ◌&&◌, ◌||◌, nat_eq, nat_lt, nat_le, refl, sym, arith}
use Rattle.std.proofs.lemmas.Bool.{false≢true}
use Rattle.std.proofs.lemmas.Bool.Decides.{nat_tests}

pub below : (a b : ℕ) → nat_lt a b ≡ true → a < b
below a b h = grind (arith, nat_tests)

pub is_below : (a b : ℕ) → a < b → nat_lt a b ≡ true
is_below a b h = grind (arith, nat_tests)

pub not_below : (a b : ℕ) → nat_lt a b ≡ false → b ≤ a
not_below a b h = grind (arith, nat_tests)

pub too_great : (a b : ℕ) → b ≤ a → nat_lt a b ≡ false
too_great a b h = grind (arith, nat_tests)

pub same_number : (a b : ℕ) → nat_eq a b ≡ true → a ≡ b
same_number a b h = grind (arith, nat_tests)

pub differs : (a b : ℕ) → nat_eq a b ≡ false → a ≢ b
differs a b h same = absurd (grind (arith, nat_tests))

pub unequal : (a b : ℕ) → a ≢ b → nat_eq a b ≡ false
unequal a b h = grind (arith, nat_tests)

pub not_lower : (a b : ℕ) → a < b → nat_eq b a ≡ false
not_lower a b h = grind (arith, nat_tests)

pub not_higher : (a b : ℕ) → a < b → nat_eq a b ≡ false
not_higher a b h = grind (arith, nat_tests)

pub itself : (a : ℕ) → nat_eq a a ≡ true
itself a = grind (arith, nat_tests)

pub same_turned : (a b : ℕ) → nat_eq a b ≡ true → b ≡ a
same_turned a b h = grind (arith, nat_tests)

pub other_turned : (a b : ℕ) → nat_eq a b ≡ false → b ≢ a
other_turned a b h same = absurd (grind (arith, nat_tests))

pub at_most : (a b : ℕ) → nat_le a b ≡ true → a ≤ b
at_most a b h = grind (arith, nat_tests)

pub one_less : (a b : ℕ) → nat_lt (suc a) (suc b) ≡ true → nat_lt a b ≡ true
one_less a b h = grind (arith, nat_tests)

pub or_right : (a b : Bool) → b ≡ true → (a || b) ≡ true
or_right true b h = refl
or_right false b h = h

pub or_left : (a b : Bool) → a ≡ true → (a || b) ≡ true
or_left true b h = refl
or_left false b h = absurd (false≢true h)

pub or_none : (b : Bool) → (b || false) ≡ b
or_none true = refl
or_none false = refl

pub or_all : (b : Bool) → (b || true) ≡ true
or_all true = refl
or_all false = refl

pub not_so : (b : Bool) → not b ≡ true → b ≡ false
not_so true h = sym h
not_so false h = refl

pub and_false : (a b : Bool) → b ≡ false → (a && b) ≡ false
and_false true b h = h
and_false false b h = refl
