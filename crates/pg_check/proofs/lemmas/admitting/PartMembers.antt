-- Oneofs of parts, and their members.
use Rattle.std.proofs.Common.{◌≡◌, ◌∙◌, ℕ, zero, suc, ◌<◌, Bool, true, false, ◌&&◌, nat_lt, List, sym, ap, refl, arith}
use Rattle.std.specs.List.{list_any}
use Rattle.std.proofs.lemmas.Bool.Decides.{nat_tests}
use Rattle.pg_schema.specs.declared.parts.field.Field.{Field}
use Rattle.pg_schema.specs.rules.Messages.{have_members, is_member}

below_it : (k m : ℕ) → nat_lt k m ≡ true → k < m
below_it k m is = grind (arith, nat_tests)

is_last : (k m : ℕ) → k < suc m → nat_lt k m ≡ false → k ≡ m
is_last k m below is = grind (arith, nat_tests)

and_none : (a b : Bool) → b ≡ false → (a && b) ≡ false
and_none a b e = grind arith

none_and : (a b : Bool) → a ≡ false → (a && b) ≡ false
none_and a b e = grind arith

-- a oneof without a member
pub none_there : (n k : ℕ) (fields : List Field) → k < n → list_any (is_member k) fields ≡ false → have_members n fields ≡ false
none_there zero k fields below lacks = absurd (omega arith)
none_there (suc m) k fields below lacks = by (nat_lt k m) refl (λ less. none_there m k fields less lacks)
  where
    by : (b : Bool) → nat_lt k m ≡ b → (k < m → have_members m fields ≡ false) → (list_any (is_member m) fields && have_members m fields) ≡ false
    by true lt others = and_none (list_any (is_member m) fields) (have_members m fields) (others (below_it k m lt))
    by false ge others = none_and (list_any (is_member m) fields) (have_members m fields) (ap (λ n. list_any (is_member n) fields) (sym (is_last k m below ge)) ∙ lacks)
