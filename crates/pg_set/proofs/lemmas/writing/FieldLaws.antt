-- The fields that a message type declares.
use Rattle.std.proofs.Common.{◌≡◌, ℕ, suc, ◌+◌, ◌≤◌, ◌<◌, Bool, true, false, cond, List, [], ◌∷◌, ◌++◌, length, flat_map, find, nat_eq, drop, get_or, Option, Some, None, arith, add-one, append_assoc, drop-cons, rules}
use Rattle.std.specs.List.{AllByRecursion}
use Rattle.std.specs.Prelude.{if◌then◌else◌}
use denote.Ref.{Bor}
use Rattle.pg_schema.specs.declared.parts.field.Field.{Field}
use Rattle.pg_set.specs.inner.Lent.{lent}
use Rattle.pg_set.specs.writing.Fields.{field_items, fields_items}
use Rattle.pg_set.specs.writing.Items.{Items}
use Rattle.pg_set.specs.writing.Messages.{where_found}
use Rattle.pg_set.specs.writing.Places.{Declared}

abbrev found : List Field → ℕ → List Field
found fs number = where_found (λ f. f) (find (λ (f : Field). nat_eq f.number number) fs)

one_holds : (P : Field → Type 0) (test : Field → Bool) (fs : List Field) → AllByRecursion P fs → AllByRecursion P (where_found (λ f. f) (find test fs))
one_holds P test [] all = tt
one_holds P test (f ∷ fs) all =
    elim (test f) as (λ b. AllByRecursion P (where_found (λ f. f) (cond b (Some f) (find test fs)))) [ true ↦ (all.0, tt) | false ↦ one_holds P test fs all.1 ]

pub both_hold : (P : Field → Type 0) (xs ys : List Field) → AllByRecursion P xs → AllByRecursion P ys → AllByRecursion P (xs ++ ys)
both_hold P [] ys h k = k
both_hold P (x ∷ xs) ys h k = (h.0, both_hold P xs ys h.1 k)

pub each_found_holds : (P : Field → Type 0) (fs : List Field) (numbers : List ℕ) → AllByRecursion P fs → AllByRecursion P (flat_map (found fs) numbers)
each_found_holds P fs [] all = tt
each_found_holds P fs (n ∷ ns) all = both_hold P (found fs n) (flat_map (found fs) ns) (one_holds P (λ (f : Field). nat_eq f.number n) fs all) (each_found_holds P fs ns all)

at_most_one : (o : Option Field) (xs : List Field) (n : ℕ) → length xs ≤ n → length (where_found (λ f. f) o ++ xs) ≤ n + 1
at_most_one None xs n h = omega (arith, h)
at_most_one (Some f) xs n h = omega (arith, h)

pub as_many_found : (fs : List Field) (numbers : List ℕ) → length (flat_map (found fs) numbers) ≤ length numbers
as_many_found fs [] = omega arith
as_many_found fs (n ∷ ns) = search (rules, as_many_found fs ns, at_most_one)

-- one more of the fields of a message
pub fields_step : (all : Declared) (scope : List ℕ) (next now i : ℕ) (fields : List (Bor Field)) (f : Bor Field) (made new whole : List Items) (it : Items) → i < length fields → f ≡ get_or fields i f
    → it ≡ field_items all scope next f.now → new ≡ made ++ it ∷ [] → now ≡ (if f.now.states_optional then suc next else next)
    → made ++ fields_items all scope next (lent (drop i fields)) ≡ whole → new ++ fields_items all scope now (lent (drop (i + 1) fields)) ≡ whole
fields_step all scope next now i fields f made new whole it h is own more place before = search (rules, add-one, drop-cons, append_assoc)
