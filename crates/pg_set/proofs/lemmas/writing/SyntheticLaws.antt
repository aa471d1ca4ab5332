-- Names of synthetic oneofs, one after the other.
use Rattle.std.proofs.Common.{◌≡◌, ℕ, zero, suc, ◌+◌, ◌-◌, ◌<◌, Bool, true, false, cond, ◌||◌, List, [], ◌∷◌, ◌++◌, String, length, drop, get_or, refl, ap, sym, subst, arith, append_assoc, add-one, drop-cons, rules}
use Rattle.std.specs.BTreeSet.{BTreeSet, contains_text}
use Rattle.std.specs.Str.{bytes_eq}
use Rattle.std.specs.List.{AllByRecursion}
use Rattle.std.specs.String.{string_bytes}
use Rattle.std.proofs.lemmas.Bool.{false≢true}
use Rattle.std.proofs.lemmas.Slice.Eq.{bytes_eq-Decides}
use denote.Ref.{Bor}
use Rattle.pg_schema.specs.declared.parts.field.Field.{Field}
use Rattle.pg_schema.specs.rules.TextSets.{is_among}
use Rattle.pg_schema.proofs.lemmas.rules.PairLemmas.{among_push, bytes_eq-sym}
use Rattle.pg_set.specs.inner.Lent.{lent}
use Rattle.pg_set.specs.inner.writing.MadeNames.{HasMade, begins_made}
use Rattle.pg_set.specs.writing.Synthetic.{freed, sign, synthetic_name, synthetic_oneofs}
use Rattle.pg_set.proofs.lemmas.lists.Tests.{or_none}

-- what holds of each holds of the one at an index
pub each_at : {A : Type 0} (P : A → Type 0) (xs : List (Bor A)) (i : ℕ) (x : Bor A) → AllByRecursion P (lent xs) → i < length xs → x ≡ get_or xs i x → P x.now
each_at P [] i x all h is = absurd (omega (arith, h))
each_at P (y ∷ ys) zero x all h is = subst P (sym (ap (λ z. z.now) is)) all.0
each_at P (y ∷ ys) (suc i) x all h is = each_at P ys i x all.1 (omega (arith, h)) is

one_less : (tries i : ℕ) → i < tries → tries - i ≡ suc (tries - (i + 1))
one_less tries i h = omega (arith, h)

pub free : (tries i : ℕ) (names : List (List ℕ)) (name : List ℕ) → i < tries → is_among names name ≡ false → name ≡ freed (tries - i) names name
free tries i names name h none = subst (λ n. name ≡ freed n names name) (sym (one_less tries i h)) (rw none refl)

pub not_free : (tries i : ℕ) (names : List (List ℕ)) (name : List ℕ) → i < tries → is_among names name ≡ true → freed (tries - (i + 1)) names (sign ∷ name) ≡ freed (tries - i) names name
not_free tries i names name h there = subst (λ n. freed (tries - (i + 1)) names (sign ∷ name) ≡ freed n names name) (sym (one_less tries i h)) (rw there refl)

-- these names in front of the others, the last one first
abbrev pub onto : List (List ℕ) → List (List ℕ) → List (List ℕ)
onto [] names = names
onto (m ∷ ms) names = onto ms (m ∷ names)

pub onto-append : (ms names : List (List ℕ)) (m : List ℕ) → onto (ms ++ m ∷ []) names ≡ m ∷ onto ms names
onto-append [] names m = refl
onto-append (x ∷ ms) names m = onto-append ms (x ∷ names) m

pub length-onto : (ms names : List (List ℕ)) → length (onto ms names) ≡ length names + length ms
length-onto [] names = omega arith
length-onto (m ∷ ms) names = let rest = length-onto ms (m ∷ names) in omega (arith, rest)

or_of : (a b : Bool) → cond a true b ≡ (a || b)
or_of true b = refl
or_of false b = refl

or_turned : (a b : Bool) → (a || b) ≡ (b || a)
or_turned true true = refl
or_turned true false = refl
or_turned false true = refl
or_turned false false = refl

-- one more name
pub set_with : {Y : Type 0} (names : List (List ℕ)) (key : List ℕ) (old new : BTreeSet (String Y)) → ((cs : List ℕ) → contains_text new cs ≡ cond (bytes_eq key cs) true (contains_text old cs)) → HasMade names old → HasMade (key ∷ names) new
set_with names key old new step held text begins = search (rules, or_of, bytes_eq-sym)

-- one more name after the others
pub made_more : {Y : Type 0} (done : List (List ℕ)) (key : List ℕ) (old new : BTreeSet (String Y)) → ((cs : List ℕ) → contains_text new cs ≡ cond (bytes_eq key cs) true (contains_text old cs)) → HasMade done old → HasMade (done ++ key ∷ []) new
made_more done key old new step held text begins = search (rules, set_with, or_turned, among_push)

-- one more name that none of them meets
pub made_others : {Y : Type 0} (done : List (List ℕ)) (key : List ℕ) (set : BTreeSet (String Y)) → begins_made key ≡ false → HasMade done set → HasMade (done ++ key ∷ []) set
made_others done key set other held text begins = search (rules, or_none, among_push, false≢true, bytes_eq-Decides)

-- what comes after an `X` begins so
pub sign_begins : (name made : List ℕ) → made ≡ sign ∷ name → begins_made made ≡ true
sign_begins name made is = ap begins_made is

-- ---- one more field

rest_at : (fields : List (Bor Field)) (i : ℕ) (f : Bor Field) → i < length fields → f ≡ get_or fields i f → drop i fields ≡ f ∷ drop (i + 1) fields
rest_at fields i f h is = rw (add-one, drop-cons fields i f) (ap (λ g. g ∷ drop (suc i) fields) (sym is))

pub step_made : (names done made : List (List ℕ)) (all : List (List ℕ)) (fields : List (Bor Field)) (i : ℕ) (f : Bor Field) → i < length fields → f ≡ get_or fields i f → f.now.states_optional ≡ true
    → made ≡ done ++ synthetic_name (onto done names) (string_bytes f.now.name) ∷ []
    → done ++ synthetic_oneofs (onto done names) (lent (drop i fields)) ≡ all → made ++ synthetic_oneofs (onto made names) (lent (drop (i + 1) fields)) ≡ all
step_made names done made all fields i f h is optional grown before = search (rules, rest_at, onto-append, append_assoc)
