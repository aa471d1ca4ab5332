-- Rising numbers, and oneofs with a member each.
use Rattle.std.proofs.Common.{◌≡◌, ℕ, zero, suc, ◌+◌, ◌<◌, ◌≤◌, Bool, true, false, ◌&&◌, ◌||◌, cond, nat_eq, nat_lt, List, [], ◌∷◌, length, take, drop, get_or, add-one, arith, sym, ◌∙◌, ap, subst, refl}
use Rattle.std.specs.List.{list_all, list_any}
use Rattle.std.proofs.Math.Seq.{drop-cons}
use Rattle.std.proofs.lemmas.List.{take_all}
use Rattle.std.proofs.lemmas.List.Folds.{list_all_more, list_any_more}
use Rattle.std.proofs.lemmas.Bool.Decides.{nat_tests}
use Rattle.pg_schema.specs.declared.parts.field.Field.{Field}
use Rattle.std.specs.BTreeSet.{BTreeSet, contains}
use Rattle.std.specs.Ordering.{is_eq, nat_cmp}
use Rattle.pg_schema.specs.rules.Messages.{numbers, is_member, have_members}
use Rattle.pg_schema.specs.inner.Sets.{AreMarks, IsNumberSet}
use Rattle.pg_schema.specs.rules.Pairs.{is_rising}

all_above : (b n : ℕ) (ns : List ℕ) → b < n → list_all (nat_lt n) ns ≡ true → list_all (nat_lt b) ns ≡ true
all_above b n [] lt h = refl
all_above b n (m ∷ ms) lt h = both (nat_lt n m) (nat_lt b m) (list_all (nat_lt n) ms) (list_all (nat_lt b) ms) (λ t. grind (arith, nat_tests)) (all_above b n ms lt) h
  where
    both : (p q r s : Bool) → (p ≡ true → q ≡ true) → (r ≡ true → s ≡ true) → (p && r) ≡ true → (q && s) ≡ true
    both true true r s f g h = g h
    both true false r s f g h = f refl
    both false q r s f g h = absurd (cc (h))

absorbed : (p q r s : Bool) → p ≡ true → (r ≡ true → q ≡ true) → (r && s) ≡ ((p && q) && (r && s))
absorbed true true r s e f = refl
absorbed true false true s e f = absurd (cc (f refl))
absorbed true false false s e f = refl
absorbed false q r s e f = absurd (cc (e))

pub rising_step : (b n : ℕ) (ns : List ℕ) → b < n → is_rising (n ∷ ns) ≡ is_rising (b ∷ n ∷ ns)
rising_step b n ns lt = absorbed (nat_lt b n) (list_all (nat_lt b) ns) (list_all (nat_lt n) ns) (is_rising ns) (grind (arith, nat_tests)) (all_above b n ns lt)

pub item_and_rest : {A : Type 0} (xs : List A) (i : ℕ) (x : A) → i < length xs → x ≡ get_or xs i x → drop i xs ≡ x ∷ drop (i + 1) xs
item_and_rest xs i x h is = rw (add-one, drop-cons xs i x h) (ap (λ y. y ∷ drop (suc i) xs) (sym is))

and_swapped : (a b : Bool) → (a && b) ≡ (b && a)
and_swapped true true = refl
and_swapped true false = refl
and_swapped false true = refl
and_swapped false false = refl

flags_below : (fields : List Field) (marks : List Bool) (n : ℕ) → n ≤ length marks → ((k : ℕ) → k < length marks → get_or marks k false ≡ list_any (is_member k) fields)
    → list_all (λ flag. flag) (take n marks) ≡ have_members n fields
flags_below fields marks zero le each = refl
flags_below fields marks (suc n) le each =
    let within : n < length marks = omega (arith, le) in
    subst (λ m. list_all (λ flag. flag) (take m marks) ≡ have_members (suc n) fields) (add-one n)
    (list_all_more (λ flag. flag) marks n false within
    ∙ (ap (λ b. b && get_or marks n false) (flags_below fields marks n (omega (arith, le)) each)
    ∙ (ap (λ b. have_members n fields && b) (each n within) ∙ and_swapped (have_members n fields) (list_any (is_member n) fields))))

pub flags_are : (fields : List Field) (oneofs : ℕ) (marks : List Bool) → AreMarks fields oneofs marks → list_all (λ flag. flag) marks ≡ have_members oneofs fields
flags_are fields oneofs marks is =
    subst (λ n. list_all (λ flag. flag) marks ≡ have_members n fields) is.all
    (subst (λ ms. list_all (λ flag. flag) ms ≡ have_members (length marks) fields) (take_all (length marks) marks (omega arith))
    (flags_below fields marks (length marks) (omega arith) (λ k h. is.each k (subst (λ n. k < n) is.all h))))

found_or : (a b : Bool) (x : Bool) → a ≡ x → cond a true b ≡ (b || x)
found_or true true x e = subst (λ y. true ≡ (true || y)) e refl
found_or true false x e = e
found_or false true x e = refl
found_or false false x e = e

equal_tests : (m n : ℕ) → is_eq (nat_cmp m n) ≡ nat_eq n m
equal_tests m n = grind (arith, nat_tests)

-- one more number
pub number_more : (numbers : List ℕ) (i x : ℕ) (old new : BTreeSet ℕ) → i < length numbers → x ≡ get_or numbers i 0
    → ((q : ℕ) → contains nat_cmp new q ≡ cond (is_eq (nat_cmp x q)) true (contains nat_cmp old q)) → IsNumberSet (take i numbers) old → IsNumberSet (take (i + 1) numbers) new
number_more numbers i x old new h is step set n =
    step n ∙ (ap (λ b. cond (is_eq (nat_cmp x n)) true b) (set n)
    ∙ (found_or (is_eq (nat_cmp x n)) (list_any (nat_eq n) (take i numbers)) (nat_eq n x) (equal_tests x n)
    ∙ (ap (λ y. list_any (nat_eq n) (take i numbers) || nat_eq n y) is ∙ sym (list_any_more (nat_eq n) numbers i 0 h))))
