-- The fault that is chosen of several, and that of a list: what is said of each is said of it, and it comes after none.
use Rattle.std.proofs.Common.{◌≡◌, ◌∙◌, inr, ℕ, Bool, true, false, cond, not, nat_lt, nat_le, nat_eq, ◌&&◌, ◌||◌, List, [], ◌∷◌, ◌++◌, Option, Some, None, sym, ap, subst, refl, arith, rules}
use Rattle.std.specs.List.{list_all, list_any, AllByRecursion}
use Rattle.std.proofs.lemmas.Bool.{false≢true}
use Rattle.std.proofs.lemmas.Bool.Decides.{nat_tests}
use Rattle.std.proofs.lemmas.List.{append-nil, append_assoc}
use Rattle.pg_schema.proofs.lemmas.rules.PairLemmas.{and_left, and_right, and_both}
use Rattle.pg_check.specs.declared.rules.fault.Fault.{Fault}
use Rattle.pg_check.specs.declared.rules.fault.Rule.{Rule}
use Rattle.pg_check.specs.inner.Faults.{broken, broken_at, chosen, earlier, earliest, first_fault, is_before, or_else, order}
use Rattle.pg_check.specs.rules.Firsts.{IsBehind, IsFirst, IsFirstAgain, IsNotAfter, IsOneOf}
use Rattle.pg_check.specs.inner.NumberFaults.{first_again, first_such}
use Rattle.pg_check.proofs.lemmas.rules.FirstLaws.{new_item, old_item}
use Rattle.pg_check.proofs.lemmas.rules.NoneLaws.{none_again}

-- ---- what is said of a fault, if there is one

abbrev pub Meets : (Fault → Type 0) → Option Fault → Type 0
Meets P o = (f : Fault) → o ≡ Some f → P f

pub none_meets : (P : Fault → Type 0) → Meets P None
none_meets P f h = absurd (cc (h))

pub earlier_meets : (P : Fault → Type 0) (a b : Option Fault) → Meets P a → Meets P b → Meets P (earlier a b)
earlier_meets P None b one other f h = other f h
earlier_meets P (Some a) None one other f h = one f h
earlier_meets P (Some a) (Some b) one other f h = by (is_before a b) h
  where
    by : (c : Bool) → Some (chosen c a b) ≡ Some f → P f
    by true e = one f e
    by false e = other f e

pub broken_meets : (P : Fault → Type 0) (rule : Rule) (o : Option ℕ) → ((n : ℕ) → o ≡ Some n → P (broken_at rule n)) → Meets P (broken rule o)
broken_meets P rule o k f h = grind arith

behind_more : {X : Type 0} (Keeps : X → Type 0) (x : X) (xs : List X) (y : X) → Keeps x → IsBehind Keeps xs y → IsBehind Keeps (x ∷ xs) y
behind_more Keeps x xs y keeps h = record { before = x ∷ h.before; after = h.after; is = ap (λ ys. x ∷ ys) h.is; before_keep = (keeps, h.before_keep) }

pub first_meets : {X : Type 0} (P : Fault → Type 0) (fault : X → Option Fault) (Keeps : X → Type 0) → ((x : X) → fault x ≡ None → Keeps x) → (xs : List X)
    → ((x : X) → IsBehind Keeps xs x → Meets P (fault x)) → Meets P (first_fault fault xs)
first_meets P fault Keeps keep [] k f h = absurd (cc (h))
first_meets P fault Keeps keep (x ∷ xs) k f h = by (fault x) refl h (first_meets P fault Keeps keep xs)
  where
    by : (o : Option Fault) → fault x ≡ o → or_else o (first_fault fault xs) ≡ Some f
        → (((y : _) → IsBehind Keeps xs y → Meets P (fault y)) → Meets P (first_fault fault xs)) → P f
    by None e g others = others (λ y b. k y (behind_more Keeps x xs y (keep x e) b)) f g
    by (Some a) e g others = k x (record { before = []; after = xs; is = refl; before_keep = tt }) f (e ∙ g)

pub one_more : {X : Type 0} (x : X) (xs : List X) (y : X) → IsOneOf xs y → IsOneOf (x ∷ xs) y
one_more x xs y h = record { before = x ∷ h.before; after = h.after; is = ap (λ ys. x ∷ ys) h.is }

pub earliest_meets : {X : Type 0} (P : Fault → Type 0) (fault : X → Option Fault) (found : Option Fault) (xs : List X) → Meets P found
    → ((x : X) → IsOneOf xs x → Meets P (fault x)) → Meets P (earliest fault found xs)
earliest_meets P fault found [] one k = one
earliest_meets P fault found (x ∷ xs) one k =
    earliest_meets P fault (earlier found (fault x)) xs
    (earlier_meets P found (fault x) one (k x (record { before = []; after = xs; is = refl }))) (λ y b. k y (one_more x xs y b))

-- ---- a fault is there that doesn't come after a declaration

abbrev pub IsFound : Option Fault → (declared code : ℕ) → Type 0
IsFound None declared code = ⊥
IsFound (Some f) declared code = IsNotAfter f.declared (order f.rule) declared code

through : (a b c d e f : ℕ) → IsNotAfter a b c d → IsNotAfter c d e f → IsNotAfter a b e f
through a b c d e f h7 h8 = grind arith

before_is : (a b c d : ℕ) → (nat_lt a c || (nat_eq a c && nat_le b d)) ≡ false → IsNotAfter c d a b
before_is a b c d h = grind (arith, nat_tests)

before_is_not : (a b c d : ℕ) → (nat_lt a c || (nat_eq a c && nat_le b d)) ≡ true → IsNotAfter a b c d
before_is_not a b c d h = grind (arith, nat_tests)

pub found_left : (a b : Option Fault) (d c : ℕ) → IsFound a d c → IsFound (earlier a b) d c
found_left None b d c h = absurd h
found_left (Some f) None d c h = h
found_left (Some f) (Some g) d c h = by (is_before f g) refl
  where
    by : (t : Bool) → is_before f g ≡ t → IsFound (Some (chosen t f g)) d c
    by true e = h
    by false e = through g.declared (order g.rule) f.declared (order f.rule) d c (before_is f.declared (order f.rule) g.declared (order g.rule) e) h

pub found_right : (a b : Option Fault) (d c : ℕ) → IsFound b d c → IsFound (earlier a b) d c
found_right None b d c h = h
found_right (Some f) None d c h = absurd h
found_right (Some f) (Some g) d c h = by (is_before f g) refl
  where
    by : (t : Bool) → is_before f g ≡ t → IsFound (Some (chosen t f g)) d c
    by true e = through f.declared (order f.rule) g.declared (order g.rule) d c (before_is_not f.declared (order f.rule) g.declared (order g.rule) e) h
    by false e = h

pub broken_found : (rule : Rule) (o : Option ℕ) (n : ℕ) → o ≡ Some n → IsFound (broken rule o) n (order rule)
broken_found rule o n h = subst (λ p. IsFound (broken rule p) n (order rule)) (sym h) (inr (refl, omega arith))

or_else_found : (a b : Option Fault) (d c : ℕ) → IsFound a d c → IsFound (or_else a b) d c
or_else_found a b d c h = grind arith

found_behind : {X : Type 0} (fault : X → Option Fault) (Keeps : X → Type 0) → ((x : X) → Keeps x → fault x ≡ None) → (before after : List X) (x : X) (d c : ℕ)
    → AllByRecursion Keeps before → IsFound (fault x) d c → IsFound (first_fault fault (before ++ x ∷ after)) d c
found_behind fault Keeps none [] after x d c keep h = or_else_found (fault x) (first_fault fault after) d c h
found_behind fault Keeps none (y ∷ ys) after x d c keep h = search (rules, found_behind fault Keeps none ys after x d c keep.1 h)

pub first_found : {X : Type 0} (fault : X → Option Fault) (Keeps : X → Type 0) → ((x : X) → Keeps x → fault x ≡ None) → (xs : List X) (x : X) (d c : ℕ)
    → IsBehind Keeps xs x → IsFound (fault x) d c → IsFound (first_fault fault xs) d c
first_found fault Keeps none xs x d c b h = search (rules, found_behind)

found_stays : {X : Type 0} (fault : X → Option Fault) (found : Option Fault) (xs : List X) (d c : ℕ) → IsFound found d c → IsFound (earliest fault found xs) d c
found_stays fault found [] d c h = h
found_stays fault found (x ∷ xs) d c h = found_stays fault (earlier found (fault x)) xs d c (found_left found (fault x) d c h)

found_one : {X : Type 0} (fault : X → Option Fault) (found : Option Fault) (before after : List X) (x : X) (d c : ℕ)
    → IsFound (fault x) d c → IsFound (earliest fault found (before ++ x ∷ after)) d c
found_one fault found [] after x d c h = found_stays fault (earlier found (fault x)) after d c (found_right found (fault x) d c h)
found_one fault found (y ∷ ys) after x d c h = found_one fault (earlier found (fault y)) ys after x d c h

pub earliest_found : {X : Type 0} (fault : X → Option Fault) (found : Option Fault) (xs : List X) (x : X) (d c : ℕ)
    → IsOneOf xs x → IsFound (fault x) d c → IsFound (earliest fault found xs) d c
earliest_found fault found xs x d c b h = subst (λ ys. IsFound (earliest fault found ys) d c) (sym b.is) (found_one fault found b.before b.after x d c h)

-- ---- the first that doesn't pass a test

first_more : {X : Type 0} (keeps : X → Bool) (x : X) (xs : List X) (y : X) → keeps x ≡ true → IsFirst keeps xs y → IsFirst keeps (x ∷ xs) y
first_more keeps x xs y pass h = record { before = x ∷ h.before; after = h.after; is = ap (λ ys. x ∷ ys) h.is; before_pass = and_both _ _ pass h.before_pass; fails = h.fails }

pub such_reported : {X : Type 0} (P : ℕ → Type 0) (test keeps : X → Bool) (place : X → ℕ) → ((x : X) → not (test x) ≡ keeps x) → (xs : List X)
    → ((x : X) → IsFirst keeps xs x → P (place x)) → (n : ℕ) → first_such test place xs ≡ Some n → P n
such_reported P test keeps place iff [] k n h = absurd (cc (h))
such_reported P test keeps place iff (x ∷ xs) k n h = by (test x) (iff x) h (such_reported P test keeps place iff xs)
  where
    by : (b : Bool) → not b ≡ keeps x → cond b (Some (place x)) (first_such test place xs) ≡ Some n
        → (((y : _) → IsFirst keeps xs y → P (place y)) → (m : ℕ) → first_such test place xs ≡ Some m → P m) → P n
    by true e g others =
        let same : place x ≡ n = cc (g) in
        subst P same (k x (record { before = []; after = xs; is = refl; before_pass = refl; fails = sym e }))
    by false e g others = others (λ y first. k y (first_more keeps x xs y (sym e) first)) n g

such_at : {X : Type 0} (test keeps : X → Bool) (place : X → ℕ) → ((x : X) → not (test x) ≡ keeps x) → (before after : List X) (x : X)
    → list_all keeps before ≡ true → keeps x ≡ false → first_such test place (before ++ x ∷ after) ≡ Some (place x)
such_at test keeps place iff [] after x pass fails = search (rules, false≢true)
such_at test keeps place iff (y ∷ ys) after x pass fails = search (rules, and_right, false≢true, and_left, such_at test keeps place iff ys after x (and_right (keeps y) _ pass) fails)

pub such_there : {X : Type 0} (test keeps : X → Bool) (place : X → ℕ) → ((x : X) → not (test x) ≡ keeps x) → (xs : List X) (x : X)
    → IsFirst keeps xs x → first_such test place xs ≡ Some (place x)
such_there test keeps place iff xs x h = ap (first_such test place) h.is ∙ such_at test keeps place iff h.before h.after x h.before_pass h.fails

-- ---- the first that is the same as one before it

again_from : {X : Type 0} (P : ℕ → Type 0) (same : X → X → Bool) (place : X → ℕ) (front xs : List X)
    → ((before after : List X) (x : X) → xs ≡ before ++ x ∷ after → first_again same place front before ≡ None → list_any (same x) (front ++ before) ≡ true → P (place x))
    → (n : ℕ) → first_again same place front xs ≡ Some n → P n
again_from P same place front [] k n h = absurd (cc (h))
again_from P same place front (x ∷ xs) k n h = by (list_any (same x) front) refl h (again_from P same place (front ++ x ∷ []) xs)
  where
    by : (b : Bool) → list_any (same x) front ≡ b → cond b (Some (place x)) (first_again same place (front ++ x ∷ []) xs) ≡ Some n
        → (((before after : List _) (y : _) → xs ≡ before ++ y ∷ after → first_again same place (front ++ x ∷ []) before ≡ None
        → list_any (same y) ((front ++ x ∷ []) ++ before) ≡ true → P (place y))
        → (m : ℕ) → first_again same place (front ++ x ∷ []) xs ≡ Some m → P m) → P n
    by true e g others =
        let at : place x ≡ n = cc (g) in
        subst P at (k [] xs x refl refl (ap (list_any (same x)) (append-nil front) ∙ e))
    by false e g others = others (λ before after y is none any. k (x ∷ before) after y (ap (λ ys. x ∷ ys) is)
        (new_item same place front x before e ∙ none)
        (subst (λ ys. list_any (same y) ys ≡ true) (append_assoc front (x ∷ []) before) any)) n g

pub again_reported : {X : Type 0} (P : ℕ → Type 0) (same : X → X → Bool) (place : X → ℕ) (xs : List X)
    → ((x : X) → IsFirstAgain same xs x → P (place x)) → (n : ℕ) → first_again same place [] xs ≡ Some n → P n
again_reported P same place xs k n h =
    again_from P same place [] xs (λ before after x is none any. k x (record {
      before = before;
      after = after;
      is = is;
      before_apart = (none_again same place before).0 none;
      again = any;
    })) n h

again_at : {X : Type 0} (same : X → X → Bool) (place : X → ℕ) (front before after : List X) (x : X)
    → first_again same place front before ≡ None → list_any (same x) (front ++ before) ≡ true → first_again same place front (before ++ x ∷ after) ≡ Some (place x)
again_at same place front [] after x none any = old_item same place front x after (subst (λ ys. list_any (same x) ys ≡ true) (append-nil front) any)
again_at same place front (y ∷ ys) after x none any = search (rules, old_item, new_item, append_assoc, again_at same place (front ++ y ∷ []) ys after x)

pub again_there : {X : Type 0} (same : X → X → Bool) (place : X → ℕ) (xs : List X) (x : X) → IsFirstAgain same xs x → first_again same place [] xs ≡ Some (place x)
again_there same place xs x h = search (rules, again_at, none_again)
