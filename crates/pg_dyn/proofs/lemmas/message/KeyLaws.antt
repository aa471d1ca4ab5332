-- Entries in the order of their keys.
use Rattle.std.proofs.Common.{Bor, ◌≡◌, ℕ, ℤ, zero, suc, ◌<◌, ◌≤◌, ◌+◌, List, [], ◌∷◌, length, map, filter, get_or, Bool, true, false, true≢false, cond, ◌⊎◌, inl, inr, ⊎_elim, refl, ap, ap₂, sym, subst, ◌∙◌, arith, add-one, rules}
use Rattle.std.specs.Prelude.{◌<ℤ◌, sum_by}
use Rattle.std.specs.List.{AllByRecursion}
use Rattle.std.specs.List.Sorted.{IsPermutation, IsSortedBy}
use Rattle.std.specs.Cmp.{IsTotalOrder, IsStrictWeakOrder}
use Rattle.std.specs.Cmp.Lexicographic.{slice_cmp}
use Rattle.std.specs.Ordering.{is_lt, int_cmp, nat_cmp, ordering_reverse, ordering_then}
use Rattle.std.specs.declared.cmp.Ordering.{Ordering}
use Rattle.std.specs.declared.cmp.Ordering.TheVariants.{Less, Equal, Greater}
use Rattle.std.proofs.lemmas.Cmp.{by_ranked, int_cmp_total, int_ranked, nat_list_cmp_total, on_total, ranked, then_total}
use Rattle.std.proofs.lemmas.List.{get_or-map, length-map}
use Rattle.std.proofs.lemmas.List.MinMax.{ranks_by}
use Rattle.std.proofs.lemmas.List.Sums.{length-filter}
use Rattle.std.proofs.lemmas.List.Sorted.{All-permutation, sum_by-IsPermutation}
use Rattle.pg_dyn.specs.declared.message.Value.{Value}
use Rattle.pg_dyn.specs.reading.Content.{leaf_bytes}
use Rattle.pg_dyn.specs.setting.ContentFaults.{HasEntryTwice, PassTwice}
use Rattle.pg_dyn.specs.fitting.ContentFits.{KeysRise}
use Rattle.pg_dyn.specs.message.KeyOrder.{AreAlike, AreSame, IsNumber, IsText, number_in, rank_cmp, ranks_below}
use Rattle.pg_dyn.specs.message.Message.{Leaf, Int, F32, F64, Bytes, key_cmp, leaf_eq}
use Rattle.pg_dyn.specs.message.Seen.{IsKey, leaf_of}
use Rattle.pg_dyn.proofs.lemmas.fitting.FitsSteps.{IsBelow, fact_at, rises_from, same_default}
use Rattle.pg_dyn.proofs.lemmas.word.Leaves.{same_leaf, leaf_eq_self}
use Rattle.pg_dyn.proofs.Lists.{each_weaker}

-- The order is one.

pub rank_total : IsTotalOrder rank_cmp
rank_total = then_total (on_total number_in int_cmp_total) (on_total leaf_bytes nat_list_cmp_total)

pub ranks_entries : IsStrictWeakOrder ranks_below
ranks_entries = ranks_by rank_total (λ (e : Value × Value). leaf_of e.0)

-- Two keys of one kind.

then_equal : (o : Ordering) → ordering_then o Equal ≡ o
then_equal o = grind arith

pub rank_is : (k l : Leaf) → AreSame k l → rank_cmp k l ≡ key_cmp k l
rank_is k l h = grind (arith, then_equal)

less_self : {K : Type 0} (R : K → K → Ordering) → IsTotalOrder R → (x : K) → R x x ≡ Less → ⊥
less_self R o x h = absurd (let flipped : Less ≡ Greater = sym h ∙ o.antisymm x x ∙ ap ordering_reverse h in cc)

pub key_less_self : (k : Leaf) → key_cmp k k ≡ Less → ⊥
key_less_self k h = grind (arith, less_self, int_cmp_total, nat_list_cmp_total)

equal_numbers : (m n : ℤ) → int_cmp m n ≡ Equal → m ≡ n
equal_numbers m n e = by_ranked (m <ℤ n) (m ≡ n) (n <ℤ m) (int_cmp m n) (int_ranked m n (int_cmp m n) refl) (λ o h. absurd (cc)) (λ o h. h) (λ o h. absurd (cc))

equal_bytes : (m n : ℕ) → nat_cmp m n ≡ Equal → m ≡ n
equal_bytes m n e = by_ranked (m < n) (m ≡ n) (n < m) (nat_cmp m n) (ranked m n (nat_cmp m n) refl) (λ o h. absurd (cc)) (λ o h. h) (λ o h. absurd (cc))

equal_texts : (a b : List ℕ) → slice_cmp nat_cmp a b ≡ Equal → a ≡ b
equal_texts [] [] e = refl
equal_texts [] (y ∷ b) e = absurd (cc)
equal_texts (x ∷ a) [] e = absurd (cc)
equal_texts (x ∷ a) (y ∷ b) e = search (rules, equal_texts a b, equal_bytes)

pub equal_leaves : (k l : Leaf) → AreSame k l → rank_cmp k l ≡ Equal → k ≡ l
equal_leaves (Int m) (Int n) h e = ap Int (equal_numbers m n (sym (then_equal (int_cmp m n)) ∙ e))
equal_leaves (Int m) (F32 b) h e = absurd h
equal_leaves (Int m) (F64 b) h e = absurd h
equal_leaves (Int m) (Bytes b) h e = absurd h
equal_leaves (F32 a) l h e = absurd h
equal_leaves (F64 a) l h e = absurd h
equal_leaves (Bytes a) (Int n) h e = absurd h
equal_leaves (Bytes a) (F32 b) h e = absurd h
equal_leaves (Bytes a) (F64 b) h e = absurd h
equal_leaves (Bytes a) (Bytes b) h e = ap Bytes (equal_texts a b e)

-- of two keys of one kind the first is below, or the second, or they are equal
pub compared : (k l : Leaf) → AreSame k l → (key_cmp k l ≡ Less) ⊎ ((key_cmp l k ≡ Less) ⊎ (k ≡ l))
compared k l h = grind (arith, int_cmp_total, equal_numbers, nat_list_cmp_total, equal_texts)

-- Entries of which the keys are alike.

pub number_same : (v w : Value) → IsNumber v → IsNumber w → AreSame (leaf_of v) (leaf_of w)
number_same v w h k = grind arith

bytes_same : (bs : List ℕ) (w : Value) → IsText w → AreSame (Bytes bs) (leaf_of w)
bytes_same bs w h = grind arith

pub text_same : (v w : Value) → IsText v → IsText w → AreSame (leaf_of v) (leaf_of w)
text_same v w h k = grind (arith, bytes_same)

number_key : (v : Value) → IsNumber v → IsKey v
number_key v h = grind arith

text_key : (v : Value) → IsText v → IsKey v
text_key v h = grind arith

pub alike_keys : (es : List (Value × Value)) → AreAlike es → AllByRecursion (λ (e : Value × Value). IsKey e.0) es
alike_keys es h = search (rules, each_weaker, number_key, text_key)

from_places : {A : Type 0} (P : A → Type 0) (xs : List A) → ((k : ℕ) (d : A) → k < length xs → P (get_or xs k d)) → AllByRecursion P xs
from_places P [] h = tt
from_places P (x ∷ xs) h = (h 0 x (omega arith), from_places P xs (λ k d inside. h (suc k) d (omega arith)))

pub alike_at : (es : List (Value × Value)) (i j : ℕ) (d e : Value × Value) → i < length es → j < length es → AreAlike es → AreSame (leaf_of (get_or es i d).0) (leaf_of (get_or es j e).0)
alike_at es i j d e inside there h = search (rules, number_same, fact_at, text_same)

-- what holds of each holds of each in another order
pub each_moved : {A : Type 0} (P : A → Type 0) (xs ys : List A) → IsPermutation xs ys → AllByRecursion P xs → AllByRecursion P ys
each_moved P xs ys moved h = from_places P ys (All-permutation P xs ys moved (λ k d inside. fact_at P xs k d inside h))

pub alike_moved : (es fs : List (Value × Value)) → IsPermutation es fs → AreAlike es → AreAlike fs
alike_moved es fs moved h =
    ⊎_elim (λ n. inl (each_moved (λ (x : Value × Value). IsNumber x.0) es fs moved n)) (λ t. inr (each_moved (λ (x : Value × Value). IsText x.0) es fs moved t)) h

counted : {A : Type 0} (test : A → Bool) (xs : List A) → length (filter test xs) ≡ sum_by (λ x. cond (test x) 1 0) xs
counted test xs = length-filter test xs

-- as many pass a test in another order
pub count_moved : {A : Type 0} (test : A → Bool) (xs ys : List A) → IsPermutation xs ys → length (filter test ys) ≡ length (filter test xs)
count_moved test xs ys moved = counted test ys ∙ sum_by-IsPermutation (λ x. cond (test x) 1 0) xs ys moved ∙ sym (counted test xs)

pub twice_moved : (es fs : List (Value × Value)) → IsPermutation es fs → HasEntryTwice fs → HasEntryTwice es
twice_moved es fs moved h = (h.0, let count = count_moved (λ (e : Value × Value). leaf_eq (leaf_of e.0) h.0) es fs moved in omega (arith, h.1, count))

pub twice_back : (es fs : List (Value × Value)) → IsPermutation es fs → HasEntryTwice es → HasEntryTwice fs
twice_back es fs moved h = (h.0, let count = count_moved (λ (e : Value × Value). leaf_eq (leaf_of e.0) h.0) es fs moved in omega (arith, h.1, count))

-- two neighbours that pass a test are two that do
pub neighbours_twice : {A : Type 0} (test : A → Bool) (xs : List A) (k : ℕ) (d e : A) → suc k < length xs → test (get_or xs k d) ≡ true → test (get_or xs (suc k) e) ≡ true → PassTwice test xs
neighbours_twice test [] k d e inside one two = absurd (omega arith)
neighbours_twice test (x ∷ []) k d e inside one two = absurd (omega arith)
neighbours_twice test (x ∷ y ∷ xs) zero d e inside one two = search (rules, arith)
neighbours_twice test (x ∷ y ∷ xs) (suc k) d e inside one two =
    search (rules, arith, neighbours_twice test (y ∷ xs) k d e)

-- neighbours that rank alike have one key
pub equal_twice : (es : List (Value × Value)) (k : ℕ) (d e : Value × Value) → suc k < length es → AreAlike es → rank_cmp (leaf_of (get_or es k d).0) (leaf_of (get_or es (suc k) e).0) ≡ Equal → HasEntryTwice es
equal_twice es k d e inside alike equal =
    let first = leaf_of (get_or es k d).0 in
    let next = leaf_of (get_or es (suc k) e).0 in
    let pair = alike_at es k (suc k) d e (omega arith) inside alike in
    let same : first ≡ next = equal_leaves first next pair equal in (
      next,
      neighbours_twice (λ (x : Value × Value). leaf_eq (leaf_of x.0) (leaf_of (get_or es (suc k) e).0)) es k d e inside (ap (λ l. leaf_eq l (leaf_of (get_or es (suc k) e).0)) same ∙ leaf_eq_self (leaf_of (get_or es (suc k) e).0)) (leaf_eq_self (leaf_of (get_or es (suc k) e).0)),
    )

one_default : (es : List (Value × Value)) (k : ℕ) (d e : Value × Value) → suc k < length es → IsSortedBy ranks_below es → ranks_below (get_or es (suc k) e) (get_or es k d) ≡ false
one_default es k d e inside sorted =
    search (rules, arith, same_default es (suc k) d e inside, add-one k)

-- entries in order, of which no neighbours are equal, rise
pub sorted_rise : (es : List (Value × Value)) → AreAlike es → IsSortedBy ranks_below es → ((k : ℕ) (d e : Value × Value) → suc k < length es → rank_cmp (leaf_of (get_or es k d).0) (leaf_of (get_or es (suc k) e).0) ≡ Equal → ⊥) → KeysRise es
sorted_rise es alike sorted apart = rises_from es (λ k d e inside. below k d e inside)
  where
    below : (k : ℕ) (d e : Value × Value) → suc k < length es → IsBelow (get_or es k d) (get_or es (suc k) e)
    below k d e inside =
        let first = leaf_of (get_or es k d).0 in
        let next = leaf_of (get_or es (suc k) e).0 in
        of (rank_cmp first next) refl
      where
        not_above : is_lt (rank_cmp (leaf_of (get_or es (suc k) e).0) (leaf_of (get_or es k d).0)) ≡ false
        not_above = one_default es k d e inside sorted

        of : (o : Ordering) → rank_cmp (leaf_of (get_or es k d).0) (leaf_of (get_or es (suc k) e).0) ≡ o → IsBelow (get_or es k d) (get_or es (suc k) e)
        of Less is = sym (rank_is (leaf_of (get_or es k d).0) (leaf_of (get_or es (suc k) e).0) (alike_at es k (suc k) d e (omega arith) inside alike)) ∙ is
        of Equal is = absurd (apart k d e inside is)
        of Greater is =
            absurd (true≢false (sym (ap is_lt (rank_total.antisymm (leaf_of (get_or es (suc k) e).0) (leaf_of (get_or es k d).0) ∙ ap ordering_reverse is)) ∙ not_above))

none_equal : (key : Leaf) (es : List (Value × Value)) → AllByRecursion (λ (x : Value × Value). key_cmp key (leaf_of x.0) ≡ Less) es → filter (λ (x : Value × Value). leaf_eq (leaf_of x.0) key) es ≡ []
none_equal key [] h = refl
none_equal key (e ∷ es) h = search (rules, none_equal key es h.1, key_less_self, same_leaf)

at_most_one : (es : List (Value × Value)) (key : Leaf) → KeysRise es → length (filter (λ (x : Value × Value). leaf_eq (leaf_of x.0) key) es) ≤ 1
at_most_one [] key rise = omega arith
at_most_one (e ∷ es) key rise = of (leaf_eq (leaf_of e.0) key) refl (at_most_one es key rise.1)
  where
    of : (b : Bool) → leaf_eq (leaf_of e.0) key ≡ b → length (filter (λ (x : Value × Value). leaf_eq (leaf_of x.0) key) es) ≤ 1 → length (cond b (e ∷ filter (λ (x : Value × Value). leaf_eq (leaf_of x.0) key) es) (filter (λ (x : Value × Value). leaf_eq (leaf_of x.0) key) es)) ≤ 1
    of true is rest =
        let none : filter (λ (x : Value × Value). leaf_eq (leaf_of x.0) key) es ≡ [] =
        none_equal key es (subst (λ k. AllByRecursion (λ (x : Value × Value). key_cmp k (leaf_of x.0) ≡ Less) es) (same_leaf (leaf_of e.0) key is) rise.0) in
        omega (arith, ap length none)
    of false is rest = rest

-- in rising entries each key is there once
pub rising_once : (es : List (Value × Value)) → KeysRise es → HasEntryTwice es → ⊥
rising_once es rise (key, two) = absurd (let one = at_most_one es key rise in omega arith)

-- a key twice among later entries, and the key of the first again
pub later_twice : (e : Value × Value) (es : List (Value × Value)) → HasEntryTwice es → HasEntryTwice (e ∷ es)
later_twice e es (key, two) = (key, of (leaf_eq (leaf_of e.0) key))
  where
    of : (b : Bool) → 1 < length (cond b (e ∷ filter (λ (x : Value × Value). leaf_eq (leaf_of x.0) key) es) (filter (λ (x : Value × Value). leaf_eq (leaf_of x.0) key) es))
    of true = omega (arith, two)
    of false = two

-- Entries by references.

some_in : {A : Type 0} (xs : List A) → 0 < length xs → A
some_in [] inside = absurd (omega arith)
some_in (x ∷ xs) inside = x

abbrev pub Behind : Type 0
Behind = Bor (Value × Value)

abbrev pub shown : List Behind → List (Value × Value)
shown bs = map (λ (b : Behind). b.now) bs

pub sorted_shown : (bs : List Behind) → IsSortedBy (λ (a : Behind) (b : Behind). ranks_below a.now b.now) bs → IsSortedBy ranks_below (shown bs)
sorted_shown bs sorted = λ k d low inside.
    let len : length (shown bs) ≡ length bs = length-map bs (λ (b : Behind). b.now) in
    let b = some_in bs (omega (arith, inside, len)) in
    let first = get_or-map (λ (x : Behind). x.now) bs k b d (omega (arith, inside, len)) in
    let next = get_or-map (λ (x : Behind). x.now) bs (k + 1) b d (omega (arith, inside, len)) in
    ap₂ ranks_below next first ∙ sorted k b low (omega (arith, inside, len))

pub equal_behind : (bs : List Behind) (k : ℕ) (d e : Behind) → suc k < length bs → AreAlike (shown bs) → rank_cmp (leaf_of (get_or bs k d).now.0) (leaf_of (get_or bs (suc k) e).now.0) ≡ Equal → HasEntryTwice (shown bs)
equal_behind bs k d e inside alike equal =
    let len : length (shown bs) ≡ length bs = length-map bs (λ (x : Behind). x.now) in
    let first : get_or (shown bs) k d.now ≡ (get_or bs k d).now = get_or-map (λ (x : Behind). x.now) bs k d d.now (omega arith) in
    let next : get_or (shown bs) (suc k) e.now ≡ (get_or bs (suc k) e).now = get_or-map (λ (x : Behind). x.now) bs (suc k) e e.now inside in
    equal_twice (shown bs) k d.now e.now (omega (arith, inside, len)) alike (ap₂ (λ (x : Value × Value) (y : Value × Value). rank_cmp (leaf_of x.0) (leaf_of y.0)) first next ∙ equal)

pub once_behind : (bs : List Behind) → AreAlike (shown bs) → IsSortedBy ranks_below (shown bs) → ((k : ℕ) (d e : Behind) → k + 1 < length bs → rank_cmp (leaf_of (get_or bs k d).now.0) (leaf_of (get_or bs (k + 1) e).now.0) ≡ Equal → ⊥) → HasEntryTwice (shown bs) → ⊥
once_behind bs alike sorted apart =
    rising_once (shown bs) (sorted_rise (shown bs) alike sorted (λ k d e inside equal.
    let len : length (shown bs) ≡ length bs = length-map bs (λ (x : Behind). x.now) in
    let b = some_in bs (omega (arith, inside, len)) in
    let first = get_or-map (λ (x : Behind). x.now) bs k b d (omega (arith, inside, len)) in
    let next = get_or-map (λ (x : Behind). x.now) bs (suc k) b e (omega (arith, inside, len)) in
    let here : rank_cmp (leaf_of (get_or bs k b).now.0) (leaf_of (get_or bs (suc k) b).now.0) ≡ Equal = sym (ap₂ (λ (x : Value × Value) (y : Value × Value). rank_cmp (leaf_of x.0) (leaf_of y.0)) first next) ∙ equal in
    apart k b b (omega (arith, inside, len)) (subst (λ i. rank_cmp (leaf_of (get_or bs k b).now.0) (leaf_of (get_or bs i b).now.0) ≡ Equal) (sym (add-one k)) here)))
