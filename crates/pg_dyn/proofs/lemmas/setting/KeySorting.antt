-- Entries sorted in any way are the entries by rising key.
use Rattle.std.proofs.Common.{◌≡◌, ℕ, ◌<◌, List, [], ◌∷◌, length, map, filter, Bool, true, false, true≢false, cond, if◌then◌else◌, Some, ◌⊎◌, inl, inr, ⊎_elim, refl, ap, sym, subst, ◌∙◌, arith, rules}
use Rattle.std.specs.List.{AllByRecursion}
use Rattle.std.specs.List.Sorted.{IsPermutation}
use Rattle.std.specs.Ordering.{is_lt}
use Rattle.std.specs.declared.cmp.Ordering.TheVariants.{Less}
use Rattle.std.proofs.lemmas.List.Sorted.{IsPermutation-sym}
use Rattle.pg_dyn.specs.declared.message.Value.{Value}
use Rattle.pg_dyn.specs.setting.ContentFaults.{HasEntryTwice}
use Rattle.pg_dyn.specs.fitting.ContentFits.{KeysRise}
use Rattle.pg_dyn.specs.message.KeptParts.{KeptItem}
use Rattle.pg_dyn.specs.message.KeyOrder.{AreAlike, AreSame, IsNumber, IsText}
use Rattle.pg_dyn.specs.message.Message.{Part, key_cmp, leaf_eq}
use Rattle.pg_dyn.specs.message.Seen.{item_seen, leaf_of}
use Rattle.pg_dyn.specs.setting.Setting.{put_entry, by_rising_key}
use Rattle.pg_dyn.proofs.lemmas.fitting.FitsSteps.{key_trans}
use Rattle.pg_dyn.proofs.lemmas.reading.Standing.{StandsIn, all_in, moved_in, one_in, passes_once}
use Rattle.pg_dyn.proofs.lemmas.message.KeyLaws.{compared, later_twice, number_same, text_same}
use Rattle.pg_dyn.proofs.lemmas.word.Leaves.{leaf_eq_self}
use Rattle.pg_dyn.proofs.lemmas.reading.entries.LastOfKeys.{same_rising}

abbrev Entry : Type 0
Entry = Value × Value

abbrev pub entry_part : ℕ → Entry → Part KeptItem
entry_part n e = record { number = n; key = Some (leaf_of e.0); item = item_seen false e.1 }

-- The definition, on entries.

abbrev is_below : Entry → Entry → Bool
is_below a b = is_lt (key_cmp (leaf_of a.0) (leaf_of b.0))

put : Entry → List Entry → List Entry
put e [] = e ∷ []
put e (f ∷ fs) = if is_below f e then f ∷ put e fs else e ∷ f ∷ fs

sort : List Entry → List Entry
sort [] = []
sort (e ∷ es) = put e (sort es)

put_same : (n : ℕ) (e : Entry) (fs : List Entry) → put_entry (entry_part n e) (map (entry_part n) fs) ≡ map (entry_part n) (put e fs)
unfolding put
put_same n e [] = refl
put_same n e (f ∷ fs) = of (is_below f e) (put_same n e fs)
  where
    of : (b : Bool) → put_entry (entry_part n e) (map (entry_part n) fs) ≡ map (entry_part n) (put e fs)
        → cond b (entry_part n f ∷ put_entry (entry_part n e) (map (entry_part n) fs)) (entry_part n e ∷ entry_part n f ∷ map (entry_part n) fs) ≡ map (entry_part n) (cond b (f ∷ put e fs) (e ∷ f ∷ fs))
    of true rest = ap (λ ps. entry_part n f ∷ ps) rest
    of false rest = refl

sort_same : (n : ℕ) (es : List Entry) → by_rising_key (map (entry_part n) es) ≡ map (entry_part n) (sort es)
unfolding sort
sort_same n [] = refl
sort_same n (e ∷ es) = ap (put_entry (entry_part n e)) (sort_same n es) ∙ put_same n e (sort es)

put_in : (x e : Entry) (fs : List Entry) → (x ≡ e) ⊎ StandsIn x fs → StandsIn x (put e fs)
unfolding put
put_in x e [] (inl h) = inl h
put_in x e [] (inr h) = absurd h
put_in x e (f ∷ fs) h = of (is_below f e) h (λ k. put_in x e fs k)
  where
    of : (b : Bool) → (x ≡ e) ⊎ StandsIn x (f ∷ fs) → ((x ≡ e) ⊎ StandsIn x fs → StandsIn x (put e fs)) → StandsIn x (cond b (f ∷ put e fs) (e ∷ f ∷ fs))
    of true (inl k) rest = inr (rest (inl k))
    of true (inr (inl k)) rest = inl k
    of true (inr (inr k)) rest = inr (rest (inr k))
    of false (inl k) rest = inl k
    of false (inr k) rest = inr k

in_put : (x e : Entry) (fs : List Entry) → StandsIn x (put e fs) → (x ≡ e) ⊎ StandsIn x fs
unfolding put
in_put x e [] h = h
in_put x e (f ∷ fs) h = of (is_below f e) h (λ k. in_put x e fs k)
  where
    of : (b : Bool) → StandsIn x (cond b (f ∷ put e fs) (e ∷ f ∷ fs)) → (StandsIn x (put e fs) → (x ≡ e) ⊎ StandsIn x fs) → (x ≡ e) ⊎ StandsIn x (f ∷ fs)
    of true (inl k) rest = inr (inl k)
    of true (inr k) rest = ⊎_elim (λ a. inl a) (λ b. inr (inr b)) (rest k)
    of false h rest = h

sort_in : (x : Entry) (es : List Entry) → StandsIn x es → StandsIn x (sort es)
unfolding sort
sort_in x [] h = h
sort_in x (e ∷ es) (inl h) = put_in x e (sort es) (inl h)
sort_in x (e ∷ es) (inr h) = put_in x e (sort es) (inr (sort_in x es h))

in_sort : (x : Entry) (es : List Entry) → StandsIn x (sort es) → StandsIn x es
unfolding sort
in_sort x [] h = h
in_sort x (e ∷ es) h = ⊎_elim (λ a. inl a) (λ b. inr (in_sort x es b)) (in_put x e (sort es) h)

-- Sorted entries rise.

abbrev Below : Entry → Entry → Type 0
Below a b = key_cmp (leaf_of a.0) (leaf_of b.0) ≡ Less

abbrev Apart : Entry → Entry → Type 0
Apart e f = AreSame (leaf_of f.0) (leaf_of e.0) × (leaf_of f.0 ≡ leaf_of e.0 → ⊥)

below_trans : (a b : Entry) (xs : List Entry) → Below a b → AllByRecursion (Below b) xs → AllByRecursion (Below a) xs
below_trans a b [] first h = tt
below_trans a b (x ∷ xs) first h = (key_trans (leaf_of a.0) (leaf_of b.0) (leaf_of x.0) first h.0, below_trans a b xs first h.1)

is_less : (a b : Entry) → is_below a b ≡ true → Below a b
is_less a b h = search rules

put_rises : (e : Entry) (fs : List Entry) → AllByRecursion (Apart e) fs → KeysRise fs → KeysRise (put e fs)
unfolding put
put_rises e [] apart rise = (tt, tt)
put_rises e (f ∷ fs) apart rise = of (is_below f e) refl (put_rises e fs apart.1 rise.1)
  where
    of : (b : Bool) → is_below f e ≡ b → KeysRise (put e fs) → KeysRise (cond b (f ∷ put e fs) (e ∷ f ∷ fs))
    of true is rest = (all_in (Below f) (put e fs) (λ x k. ⊎_elim (λ same. subst (Below f) (sym same) (is_less f e is)) (λ later. one_in (Below f) x fs rise.0 later) (in_put x e fs k)), rest)
    of false is rest =
        let low : Below e f =
        ⊎_elim (λ less. absurd (true≢false (sym (ap is_lt less) ∙ is))) (λ more. ⊎_elim (λ less. less) (λ same. absurd (apart.0.1 same)) more) (compared (leaf_of f.0) (leaf_of e.0) apart.0.0) in
        ((low, below_trans e f fs low rise.0), rise)

numbers_same : (e : Entry) (fs : List Entry) → IsNumber e.0 → AllByRecursion (λ (f : Entry). IsNumber f.0) fs → AllByRecursion (λ (f : Entry). AreSame (leaf_of f.0) (leaf_of e.0)) fs
numbers_same e [] h k = tt
numbers_same e (f ∷ fs) h k = (number_same f.0 e.0 k.0 h, numbers_same e fs h k.1)

texts_same : (e : Entry) (fs : List Entry) → IsText e.0 → AllByRecursion (λ (f : Entry). IsText f.0) fs → AllByRecursion (λ (f : Entry). AreSame (leaf_of f.0) (leaf_of e.0)) fs
texts_same e [] h k = tt
texts_same e (f ∷ fs) h k = (text_same f.0 e.0 k.0 h, texts_same e fs h k.1)

first_alone : (e f : Entry) (es : List Entry) → (HasEntryTwice (e ∷ es) → ⊥) → StandsIn f es → leaf_of f.0 ≡ leaf_of e.0 → ⊥
first_alone e f es once there same =
    once (leaf_of e.0, of (leaf_eq (leaf_of e.0) (leaf_of e.0)) (leaf_eq_self (leaf_of e.0)) (passes_once (λ (x : Entry). leaf_eq (leaf_of x.0) (leaf_of e.0)) f es there (ap (λ l. leaf_eq l (leaf_of e.0)) same ∙ leaf_eq_self (leaf_of e.0))))
  where
    of : (b : Bool) → b ≡ true → 0 < length (filter (λ (x : Entry). leaf_eq (leaf_of x.0) (leaf_of e.0)) es)
        → 1 < length (cond b (e ∷ filter (λ (x : Entry). leaf_eq (leaf_of x.0) (leaf_of e.0)) es) (filter (λ (x : Entry). leaf_eq (leaf_of x.0) (leaf_of e.0)) es))
    of true is rest = omega arith
    of false is rest = absurd (cc)

sort_rises : (es : List Entry) → AreAlike es → (HasEntryTwice es → ⊥) → KeysRise (sort es)
unfolding sort
sort_rises [] alike once = tt
sort_rises (e ∷ es) alike once =
    let same : AllByRecursion (λ (f : Entry). AreSame (leaf_of f.0) (leaf_of e.0)) es = ⊎_elim (λ n. numbers_same e es n.0 n.1) (λ t. texts_same e es t.0 t.1) alike in
    let rest : AreAlike es = ⊎_elim (λ n. inl n.1) (λ t. inr t.1) alike in
    put_rises e (sort es)
    (all_in (Apart e) (sort es) (λ f there. let here = in_sort f es there in (one_in (λ (x : Entry). AreSame (leaf_of x.0) (leaf_of e.0)) f es same here, first_alone e f es once here)))
    (sort_rises es rest (λ twice. once (later_twice e es twice)))

pub sorted_is : (es fs : List Entry) → AreAlike es → (HasEntryTwice es → ⊥) → IsPermutation es fs → KeysRise fs → (n : ℕ) → map (entry_part n) fs ≡ by_rising_key (map (entry_part n) es)
sorted_is es fs alike once moved rise n =
    let same : fs ≡ sort es =
    same_rising (λ (e : Entry). leaf_of e.0) fs (sort es) rise (sort_rises es alike once) (λ z h. sort_in z es (moved_in z fs es (IsPermutation-sym es fs moved) h)) (λ z h. moved_in z es fs moved (in_sort z es h)) in
    ap (map (entry_part n)) same ∙ sym (sort_same n es)
