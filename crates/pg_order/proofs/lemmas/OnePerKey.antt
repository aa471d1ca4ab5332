-- Entries of which each key is there once are sorted alike in whatever order they are put in.
use Rattle.std.proofs.Common.{◌≡◌, suc, ◌+◌, ◌≤◌, List, [], ◌∷◌, filter, fold, length, Bool, true, false, cond, refl, ap, sym, subst, ◌∙◌, arith, rules}
use Rattle.std.specs.List.{AllByRecursion}
use Rattle.std.specs.declared.cmp.Ordering.{Ordering}
use Rattle.std.specs.declared.cmp.Ordering.TheVariants.{Less, Equal, Greater}
use Rattle.pg_dyn.specs.message.Message.{Leaf, key_cmp}
use Rattle.pg_dyn.specs.message.KeyOrder.{IsOfKind, Rise}
use Rattle.pg_dyn.specs.reading.Content.{put, by_key}
use Rattle.pg_dyn.proofs.Lists.{each_weaker}
use Rattle.pg_dyn.proofs.lemmas.fitting.FitsSteps.{key_trans}
use Rattle.pg_dyn.proofs.lemmas.message.KeyLaws.{key_less_self}
use Rattle.pg_dyn.proofs.lemmas.reading.entries.EntryPlaces.{less_from_above}
use Rattle.pg_dyn.proofs.lemmas.word.Leaves.{same_leaf}
use Rattle.pg_dyn.proofs.lemmas.reading.entries.LastOfKeys.{OfKind, each_placed, has_key, none_of_key, place, placed, placed_alike, placed_one, rise_placed}

module _ {A : Type 0} (key : A → Leaf) where
  length-place : (e : A) (xs : List A) → length (place key e xs) ≤ suc (length xs)
  length-place e [] = omega arith
  length-place e (x ∷ xs) = search (rules, arith, length-place e xs)

  -- so many entries at most are there in the end
  length-placed : (before es : List A) → length (placed key before es) ≤ length before + length es
  length-placed before [] = omega arith
  length-placed before (e ∷ es) = omega (arith, length-placed (place key e before) es, length-place e before)

  hit : (e x : A) → key_cmp (key e) (key x) ≡ Greater → has_key key (key e) x ≡ false
  hit e x above = search (rules, less_from_above, key_less_self, same_leaf)

  under_all : (e x : A) (xs : List A) → key_cmp (key e) (key x) ≡ Less → AllByRecursion (λ y. key_cmp (key x) (key y) ≡ Less) xs → AllByRecursion (λ y. key_cmp (key e) (key y) ≡ Less) xs
  under_all e x xs is h = each_weaker (λ y. key_cmp (key x) (key y) ≡ Less) (λ y. key_cmp (key e) (key y) ≡ Less) (λ y k. key_trans (key e) (key x) (key y) is k) xs h

  -- an entry that makes the list longer has a key of its own
  new_key : (e : A) (xs : List A) → Rise key xs → length (place key e xs) ≡ suc (length xs) → filter (has_key key (key e)) xs ≡ []
  new_key e [] rise long = refl
  new_key e (x ∷ xs) rise long = of (new_key e xs rise.1) (key_cmp (key e) (key x)) refl
    where
      of : (length (place key e xs) ≡ suc (length xs) → filter (has_key key (key e)) xs ≡ []) → (o : Ordering) → key_cmp (key e) (key x) ≡ o → filter (has_key key (key e)) (x ∷ xs) ≡ []
      of later Less is = none_of_key key (key e) (x ∷ xs) (is, under_all e x xs is rise.0)
      of later Equal is = absurd (let grown : suc (length xs) ≡ suc (suc (length xs)) = rw is at long in omega arith)
      of later Greater is =
          let grown : suc (length (place key e xs)) ≡ suc (suc (length xs)) = rw is at long in
          rw (hit e x is) (later (omega arith))

  rise_once : (k : Leaf) (xs : List A) → Rise key xs → length (filter (has_key key k) xs) ≤ 1
  rise_once k [] rise = omega arith
  rise_once k (x ∷ xs) rise = of (rise_once k xs rise.1) (has_key key k x) refl
    where
      of : length (filter (has_key key k) xs) ≤ 1 → (t : Bool) → has_key key k x ≡ t → length (cond t (x ∷ filter (has_key key k) xs) (filter (has_key key k) xs)) ≤ 1
      of later true is =
          let none : filter (has_key key k) xs ≡ [] = none_of_key key k xs (subst (λ l. AllByRecursion (λ y. key_cmp l (key y) ≡ Less) xs) (same_leaf (key x) k is) rise.0) in
          omega (arith, ap length none)
      of later false is = later

  -- where all of them are there in the end, each key is there once
  pub once : (b : Bool) (before es : List A) → OfKind key b before → OfKind key b es → Rise key before → length (placed key before es) ≡ length before + length es
      → (k : Leaf) → length (filter (has_key key k) before) + length (filter (has_key key k) es) ≤ 1
  once b before [] kb ke rise long k = omega (arith, rise_once k before rise)
  once b before (e ∷ es) kb ke rise long k =
      of (once b (place key e before) es (each_placed key (λ x. IsOfKind b (key x)) e before ke.0 kb) ke.1 (rise_placed key b e before ke.0 kb rise)
      (omega (arith, length-placed (place key e before) es, length-place e before, long)) k)
      (has_key key k e) refl
    where
      grown : length (place key e before) ≡ suc (length before)
      grown = omega (arith, length-placed (place key e before) es, length-place e before, long)

      one : filter (has_key key k) (place key e before) ≡ cond (has_key key k e) (e ∷ []) (filter (has_key key k) before)
      one = placed_one key b k e before ke.0 kb rise

      of : length (filter (has_key key k) (place key e before)) + length (filter (has_key key k) es) ≤ 1 → (t : Bool) → has_key key k e ≡ t → length (filter (has_key key k) before) + length (cond t (e ∷ filter (has_key key k) es) (filter (has_key key k) es)) ≤ 1
      of again true is =
          let none : filter (has_key key k) before ≡ [] = subst (λ l. filter (has_key key l) before ≡ []) (same_leaf (key e) k is) (new_key e before rise grown) in
          let here : filter (has_key key k) (place key e before) ≡ e ∷ [] = rw is at one in
          omega (arith, ap length none, ap length here, again)
      of again false is =
          let here : filter (has_key key k) (place key e before) ≡ filter (has_key key k) before = rw is at one in
          omega (arith, ap length here, again)

abbrev pub entry_key : Leaf × Leaf → Leaf
entry_key e = e.0

put_is : (e : Leaf × Leaf) (es : List (Leaf × Leaf)) → put e es ≡ place entry_key e es
put_is e [] = refl
put_is e (x ∷ xs) = search (rules, put_is e xs)

all_put : (before es : List (Leaf × Leaf)) → fold (λ qs entry. put entry qs) before es ≡ placed entry_key before es
all_put before [] = refl
all_put before (e ∷ es) = ap (λ qs. fold (λ ps entry. put entry ps) qs es) (put_is e before) ∙ all_put (place entry_key e before) es

-- Entries that are all there once they are sorted are sorted alike with others that have the same of each key.
pub by_key_alike : (b : Bool) (es fs : List (Leaf × Leaf)) → OfKind entry_key b es → OfKind entry_key b fs → length (by_key es) ≡ length es
    → ((k : Leaf) → length (filter (has_key entry_key k) es) ≤ 1 → filter (has_key entry_key k) es ≡ filter (has_key entry_key k) fs) → by_key fs ≡ by_key es
by_key_alike b es fs kind other long same =
    all_put [] fs
    ∙ sym (placed_alike entry_key b es fs kind other
    (λ z is. same z.0 (let few = once entry_key b [] es tt kind tt (omega (arith, ap length (all_put [] es), long)) z.0 in omega arith)))
    ∙ sym (all_put [] es)

pub length-by_key : (es : List (Leaf × Leaf)) → length (by_key es) ≤ length es
length-by_key es = omega (arith, ap length (all_put [] es), length-placed entry_key [] es)
