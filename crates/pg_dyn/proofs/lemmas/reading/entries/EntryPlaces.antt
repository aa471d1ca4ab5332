-- Where an entry is among entries of rising keys.
use Rattle.std.proofs.Common.{◌≡◌, ℕ, zero, suc, ◌<◌, ◌≤◌, List, [], ◌∷◌, ◌++◌, length, take, drop, get_or, slice_set, refl, ap, sym, ◌∙◌, arith}
use Rattle.std.specs.List.{AllByRecursion, insert}
use Rattle.std.proofs.lemmas.List.{take-append-drop}
use Rattle.std.proofs.lemmas.Cmp.{int_cmp_total, nat_list_cmp_total}
use Rattle.std.specs.declared.cmp.Ordering.{Ordering}
use Rattle.std.specs.declared.cmp.Ordering.TheVariants.{Less, Equal, Greater}
use Rattle.pg_dyn.specs.message.KeyOrder.{Rise}
use Rattle.pg_dyn.specs.message.Message.{Leaf, key_cmp}
use Rattle.pg_dyn.specs.reading.Normalized.{place}
use Rattle.pg_dyn.proofs.lemmas.fitting.FitsSteps.{key_trans}
use Rattle.pg_dyn.proofs.lemmas.reading.Fields.{above_from_less}
use Rattle.pg_dyn.proofs.Lists.{each_weaker}

pub less_from_above : (k l : Leaf) → key_cmp k l ≡ Greater → key_cmp l k ≡ Less
less_from_above k l h = grind (arith, int_cmp_total, nat_list_cmp_total)

module _ {A : Type 0} (key : A → Leaf) where
  abbrev pub Below : Leaf → A → Type 0
  Below k e = key_cmp (key e) k ≡ Less

  abbrev pub NotBelow : Leaf → A → Type 0
  NotBelow k e = key_cmp (key e) k ≡ Less → ⊥

  pub record IsBetween (es : List A) (k : Leaf) (low high : ℕ) : Type 0 where
    pub ordered : low ≤ high
    pub inside : high ≤ length es
    pub below : AllByRecursion (Below k) (take low es)
    pub from_there : AllByRecursion (NotBelow k) (drop high es)

  -- the entry at an index is below the key, and so are those before it
  pub below_upto : (es : List A) (k : Leaf) (i : ℕ) (d : A) → Rise key es → i < length es → Below k (get_or es i d) → AllByRecursion (Below k) (take (suc i) es)
  below_upto [] k i d rise inside h = absurd (omega arith)
  below_upto (e ∷ es) k zero d rise inside h = (h, tt)
  below_upto (e ∷ es) k (suc i) d rise inside h =
      let rest = below_upto es k i d rise.1 (omega arith) h in
      (key_trans (key e) (key (get_or es i d)) k (at es i rise.0 (omega arith)) h, rest)
    where
      at : (xs : List A) (j : ℕ) → AllByRecursion (λ x. key_cmp (key e) (key x) ≡ Less) xs → j < length xs → key_cmp (key e) (key (get_or xs j d)) ≡ Less
      at [] j each below = absurd (omega arith)
      at (x ∷ xs) zero each below = each.0
      at (x ∷ xs) (suc j) each below = at xs j each.1 (omega arith)

  -- it isn't, and nor are those after it
  pub not_below_from : (es : List A) (k : Leaf) (i : ℕ) (d : A) → Rise key es → i < length es → NotBelow k (get_or es i d) → AllByRecursion (NotBelow k) (drop i es)
  not_below_from [] k i d rise inside h = absurd (omega arith)
  not_below_from (e ∷ es) k zero d rise inside h =
      (h, each_weaker (λ x. key_cmp (key e) (key x) ≡ Less) (NotBelow k) (λ x above low. h (key_trans (key e) (key x) k above low)) es rise.0)
  not_below_from (e ∷ es) k (suc i) d rise inside h = not_below_from es k i d rise.1 (omega arith) h

  -- The entry put in by its key.

  pub behind : (e : A) (low high : List A) → AllByRecursion (Below (key e)) low → place key e (low ++ high) ≡ low ++ place key e high
  behind e [] high h = refl
  behind e (x ∷ low) high h = rw (above_from_less (key x) (key e) h.0) (ap (λ xs. x ∷ xs) (behind e low high h.1))

  pub put_over : (es : List A) (i : ℕ) (e d : A) → AllByRecursion (Below (key e)) (take i es) → i < length es → key_cmp (key e) (key (get_or es i d)) ≡ Equal
      → slice_set es i e ≡ place key e es
  put_over [] i e d below inside same = absurd (omega arith)
  put_over (x ∷ es) zero e d below inside same = rw same
  put_over (x ∷ es) (suc i) e d below inside same =
      rw (above_from_less (key x) (key e) below.0) (ap (λ xs. x ∷ xs) (put_over es i e d below.1 (omega arith) same))

  put_first : (es : List A) (e : A) → AllByRecursion (NotBelow (key e)) es
      → ((x : A) (later : List A) → es ≡ x ∷ later → key_cmp (key e) (key x) ≡ Equal → ⊥) → place key e es ≡ e ∷ es
  put_first [] e high apart = refl
  put_first (x ∷ es) e high apart = of (key_cmp (key e) (key x)) refl
    where
      of : (o : Ordering) → key_cmp (key e) (key x) ≡ o → place key e (x ∷ es) ≡ e ∷ x ∷ es
      of Less is = rw is
      of Equal is = absurd (apart x es refl is)
      of Greater is = absurd (high.0 (less_from_above (key e) (key x) is))

  head_at : (es : List A) (i : ℕ) (e : A) (later : List A) → drop i es ≡ e ∷ later → (i < length es) × (get_or es i e ≡ e)
  head_at [] zero e later is = absurd (cc)
  head_at [] (suc i) e later is = absurd (cc)
  head_at (x ∷ es) zero e later is = (omega arith, cc)
  head_at (x ∷ es) (suc i) e later is = let k = head_at es i e later is in (omega (arith, k.0), k.1)

  pub put_between : (es : List A) (i : ℕ) (e : A) → AllByRecursion (Below (key e)) (take i es) → AllByRecursion (NotBelow (key e)) (drop i es)
      → ((d : A) → i < length es → key_cmp (key e) (key (get_or es i d)) ≡ Equal → ⊥) → insert es i e ≡ place key e es
  put_between es i e below high apart =
      ap (λ ys. take i es ++ ys) (sym (put_first (drop i es) e high (λ x later is same. let k = head_at es i x later is in apart x k.0 (ap (λ y. key_cmp (key e) (key y)) k.1 ∙ same))))
      ∙ sym (behind e (take i es) (drop i es) below) ∙ ap (place key e) (take-append-drop i es)
