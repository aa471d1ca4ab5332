-- One step of settling costs least first.
use Rattle.std.proofs.Common.{◌≡◌, ℕ, zero, suc, ◌<◌, ◌≤◌, ◌⊎◌, ◌≢◌, nat_eq, eqb-true, List, [], ◌∷◌, ◌++◌, length, set, Bool, true, false, ◌&&◌, ◌||◌, Option, Some, None, option_and_then, inl, inr, ⊎_elim, refl, ap, sym, ◌∙◌, subst, subst₂, arith, eq-eqb, IsPermutation, get_or-set_same, get_or-set_other, length-set}
use Rattle.std.specs.declared.cmp.Reverse.{Reverse}
use Rattle.std.proofs.lemmas.Bool.{and_parts}
use Rattle.std.proofs.lemmas.List.Sorted.{All-permutation, list_any-IsPermutation}
use Rattle.std.proofs.lemmas.List.Elements.{All-cons, All-tail}
use Rattle.pg_least.specs.inner.Queues.{entry, IsLeastTaken, IsOneMore}
use Rattle.pg_pairs.specs.bounds.Covering.{IsAmong}
use Rattle.pg_pairs.specs.bounds.LeastCosts.{IsNoMore}
use Rattle.pg_least.specs.inner.Relaxing.{Arcs, cost_at, is_set, waits, offer, IsOffered, IsLess, IsRelaxed, Stands}

abbrev Entry : Type 0
Entry = Reverse (ℕ × ℕ)

-- Orders of bounds.

pub no_more-same : (o : Option ℕ) → IsNoMore o o
no_more-same None = tt
no_more-same (Some n) = omega arith

pub no_more-trans : (o p q : Option ℕ) → IsNoMore o p → IsNoMore p q → IsNoMore o q
no_more-trans o p None h k = tt
no_more-trans o None (Some n) h k = absurd k
no_more-trans None (Some m) (Some n) h k = absurd h
no_more-trans (Some l) (Some m) (Some n) h k = let first : l ≤ m = h in let second : m ≤ n = k in omega arith

-- Entries of the heap.

test : ℕ → ℕ → Entry → Bool
test cost at e = nat_eq e.0.0 cost && nat_eq e.0.1 at

same_entry : (c i d j : ℕ) → nat_eq d c && nat_eq j i ≡ true → (d ≡ c) × (j ≡ i)
same_entry c i d j h = let both = and_parts (nat_eq d c) (nat_eq j i) h in (eqb-true d c both.0, eqb-true j i both.1)

or_cases : (a b : Bool) → a || b ≡ true → (a ≡ true) ⊎ (b ≡ true)
or_cases true b h = inl refl
or_cases false b h = inr h

or_left : (a b : Bool) → a ≡ true → a || b ≡ true
or_left a b h = rw h refl

or_right : (a b : Bool) → b ≡ true → a || b ≡ true
or_right true b h = refl
or_right false b h = h

-- what waits after one more is pushed, and the one more
pub pushed_waits : (before after : List Entry) (cost at : ℕ) → IsOneMore before cost at after → (c i : ℕ) → waits before c i ≡ true → waits after c i ≡ true
pushed_waits before after cost at more c i h = sym (list_any-IsPermutation (λ (e : Entry). nat_eq e.0.0 c && nat_eq e.0.1 i) (entry cost at ∷ before) after more) ∙ or_right (nat_eq cost c && nat_eq at i) (waits before c i) h

pub pushed_itself : (before after : List Entry) (cost at : ℕ) → IsOneMore before cost at after → waits after cost at ≡ true
pushed_itself before after cost at more =
    sym (list_any-IsPermutation (λ (e : Entry). nat_eq e.0.0 cost && nat_eq e.0.1 at) (entry cost at ∷ before) after more)
    ∙ or_left (nat_eq cost cost && nat_eq at at) (waits before cost at) (rw (eq-eqb cost cost refl, eq-eqb at at refl) refl)

-- what waits after one was taken
pub left_waits : (before after : List Entry) (cost at : ℕ) → IsPermutation before (entry cost at ∷ after) → (c i : ℕ) → waits before c i ≡ true → ((cost ≡ c) × (at ≡ i)) ⊎ (waits after c i ≡ true)
left_waits before after cost at moved c i h =
    ⊎_elim (λ same. inl (same_entry c i cost at same)) (λ later. inr later)
    (or_cases (nat_eq cost c && nat_eq at i) (waits after c i) (sym (list_any-IsPermutation (λ (e : Entry). nat_eq e.0.0 c && nat_eq e.0.1 i) before (entry cost at ∷ after) moved) ∙ h))

-- Indices.

pub not_both : {b : Bool} → b ≡ true → b ≡ false → ⊥
not_both h k = let no : true ≡ false = sym h ∙ k in cc

pub place_cases : (i j : ℕ) → (i ≡ j) ⊎ (i ≢ j)
place_cases i j = of (nat_eq i j) refl
  where
    of : (b : Bool) → nat_eq i j ≡ b → (i ≡ j) ⊎ (i ≢ j)
    of true h = inl (eqb-true i j h)
    of false h = inr (λ same. not_both (eq-eqb i j same) h)

-- an index with a cost is one of the list
pub inside : (costs : List (Option ℕ)) (i c : ℕ) → cost_at costs i ≡ Some c → i < length costs
inside [] i c h = absurd (cc)
inside (x ∷ costs) zero c h = omega arith
inside (x ∷ costs) (suc i) c h = let later = inside costs i c h in omega arith

some_same : {a b : ℕ} → Some a ≡ Some b → a ≡ b
some_same h = cc

module _ {A : Type 0} (g : Arcs A) (arcs : List A) (bases : List (Option ℕ)) where
  -- An entry that isn't live is left out.
  pub skipped : (done : List A) (costs : List (Option ℕ)) (settled : List Bool) (heap left : List Entry) (level cost at : ℕ) → IsPermutation heap (entry cost at ∷ left)
      → (is_set settled at ≡ false → cost_at costs at ≡ Some cost → ⊥) → Stands g arcs bases done costs settled heap level → Stands g arcs bases done costs settled left level
  skipped done costs settled heap left level cost at moved stale s = record {
    below_base = s.below_base;
    done_settled = s.done_settled;
    below_offers = s.below_offers;
    offered = s.offered;
    low = s.low;
    high = All-tail (λ (e : Entry). level ≤ e.0.0) (entry cost at) left (All-permutation (λ (e : Entry). level ≤ e.0.0) heap (entry cost at ∷ left) moved s.high);
    numbers = s.numbers;
    live = λ i c is fresh. ⊎_elim (λ same. absurd (stale (subst (λ k. is_set settled k ≡ false) (sym same.1) fresh) (subst₂ (λ k d. cost_at costs k ≡ Some d) (sym same.1) (sym same.0) is))) (λ later. later) (left_waits heap left cost at moved c i (s.live i c is fresh));
  }

  -- A live entry of the least cost settles its index.
  pub settles : (done : List A) (costs : List (Option ℕ)) (settled : List Bool) (heap left : List Entry) (level cost at : ℕ) → IsLeastTaken heap cost at left → at < length settled
      → is_set settled at ≡ false → cost_at costs at ≡ Some cost → Stands g arcs bases done costs settled heap level → Stands g arcs bases done costs (set settled at true) left cost
  settles done costs settled heap left level cost at taken within fresh is s = record {
    below_base = s.below_base;
    done_settled = λ a among. still (g.child a) (s.done_settled a among);
    below_offers = s.below_offers;
    offered = λ i c h. ⊎_elim (λ base. inl base) (λ (a, among, from, child, price). inr (a, among, from, still (g.child a) child, price)) (s.offered i c h);
    low = λ i h. ⊎_elim (λ same. (cost, ap (cost_at costs) same ∙ is, omega arith)) (λ apart. let (c, here, below) = s.low i (sym (get_or-set_other settled at i true false apart) ∙ h) in (c, here, let up = above in omega arith)) (place_cases i at);
    high = All-tail (λ (e : Entry). cost ≤ e.0.0) (entry cost at) left (All-permutation (λ (e : Entry). cost ≤ e.0.0) heap (entry cost at ∷ left) taken.moved taken.least);
    numbers = s.numbers;
    live = λ i c here fresh. ⊎_elim (λ same. absurd (not_both (subst (λ k. is_set (set settled at true) k ≡ true) same.1 now_set) fresh)) (λ later. later) (left_waits heap left cost at taken.moved c i (s.live i c here (was_open i fresh)));
  }
    where
      now_set : is_set (set settled at true) at ≡ true
      now_set = get_or-set_same settled at true false within

      still : (i : ℕ) → is_set settled i ≡ true → is_set (set settled at true) i ≡ true
      still i h = ⊎_elim (λ same. subst (λ k. is_set (set settled at true) k ≡ true) (sym same) now_set) (λ apart. get_or-set_other settled at i true false apart ∙ h) (place_cases i at)

      was_open : (i : ℕ) → is_set (set settled at true) i ≡ false → is_set settled i ≡ false
      was_open i h = ⊎_elim (λ same. absurd (not_both (subst (λ k. is_set (set settled at true) k ≡ true) (sym same) now_set) h)) (λ apart. sym (get_or-set_other settled at i true false apart) ∙ h) (place_cases i at)

      above : level ≤ cost
      above = All-permutation (λ (e : Entry). level ≤ e.0.0) heap (entry cost at ∷ left) taken.moved s.high 0 (entry cost at) (omega arith)

  -- An index is relaxed by an arc whose child is settled at the level.
  module _ (done : List A) (costs : List (Option ℕ)) (settled : List Bool) (heap : List Entry) (level : ℕ) (s : Stands g arcs bases done costs settled heap level) (a : A) (among : IsAmong a arcs) (child : is_set settled (g.child a) ≡ true) (child_is : cost_at costs (g.child a) ≡ Some level) (dearer : (c : ℕ) → g.price a level ≡ Some c → level < c) (within : g.from a < length costs) where
    offer_is : offer g costs a ≡ g.price a level
    offer_is = ap (option_and_then (g.price a)) child_is

    done_more : (P : A → Type 0) → ((x : A) → IsAmong x done → P x) → P a → (x : A) → IsAmong x (done ++ a ∷ []) → P x
    done_more P before here x h = of done before h
      where
        of : (xs : List A) → ((x : A) → IsAmong x xs → P x) → IsAmong x (xs ++ a ∷ []) → P x
        of [] each k = ⊎_elim (λ same. subst P (sym same) here) (λ none. absurd none) k
        of (y ∷ ys) each k = ⊎_elim (λ same. each x (inl same)) (λ later. of ys (λ z m. each z (inr m)) later) k

    -- nothing changes
    same_stands : IsNoMore (cost_at costs (g.from a)) (g.price a level) → Stands g arcs bases (done ++ a ∷ []) costs settled heap level
    same_stands below = record {
      below_base = s.below_base;
      done_settled = done_more (λ x. is_set settled (g.child x) ≡ true) s.done_settled child;
      below_offers = done_more (λ x. IsNoMore (cost_at costs (g.from x)) (offer g costs x)) s.below_offers (subst (IsNoMore (cost_at costs (g.from a))) (sym offer_is) below);
      offered = s.offered;
      low = s.low;
      high = s.high;
      live = s.live;
      numbers = s.numbers;
    }

    -- the index costs less from now on
    module _ (c : ℕ) (price : g.price a level ≡ Some c) (less : IsLess c (cost_at costs (g.from a))) (more : List Entry) (pushed : IsOneMore heap c (g.from a) more) where
      abbrev lower : List (Option ℕ)
      lower = set costs (g.from a) (Some c)

      lower_here : cost_at lower (g.from a) ≡ Some c
      lower_here = get_or-set_same costs (g.from a) (Some c) None within

      lower_other : (i : ℕ) → (i ≢ g.from a) → cost_at lower i ≡ cost_at costs i
      lower_other i apart = get_or-set_other costs (g.from a) i (Some c) None apart

      -- a settled index isn't the one that falls
      apart : (i : ℕ) → is_set settled i ≡ true → (i ≡ g.from a) → ⊥
      apart i set_i same =
          let (d, here, below) = s.low i set_i in
          let above = dearer c price in
          let is : cost_at costs (g.from a) ≡ Some d = ap (cost_at costs) (sym same) ∙ here in
          let less_d : c < d = subst (IsLess c) is less in
          omega arith

      pub settled_stay : (i : ℕ) → is_set settled i ≡ true → cost_at lower i ≡ cost_at costs i
      settled_stay i h = lower_other i (apart i h)

      no_more : (o : Option ℕ) → IsLess c o → IsNoMore (Some c) o
      no_more None h = tt
      no_more (Some d) h = let k : c < d = h in omega arith

      falls : (i : ℕ) → IsNoMore (cost_at lower i) (cost_at costs i)
      falls i =
          ⊎_elim (λ same. subst (λ k. IsNoMore (cost_at lower k) (cost_at costs k)) (sym same) (subst (λ o. IsNoMore o (cost_at costs (g.from a))) (sym lower_here) (no_more (cost_at costs (g.from a)) less)))
          (λ other. subst (λ o. IsNoMore o (cost_at costs i)) (sym (lower_other i other)) (no_more-same (cost_at costs i))) (place_cases i (g.from a))

      offer_stays : (x : A) → is_set settled (g.child x) ≡ true → offer g lower x ≡ offer g costs x
      offer_stays x h = ap (option_and_then (g.price x)) (settled_stay (g.child x) h)

      offered_stays : (i d : ℕ) → IsOffered g arcs bases costs settled i d → IsOffered g arcs bases lower settled i d
      offered_stays i d h = ⊎_elim (λ base. inl base) (λ (x, there, from, set_x, is). inr (x, there, from, set_x, offer_stays x set_x ∙ is)) h

      lower_stands : Stands g arcs bases (done ++ a ∷ []) lower settled more level
      lower_stands = record {
        below_base = λ i. no_more-trans (cost_at lower i) (cost_at costs i) (cost_at bases i) (falls i) (s.below_base i);
        done_settled = done_more (λ x. is_set settled (g.child x) ≡ true) s.done_settled child;
        below_offers = done_more (λ x. IsNoMore (cost_at lower (g.from x)) (offer g lower x))
            (λ x there. subst (IsNoMore (cost_at lower (g.from x))) (sym (offer_stays x (s.done_settled x there))) (no_more-trans (cost_at lower (g.from x)) (cost_at costs (g.from x)) (offer g costs x) (falls (g.from x)) (s.below_offers x there)))
            (subst₂ IsNoMore (sym lower_here) (sym (offer_stays a child ∙ offer_is ∙ price)) (no_more-same (Some c)));
        offered = λ i d is. ⊎_elim
            (λ same. inr (a, among, sym same, child, offer_stays a child ∙ offer_is ∙ price ∙ sym lower_here ∙ ap (cost_at lower) (sym same) ∙ is))
            (λ other. offered_stays i d (s.offered i d (sym (lower_other i other) ∙ is))) (place_cases i (g.from a));
        low = λ i h. let (d, here, below) = s.low i h in (d, settled_stay i h ∙ here, below);
        high = All-permutation (λ (e : Entry). level ≤ e.0.0) (entry c (g.from a) ∷ heap) more pushed (All-cons (λ (e : Entry). level ≤ e.0.0) (entry c (g.from a)) heap (let up = dearer c price in omega arith) s.high);
        numbers = λ i d is. ⊎_elim
            (λ same. let cost : c ≡ d = some_same (sym lower_here ∙ ap (cost_at lower) (sym same) ∙ is) in let up = dearer c price in omega arith)
            (λ other. s.numbers i d (sym (lower_other i other) ∙ is)) (place_cases i (g.from a));
        live = λ i d is fresh. ⊎_elim
            (λ same. let cost : c ≡ d = some_same (sym lower_here ∙ ap (cost_at lower) (sym same) ∙ is) in subst₂ (λ k e. waits more e k ≡ true) (sym same) cost (pushed_itself heap more c (g.from a) pushed))
            (λ other. pushed_waits heap more c (g.from a) pushed d i (s.live i d (sym (lower_other i other) ∙ is) fresh)) (place_cases i (g.from a));
      }

    abbrev pub Result : List (Option ℕ) → List Entry → Type 0
    Result lower more = Stands g arcs bases (done ++ a ∷ []) lower settled more level
        × ((i : ℕ) → is_set settled i ≡ true → cost_at lower i ≡ cost_at costs i) × (length lower ≡ length costs)

    pub relaxes : (lower : List (Option ℕ)) (more : List Entry) → IsRelaxed (g.from a) (g.price a level) costs heap lower more → Result lower more
    relaxes lower more h = of (g.price a level) refl h
      where
        as_before : IsNoMore (cost_at costs (g.from a)) (g.price a level) → (lower ≡ costs) → (more ≡ heap) → Result lower more
        as_before below same_costs same_heap = subst₂ Result (sym same_costs) (sym same_heap) (same_stands below, λ i h. refl, refl)

        of : (o : Option ℕ) → g.price a level ≡ o → IsRelaxed (g.from a) o costs heap lower more → Result lower more
        of None is (same_costs, same_heap) = as_before (subst (IsNoMore (cost_at costs (g.from a))) (sym is) tt) same_costs same_heap
        of (Some c) is k = ⊎_elim
            (λ (below, same_costs, same_heap). as_before (subst (IsNoMore (cost_at costs (g.from a))) (sym is) below) same_costs same_heap)
            (λ (less, fell, pushed). subst (λ cs. Result cs more) (sym fell) (lower_stands c is less more pushed, settled_stay c is less more pushed, length-set costs (g.from a) (Some c))) k

-- With nothing that waits all costs are settled.
pub none_waits : {A : Type 0} (g : Arcs A) (arcs done : List A) (bases costs : List (Option ℕ)) (settled : List Bool) (heap : List Entry) (level : ℕ) → heap ≡ [] → Stands g arcs bases done costs settled heap level
    → (i c : ℕ) → cost_at costs i ≡ Some c → is_set settled i ≡ true
none_waits g arcs done bases costs settled heap level none s i c is = of (is_set settled i) refl
  where
    of : (b : Bool) → is_set settled i ≡ b → b ≡ true
    of true h = refl
    of false h = let waiting : waits heap c i ≡ true = s.live i c is h in let no : false ≡ true = subst (λ (es : List Entry). waits es c i ≡ true) none waiting in cc
