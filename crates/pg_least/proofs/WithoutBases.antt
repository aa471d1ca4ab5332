-- A pair's bound is 'none' just where no pair that it leads to has a cost of its own.
use Rattle.std.proofs.Common.{◌≡◌, ℕ, zero, suc, ◌+◌, ◌*◌, ◌<◌, ◌≤◌, ◌⊎◌, List, [], ◌∷◌, map, filter, length, nat_le, Bool, true, false, not, cond, is_some, option_and_then, Option, Some, None, inl, inr, ⊎_elim, refl, ap, sym, ◌∙◌, arith}
use Rattle.std.specs.List.{AllByRecursion}
use Rattle.pg_dyn.specs.encoding.Encoding.{cap}
use Rattle.pg_pairs.specs.declared.choices.choice.Pair.{Pair}
use Rattle.pg_pairs.specs.declared.graph.edge.Edge.{Edge}
use Rattle.pg_pairs.specs.bounds.Covering.{IsAmong, distinct, same_pair}
use Rattle.pg_pairs.specs.choices.Choices.{Table, number_for}
use Rattle.pg_pairs.specs.graph.LeastOf.{cost_under, least_of, lesser_cost}
use Rattle.pg_pairs.specs.graph.Reached.{LeadsTo, itself, onwards}
use Rattle.pg_least.specs.Least.{AllLeast}
use Rattle.pg_least.proofs.Bounding.{among_map, map_among}
use Rattle.pg_pairs.specs.laws.EdgeChildren.{same_pair-true}
use Rattle.pg_least.proofs.OneSolution.{least_among, number_is}

both_none : (a b : Option ℕ) → lesser_cost a b ≡ None → (a ≡ None) × (b ≡ None)
both_none None b h = (refl, h)
both_none (Some m) None h = absurd (cc)
both_none (Some m) (Some n) h = absurd (elim (nat_le m n) as (λ b. cond b (Some m) (Some n) ≡ None → ⊥) [ true ↦ λ x. cc | false ↦ λ x. cc ] h)

-- a least of none is of nones
least_none : (os : List (Option ℕ)) → least_of os ≡ None → (o : Option ℕ) → IsAmong o os → o ≡ None
least_none [] h o among = absurd among
least_none (p ∷ os) h o among = let (first, rest) = both_none p (least_of os) h in ⊎_elim (λ same. same ∙ first) (λ later. least_none os rest o later) among

-- distinct pairs of the table, and how far their numbers go
abbrev UpTo : Table → ℕ → Pair → Type 0
UpTo table n p = (m : ℕ) × (table p ≡ Some (Some m)) × (m ≤ n)

module _ (children : Pair → List Pair) (edges : Pair → List Edge) (base : Pair → Option ℕ) (price : Edge → ℕ → Option ℕ) (table : Table)
    (have : (pair child : Pair) → IsAmong child (children pair) → (edge : Edge) × IsAmong edge (edges pair) × (edge.child ≡ child))
    (lead : (pair : Pair) (edge : Edge) → IsAmong edge (edges pair) → IsAmong edge.child (children pair))
    (low : (pair : Pair) (n : ℕ) → base pair ≡ Some n → n ≤ 100)
    (near : (pair : Pair) (edge : Edge) (bound : ℕ) → IsAmong edge (edges pair) → bound + 40 ≤ cap → (cost : ℕ) × (price edge bound ≡ Some cost) × (cost ≤ bound + 40))
    (dearer : (edge : Edge) (bound cost : ℕ) → price edge bound ≡ Some cost → bound < cost)
    (few : (pairs : List Pair) → distinct pairs ≡ pairs → AllByRecursion (λ p. is_some (table p) ≡ true) pairs → length pairs ≤ 16777216)
    (least : AllLeast edges base price table) where
  -- a number is its base's, or an edge's at its child's number
  number_comes : (p : Pair) (n : ℕ) → table p ≡ Some (Some n) → (base p ≡ Some n) ⊎ ((e : Edge) × (m : ℕ) × IsAmong e (edges p) × (table e.child ≡ Some (Some m)) × (price e m ≡ Some n))
  number_comes p n is =
      ⊎_elim (λ own. inl (sym own))
      (λ by. let (e, among, cost) = among_map (cost_under price table) (Some n) (edges p) by in inr (of e among (number_for table e.child) refl cost))
      (least_among (base p ∷ map (cost_under price table) (edges p)) n (sym (least p (Some n) is)))
    where
      of : (e : Edge) → IsAmong e (edges p) → (o : Option ℕ) → number_for table e.child ≡ o → option_and_then (price e) o ≡ Some n → (e : Edge) × (m : ℕ) × IsAmong e (edges p) × (table e.child ≡ Some (Some m)) × (price e m ≡ Some n)
      of e among None child k = absurd (cc)
      of e among (Some m) child k = (e, m, among, number_is table e.child m child, k)

  record Chain (n : ℕ) : Type 0 where
    pairs : List Pair
    once : distinct pairs ≡ pairs
    each : AllByRecursion (UpTo table n) pairs
    long : n + 40 ≤ 100 + 40 * length pairs

  there : (n : ℕ) (ps : List Pair) → AllByRecursion (UpTo table n) ps → AllByRecursion (λ p. is_some (table p) ≡ true) ps
  there n [] each = tt
  there n (p ∷ ps) each = let (m, is, below) = each.0 in (ap is_some is, there n ps each.1)

  up_to_more : (m n : ℕ) → m < n → (ps : List Pair) → AllByRecursion (UpTo table m) ps → AllByRecursion (UpTo table n) ps
  up_to_more m n less [] each = tt
  up_to_more m n less (p ∷ ps) each = let (k, is, below) = each.0 in ((k, is, omega arith), up_to_more m n less ps each.1)

  -- a pair whose number is more is none of these
  all_kept : (p : Pair) (m n : ℕ) → table p ≡ Some (Some n) → m < n → (ps : List Pair) → AllByRecursion (UpTo table m) ps → filter (λ q. not (same_pair p q)) ps ≡ ps
  all_kept p m n is less [] each = refl
  all_kept p m n is less (q ∷ ps) each = of (same_pair p q) refl (all_kept p m n is less ps each.1)
    where
      of : (b : Bool) → same_pair p q ≡ b → filter (λ x. not (same_pair p x)) ps ≡ ps → cond (not b) (q ∷ filter (λ x. not (same_pair p x)) ps) (filter (λ x. not (same_pair p x)) ps) ≡ q ∷ ps
      of false apart later = ap (λ xs. q ∷ xs) later
      of true same later =
          absurd
          (let (k, at, below) = each.0 in
          let both : Some (Some n) ≡ Some (Some k) = sym is ∙ ap table (same_pair-true p q same) ∙ at in
          let one : n ≡ k = cc in
          let no : ⊥ = omega arith in no)

  chain : (top n : ℕ) → n < top → (p : Pair) → table p ≡ Some (Some n) → Chain n
  chain zero n below p is = absurd (omega arith)
  chain (suc top) n below p is =
      ⊎_elim
      (λ own. let here = low p n own in record { pairs = p ∷ []; once = refl; each = ((n, is, omega arith), tt); long = omega arith })
      (λ by.
      let (e, m, among, at, cost) = by in
      let less : m < n = dearer e m n cost in
      let c = chain top m (omega arith) e.child at in
      let long = c.long in
      let most = few c.pairs c.once (there m c.pairs c.each) in
      let (k, price_is, more) = near p e m among (omega arith) in
      let one : k ≡ n = (let both : Some k ≡ Some n = sym price_is ∙ cost in cc) in
      record {
        pairs = p ∷ c.pairs;
        once = ap (λ xs. p ∷ filter (λ q. not (same_pair p q)) xs) c.once ∙ ap (λ xs. p ∷ xs) (all_kept p m n is less c.pairs c.each);
        each = ((n, is, omega arith), up_to_more m n less c.pairs c.each);
        long = omega arith;
      })
      (number_comes p n is)

  -- so numbers are so low that each edge to one has a cost
  numbers_are_low : (p : Pair) (n : ℕ) → table p ≡ Some (Some n) → n + 40 ≤ cap
  numbers_are_low p n is =
      let c = chain (suc n) n (omega arith) p is in
      let long = c.long in
      let most = few c.pairs c.once (there n c.pairs c.each) in
      omega arith

  module _ (root : Pair) (all : (pair : Pair) → LeadsTo children root pair → is_some (table pair) ≡ true) where
    none_spreads : table root ≡ Some None → (p : Pair) → LeadsTo children root p → table p ≡ Some None
    none_spreads none p itself = none
    none_spreads none p (onwards above child leads among) =
        let (e, at, child_is) = have above child among in
        let above_none = sym (least above None (none_spreads none above leads)) in
        let cost = least_none (base above ∷ map (cost_under price table) (edges above)) above_none (cost_under price table e) (inr (map_among (cost_under price table) e (edges above) at)) in
        of (table child) refl (all child (onwards above child leads among)) e (ap table child_is) at cost
      where
        of : (o : Option (Option ℕ)) → table child ≡ o → is_some o ≡ true → (e : Edge) → table e.child ≡ table child → IsAmong e (edges above) → cost_under price table e ≡ None → table child ≡ Some None
        of None is some e same at cost = absurd (cc)
        of (Some None) is some e same at cost = is
        of (Some (Some n)) is some e same at cost =
            absurd
            (let (k, price_is, more) = near above e n at (numbers_are_low child n is) in
            let under : cost_under price table e ≡ Some k = ap (λ o. option_and_then (price e) (option_and_then (λ b. b) o)) (same ∙ is) ∙ price_is in
            let no : None ≡ Some k = sym cost ∙ under in cc)

    pub no_bases : table root ≡ Some None → (p : Pair) → LeadsTo children root p → base p ≡ None
    no_bases none p leads = least_none (base p ∷ map (cost_under price table) (edges p)) (sym (least p None (none_spreads none p leads))) (base p) (inl refl)

    pub no_bounds : ((p : Pair) → LeadsTo children root p → base p ≡ None) → table root ≡ Some None
    no_bounds no_base = at (table root) refl (all root itself)
      where
        never : (top n : ℕ) → n < top → (p : Pair) → LeadsTo children root p → table p ≡ Some (Some n) → ⊥
        never zero n below p leads is = omega arith
        never (suc top) n below p leads is =
            ⊎_elim (λ here. let no : None ≡ Some n = sym (no_base p leads) ∙ here in cc)
            (λ by.
            let (e, m, among, at, cost) = by in
            let less : m < n = dearer e m n cost in
            never top m (omega arith) e.child (onwards p e.child leads (lead p e among)) at)
            (number_comes p n is)

        at : (o : Option (Option ℕ)) → table root ≡ o → is_some o ≡ true → table root ≡ Some None
        at None is some = absurd (cc)
        at (Some None) is some = is
        at (Some (Some n)) is some = absurd (never (suc n) n (omega arith) root itself is)
