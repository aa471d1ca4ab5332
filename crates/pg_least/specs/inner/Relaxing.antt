-- Costs that are settled least first.
use Rattle.std.specs.Prelude.{◌≡◌, ℕ, ◌<◌, ◌≤◌, ⊤, ◌⊎◌, nat_eq, List, slice_index_or, slice_set as set, Bool, true, false, ◌&&◌, Option, Some, None, option_and_then}
use Rattle.std.specs.declared.cmp.Reverse.{Reverse}
use Rattle.std.specs.List.{All, list_any}
use Rattle.pg_pairs.specs.bounds.Covering.{IsAmong}
use Rattle.pg_pairs.specs.bounds.LeastCosts.{IsNoMore}
use Rattle.pg_least.specs.inner.Queues.{IsOneMore}

-- an arc leads from an index to its child's, and costs what the child's bound says
pub record Arcs (A : Type 0) : Type 0 where
  pub from : A → ℕ
  pub child : A → ℕ
  pub price : A → ℕ → Option ℕ

abbrev pub cost_at : List (Option ℕ) → ℕ → Option ℕ
cost_at costs i = slice_index_or costs i None

abbrev pub is_set : List Bool → ℕ → Bool
is_set settled i = slice_index_or settled i false

-- the entry waits
abbrev pub waits : List (Reverse (ℕ × ℕ)) → ℕ → ℕ → Bool
waits heap cost at = list_any (λ e. nat_eq e.0.0 cost && nat_eq e.0.1 at) heap

-- what an arc costs under these costs
abbrev pub offer : {A : Type 0} → Arcs A → List (Option ℕ) → A → Option ℕ
offer g costs a = option_and_then (g.price a) (cost_at costs (g.child a))

-- the cost is the base, or an arc's at a child that is settled
abbrev pub IsOffered : {A : Type 0} → Arcs A → List A → List (Option ℕ) → List (Option ℕ) → List Bool → ℕ → ℕ → Type 0
IsOffered {A} g arcs bases costs settled i c =
    (cost_at bases i ≡ Some c)
    ⊎ ((a : A) × IsAmong a arcs × (g.from a ≡ i) × (is_set settled (g.child a) ≡ true) × (offer g costs a ≡ Some c))

-- costs are above 0
abbrev pub AreNumbers : List (Option ℕ) → Type 0
AreNumbers costs = (i c : ℕ) → cost_at costs i ≡ Some c → 1 ≤ c

pub record Stands {A : Type 0} (g : Arcs A) (arcs : List A) (bases : List (Option ℕ)) (done : List A)
    (costs : List (Option ℕ)) (settled : List Bool) (heap : List (Reverse (ℕ × ℕ))) (level : ℕ) : Type 0 where
  pub below_base : (i : ℕ) → IsNoMore (cost_at costs i) (cost_at bases i)
  pub done_settled : (a : A) → IsAmong a done → is_set settled (g.child a) ≡ true
  pub below_offers : (a : A) → IsAmong a done → IsNoMore (cost_at costs (g.from a)) (offer g costs a)
  pub offered : (i c : ℕ) → cost_at costs i ≡ Some c → IsOffered g arcs bases costs settled i c
  pub low : (i : ℕ) → is_set settled i ≡ true → (c : ℕ) × (cost_at costs i ≡ Some c) × (c ≤ level)
  pub high : All (λ e. level ≤ e.0.0) heap
  pub live : (i c : ℕ) → cost_at costs i ≡ Some c → is_set settled i ≡ false → waits heap c i ≡ true
  pub numbers : AreNumbers costs

-- the number is less; every number is less than 'none'
abbrev pub IsLess : ℕ → Option ℕ → Type 0
IsLess c None = ⊤
IsLess c (Some d) = c < d

-- The index costs no more already, and all is as before; or it costs this from now on, which waits too.
abbrev pub IsRelaxed : ℕ → Option ℕ → List (Option ℕ) → List (Reverse (ℕ × ℕ)) → List (Option ℕ)
    → List (Reverse (ℕ × ℕ)) → Type 0
IsRelaxed at None costs heap lower more = (lower ≡ costs) × (more ≡ heap)
IsRelaxed at (Some c) costs heap lower more =
    (IsNoMore (cost_at costs at) (Some c) × (lower ≡ costs) × (more ≡ heap))
    ⊎ (IsLess c (cost_at costs at) × (lower ≡ set costs at (Some c)) × IsOneMore heap c at more)

-- Each cost is above 0, and the least of its index's base and of what its arcs cost under these costs; none where there
-- is none.
pub record IsBalanced {A : Type 0} (g : Arcs A) (arcs : List A) (bases costs : List (Option ℕ)) : Type 0 where
  pub below_base : (i : ℕ) → IsNoMore (cost_at costs i) (cost_at bases i)
  pub below_offers : (a : A) → IsAmong a arcs → IsNoMore (cost_at costs (g.from a)) (offer g costs a)
  pub offered : (i c : ℕ) → cost_at costs i ≡ Some c → (cost_at bases i ≡ Some c)
      ⊎ ((a : A) × IsAmong a arcs × (g.from a ≡ i) × (offer g costs a ≡ Some c))
  pub numbers : AreNumbers costs
