-- The first of a list that a rule is broken by.
use Rattle.std.specs.Prelude.{◌≡◌, ◌<◌, ◌≤◌, ◌⊎◌, ℕ, Bool, true, false, List, ◌∷◌, ◌++◌}
use Rattle.std.specs.List.{list_all, list_any, AllByRecursion}
use Rattle.pg_check.specs.rules.KeepsRules.{are_apart}

-- an item of a list
pub record IsOneOf {X : Type 0} (xs : List X) (x : X) : Type 0 where
  pub before : List X
  pub after : List X
  pub is : xs ≡ before ++ x ∷ after

-- an item of a list, after such alone as keep to a rule
pub record IsBehind {X : Type 0} (Keeps : X → Type 0) (xs : List X) (x : X) : Type 0 where
  pub before : List X
  pub after : List X
  pub is : xs ≡ before ++ x ∷ after
  pub before_keep : AllByRecursion Keeps before

-- the first item that doesn't pass the test
pub record IsFirst {X : Type 0} (test : X → Bool) (xs : List X) (x : X) : Type 0 where
  pub before : List X
  pub after : List X
  pub is : xs ≡ before ++ x ∷ after
  pub before_pass : list_all test before ≡ true
  pub fails : test x ≡ false

-- the first item that is the same as one before it
pub record IsFirstAgain {X : Type 0} (same : X → X → Bool) (xs : List X) (x : X) : Type 0 where
  pub before : List X
  pub after : List X
  pub is : xs ≡ before ++ x ∷ after
  pub before_apart : are_apart same before ≡ true
  pub again : list_any (same x) before ≡ true

-- A declaration at the one byte doesn't come after that at the other, and at one byte its code is no higher.
abbrev pub IsNotAfter : (declared code other other_code : ℕ) → Type 0
IsNotAfter declared code other other_code = (declared < other) ⊎ ((declared ≡ other) × (code ≤ other_code))
