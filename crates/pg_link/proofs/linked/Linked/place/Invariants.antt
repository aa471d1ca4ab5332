use Rattle.std.proofs.Common.{◌≡◌, ◌<◌, ◌∷◌, ℕ, String, Some, slice_get, string_bytes}
use Rattle.std.specs.Global.{Global}
use Rattle.pg_link.specs.declared.names.Named as nameds
use Rattle.pg_link.proofs.linked.Linked.place.Given as goal

-- none of the names so far is the one
abbrev pub invariant-loop-number : goal.invariant-loop-number
invariant-loop-number l = (k : ℕ) (name : String Global) (n : nameds.Named) → k < l.number → slice_get l.self-inside.index.names.entries k ≡ Some (name, n)
    → string_bytes name ≡ 46 ∷ l.full_name → ⊥
