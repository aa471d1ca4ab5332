-- What type names name, by the byte at which each begins.
use Rattle.std.specs.Prelude.{◌==◌, ℕ, List, [], ◌∷◌, Option, Some, None, if◌then◌else◌}
use Rattle.pg_link.specs.declared.uses.target.Target.{Target}

-- what is next to the first of these offsets that is this one
abbrev pub named_at : (places : List ℕ) (targets : List Target) (at : ℕ) → Option Target
named_at [] targets at = None
named_at (place ∷ places) [] at = None
named_at (place ∷ places) (target ∷ targets) at = if place == at then Some target else named_at places targets at
