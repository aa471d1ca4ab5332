-- A type that isn't there has no children.
use Rattle.std.proofs.Common.{◌≡◌, ℕ, List, [], ◌∷◌, map, None, zero, suc, get_or, slice_get, refl, rules}
use Rattle.pg_schema.specs.declared.parts.Parts.{Parts}
use Rattle.pg_schema.specs.Parts.{shape_of}
use Rattle.pg_schema.specs.Lookups.{type_at}
use Rattle.pg_schema.specs.Shape.{Shape}
use Rattle.pg_pairs.specs.declared.choices.choice.Pair.{Pair}
use Rattle.pg_pairs.specs.bounds.Covering.{children}

-- past the end of a list nothing is
pub past : {X Y : Type 0} (f : X → Y) (d : Y) (xs : List X) (i : ℕ) → slice_get xs i ≡ None → get_or (map f xs) i d ≡ d
past f d [] i h = refl
past f d (x ∷ xs) zero h = absurd (cc)
past f d (x ∷ xs) (suc i) h = past f d xs i h

pub no_children : (old : Parts) (new : Shape) (pair : Pair) → type_at old pair.old ≡ None → children (shape_of old) new pair ≡ []
no_children old new pair h = search (rules, past)
