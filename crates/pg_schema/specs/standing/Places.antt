-- Indexes in a row, and how deep message types may be nested in a schema that a set states, which is this profile's
-- choice.
use Rattle.std.specs.Prelude.{ℕ, zero, suc, List, [], ◌∷◌}

-- so many indexes, from one on
abbrev pub places_from : (start count : ℕ) → List ℕ
places_from start zero = []
places_from start (suc count) = start ∷ places_from (suc start) count

-- How deep message types may be nested: no message of a set that is read is deeper.
abbrev pub most_deep : ℕ
most_deep = 100
