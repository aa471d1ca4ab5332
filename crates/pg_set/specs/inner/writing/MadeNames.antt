-- Of the names of a message, those that the name of a synthetic oneof may meet (this profile's choice of words).
use Rattle.std.specs.Prelude.{◌≡◌, ℕ, Bool, true, false, ◌||◌, List, [], ◌∷◌, nat_eq, String}
use Rattle.std.specs.BTreeSet.{BTreeSet, contains_text}
use Rattle.pg_schema.specs.JsonName.{underscore}
use Rattle.pg_schema.specs.rules.TextSets.{is_among}
use Rattle.pg_set.specs.writing.Synthetic.{sign}

-- the name begins with a `_` or an `X`, as those of synthetic oneofs do
abbrev pub begins_made : List ℕ → Bool
begins_made [] = false
begins_made (byte ∷ bytes) = nat_eq byte underscore || nat_eq byte sign

-- of the names that begin so, the set has these and no other
abbrev pub HasMade : {Y : Type 0} → List (List ℕ) → BTreeSet (String Y) → Type 0
HasMade names set = (text : List ℕ) → begins_made text ≡ true → contains_text set text ≡ is_among names text
