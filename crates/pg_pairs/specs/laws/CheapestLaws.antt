-- The cheapest of choices is one of them, of which none costs less.
use Rattle.std.specs.Prelude.{◌≡◌, ◌≤◌, List, [], Option, Some, None}
use Rattle.std.specs.List.{AllByRecursion}
use Rattle.pg_pairs.specs.declared.choices.choice.Choice.{Choice}
use Rattle.pg_pairs.specs.bounds.Covering.{IsAmong}
use Rattle.pg_pairs.specs.choices.Choices.{cheaper, cheapest}

-- the cheapest of a former choice, where there is one, and of later ones
abbrev pub first_of : Option Choice → Option Choice → Option Choice
first_of None later = later
first_of (Some c) later = Some (cheaper c later)

-- one of the choices, of which none costs less; none only where there is no choice
abbrev pub IsCheapest : Option Choice → List Choice → Type 0
IsCheapest (Some c) cs = IsAmong c cs × AllByRecursion (λ (d : Choice). c.cost ≤ d.cost) cs
IsCheapest None cs = cs ≡ []

-- So it is, for every list of choices.
abbrev pub CheapestIsLeast : Type 0
CheapestIsLeast = (cs : List Choice) → IsCheapest (cheapest cs) cs
