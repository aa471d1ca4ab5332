-- What a method sends and answers.
use Rattle.std.proofs.Common.{◌≡◌, ℕ, List, Option, Some, None, option_map, refl}
use Rattle.pg_set.specs.writing.Fields.{dotted}
use Rattle.pg_set.specs.writing.Items.{maybe_text}
use Rattle.pg_set.specs.writing.Set.{called_type}

pub called : (number : ℕ) (name : Option (List ℕ)) → called_type number name ≡ maybe_text number (option_map dotted name)
called number (Some name) = refl
called number None = refl
