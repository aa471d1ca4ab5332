-- The fields on a witness's path: what its steps name.
use Rattle.std.specs.Prelude.{◌≡◌, ℕ, List, [], ◌∷◌, ◌++◌, map, codes, if◌then◌else◌, string_bytes}
use Rattle.std.specs.List.{flat_map}
use Rattle.std.specs.Option.{option_map_or}
use Rattle.pg_link.specs.names.Names.{Text}
use Rattle.pg_cert.specs.Certificate.{bound_in, Claim}
use Rattle.pg_cert.specs.ClaimView.{view_in}
use Rattle.pg_cert.specs.Text.{names_of}
use Rattle.pg_least.specs.Searched.{IsPath}
use Rattle.pg_least.specs.declared.witness.PairChoice as stages
use Rattle.pg_pairs.specs.choices.Choices.{is_oneof}
use Rattle.pg_pairs.specs.declared.choices.choice.Choice.{Choice}
use Rattle.pg_pairs.specs.declared.choices.choice.Pair.{Pair}
use Rattle.pg_schema.specs.declared.parts.field.Field.{Field}
use Rattle.pg_schema.specs.declared.parts.field.TypeId.{TypeId}
use Rattle.pg_schema.specs.declared.parts.Parts.{Parts}
use Rattle.pg_schema.specs.Lookups.{field_of}
use Rattle.pg_schema.specs.Parts.{shape_of}
use Rattle.pg_lines.specs.declared.step.Step.{Step}

-- a field by its number, and by its full names in the old and in the new type
pub record NamedStep : Type 0 where
  pub number : ℕ
  pub old : Text
  pub new : Text

-- the full name of the type's field of that number: that of the type, a dot, and its own
abbrev pub field_name : Parts → TypeId → ℕ → Text
field_name parts id number = (names_of parts id ++ codes ".")
    ++ option_map_or (λ (f : Field). string_bytes f.name) (field_of parts id number) []

abbrev pub named_at : Parts → Parts → Pair → ℕ → NamedStep
named_at old new pair number =
    record { number = number; old = field_name old pair.old number; new = field_name new pair.new number }

-- The fields of a choice: one, or both that meet in a oneof of the new type, the smaller number first.
abbrev pub numbers_of : Choice → List ℕ
numbers_of c = if is_oneof c.case then c.number ∷ c.part ∷ [] else c.number ∷ []

abbrev pub steps_by : Parts → Parts → stages.PairChoice → List NamedStep
steps_by old new stage = map (named_at old new stage.pair) (numbers_of stage.choice)

-- a step without its positions
abbrev pub named : Step → NamedStep
named step = record { number = step.number; old = string_bytes step.old.name; new = string_bytes step.new.name }

-- The steps are the fields of the choices on the witness's path, root first: from the claim's root by the cheapest
-- choice of each pair to the pair of the message that the choice holds. Enums are compared by the view that the claim
-- names.
pub record AreSteps (old new : Parts) (claim : Claim) (steps : List Step) : Type 0 where
  pub path : List stages.PairChoice
  pub is_path : IsPath (view_in old new claim) (shape_of old) (shape_of new) (bound_in claim.bounds) claim.root path
  pub are : map named steps ≡ flat_map (steps_by old new) path
