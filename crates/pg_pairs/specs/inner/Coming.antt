-- The fields of each new oneof, as the program gathers them from the last field on.
use Rattle.std.specs.Prelude.{◌≡◌, ℕ, nat_eq, ⊤, List, [], ◌∷◌, map, reverse, Option, Some, None}
use Rattle.std.specs.HashMap.{HashMap, get}
use Rattle.pg_schema.specs.Shape.{FieldShape}
use Rattle.pg_pairs.specs.declared.choices.choice.Choice.{Choice}
use Rattle.pg_pairs.specs.declared.choices.coming.Coming.{Coming}
use Rattle.pg_pairs.specs.choices.Choices.{affordable, cheapest}
use Rattle.pg_pairs.specs.choices.Told.{coming, meetings}

abbrev pub numbers_kept : Option Coming → List ℕ
numbers_kept None = []
numbers_kept (Some kept) = kept.numbers.items

abbrev pub choice_kept : Option Coming → Option Choice
choice_kept None = None
choice_kept (Some kept) = kept.choice

-- what is kept of these fields of one new oneof: their numbers, the last first, and a cheapest two that meet
pub record Gathers (gs : List FieldShape) (f : FieldShape) (fs : List FieldShape) (kept : Coming) : Type 0 where
  pub first : kept.first ≡ f.number
  pub numbers : reverse kept.numbers.items ≡ map (λ (g : FieldShape). g.number) (f ∷ fs)
  pub choice : kept.choice ≡ cheapest (affordable (meetings gs (f ∷ fs)))

-- it is kept just where there is a field
abbrev pub IsGathered : List FieldShape → List FieldShape → Option Coming → Type 0
IsGathered gs [] None = ⊤
IsGathered gs [] (Some kept) = ⊥
IsGathered gs (f ∷ fs) None = ⊥
IsGathered gs (f ∷ fs) (Some kept) = Gathers gs f fs kept

-- of each new oneof the fields among these
abbrev pub AreGathered : {S : Type 0} → List FieldShape → List FieldShape → HashMap ℕ Coming S → Type 0
AreGathered gs fs kept = (oneof : ℕ) → IsGathered gs (coming gs (Some oneof) fs) (get nat_eq kept oneof)
