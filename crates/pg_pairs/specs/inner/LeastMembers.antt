-- The cheapest fields that a field can meet in a new oneof.
use Rattle.std.specs.Prelude.{◌≡◌, ℕ, ◌+◌, ◌≤◌, nat_eq, nat_le, ⊤, List, [], ◌∷◌, not, ◌&&◌, if◌then◌else◌, Option, Some, None, IfSome}
use Rattle.std.specs.HashMap.{HashMap, get}
use Rattle.pg_schema.specs.Shape.{FieldShape}
use Rattle.pg_dyn.specs.reading.Content.{same_oneof}
use Rattle.pg_pairs.specs.declared.choices.case.Case.TheVariants as cases
use Rattle.pg_pairs.specs.declared.choices.choice.Choice.{Choice}
use Rattle.pg_pairs.specs.declared.choices.least_member.Member.{Member}
use Rattle.pg_pairs.specs.declared.choices.least_member.Two.{Two}
use Rattle.pg_pairs.specs.choices.Choices.{choice}
use Rattle.pg_pairs.specs.choices.Costs.{least_content}
use Rattle.pg_pairs.specs.choices.NewOneof.{new_oneof}

abbrev pub member_of : FieldShape → Member
member_of f = record { number = f.number; cost = least_content f; oneof = f.oneof }

-- of equal costs the former
abbrev pub lesser : Member → Option Member → Member
lesser m None = m
lesser m (Some n) = if nat_le m.cost n.cost then m else n

-- of the fields in that new oneof and not in that old one a field of the least content, of several the first
abbrev pub least_member : List FieldShape → Option ℕ → Option ℕ → List FieldShape → Option Member
least_member gs new old [] = None
least_member gs new old (f ∷ fs) =
    if same_oneof new (new_oneof gs f) && not (same_oneof old f.oneof)
    then Some (lesser (member_of f) (least_member gs new old fs)) else least_member gs new old fs

-- what both contents cost
abbrev pub joined_with : Member → Member → Choice
joined_with a b = choice a.number cases.Oneof b.number (a.cost + b.cost)

-- the choice of a field with the one that it meets, where it meets one
abbrev pub met_choices : Member → Option Member → List Choice
met_choices a None = []
met_choices a (Some b) = joined_with a b ∷ []

-- the one of the two that isn't in that old oneof
abbrev pub beside : Option Two → Option ℕ → Option Member
beside None old = None
beside (Some two) old = if same_oneof old two.first.oneof then two.other else Some two.first

abbrev pub IsOrdered : Option Two → Type 0
IsOrdered None = ⊤
IsOrdered (Some two) = IfSome two.other (λ other. two.first.cost ≤ other.cost)

-- the two of each new oneof have the least of these fields, whatever old oneof it may not be in
pub record KeepsLeast {S : Type 0} (gs fs : List FieldShape) (kept : HashMap ℕ Two S) : Type 0 where
  pub least : (new : ℕ) (old : Option ℕ) → beside (get nat_eq kept new) old ≡ least_member gs (Some new) old fs
  pub ordered : (new : ℕ) → IsOrdered (get nat_eq kept new)
