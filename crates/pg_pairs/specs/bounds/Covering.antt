-- Tables of bounds that cover a pair: what a checker tests.
use Rattle.std.specs.Prelude.{◌≡◌, ℕ, ◌≤◌, nat_eq, List, [], ◌∷◌, flat_map, filter, Bool, true, false, not, ◌&&◌, if◌then◌else◌, Option, Some, None, is_some, option_to_list, ◌⊎◌}
use Rattle.std.specs.List.{AllByRecursion}
use Rattle.pg_schema.specs.declared.parts.field.Element.TheVariants as elements
use Rattle.pg_schema.specs.declared.parts.field.Presence.{Presence}
use Rattle.pg_schema.specs.declared.parts.field.Scalar.{Scalar}
use Rattle.pg_schema.specs.Shape.{Shape, FieldShape, fields, field_at}
use Rattle.pg_pairs.specs.declared.choices.choice.Choice.{Choice}
use Rattle.pg_pairs.specs.declared.choices.choice.Pair.{Pair}
use Rattle.pg_pairs.specs.views.EnumView.{EnumView}
use Rattle.pg_pairs.specs.gaps.Likeness.{like}
use Rattle.pg_pairs.specs.choices.Choices.{Table, child_pair, choices, map_key}

-- it is an element of the list
abbrev pub IsAmong : {A : Type 0} → A → List A → Type 0
IsAmong x [] = ⊥
IsAmong x (y ∷ ys) = (x ≡ y) ⊎ IsAmong x ys

-- whether messages in both fields are children of the pair: of two maps under like keys
abbrev pub children_by : Option Scalar → Option Scalar → Bool
children_by (Some k) (Some l) = like (elements.Scalar k) (elements.Scalar l)
children_by None None = true
children_by k l = false

abbrev pub has_children : Presence → Presence → Bool
has_children p q = children_by (map_key p) (map_key q)

-- the children of one field: messages in both types
abbrev pub field_children : FieldShape → FieldShape → List Pair
field_children f g = if has_children f.presence g.presence then option_to_list (child_pair f.element g.element) else []

abbrev pub children_beside : FieldShape → Option FieldShape → List Pair
children_beside f (Some g) = field_children f g
children_beside f None = []

abbrev pub all_children : List FieldShape → List FieldShape → List Pair
all_children gs fs = flat_map (λ (f : FieldShape). children_beside f (field_at gs f.number)) fs

abbrev pub same_pair : Pair → Pair → Bool
same_pair p q = nat_eq p.old.index q.old.index && nat_eq p.new.index q.new.index

-- each pair once, where it comes first
abbrev pub distinct : List Pair → List Pair
distinct [] = []
distinct (p ∷ ps) = p ∷ filter (λ q. not (same_pair p q)) (distinct ps)

abbrev pub children : Shape → Shape → Pair → List Pair
children old new pair = distinct (all_children (fields new pair.new) (fields old pair.old))

-- a bound is at most that; 'none' isn't
abbrev pub IsWithin : Option ℕ → ℕ → Type 0
IsWithin (Some bound) n = bound ≤ n
IsWithin None n = ⊥

abbrev pub IsThere : Table → Pair → Type 0
IsThere table pair = is_some (table pair) ≡ true

-- the pair's children are there, and its bound is at most the cost of each of its choices; 'none' only where there is
-- no choice
pub record IsCovered (enum_view : EnumView) (old new : Shape) (table : Table) (pair : Pair)
    (bound : Option ℕ) : Type 0 where
  pub children_there : AllByRecursion (IsThere table) (children old new pair)
  pub bound_below : AllByRecursion (λ (c : Choice). IsWithin bound c.cost) (choices enum_view table old new pair)

-- the pair is covered, and its bound is the cost of one of its choices
pub record IsExact (enum_view : EnumView) (old new : Shape) (table : Table) (pair : Pair)
    (bound : Option ℕ) : Type 0 where
  pub covered : IsCovered enum_view old new table pair bound
  pub chosen : (x : ℕ) → bound ≡ Some x → (c : Choice) × IsAmong c (choices enum_view table old new pair) × (c.cost ≡ x)

pub record Covers (enum_view : EnumView) (old new : Shape) (table : Table) (root : Pair) : Type 0 where
  pub root_there : IsThere table root
  pub each : (pair : Pair) (bound : Option ℕ) → table pair ≡ Some bound → IsCovered enum_view old new table pair bound
