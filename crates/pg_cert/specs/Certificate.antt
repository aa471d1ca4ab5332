-- Certificates: tables of bounds, what a certificate claims, and when a claim holds (this project's choice: what a
-- reader of a certificate has to trust).
use Rattle.std.specs.Prelude.{◌≡◌, ℕ, ⊤, nat_le, List, [], ◌∷◌, length, find, Bool, true, not, ◌&&◌, is_some, Option, Some, None, option_map}
use Rattle.pg_schema.specs.Shape.{Shape}
use Rattle.pg_dyn.specs.declared.view_name.ViewName.{ViewName}
use Rattle.pg_dyn.specs.message.Message.{Message}
use Rattle.pg_dyn.specs.encoding.Encoding.{enc, cap}
use Rattle.pg_dyn.specs.views.Breaking.{Breaks}
use Rattle.pg_pairs.specs.declared.choices.choice.Pair.{Pair}
use Rattle.pg_pairs.specs.views.EnumView.{EnumView}
use Rattle.pg_pairs.specs.bounds.Covering.{Covers, same_pair}
use Rattle.pg_pairs.specs.choices.Choices.{Table}
use Rattle.pg_cert.specs.declared.bounds.PairBound.{PairBound}

-- 'none', or from 1 to the most bytes that a message may have
abbrev pub is_bound : Option ℕ → Bool
is_bound (Some n) = nat_le 1 n && nat_le n cap
is_bound None = true

-- the bound of a pair, where the list has one
abbrev pub bound_in : List PairBound → Table
bound_in bounds pair =
    option_map (λ (b : PairBound). b.bound) (find (λ (b : PairBound). same_pair pair b.pair) bounds)

-- each bound is one, and each pair is there once
abbrev pub are_bounds : List PairBound → Bool
are_bounds [] = true
are_bounds (b ∷ bounds) = is_bound b.bound && not (is_some (bound_in bounds b.pair)) && are_bounds bounds

-- the name of the view, the pair of root types, bounds of pairs, and maybe the bytes of a message that breaks
pub record Claim : Type 0 where
  pub view : ViewName
  pub root : Pair
  pub bounds : List PairBound
  pub witness : Option (List ℕ)

-- as many bytes as the bound says
abbrev pub HasLength : Option (Option ℕ) → List ℕ → Type 0
HasLength bound bytes = bound ≡ Some (Some (length bytes))

-- The bytes are those that the old writer writes of a message without unknown records; this message breaks, and the
-- root's bound is its length.
pub record IsWitnessed (enum_view : EnumView) (old new : Shape) (root : Pair) (bound : Option (Option ℕ))
    (bytes : List ℕ) : Type 0 where
  pub message : Message
  pub breaks : Breaks enum_view.alike old new root.old root.new message
  pub written : enc old root.old message ≡ bytes
  pub length_is : HasLength bound bytes

abbrev pub IsWitnessedIfThere : EnumView → Shape → Shape → Pair → Option (Option ℕ) → Option (List ℕ) → Type 0
IsWitnessedIfThere enum_view old new root bound (Some bytes) = IsWitnessed enum_view old new root bound bytes
IsWitnessedIfThere enum_view old new root bound None = ⊤

-- the table covers the root, and the witness, where there is one, is as the root's bound says
pub record Holds (enum_view : EnumView) (old new : Shape) (claim : Claim) : Type 0 where
  pub covers : Covers enum_view old new (bound_in claim.bounds) claim.root
  pub witnessed : IsWitnessedIfThere enum_view old new claim.root (bound_in claim.bounds claim.root) claim.witness
