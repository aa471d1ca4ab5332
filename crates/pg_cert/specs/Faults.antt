-- Where a table fails to cover its root: the first fault, in the order of this profile. The root first; then pair by
-- pair in the table's order, of each pair its first missing child, then its first choice that costs less than the
-- bound.
use Rattle.std.specs.Prelude.{◌≡◌, ◌⊎◌, ℕ, nat_le, List, [], ◌∷◌, find, Bool, false, not, Option, Some, None, option_map, is_some, if◌then◌else◌}
use Rattle.std.specs.Option.{option_or}
use Rattle.pg_schema.specs.Shape.{Shape}
use Rattle.pg_pairs.specs.declared.choices.choice.Choice.{Choice}
use Rattle.pg_pairs.specs.declared.choices.choice.Pair.{Pair}
use Rattle.pg_pairs.specs.views.EnumView.{EnumView}
use Rattle.pg_pairs.specs.choices.Choices.{case_number, Table, choices}
use Rattle.pg_pairs.specs.bounds.Covering.{children}
use Rattle.pg_cert.specs.declared.bounds.PairBound.{PairBound}
use Rattle.pg_cert.specs.declared.error.CertError.{CertError}
use Rattle.pg_cert.specs.declared.error.CertError.TheVariants.{Memory, BadText, RootMissing, PairMissing, BoundTooHigh, WitnessNotWritten, WitnessLength, WitnessKeeps}
use Rattle.pg_cert.specs.Certificate.{bound_in, Claim, HasLength, IsWitnessed}
use Rattle.pg_cert.specs.Witness.{IsWritten}

-- a bound is at most the cost; 'none' is above every cost
abbrev pub is_within : Option ℕ → ℕ → Bool
is_within (Some bound) cost = nat_le bound cost
is_within None cost = false

-- the first child of the pair that the table lacks
abbrev pub missing_child : Shape → Shape → Table → Pair → Option Pair
missing_child old new table pair = find (λ child. not (is_some (table child))) (children old new pair)

-- the first choice of the pair that costs less than the bound
abbrev pub cheaper_choice : EnumView → Shape → Shape → Table → PairBound → Option Choice
cheaper_choice enum_view old new table b =
    find (λ (c : Choice). not (is_within b.bound c.cost)) (choices enum_view table old new b.pair)

abbrev pub too_high : Pair → Choice → CertError
too_high pair c = BoundTooHigh pair c.number (case_number c.case)

abbrev pub pair_fault : EnumView → Shape → Shape → Table → PairBound → Option CertError
pair_fault enum_view old new table b =
    option_or (option_map (λ child. PairMissing child) (missing_child old new table b.pair))
    (option_map (too_high b.pair) (cheaper_choice enum_view old new table b))

abbrev pub first_pair_fault : EnumView → Shape → Shape → Table → List PairBound → Option CertError
first_pair_fault enum_view old new table [] = None
first_pair_fault enum_view old new table (b ∷ bounds) =
    option_or (pair_fault enum_view old new table b) (first_pair_fault enum_view old new table bounds)

abbrev pub root_fault : Table → Pair → Option CertError
root_fault table root = if is_some (table root) then None else Some RootMissing

abbrev pub first_fault : EnumView → Shape → Shape → List PairBound → Pair → Option CertError
first_fault enum_view old new bounds root =
    option_or (root_fault (bound_in bounds) root) (first_pair_fault enum_view old new (bound_in bounds) bounds)

-- Of a witness the first of three clauses that fails: it is written, it has the length that the root's bound says, it
-- breaks.
abbrev pub WitnessFault : EnumView → Shape → Shape → Pair → Option (Option ℕ) → List ℕ → CertError → Type 0
WitnessFault enum_view old new root bound bytes WitnessNotWritten = IsWritten old root bytes → ⊥
WitnessFault enum_view old new root bound bytes WitnessLength =
    IsWritten old root bytes × (HasLength bound bytes → ⊥)
WitnessFault enum_view old new root bound bytes WitnessKeeps =
    IsWritten old root bytes × HasLength bound bytes
    × (IsWitnessed enum_view old new root bound bytes → ⊥)
WitnessFault enum_view old new root bound bytes Memory = ⊥
WitnessFault enum_view old new root bound bytes BadText = ⊥
WitnessFault enum_view old new root bound bytes RootMissing = ⊥
WitnessFault enum_view old new root bound bytes (PairMissing pair) = ⊥
WitnessFault enum_view old new root bound bytes (BoundTooHigh pair number case) = ⊥

abbrev pub WitnessFaultIfThere : EnumView → Shape → Shape → Pair → Option (Option ℕ) → Option (List ℕ) → CertError
    → Type 0
WitnessFaultIfThere enum_view old new root bound (Some bytes) fault =
    WitnessFault enum_view old new root bound bytes fault
WitnessFaultIfThere enum_view old new root bound None fault = ⊥

-- The first fault of a claim: of its table, and only where that has none, of its witness.
abbrev pub IsFirstFault : EnumView → Shape → Shape → Claim → CertError → Type 0
IsFirstFault enum_view old new claim fault =
    (first_fault enum_view old new claim.bounds claim.root ≡ Some fault)
    ⊎ ((first_fault enum_view old new claim.bounds claim.root ≡ None)
    × WitnessFaultIfThere enum_view old new claim.root (bound_in claim.bounds claim.root) claim.witness fault)
