-- Small certificates: which hold, and the first fault of those that don't.
use Rattle.std.specs.Prelude.{◌≡◌, ℕ, true, false, List, [], ◌∷◌, Option, Some, None}
use Rattle.pg_schema.specs.declared.parts.field.Scalar.TheVariants.{Int32, Uint32}
use Rattle.pg_schema.specs.declared.parts.field.Element.TheVariants as elements
use Rattle.pg_schema.specs.declared.parts.field.Presence.TheVariants.{Implicit, Explicit, Repeated}
use Rattle.pg_schema.specs.Shape.{Shape}
use Rattle.pg_dyn.specs.declared.view_name.ViewName.TheVariants as views
use Rattle.pg_dyn.specs.laws.Examples.{first, second, field, scalar, of_fields, linked}
use Rattle.pg_pairs.specs.declared.choices.choice.Pair.{Pair}
use Rattle.pg_pairs.specs.views.EnumView.{by_numbers}
use Rattle.pg_pairs.specs.laws.SmallPairs.{both}
use Rattle.pg_cert.specs.declared.bounds.PairBound.{PairBound}
use Rattle.pg_cert.specs.declared.error.CertError.{CertError}
use Rattle.pg_cert.specs.declared.error.CertError.TheVariants.{RootMissing, PairMissing, BoundTooHigh, WitnessNotWritten, WitnessLength, WitnessKeeps}
use Rattle.pg_cert.specs.declared.verdict.Verdict.TheVariants as verdicts
use Rattle.pg_cert.specs.Certificate.{are_bounds, Claim, Holds}
use Rattle.pg_cert.specs.Faults.{first_fault, WitnessFault}
use Rattle.pg_cert.specs.Verdict.{verdict_of}

abbrev pub pair_bound : Pair → Option ℕ → PairBound
pair_bound pair bound = record { pair = pair; bound = bound }

-- a claim under the view by numbers, and the same under that by names
abbrev pub claim : Pair → List PairBound → Option (List ℕ) → Claim
claim root bounds witness = record { view = views.Numbers; root = root; bounds = bounds; witness = witness }

abbrev pub by_names : Claim → Claim
by_names c = record c { view = views.Names }

abbrev pub root : Pair
root = both first

-- a certificate that holds, and what it shows
abbrev pub Shows : Shape → Shape → Claim → Type 0
Shows old new c =
    Holds by_numbers old new c × (are_bounds c.bounds ≡ true)
    × (first_fault by_numbers old new c.bounds c.root ≡ None)

abbrev pub FaultIs : Shape → Shape → Claim → CertError → Type 0
FaultIs old new c fault = first_fault by_numbers old new c.bounds c.root ≡ Some fault

-- one field of int32, of uint32
abbrev pub signed : Shape
signed = of_fields (scalar 1 Implicit Int32 ∷ [])

abbrev pub unsigned : Shape
unsigned = of_fields (scalar 1 Implicit Uint32 ∷ [])

-- the number -1
abbrev pub minus_one : List ℕ
minus_one = 8 ∷ 255 ∷ 255 ∷ 255 ∷ 255 ∷ 255 ∷ 255 ∷ 255 ∷ 255 ∷ 255 ∷ 1 ∷ []

abbrev pub unchanged : Claim
unchanged = claim root (pair_bound root None ∷ []) None

abbrev pub to_unsigned : Option ℕ → Claim
to_unsigned bound = claim root (pair_bound root bound ∷ []) (Some minus_one)

-- the number 1
abbrev pub one_renamed : Claim
one_renamed = by_names (claim root (pair_bound root (Some 2) ∷ []) (Some (8 ∷ 1 ∷ [])))

-- a message in a message: the number 2 ^ 31 as a uint32
abbrev pub child_witness : List ℕ
child_witness = 18 ∷ 6 ∷ 8 ∷ 128 ∷ 128 ∷ 128 ∷ 128 ∷ 8 ∷ []

abbrev pub outer : PairBound
outer = pair_bound (both second) (Some 8)

abbrev pub inner : PairBound
inner = pair_bound root (Some 6)

abbrev pub in_child : List PairBound → Option (List ℕ) → Claim
in_child bounds witness = claim (both second) bounds witness

-- a type that holds itself, once and many times
abbrev pub tree : Shape
tree =
    of_fields (field 1 Explicit (elements.Message first) ∷ field 2 (Repeated false) (elements.Message first) ∷ [])

-- a zero before it, which the old writer doesn't write
abbrev pub after_zero : List ℕ
after_zero = 8 ∷ 0 ∷ minus_one

pub record WorkedCertificates : Type 0 where
  pub unchanged_field : Shows signed signed unchanged
  pub compatible_verdict : verdict_of unchanged ≡ verdicts.Compatible
  pub int32_to_uint32 : Shows signed unsigned (to_unsigned (Some 11))
  pub breaks_verdict : verdict_of (to_unsigned (Some 11)) ≡ verdicts.Breaks
  pub child_breaks : Shows (linked Uint32) (linked Int32) (in_child (outer ∷ inner ∷ []) (Some child_witness))
  pub bound_alone : Shows (linked Uint32) (linked Int32) (in_child (outer ∷ inner ∷ []) None)
  pub at_least_verdict : verdict_of (in_child (outer ∷ inner ∷ []) None) ≡ verdicts.AtLeast 8
  pub tree_unchanged : Shows tree tree unchanged
  -- what is refused: no table, a child that is missing, a bound too high by one, and of several faults the first
  pub no_table : FaultIs signed signed (claim root [] None) RootMissing
  pub child_missing : FaultIs (linked Uint32) (linked Int32)
      (in_child (outer ∷ []) (Some child_witness)) (PairMissing root)
  pub bound_too_high : FaultIs signed unsigned (to_unsigned (Some 12)) (BoundTooHigh root 1 2)
  pub none_too_high : FaultIs signed unsigned (to_unsigned None) (BoundTooHigh root 1 2)
  pub child_too_high : FaultIs (linked Uint32) (linked Int32)
      (in_child (outer ∷ pair_bound root (Some 7) ∷ []) None) (BoundTooHigh root 1 2)
  pub first_of_two : FaultIs (linked Uint32) (linked Int32)
      (in_child (pair_bound root None ∷ pair_bound (both second) None ∷ []) None) (BoundTooHigh root 1 2)
  pub zero_before : WitnessFault by_numbers signed unsigned root (Some (Some 11)) after_zero WitnessNotWritten
  pub wrong_length : WitnessFault by_numbers (linked Uint32) (linked Int32) (both second) (Some (Some 7)) child_witness
      WitnessLength
  pub witness_kept : WitnessFault by_numbers signed signed root (Some (Some 11)) minus_one WitnessKeeps
  -- a pair is there once, and a number is from 1 to 2,147,483,647
  pub pair_twice : are_bounds (inner ∷ inner ∷ []) ≡ false
  pub zero_is_no_bound : are_bounds (pair_bound root (Some 0) ∷ []) ≡ false
  pub bound_above_the_most : are_bounds (pair_bound root (Some 2147483648) ∷ []) ≡ false
  pub greatest_bound : are_bounds (pair_bound root (Some 2147483647) ∷ []) ≡ true
