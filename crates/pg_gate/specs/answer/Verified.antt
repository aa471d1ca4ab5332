-- What a certificate's bytes show of two schemas, and why they are refused. Contracts take a certificate as a
-- claim.
use Rattle.std.specs.Prelude.{◌≡◌, ℕ, List, length, Option, Some, None, string_bytes}
use Rattle.pg_link.specs.names.Names.{Text}
use Rattle.pg_cert.specs.Certificate.{Claim}
use Rattle.pg_cert.specs.Verdict.{verdict_of}
use Rattle.pg_cert.specs.ClaimView.{HoldsOf, IsFirstFaultOf, SaysOf}
use Rattle.pg_cert.specs.Text.{Certifies, names_of}
use Rattle.pg_cert.specs.declared.error.CertError.{CertError}
use Rattle.pg_cert.specs.declared.error.CertError.TheVariants as checks
use Rattle.pg_pairs.specs.declared.choices.choice.Pair.{Pair}
use Rattle.pg_schema.specs.declared.parts.Parts.{Parts}
use Rattle.pg_least.specs.Loss.{IsNamed}
use Rattle.pg_gate.specs.declared.call_error.ClaimFault.{ClaimFault}
use Rattle.pg_lines.specs.declared.location.PairNames.{PairNames}
use Rattle.pg_lines.specs.declared.location.Location.{Location}
use Rattle.pg_lines.specs.declared.location.Location.TheVariants as locations
use Rattle.pg_gate.specs.declared.print.reply.Finding.{Finding}
use Rattle.pg_gate.specs.declared.print.reply.Finding.TheVariants as findings
use Rattle.pg_gate.specs.declared.answer.verified.Verified.{Verified}

-- ---- what holds

-- how many bytes a witness has
abbrev pub witness_length : Option (List ℕ) → ℕ
witness_length (Some bytes) = length bytes
witness_length None = 0

-- The bytes spell a claim of the two schemas, and the claim holds under the view that it names: its table covers its
-- root, and its witness, where it has one, is as the root's bound says. The verdict is the claim's, and what it says
-- is true of every message of the root's old type (`Says`): `Compatible`, that none breaks; `Breaks`, that the
-- witness's does, and none that breaks has fewer bytes; `AtLeast n`, that each that breaks has at least n bytes. The
-- name is the old root type's, and the length the witness's.
pub record IsHeld (old new : Parts) (bytes : Text) (verified : Verified) : Type 0 where
  pub claim : Claim
  pub certifies : Certifies old new bytes claim
  pub holds : HoldsOf old new claim
  pub verdict_is : verified.verdict ≡ verdict_of claim
  pub says : SaysOf old new claim verified.verdict
  pub named : IsNamed old (string_bytes verified.name) claim.root.old
  pub length_is : verified.length ≡ witness_length claim.witness

-- what is found of a certificate's bytes
abbrev pub IsHeldBy : Parts → Parts → Text → Finding → Type 0
IsHeldBy old new bytes (findings.Verified verified) = IsHeld old new bytes verified
IsHeldBy old new bytes finding = ⊥

-- ---- what is refused

-- the full names of the pair's types
pub record AreNames (old new : Parts) (pair : Pair) (names : PairNames) : Type 0 where
  pub old_is : string_bytes names.old ≡ names_of old pair.old
  pub new_is : string_bytes names.new ≡ names_of new pair.new

-- the bytes spell a claim of the two schemas, which has this first fault under the view that it names
pub record HasFirstFault (old new : Parts) (bytes : Text) (fault : CertError) : Type 0 where
  pub claim : Claim
  pub certifies : Certifies old new bytes claim
  pub is_first : IsFirstFaultOf old new claim fault

-- why bytes are refused: they certify nothing, or the claim that they certify has this first fault
abbrev pub IsFaultOfClaim : Parts → Parts → Text → CertError → Type 0
IsFaultOfClaim old new bytes checks.Memory = ⊥
IsFaultOfClaim old new bytes checks.BadText = (claim : Claim) → Certifies old new bytes claim → ⊥
IsFaultOfClaim old new bytes error = HasFirstFault old new bytes error

-- the pair that a fault is of
abbrev pub pair_of : CertError → Option Pair
pair_of (checks.PairMissing pair) = Some pair
pair_of (checks.BoundTooHigh pair number case) = Some pair
pair_of error = None

-- where a fault is reported: at its pair, by the full names of the types, or nowhere
abbrev pub IsPlaceOf : Parts → Parts → CertError → Location → Type 0
IsPlaceOf old new fault locations.Nowhere = pair_of fault ≡ None
IsPlaceOf old new fault (locations.AtPair names) =
    (pair : Pair) × (fault ≡ checks.PairMissing pair) × AreNames old new pair names
IsPlaceOf old new fault (locations.AtChoice names number case) =
    (pair : Pair) × (fault ≡ checks.BoundTooHigh pair number case) × AreNames old new pair names
IsPlaceOf old new fault location = ⊥

-- bytes are refused for this fault, which is reported there
pub record IsClaimFault (old new : Parts) (bytes : Text) (fault : ClaimFault) : Type 0 where
  pub is_fault : IsFaultOfClaim old new bytes fault.error
  pub is_place : IsPlaceOf old new fault.error fault.location
