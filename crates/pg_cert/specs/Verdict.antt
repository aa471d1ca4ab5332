-- What a claim that holds shows, and what that says of messages.
use Rattle.std.specs.Prelude.{◌≡◌, ℕ, ◌≤◌, List, length, Option, Some, None}
use Rattle.pg_schema.specs.Shape.{Shape}
use Rattle.pg_dyn.specs.message.Message.{Message}
use Rattle.pg_dyn.specs.encoding.Encoding.{enc}
use Rattle.pg_dyn.specs.views.Breaking.{Breaks, Compatible, Least}
use Rattle.pg_pairs.specs.declared.choices.choice.Pair.{Pair}
use Rattle.pg_pairs.specs.views.EnumView.{EnumView}
use Rattle.pg_cert.specs.declared.verdict.Verdict.{Verdict}
use Rattle.pg_cert.specs.declared.verdict.Verdict.TheVariants as verdicts
use Rattle.pg_cert.specs.Certificate.{bound_in, Claim}

-- what the root's bound says by itself
abbrev pub bound_verdict : Option (Option ℕ) → Verdict
bound_verdict (Some (Some n)) = verdicts.AtLeast n
bound_verdict (Some None) = verdicts.Compatible
bound_verdict None = verdicts.Compatible

-- what a claim that holds shows
abbrev pub verdict_of : Claim → Verdict
verdict_of claim = of claim.witness
  where
    of : Option (List ℕ) → Verdict
    of (Some bytes) = verdicts.Breaks
    of None = bound_verdict (bound_in claim.bounds claim.root)

-- the bytes are those of a message that breaks, and no message that breaks has fewer
pub record IsShortestWitness (enum_view : EnumView) (old new : Shape) (root : Pair) (bytes : List ℕ) : Type 0 where
  pub message : Message
  pub breaks : Breaks enum_view.alike old new root.old root.new message
  pub written : enc old root.old message ≡ bytes
  pub least : Least enum_view.alike old new root.old root.new (length bytes)

-- what a verdict says of the messages of the root's old type
abbrev pub Says : EnumView → Shape → Shape → Claim → Verdict → Type 0
Says enum_view old new claim verdicts.Compatible =
    Compatible enum_view.alike old new claim.root.old claim.root.new
Says enum_view old new claim (verdicts.AtLeast n) =
    (v : Message) → Breaks enum_view.alike old new claim.root.old claim.root.new v
    → n ≤ length (enc old claim.root.old v)
Says enum_view old new claim verdicts.Breaks =
    (bytes : List ℕ) × (claim.witness ≡ Some bytes) × IsShortestWitness enum_view old new claim.root bytes
