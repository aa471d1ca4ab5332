-- The message beside what a search answers.
use Rattle.std.specs.Prelude.{◌≡◌, Option, Some, None}
use Rattle.pg_schema.specs.Shape.{Shape}
use Rattle.pg_dyn.specs.views.Breaking.{Breaks}
use Rattle.pg_dyn.specs.encoding.Encoding.{enc}
use Rattle.pg_dyn.specs.fitting.Fits.{Fits}
use Rattle.pg_dyn.specs.message.Kept.{Kept, message_of, type_of}
use Rattle.pg_pairs.specs.views.EnumView.{EnumView}
use Rattle.pg_cert.specs.Certificate.{Claim}

-- a breaking message of the root's old type, whose bytes are the claim's witness
pub record IsWitnessMessage (enum_view : EnumView) (old new : Shape) (claim : Claim) (kept : Kept) : Type 0 where
  pub fits : Fits old kept
  pub type_is : type_of kept ≡ claim.root.old
  pub breaks : Breaks enum_view.alike old new claim.root.old claim.root.new (message_of kept)
  pub written : claim.witness ≡ Some (enc old claim.root.old (message_of kept))

-- the message is beside the claim, just where the claim has a witness
abbrev pub IsBesideClaim : EnumView → Shape → Shape → Claim → Option Kept → Type 0
IsBesideClaim enum_view old new claim (Some kept) = IsWitnessMessage enum_view old new claim kept
IsBesideClaim enum_view old new claim None = claim.witness ≡ None
