-- What the view that a claim names finds alike between two schemas, and when the claim holds of them.
use Rattle.pg_schema.specs.declared.parts.Parts.{Parts}
use Rattle.pg_schema.specs.Parts.{shape_of}
use Rattle.pg_pairs.specs.views.NamedView.{seen_under}
use Rattle.pg_pairs.specs.views.EnumView.{EnumView}
use Rattle.pg_cert.specs.declared.error.CertError.{CertError}
use Rattle.pg_cert.specs.declared.verdict.Verdict.{Verdict}
use Rattle.pg_cert.specs.Certificate.{Claim, Holds}
use Rattle.pg_cert.specs.Faults.{IsFirstFault}
use Rattle.pg_cert.specs.Verdict.{Says}

abbrev pub view_in : Parts → Parts → Claim → EnumView
view_in old new claim = seen_under claim.view old new

-- the claim holds under the view that it names
abbrev pub HoldsOf : Parts → Parts → Claim → Type 0
HoldsOf old new claim = Holds (view_in old new claim) (shape_of old) (shape_of new) claim

-- what a verdict says of the messages of its root's old type, under this view
abbrev pub SaysOf : Parts → Parts → Claim → Verdict → Type 0
SaysOf old new claim verdict = Says (view_in old new claim) (shape_of old) (shape_of new) claim verdict

-- the first fault of the claim, under this view
abbrev pub IsFirstFaultOf : Parts → Parts → Claim → CertError → Type 0
IsFirstFaultOf old new claim fault = IsFirstFault (view_in old new claim) (shape_of old) (shape_of new) claim fault
