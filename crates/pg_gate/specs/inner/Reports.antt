-- What functions inside the crate report of an answer's certificate.
use Rattle.std.specs.Prelude.{◌≡◌, Bool, true, false, Some, None, is_some, string_bytes}
use Rattle.pg_cert.specs.Certificate.{Claim}
use Rattle.pg_cert.specs.Text.{Certifies, IsSecondText}
use Rattle.pg_schema.specs.declared.parts.Parts.{Parts}
use Rattle.pg_gate.specs.answer.Showing.{IsExplained}
use Rattle.pg_gate.specs.answer.Steps.{AreSteps}
use Rattle.pg_gate.specs.declared.print.reply.Finding.{Finding}
use Rattle.pg_gate.specs.declared.print.reply.Finding.TheVariants as findings

-- the certificate's witness, its steps and, where they are asked for, its readings; or that it has none
abbrev pub ReportsAnswer : Parts → Parts → Claim → (explain : Bool) → Finding → Type 0
ReportsAnswer old new certificate explain findings.Compatible = certificate.witness ≡ None
ReportsAnswer old new certificate explain (findings.Breaks witness steps readings) =
    (certificate.witness ≡ Some witness.items) × AreSteps old new certificate steps.items
    × IsExplained explain old new certificate.root witness.items readings
ReportsAnswer old new certificate explain finding = ⊥

-- the certificate as a string in version 2, and whether it has a witness
abbrev pub ReportsCertificate : Parts → Parts → Claim → Finding → Type 0
ReportsCertificate old new certificate (findings.Certified text breaks) =
    Certifies old new (string_bytes text) certificate × IsSecondText old new (string_bytes text) certificate
    × (breaks ≡ is_some certificate.witness)
ReportsCertificate old new certificate finding = ⊥

abbrev pub Reports : Parts → Parts → Claim → (certificate_only explain : Bool) → Finding → Type 0
Reports old new certificate false explain finding = ReportsAnswer old new certificate explain finding
Reports old new certificate true explain finding = ReportsCertificate old new certificate finding
