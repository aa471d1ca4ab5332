-- What checking functions inside the crate say of a certificate's bytes.
use Rattle.std.specs.Prelude.{◌≡◌, ◌⊎◌, Bool, IsTrue, string_bytes}
use Rattle.pg_cert.specs.declared.error.CertError.{CertError}
use Rattle.pg_cert.specs.declared.error.CertError.TheVariants as checks
use Rattle.pg_link.specs.names.Names.{Text}
use Rattle.pg_link.specs.walk.Walk.{World}
use Rattle.pg_schema.specs.declared.parts.Parts.{Parts}
use Rattle.pg_gate.specs.Errors.{IsCallError, IsMemory}
use Rattle.pg_gate.specs.answer.Grants.{IsCertificateFault, IsGiven}
use Rattle.pg_gate.specs.answer.Verified.{IsClaimFault, IsFaultOfClaim, IsHeldBy}
use Rattle.pg_gate.specs.declared.call_error.CallError.{CallError}
use Rattle.pg_gate.specs.declared.call_error.CertificateFault.{CertificateFault}
use Rattle.pg_gate.specs.declared.call_error.CertificateFault.TheVariants as certificates
use Rattle.pg_gate.specs.declared.print.reply.Finding.{Finding}

-- a checker's error is why the bytes are refused, or says that memory ran out
abbrev pub IsClaimRefusal : Parts → Parts → Text → CertError → Type 0
IsClaimRefusal old new bytes error = (error ≡ checks.Memory) ⊎ IsFaultOfClaim old new bytes error

-- the bytes are refused as a certificate, for this fault
abbrev pub IsOfClaim : Parts → Parts → Text → CertificateFault → Type 0
IsOfClaim old new bytes (certificates.Refused fault) = IsClaimFault old new bytes fault
IsOfClaim old new bytes fault = ⊥

abbrev pub IsClaimError : Parts → Parts → Text → CallError → Type 0
IsClaimError old new bytes = IsCallError IsMemory (IsOfClaim old new bytes) (λ error. ⊥)

-- why a source gives no bytes for a path
abbrev pub IsUngivenFault : (Text → Bool) → Text → CertificateFault → Type 0
IsUngivenFault lack path (certificates.Missing file) = (string_bytes file ≡ path) × IsTrue (lack path)
IsUngivenFault lack path (certificates.Failed file) = string_bytes file ≡ path
IsUngivenFault lack path fault = ⊥

abbrev pub IsUngiven : (Text → Bool) → Text → CallError → Type 0
IsUngiven lack path = IsCallError IsMemory (IsUngivenFault lack path) (λ error. ⊥)

-- what is found of a certificate, whose bytes the source may give for the path
abbrev pub IsFound : World → Text → Parts → Parts → Finding → Type 0
IsFound w path old new finding = IsGiven w path (λ bytes. IsHeldBy old new bytes finding)

-- why a certificate isn't taken, or memory ran out
abbrev pub IsUntaken : World → Text → Parts → Parts → CallError → Type 0
IsUntaken w path old new = IsCallError IsMemory (IsCertificateFault w path old new) (λ error. ⊥)
