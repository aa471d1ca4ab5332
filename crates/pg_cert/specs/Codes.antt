-- The number after the E by which users know the error.
use Rattle.std.specs.Prelude.{ℕ}
use Rattle.pg_cert.specs.declared.error.CertError.{CertError}
use Rattle.pg_cert.specs.declared.error.CertError.TheVariants as errors

abbrev pub code_of : CertError → ℕ
code_of errors.Memory = 1
code_of errors.BadText = 801
code_of errors.RootMissing = 802
code_of (errors.PairMissing pair) = 803
code_of (errors.BoundTooHigh pair number case) = 804
code_of errors.WitnessNotWritten = 805
code_of errors.WitnessLength = 806
code_of errors.WitnessKeeps = 807
