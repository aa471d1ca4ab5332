-- What the checker answers of a claim under an enum view: whether it holds, and what that shows.
use Rattle.std.specs.Prelude.{◌≡◌, ◌⊎◌, Result, IfErr, IfOk, OnOk}
use Rattle.pg_schema.specs.Shape.{Shape}
use Rattle.pg_pairs.specs.views.EnumView.{EnumView}
use Rattle.pg_cert.specs.declared.error.CertError.{CertError}
use Rattle.pg_cert.specs.declared.error.CertError.TheVariants as errors
use Rattle.pg_cert.specs.declared.verdict.Verdict.{Verdict}
use Rattle.pg_cert.specs.Certificate.{Claim, Holds}
use Rattle.pg_cert.specs.Faults.{IsFirstFault}
use Rattle.pg_cert.specs.Verdict.{Says, verdict_of}

pub record IsChecked (enum_view : EnumView) (old new : Shape) (claim : Claim)
    (answer : Result Verdict CertError) : Type 0 where
  pub holds : OnOk answer (Holds enum_view old new claim)
  pub verdict : IfOk answer (λ verdict. verdict ≡ verdict_of claim)
  pub says : IfOk answer (λ verdict. Says enum_view old new claim verdict)
  pub first_fault : IfErr answer (λ e. (e ≡ errors.Memory) ⊎ IsFirstFault enum_view old new claim e)
  pub refused : IfErr answer (λ e. (e ≡ errors.Memory) ⊎ ¬ (Holds enum_view old new claim))
