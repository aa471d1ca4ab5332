-- The failures of their sources that errors report.
use Rattle.std.specs.Prelude.{ℕ, Result, Ok, Err}
use Rattle.pg_link.specs.walk.Walk.{failures_of}
use Rattle.pg_gate.specs.declared.call_error.CallError.{CallError}
use Rattle.pg_gate.specs.declared.call_error.CallError.TheVariants as calls
use Rattle.pg_gate.specs.declared.call_error.CertificateFault.{CertificateFault}
use Rattle.pg_gate.specs.declared.call_error.CertificateFault.TheVariants as certificates
use Rattle.pg_gate.specs.declared.error.Fault.{Fault}
use Rattle.pg_gate.specs.declared.error.Fault.TheVariants as faults
use Rattle.pg_gate.specs.declared.error.GateError.{GateError}
use Rattle.pg_gate.specs.declared.error.GateError.TheVariants as gates
use Rattle.pg_lines.specs.declared.side.Side.{Side}
use Rattle.pg_lines.specs.declared.side.Side.TheVariants as sides

-- the failures of its source that a fault reports
abbrev pub fault_failures : Fault → ℕ
fault_failures (faults.Link error) = failures_of {X = Unit {0}} (Err error)
fault_failures fault = 0

-- the failures of its source that the fault of a certificate reports
abbrev pub certificate_failures : CertificateFault → ℕ
certificate_failures (certificates.Failed file) = 1
certificate_failures fault = 0

-- how much of the first side's count belongs to the second side: all of it where they are the same, and else nothing
abbrev pub if_same : Side → Side → ℕ → ℕ
if_same sides.Old sides.Old count = count
if_same sides.New sides.New count = count
if_same side of count = 0

-- the failures of this side's source that an error reports
abbrev pub failures_at : Side → GateError → ℕ
failures_at side (gates.Compile of fault) = if_same side of (fault_failures fault)
failures_at side error = 0

-- A certificate is asked of the old source.
abbrev pub call_failures_at : Side → CallError → ℕ
call_failures_at side (calls.Gate error) = failures_at side error
call_failures_at side (calls.Certificate fault) = if_same side sides.Old (certificate_failures fault)
call_failures_at side (calls.Bytes error) = 0

-- the failures in an answer: those that its error reports
abbrev pub failures_by : {X E : Type 0} → (E → ℕ) → Result X E → ℕ
failures_by reports (Ok x) = 0
failures_by reports (Err error) = reports error

abbrev pub side_failures : {X : Type 0} → Side → Result X GateError → ℕ
side_failures side result = failures_by (failures_at side) result

abbrev pub call_failures : {X : Type 0} → Side → Result X CallError → ℕ
call_failures side result = failures_by (call_failures_at side) result
