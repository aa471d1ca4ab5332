-- What errors say.
use Rattle.std.specs.Prelude.{◌≡◌}
use Rattle.pg_dyn.specs.declared.error.DynError.{DynError}
use Rattle.pg_gate.specs.declared.call_error.CallError.{CallError}
use Rattle.pg_gate.specs.declared.call_error.CallError.TheVariants as calls
use Rattle.pg_gate.specs.declared.call_error.CertificateFault.{CertificateFault}
use Rattle.pg_gate.specs.declared.error.Fault.{Fault}
use Rattle.pg_gate.specs.declared.error.GateError.{GateError}
use Rattle.pg_gate.specs.declared.error.GateError.TheVariants as gates
use Rattle.pg_lines.specs.declared.side.Side.{Side}

-- What an error says, by what each error would: of a missing root of either side, of an argument that spells no bytes,
-- and of a fault of a side. Out of memory says nothing, and that the sink failed is no answer of a source.
abbrev pub IsError : (old_missing new_missing bad_hex : Type 0) → (Side → Fault → Type 0) → GateError → Type 0
IsError old_missing new_missing bad_hex fault gates.Memory = Unit {0}
IsError old_missing new_missing bad_hex fault gates.RootMissingOld = old_missing
IsError old_missing new_missing bad_hex fault gates.RootMissingNew = new_missing
IsError old_missing new_missing bad_hex fault (gates.Compile side found) = fault side found
IsError old_missing new_missing bad_hex fault gates.WriteFailed = ⊥
IsError old_missing new_missing bad_hex fault gates.BadHex = bad_hex

-- what a call's error says, by what each kind of it would
abbrev pub IsCallError : (GateError → Type 0) → (CertificateFault → Type 0) → (DynError → Type 0) → CallError → Type 0
IsCallError gate certificate bytes (calls.Gate error) = gate error
IsCallError gate certificate bytes (calls.Certificate fault) = certificate fault
IsCallError gate certificate bytes (calls.Bytes error) = bytes error

abbrev pub IsMemory : GateError → Type 0
IsMemory error = error ≡ gates.Memory
