-- The refusal that is printed for an error: its code, and where the fault is.
use Rattle.std.specs.Prelude.{ℕ, Bool, true, false, nat_eq, Option, Some, None, option_map}
use Rattle.pg_check.specs.Codes.{place_of as rule_place}
use Rattle.pg_dyn.specs.declared.error.DynError.{DynError}
use Rattle.pg_dyn.specs.error.Codes.{code_of as message_code, place_of as message_place}
use Rattle.pg_fds.specs.refusals.ErrorCodes.{place_of as set_place}
use Rattle.pg_link.specs.Codes.{place_of as link_place}
use Rattle.pg_link.specs.declared.error.Place.{Place}
use Rattle.pg_call.specs.Call.{Request, compile, show, types}
use Rattle.pg_gate.specs.print.Codes.{call_code}
use Rattle.pg_gate.specs.declared.call_error.CallError.{CallError}
use Rattle.pg_gate.specs.declared.call_error.CallError.TheVariants as calls
use Rattle.pg_gate.specs.declared.call_error.CertificateFault.{CertificateFault}
use Rattle.pg_gate.specs.declared.call_error.CertificateFault.TheVariants as certificates
use Rattle.pg_gate.specs.declared.error.Fault.{Fault}
use Rattle.pg_gate.specs.declared.error.Fault.TheVariants as faults
use Rattle.pg_gate.specs.declared.error.ListError.{ListError}
use Rattle.pg_gate.specs.declared.error.ListError.TheVariants as lists
use Rattle.pg_gate.specs.declared.error.GateError.{GateError}
use Rattle.pg_gate.specs.declared.error.GateError.TheVariants.{Memory, RootMissingOld, RootMissingNew, Compile, WriteFailed, BadHex}
use Rattle.pg_lines.specs.declared.side.Side.{Side}
use Rattle.pg_lines.specs.declared.location.Location.{Location}
use Rattle.pg_lines.specs.declared.location.Location.TheVariants.{Nowhere, InPlace, InFile, AtByte}
use Rattle.pg_lines.specs.declared.refusal.Refusal.{Refusal}

-- ---- positions

-- a file as a whole, or a line and a column in it
abbrev pub located_by : Bool → Place → Location
located_by true place = InFile place.file
located_by false place = InPlace place

abbrev pub located : Place → Location
located place = located_by (nat_eq place.line 0) place

-- at a position in a source file, or nowhere
abbrev pub location_at : Option Place → Location
location_at (Some place) = located place
location_at None = Nowhere

-- a byte of the whole input, or none
abbrev pub location_of : Option ℕ → Location
location_of (Some at) = AtByte at
location_of None = Nowhere

abbrev pub location_of_list : ListError → Location
location_of_list (lists.NotUtf8 place) = located place
location_of_list (lists.NoFile place) = located place

-- where a side is at fault
abbrev pub location_of_fault : Fault → Location
location_of_fault (faults.Link error) = location_at (link_place error)
location_of_fault (faults.Check error) = location_at (rule_place error)
location_of_fault (faults.Set error) = location_of (set_place error)
location_of_fault (faults.List error) = location_of_list error

-- a certificate that isn't given is reported by its file
abbrev pub location_of_certificate : CertificateFault → Location
location_of_certificate (certificates.Missing file) = InFile file
location_of_certificate (certificates.Failed file) = InFile file
location_of_certificate (certificates.Refused fault) = fault.location

-- ---- refusals

abbrev pub refusal_by : Option Side → ℕ → Location → Refusal
refusal_by side code location = record { side = side; code = code; location = location }

-- the refusal of an error of the gate with this code; out of memory and a sink that failed aren't printed
abbrev pub refusal_of_gate : ℕ → GateError → Option Refusal
refusal_of_gate code Memory = None
refusal_of_gate code RootMissingOld = Some (refusal_by None code Nowhere)
refusal_of_gate code RootMissingNew = Some (refusal_by None code Nowhere)
refusal_of_gate code (Compile side fault) = Some (refusal_by (Some side) code (location_of_fault fault))
refusal_of_gate code WriteFailed = None
refusal_of_gate code BadHex = Some (refusal_by None code Nowhere)

-- the faults of a certificate and of bytes are reported without a side
abbrev pub refusal_with : ℕ → CallError → Option Refusal
refusal_with code (calls.Gate error) = refusal_of_gate code error
refusal_with code (calls.Certificate fault) = Some (refusal_by None code (location_of_certificate fault))
refusal_with code (calls.Bytes error) = Some (refusal_by None code (location_of (message_place error)))

-- the refusal of bytes, as `show` prints it
abbrev pub refusal_of_bytes : DynError → Refusal
refusal_of_bytes error = refusal_by None (message_code error) (location_of (message_place error))

abbrev pub refusal_of : CallError → Option Refusal
refusal_of error = refusal_with (call_code error) error

-- files that are compiled by themselves have no side
abbrev pub without_side : Refusal → Refusal
without_side refusal = refusal_by None refusal.code refusal.location

-- the refusal that is printed for an error of a call
abbrev pub refusal_for : Request → CallError → Option Refusal
refusal_for (compile files) error = option_map without_side (refusal_of error)
refusal_for (show asked) error = option_map without_side (refusal_of error)
refusal_for (types files json) error = option_map without_side (refusal_of error)
refusal_for call error = refusal_of error
