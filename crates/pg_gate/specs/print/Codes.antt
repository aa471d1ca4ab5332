-- The number after the E by which users know the error.
use Rattle.std.specs.Prelude.{ℕ}
use Rattle.pg_cert.specs.Codes.{code_of as claim_code}
use Rattle.pg_check.specs.Codes.{code_of as rule_code}
use Rattle.pg_dyn.specs.error.Codes.{code_of as message_code}
use Rattle.pg_fds.specs.refusals.ErrorCodes.{code_of as set_code}
use Rattle.pg_link.specs.Codes.{code_of as link_code}
use Rattle.pg_show.specs.Codes.{code_of as word_code}
use Rattle.pg_show.specs.declared.error.HexError.TheVariants as hexes
use Rattle.pg_gate.specs.declared.call_error.CallError.{CallError}
use Rattle.pg_gate.specs.declared.call_error.CallError.TheVariants as calls
use Rattle.pg_gate.specs.declared.call_error.CertificateFault.{CertificateFault}
use Rattle.pg_gate.specs.declared.call_error.CertificateFault.TheVariants as certificates
use Rattle.pg_gate.specs.declared.error.Fault.{Fault}
use Rattle.pg_gate.specs.declared.error.Fault.TheVariants as faults
use Rattle.pg_gate.specs.declared.error.ListError.{ListError}
use Rattle.pg_gate.specs.declared.error.ListError.TheVariants as lists
use Rattle.pg_gate.specs.declared.error.GateError.{GateError}
use Rattle.pg_gate.specs.declared.error.GateError.TheVariants as gates

abbrev pub list_code : ListError → ℕ
list_code (lists.NotUtf8 place) = 906
list_code (lists.NoFile place) = 907

abbrev pub fault_code : Fault → ℕ
fault_code (faults.Link error) = link_code error
fault_code (faults.Check error) = rule_code error
fault_code (faults.Set error) = set_code error
fault_code (faults.List error) = list_code error

-- the code that says what is wrong with a side that doesn't compile
abbrev pub code_of : GateError → ℕ
code_of gates.Memory = 1
code_of gates.RootMissingOld = 901
code_of gates.RootMissingNew = 902
code_of (gates.Compile side fault) = fault_code fault
code_of gates.WriteFailed = 904
code_of gates.BadHex = word_code hexes.BadHex

-- a certificate that isn't given has the code of any file that isn't given
abbrev pub certificate_code : CertificateFault → ℕ
certificate_code (certificates.Missing file) = 301
certificate_code (certificates.Failed file) = 309
certificate_code (certificates.Refused fault) = claim_code fault.error

abbrev pub call_code : CallError → ℕ
call_code (calls.Gate error) = code_of error
call_code (calls.Certificate fault) = certificate_code fault
call_code (calls.Bytes error) = message_code error
