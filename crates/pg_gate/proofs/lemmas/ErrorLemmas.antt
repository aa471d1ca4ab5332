-- What errors say, and which failures of sources they report.
use Rattle.std.proofs.Common.{◌≡◌, ℕ, Result, Ok, Err, IfErr, refl, ap, sym, subst}
use Rattle.std.specs.Result.{IsErrAnd}
use Rattle.pg_dyn.specs.declared.error.DynError.{DynError}
use Rattle.pg_gate.specs.Errors.{IsCallError, IsError, IsMemory}
use Rattle.pg_gate.specs.Failures.{call_failures_at, failures_at, failures_by, fault_failures, if_same}
use Rattle.pg_gate.specs.declared.call_error.CallError.{CallError}
use Rattle.pg_gate.specs.declared.call_error.CallError.TheVariants as calls
use Rattle.pg_gate.specs.declared.call_error.CertificateFault.{CertificateFault}
use Rattle.pg_gate.specs.declared.error.Fault.{Fault}
use Rattle.pg_gate.specs.declared.error.GateError.{GateError}
use Rattle.pg_gate.specs.declared.error.GateError.TheVariants as gates
use Rattle.pg_lines.specs.declared.side.Side.{Side}
use Rattle.pg_lines.specs.declared.side.Side.TheVariants as sides

-- ---- what errors say

pub error-weaker : {A B C A′ B′ C′ : Type 0} (F F′ : Side → Fault → Type 0) → (A → A′) → (B → B′) → (C → C′)
    → ((side : Side) (fault : Fault) → F side fault → F′ side fault) → (error : GateError) → IsError A B C F error → IsError A′ B′ C′ F′ error
error-weaker F F′ a b c f gates.Memory is = tt
error-weaker F F′ a b c f gates.RootMissingOld is = a is
error-weaker F F′ a b c f gates.RootMissingNew is = b is
error-weaker F F′ a b c f (gates.Compile side fault) is = f side fault is
error-weaker F F′ a b c f gates.WriteFailed is = is
error-weaker F F′ a b c f gates.BadHex is = c is

pub call_error-weaker : (G G′ : GateError → Type 0) (C C′ : CertificateFault → Type 0) (B B′ : DynError → Type 0) → ((error : GateError) → G error → G′ error)
    → ((fault : CertificateFault) → C fault → C′ fault) → ((error : DynError) → B error → B′ error) → (error : CallError) → IsCallError G C B error → IsCallError G′ C′ B′ error
call_error-weaker G G′ C C′ B B′ g c b (calls.Gate error) is = g error is
call_error-weaker G G′ C C′ B B′ g c b (calls.Certificate fault) is = c fault is
call_error-weaker G G′ C C′ B B′ g c b (calls.Bytes error) is = b error is

-- out of memory is an error of each kind
pub memory_is : (A B C : Type 0) (F : Side → Fault → Type 0) (error : GateError) → IsMemory error → IsError A B C F error
memory_is A B C F error is = subst (λ e. IsError A B C F e) (sym is) tt

-- an error that `?` passes on
pub IfErr-IsErrAnd : {T E : Type 0} (r : Result T E) (P Q : E → Type 0) → IsErrAnd r P → ((e : E) → P e → Q e) → IfErr r Q
IfErr-IsErrAnd (Ok x) P Q has weaker = tt
IfErr-IsErrAnd (Err e) P Q has weaker = weaker e has

-- what `?` passes on
pub passed_on : {T E : Type 0} (r : Result T E) (tells : E → ℕ) (error : E) → IsErrAnd r (λ e. e ≡ error) → failures_by tells r ≡ tells error
passed_on (Ok x) tells error is = absurd is
passed_on (Err e) tells error is = ap tells is

-- ---- failures

pub if_same_side : (side : Side) (count : ℕ) → if_same side side count ≡ count
if_same_side sides.Old count = refl
if_same_side sides.New count = refl

pub if_same_zero : (side of : Side) → if_same side of 0 ≡ 0
if_same_zero sides.Old sides.Old = refl
if_same_zero sides.Old sides.New = refl
if_same_zero sides.New sides.Old = refl
if_same_zero sides.New sides.New = refl

-- a side's own error reports nothing of the other side's source
pub new_alone : (A B C : Type 0) (F : Fault → Type 0) (error : GateError) → IsError A B C (λ of found. (of ≡ sides.Old) × F found) error → failures_at sides.New error ≡ 0
new_alone A B C F gates.Memory is = refl
new_alone A B C F gates.RootMissingOld is = refl
new_alone A B C F gates.RootMissingNew is = refl
new_alone A B C F (gates.Compile of fault) is = ap (λ s. if_same sides.New s (fault_failures fault)) is.0
new_alone A B C F gates.WriteFailed is = refl
new_alone A B C F gates.BadHex is = refl

pub old_alone : (A B C : Type 0) (F : Fault → Type 0) (error : GateError) → IsError A B C (λ of found. (of ≡ sides.New) × F found) error → failures_at sides.Old error ≡ 0
old_alone A B C F gates.Memory is = refl
old_alone A B C F gates.RootMissingOld is = refl
old_alone A B C F gates.RootMissingNew is = refl
old_alone A B C F (gates.Compile of fault) is = ap (λ s. if_same sides.Old s (fault_failures fault)) is.0
old_alone A B C F gates.WriteFailed is = refl
old_alone A B C F gates.BadHex is = refl

-- an error of neither side reports no failure of a source
pub of_none : (A B C : Type 0) (side : Side) (error : GateError) → IsError A B C (λ s fault. ⊥) error → failures_at side error ≡ 0
of_none A B C side gates.Memory is = refl
of_none A B C side gates.RootMissingOld is = refl
of_none A B C side gates.RootMissingNew is = refl
of_none A B C side (gates.Compile of fault) is = absurd is
of_none A B C side gates.WriteFailed is = refl
of_none A B C side gates.BadHex is = refl

pub of_memory : (side : Side) (error : GateError) → IsMemory error → failures_at side error ≡ 0
of_memory side error is = ap (failures_at side) is

-- a call's error reports no failure of a source where each kind of it reports none
pub of_call : (G : GateError → Type 0) (C : CertificateFault → Type 0) (B : DynError → Type 0) (side : Side) → ((error : GateError) → G error → failures_at side error ≡ 0)
    → ((fault : CertificateFault) → C fault → call_failures_at side (calls.Certificate fault) ≡ 0) → (error : CallError) → IsCallError G C B error → call_failures_at side error ≡ 0
of_call G C B side g c (calls.Gate error) is = g error is
of_call G C B side g c (calls.Certificate fault) is = c fault is
of_call G C B side g c (calls.Bytes error) is = refl

pub of_refused : (side : Side) → if_same side sides.Old 0 ≡ 0
of_refused side = if_same_zero side sides.Old

-- an answer whose errors report no failure
pub none_counted : {T E : Type 0} (r : Result T E) (P : E → Type 0) (tells : E → ℕ) → ((e : E) → P e → tells e ≡ 0) → IfErr r P → failures_by tells r ≡ 0
none_counted (Ok x) P tells none is = refl
none_counted (Err e) P tells none is = none e is
