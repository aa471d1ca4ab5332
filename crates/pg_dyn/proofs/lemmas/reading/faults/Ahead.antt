-- Going over the records of bytes, of a message or of an entry, in search of a fault.
use Rattle.std.proofs.Common.{◌≡◌, ℕ, suc, ◌+◌, ◌<◌, ◌≤◌, ◌^◌, List, [], ◌∷◌, ◌++◌, length, true, Result, Ok, Err, refl, ap, sym, subst, ◌∙◌, arith, length-append, rules}
use Rattle.std.specs.List.{AllByRecursion}
use Rattle.pg_schema.specs.Shape.{Shape, FieldShape}
use Rattle.pg_wire.specs.declared.error.WireError.{WireError}
use Rattle.pg_wire.specs.Errors.{error_at, fault_of, place_of}
use Rattle.pg_wire.specs.Records.{WireRecord, IsRecord, records_of}
use Rattle.pg_wire.specs.Reads.{results}
use Rattle.pg_wire.proofs.RecordLaws.{records_of_Spells}
use Rattle.pg_wire.proofs.Results.{fault_of-error_at}
use Rattle.pg_dyn.specs.declared.error.DynError.{DynError}
use Rattle.pg_dyn.specs.declared.error.DynError.TheVariants as errors
use Rattle.pg_dyn.specs.reading.Decoding.{all_readable, dec}
use Rattle.pg_dyn.specs.reading.Faults.{AreRead, Code, FirstFault, FirstFaultOf, Wire, no_record}
use Rattle.pg_dyn.specs.reading.Faults as faults
use Rattle.pg_dyn.specs.reading.Steps.{RefusedBy, RefusedIn, RefusedRecord, Taken, IsShallowRecord, IsShallowIn}
use Rattle.pg_dyn.proofs.lemmas.reading.by_fields.BodiesByFields.{shallow_from_records}
use Rattle.pg_dyn.proofs.lemmas.reading.DecodeLoop.{err_step}
use Rattle.pg_dyn.proofs.lemmas.reading.records.Joining.{list_all-append}
use Rattle.pg_dyn.proofs.Lists.{each-append}
use Rattle.pg_dyn.proofs.lemmas.reading.records.RecordFronts.{Front, all_read, behind, further, next_inside, next_is_record, next_read, none_yet, one_read}

-- What is refused of a part is refused of the whole, where the part is.
module _ (HasPart HasWhole : Code → ℕ → Type 0) (base k at : ℕ) (there : at ≡ base + k) where
  pub refused_on : ((code : Code) (p : ℕ) → HasPart code p → HasWhole code (k + p)) → (e : DynError)
      → RefusedBy HasPart at e → RefusedBy HasWhole base e
  refused_on fault e = search (rules, arith)

-- The bytes from a start, of which a front is gone over: its records are readable, and nothing in them is too deep.
pub record Ahead (shape : Shape) (levels : ℕ) (fs : List FieldShape) (bytes : List ℕ) (start at : ℕ) (left : List (Result WireRecord WireError)) : Type 0 where
  pub records : List WireRecord
  pub seen : Front bytes left records
  pub place : at ≡ start + length seen.front
  pub readable : all_readable (dec shape) fs records ≡ true
  pub shallow : AllByRecursion (IsShallowRecord shape levels fs) records

module _ (shape : Shape) (levels : ℕ) (fs : List FieldShape) (bytes : List ℕ) (start : ℕ) where
  abbrev pub begin : Ahead shape levels fs bytes start start (results 0 bytes)
  begin = record { records = []; seen = none_yet bytes; place = omega arith; readable = refl; shallow = tt }

  module _ (at : ℕ) (left : List (Result WireRecord WireError)) (a : Ahead shape levels fs bytes start at left) where
    front_is : AreRead shape (suc levels) fs a.seen.front
    front_is = search (rules, shallow_from_records, records_of_Spells)

    pub all_records : left ≡ [] → records_of bytes ≡ Ok a.records
    all_records = all_read bytes left a.records a.seen

    pub all_shallow : left ≡ [] → IsShallowIn shape (suc levels) fs bytes
    all_shallow none = shallow_from_records shape levels fs bytes a.records (all_records none) a.shallow

    module _ (e : WireError) (later : List (Result WireRecord WireError)) (h : left ≡ Err e ∷ later) where
      stop : (p : ℕ) × (place_of e ≡ p) × FirstFault shape (suc levels) fs bytes (Wire (fault_of e)) p × (p ≤ length bytes)
      stop =
          let step = err_step (length a.seen.front) a.seen.rest e later (sym a.seen.left_is ∙ h) in
          let k = fault_of-error_at step.fault (length a.seen.front) in
          let fault_is : step.fault ≡ fault_of e = sym k.0 ∙ ap fault_of step.error_is in
          let place_is : place_of e ≡ length a.seen.front = ap place_of (sym step.error_is) ∙ k.1 in
          (length a.seen.front, place_is, subst (λ f. FirstFault shape (suc levels) fs bytes (Wire f) (length a.seen.front)) fault_is (no_record levels fs bytes a.seen.front a.seen.rest step.fault a.seen.joined front_is step.some step.read), omega (arith, ap length a.seen.joined, length-append a.seen.front a.seen.rest))

      pub stop_room : start + length bytes < 2 ^ 64 → place_of e + start < 2 ^ 64
      stop_room room = let s = stop in let p = s.1 in let q = s.3 in omega arith

      pub stopped : RefusedIn shape (suc levels) fs bytes start (errors.Wire (error_at (fault_of e) (place_of e + start)))
      stopped = search (rules, arith, stop, fault_of-error_at)

    module _ (r : WireRecord) (later : List (Result WireRecord WireError)) (h : left ≡ Ok r ∷ later) where
      pub is_record : IsRecord r
      is_record = next_is_record bytes left a.records a.seen r later h

      pub inside : at + length r.bytes ≤ start + length bytes
      inside = omega (arith, a.place, next_inside bytes left a.records a.seen r later h)

      pub refused : (e : DynError) → RefusedRecord shape levels fs r at e → RefusedIn shape (suc levels) fs bytes start e
      refused =
          let back = behind bytes left a.records a.seen r later h in
          let read = next_read bytes left a.records a.seen r later h in
          refused_on (λ code p. (f : FieldShape) × Taken fs r f × FirstFaultOf shape levels f r code p) (FirstFault shape (suc levels) fs bytes)
          start (length a.seen.front) at a.place
          (λ code p x. faults.in_record levels fs bytes a.seen.front a.seen.rest back r x.0 code p a.seen.joined front_is read x.1.found x.1.taken x.2)

      pub onward : all_readable (dec shape) fs (r ∷ []) ≡ true → IsShallowRecord shape levels fs r → Ahead shape levels fs bytes start (at + length r.bytes) later
      onward readable shallow = record {
        records = a.records ++ r ∷ [];
        seen = one_read bytes left a.records a.seen r later h;
        place = omega (arith, a.place, further bytes left a.records a.seen r later h);
        readable = list_all-append _ a.records (r ∷ []) a.readable readable;
        shallow = each-append (IsShallowRecord shape levels fs) a.records (r ∷ []) a.shallow (shallow, tt);
      }
