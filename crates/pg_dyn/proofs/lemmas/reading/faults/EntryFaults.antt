-- The steps of looking for faults in the entries of maps.
use Rattle.std.proofs.Common.{◌≡◌, ℕ, suc, ◌+◌, List, [], filter, Bool, true, false, Some, Ok, Result, OnOk, IfErr, refl, sym, subst, arith, eqb-true, rules}
use Rattle.std.specs.Bool.{⊤}
use Rattle.std.proofs.lemmas.Result.{IfErr-weaker, on_ok_weaker}
use Rattle.pg_schema.specs.declared.parts.field.TypeId.{TypeId}
use Rattle.pg_schema.specs.declared.parts.field.Scalar.{Scalar}
use Rattle.pg_schema.specs.declared.parts.field.Element.{Element}
use Rattle.pg_schema.specs.declared.parts.field.Element.TheVariants as elements
use Rattle.pg_schema.specs.declared.parts.field.Presence.TheVariants as presences
use Rattle.pg_schema.specs.Shape.{Shape, FieldShape, field_at}
use Rattle.pg_schema.specs.ShapeRules.{Rising}
use Rattle.pg_wire.specs.Records.{WireRecord, records_of}
use Rattle.pg_wire.proofs.RecordLaws.{Spells_from_records_of}
use Rattle.pg_dyn.specs.declared.error.DynError.{DynError}
use Rattle.pg_dyn.specs.declared.error.DynError.TheVariants as errors
use Rattle.pg_dyn.specs.declared.reading.faults.Holder.{Holder}
use Rattle.pg_dyn.specs.declared.reading.faults.Holder.TheVariants as holders
use Rattle.pg_dyn.specs.reading.Content.{is_accepted, takes, value_field, entry_fields}
use Rattle.pg_dyn.specs.reading.Decoding.{all_readable, dec}
use Rattle.pg_dyn.specs.reading.Faults.{AreRead, FirstFault, FirstFaultOf, body_start}
use Rattle.pg_dyn.specs.reading.Faults as faults
use Rattle.pg_dyn.specs.inner.FaultSteps.{HolderReads, ItemReads, held_fields, part_field}
use Rattle.pg_dyn.specs.reading.Steps.{FieldReads, IsShallowIn, IsShallowItem, IsShallowRecord, RefusedIn, RefusedItem, RefusedOf}
use Rattle.pg_dyn.proofs.Lists.{each_weaker, filter_none}
use Rattle.pg_dyn.proofs.lemmas.reading.by_fields.BodiesByFields.{records_shallow}
use Rattle.pg_dyn.proofs.lemmas.reading.faults.Ahead.{refused_on}
use Rattle.pg_dyn.proofs.lemmas.reading.faults.FaultSteps.{RecordChecked, is_own, known_checked, taken_here}
use Rattle.pg_dyn.proofs.lemmas.reading.records.Joining.{dec_from_readable}
use Rattle.pg_dyn.proofs.lemmas.reading.records.Splitting.{takes_number}

-- a message is gone over after the entries in it
abbrev pub rank : Holder → ℕ
rank (holders.Message t) = 4
rank (holders.Entry key element) = 0

-- what holds records has a reading where all records have
pub holder_reads : (shape : Shape) (holder : Holder) (bytes : List ℕ) (rs : List WireRecord) → records_of bytes ≡ Ok rs
    → all_readable (dec shape) (held_fields shape holder) rs ≡ true → HolderReads shape holder bytes
holder_reads shape (holders.Message t) bytes rs are readable = dec_from_readable shape t bytes (rs, are, readable)
holder_reads shape (holders.Entry key element) bytes rs are readable = (rs, are, readable)

-- A record of an entry, by the part that has its number.
module _ (shape : Shape) (levels : ℕ) (key : Scalar) (element : Element) (r : WireRecord) (at : ℕ) where
  abbrev rising : Rising (entry_fields key element)
  rising = ((omega arith, tt), (tt, tt))

  pub part_checked : (part : Element) (result : Result ⊤ DynError) → field_at (entry_fields key element) r.number ≡ Some (part_field r.number part) → is_own part r ≡ true
      → OnOk result (ItemReads shape part r) → OnOk result (IsShallowItem shape levels part r) → IfErr result (RefusedItem shape levels part r at)
      → RecordChecked shape levels (entry_fields key element) r at result
  part_checked part result found own reads shallow err =
      let f = part_field r.number part in
      let accepted : is_accepted f r ≡ true = rw own refl in
      known_checked shape levels (entry_fields key element) r f at result rising (taken_here (entry_fields key element) r f (sym found) accepted)
      (on_ok_weaker result (λ h. h f refl refl) reads) (on_ok_weaker result (λ h. h f refl refl) shallow) (IfErr-weaker result _ _ (λ e h. h f refl refl) err)

-- An entry.
module _ (shape : Shape) (levels : ℕ) (f : FieldShape) (r : WireRecord) (key : Scalar) (is : f.presence ≡ presences.Map key) where
  pub entry_refused : (at start : ℕ) (e : DynError) → start ≡ at + body_start r
      → RefusedIn shape (suc levels) (entry_fields key f.element) r.body start e → RefusedOf shape levels f r at e
  entry_refused at start e there h =
      refused_on (FirstFault shape (suc levels) (entry_fields key f.element) r.body) (FirstFaultOf shape levels f r) at (body_start r) start there
      (λ code p x. faults.in_entry levels f r key code p is x) e h

  pub entry_reads : HolderReads shape (holders.Entry key f.element) r.body → FieldReads shape f r
  entry_reads reads = search rules

  -- where nothing is too deep in an entry on the last level, it has no value that is a message
  pub value_missing : (t : TypeId) (at : ℕ) → HolderReads shape (holders.Entry key f.element) r.body
      → IsShallowIn shape (suc levels) (entry_fields key f.element) r.body → f.element ≡ elements.Message t → levels ≡ 0
      → RefusedOf shape levels f r at (errors.TooDeep at)
  value_missing t at reads below message low =
      let (rs, are, readable) = reads in
      let fs = entry_fields key f.element in
      let lowest : IsShallowIn shape 1 fs r.body = subst (λ n. IsShallowIn shape (suc n) fs r.body) low below in
      let without : filter (takes (value_field f.element)) rs ≡ [] =
      filter_none (takes (value_field f.element)) rs (each_weaker (IsShallowRecord shape 0 fs) (λ q. takes (value_field f.element) q ≡ false) none rs (records_shallow shape 0 fs r.body rs are lowest)) in
      let spelled = Spells_from_records_of r.body rs are in
      let before : AreRead shape 1 fs r.body = record { records = rs; spelled = spelled; readable = readable; shallow = lowest } in
      (0, omega arith, subst (λ n. FirstFaultOf shape n f r faults.TooDeep 0) (sym low) (faults.missing_value f r key t rs is message spelled without before))
    where
      second : (q : WireRecord) → takes (value_field f.element) q ≡ true → field_at (entry_fields key f.element) q.number ≡ Some (value_field f.element)
      second q e = subst (λ n. field_at (entry_fields key f.element) n ≡ Some (value_field f.element)) (sym (eqb-true q.number 2 (takes_number (value_field f.element) q e))) refl

      none : (q : WireRecord) → IsShallowRecord shape 0 (entry_fields key f.element) q → takes (value_field f.element) q ≡ false
      none q shallow = of (takes (value_field f.element) q) refl
        where
          of : (b : Bool) → takes (value_field f.element) q ≡ b → takes (value_field f.element) q ≡ false
          of false e = e
          of true e = absurd (shallow (value_field f.element) (record { found = second q e; taken = e }) 0 (faults.the_child (value_field f.element) q t refl message))
