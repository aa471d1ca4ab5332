-- The steps of looking for faults: of a record and of its item.
use Rattle.std.proofs.Common.{◌≡◌, ℕ, suc, ◌+◌, List, [], ◌∷◌, Bool, true, false, ◌&&◌, Some, is_some, Result, Ok, Err, OnOk, IfErr, refl, ap, ap₂, sym, subst, ◌∙◌, arith, zero-add, rules}
use Rattle.std.specs.Bool.{⊤}
use Rattle.std.specs.Str.{is_utf8}
use Rattle.pg_schema.specs.declared.parts.field.TypeId.{TypeId}
use Rattle.pg_schema.specs.declared.parts.field.Scalar.{Scalar}
use Rattle.pg_schema.specs.declared.parts.field.Element.{Element}
use Rattle.pg_schema.specs.declared.parts.field.Element.TheVariants as elements
use Rattle.pg_schema.specs.Shape.{Shape, FieldShape, fields, field_at, is_map, is_packable}
use Rattle.pg_schema.specs.ShapeRules.{Rising}
use Rattle.pg_wire.specs.Reading.{row}
use Rattle.pg_wire.specs.Records.{WireRecord}
use Rattle.pg_wire.proofs.Results.{fault_of-error_at}
use Rattle.pg_dyn.specs.declared.error.DynError.{DynError}
use Rattle.pg_dyn.specs.declared.error.DynError.TheVariants as errors
use Rattle.pg_dyn.specs.word.Coding.{Text, form, form_wire, element_at, leaf_in, scalar_form}
use Rattle.pg_dyn.specs.reading.Content.{same_wire, is_accepted, is_unknown, leaves_in, packed_leaves}
use Rattle.pg_dyn.specs.reading.Decoding.{is_child, all_readable, dec}
use Rattle.pg_dyn.specs.reading.Faults.{Wire, FirstFault, FirstFaultOf, body_start}
use Rattle.pg_dyn.specs.reading.Faults as faults
use Rattle.pg_dyn.specs.inner.FaultSteps.{ItemReads}
use Rattle.pg_dyn.specs.reading.Held.{read_as}
use Rattle.pg_dyn.specs.reading.ReadingOn.{IsNoMessage}
use Rattle.pg_dyn.specs.reading.Steps.{FieldReads, RefusedOf, RefusedIn, RefusedItem, RefusedRecord, RowRefused, Taken, IsShallow, IsShallowIn, IsShallowItem, IsShallowRecord}
use Rattle.pg_dyn.proofs.lemmas.reading.faults.Ahead.{refused_on}
use Rattle.pg_dyn.proofs.lemmas.reading.TypeFields.{takes_it}
use Rattle.pg_dyn.proofs.lemmas.reading.by_fields.PlainFields.{readable_is, no_child}
use Rattle.pg_dyn.proofs.lemmas.reading.FieldKinds.{form_as, packable_no_message}
use Rattle.pg_dyn.proofs.lemmas.reading.gathered.GoodRecords.{good_by_field, good_unknown}
use Rattle.pg_dyn.proofs.lemmas.reading.faults.ShallowRecords.{body_shallow, scalar_shallow}
use Rattle.pg_dyn.proofs.lemmas.reading.records.Splitting.{found_number}

-- whether a record is of the element's own wire type
abbrev pub is_own : Element → WireRecord → Bool
is_own e r = same_wire r.wire (form_wire (form e))

-- Records that have a reading.

plain_reads : (shape : Shape) (f : FieldShape) (r : WireRecord) → is_map f.presence ≡ false → is_some (leaves_in f r) ≡ true
    → is_child (dec shape) f.element r.body ≡ true → FieldReads shape f r
plain_reads shape f r no_map there child = readable_is (dec shape) f.number f.presence f.element f.oneof r no_map ∙ ap₂ (λ a b. a && b) there child

own_leaves : (f : FieldShape) (r : WireRecord) → is_own f.element r ≡ true → is_some (leaf_in (form f.element) r.body) ≡ true → is_some (leaves_in f r) ≡ true
own_leaves f r own there = search rules

item_reads : (shape : Shape) (e : Element) (r : WireRecord) → is_own e r ≡ true → is_some (leaf_in (form e) r.body) ≡ true
    → is_child (dec shape) e r.body ≡ true → ItemReads shape e r
item_reads shape e r own there child f no_map is = search (rules, plain_reads, own_leaves)

-- Items that are no messages.

pub text_refused : (shape : Shape) (levels : ℕ) (f : FieldShape) (r : WireRecord) (at : ℕ) (e : DynError) (s : Scalar) → is_map f.presence ≡ false
    → form f.element ≡ scalar_form s
    → (e ≡ errors.NotUtf8 at) × (scalar_form s ≡ Text) × (is_utf8 r.body ≡ false) → RefusedOf shape levels f r at e
text_refused shape levels f r at e s no_map same h =
    subst (RefusedOf shape levels f r at) (sym h.0) (0, omega arith, faults.not_text levels f r no_map (same ∙ h.1) h.2)

-- what a test of an item that is no message reports
pub record ScalarChecked (shape : Shape) (levels : ℕ) (e : Element) (r : WireRecord) (at : ℕ) (result : Result ⊤ DynError) : Type 0 where
  pub readable : OnOk result (ItemReads shape e r)
  pub shallow : OnOk result (IsShallowItem shape levels e r)
  pub err : IfErr result (RefusedItem shape levels e r at)

pub scalar_checked : (shape : Shape) (levels : ℕ) (e : Element) (r : WireRecord) (at : ℕ) (result : Result ⊤ DynError) (s : Scalar) → IsNoMessage e
    → s ≡ read_as e → is_own e r ≡ true
    → OnOk result (is_some (leaf_in (scalar_form s) r.body) ≡ true)
    → IfErr result (λ x. (x ≡ errors.NotUtf8 at) × (scalar_form s ≡ Text) × (is_utf8 r.body ≡ false))
    → ScalarChecked shape levels e r at result
scalar_checked shape levels e r at (Ok x) s scalar is own ok err =
    search (rules, form_as, item_reads, no_child, scalar_shallow)
scalar_checked shape levels e r at (Err x) s scalar is own ok err = record {
  readable = tt;
  shallow = tt;
  err = λ f no_map same. text_refused shape levels f r at x s no_map (ap form same ∙ form_as e ∙ ap scalar_form (sym is)) err;
}

-- Messages inside.

pub message_reads : (shape : Shape) (t : TypeId) (r : WireRecord) → is_own (elements.Message t) r ≡ true → is_some (dec shape t r.body) ≡ true
    → ItemReads shape (elements.Message t) r
message_reads shape t r own h = item_reads shape (elements.Message t) r own refl h

pub message_shallow : (shape : Shape) (levels l : ℕ) (t : TypeId) (r : WireRecord) → levels ≡ suc l
    → IsShallowIn shape (suc l) (fields shape t) r.body → IsShallowItem shape levels (elements.Message t) r
message_shallow shape levels l t r up below f no_map is = search (rules, arith, body_shallow)

pub child_refused : (shape : Shape) (levels l : ℕ) (t : TypeId) (r : WireRecord) (at start : ℕ) (e : DynError) → levels ≡ suc l
    → start ≡ at + body_start r → RefusedIn shape (suc l) (fields shape t) r.body start e
    → RefusedItem shape levels (elements.Message t) r at e
child_refused shape levels l t r at start e up there h f no_map is =
    subst (λ n. RefusedOf shape n f r at e) (sym up)
    (refused_on (FirstFault shape (suc l) (fields shape t) r.body) (FirstFaultOf shape (suc l) f r) at (body_start r) start there
    (λ code p x. faults.in_child l f r t code p no_map is x) e h)

pub too_deep : (shape : Shape) (levels : ℕ) (t : TypeId) (r : WireRecord) (at : ℕ) → levels ≡ 0
    → RefusedItem shape levels (elements.Message t) r at (errors.TooDeep at)
too_deep shape levels t r at none f no_map is =
    (0, omega arith, subst (λ n. FirstFaultOf shape n f r faults.TooDeep 0) (sym none) (faults.the_child f r t no_map is))

-- Packed lists.

module _ (shape : Shape) (f : FieldShape) (r : WireRecord) (no_map : is_map f.presence ≡ false) (packable : is_packable f.element ≡ true)
    (other : is_own f.element r ≡ false) where
  pub row_reads : is_some (packed_leaves (scalar_form (read_as f.element)) r.body) ≡ true → FieldReads shape f r
  row_reads there = search (rules, plain_reads, form_as, no_child, packable_no_message)

  pub row_shallow : (levels : ℕ) → IsShallow shape levels f r
  row_shallow levels = scalar_shallow shape levels f.element r (packable_no_message f.element packable) f no_map refl

  pub row_refused : (levels at : ℕ) (e : DynError) → RowRefused (read_as f.element) r.body at e → RefusedOf shape levels f r at e
  row_refused levels at e bad =
      let k = fault_of-error_at bad.0 at in
      let broken = ap (λ x. row (element_at (form_wire x)) r.body) (form_as f.element) ∙ bad.2 in
      subst (RefusedOf shape levels f r at) (sym bad.1)
      (0, (let p = k.1 in omega arith), subst (λ x. FirstFaultOf shape levels f r (Wire x) 0) (sym k.0) (faults.bad_element levels f r bad.0 no_map other broken))

-- The field that takes a record.

pub taken_here : (fs : List FieldShape) (r : WireRecord) (f : FieldShape) → Some f ≡ field_at fs r.number → is_accepted f r ≡ true → Taken fs r f
taken_here fs r f is accepted = record { found = sym is; taken = takes_it f r (found_number fs r.number f (sym is)) accepted }

pub taken_refused : (shape : Shape) (levels : ℕ) (fs : List FieldShape) (r : WireRecord) (f : FieldShape) (at : ℕ) (e : DynError) → Taken fs r f
    → RefusedOf shape levels f r at e → RefusedRecord shape levels fs r at e
taken_refused shape levels fs r f at e taken h = search (rules, arith, refused_on, zero-add)

-- what is known of a record that is looked at, of which no field has to take it
pub record RecordChecked (shape : Shape) (levels : ℕ) (fs : List FieldShape) (r : WireRecord) (at : ℕ) (result : Result ⊤ DynError) : Type 0 where
  pub readable : OnOk result (all_readable (dec shape) fs (r ∷ []) ≡ true)
  pub shallow : OnOk result (IsShallowRecord shape levels fs r)
  pub err : IfErr result (RefusedRecord shape levels fs r at)

pub known_checked : (shape : Shape) (levels : ℕ) (fs : List FieldShape) (r : WireRecord) (f : FieldShape) (at : ℕ) (result : Result ⊤ DynError) → Rising fs → Taken fs r f
    → OnOk result (FieldReads shape f r) → OnOk result (IsShallow shape levels f r) → IfErr result (RefusedOf shape levels f r at)
    → RecordChecked shape levels fs r at result
known_checked shape levels fs r f at (Ok x) rises taken reads shallow err =
    let good = good_by_field shape levels fs rises r f taken (reads, shallow) in
    record { readable = ap (λ b. b && true) good.0; shallow = good.1; err = tt }
known_checked shape levels fs r f at (Err e) rises taken reads shallow err = record { readable = tt; shallow = tt; err = taken_refused shape levels fs r f at e taken err }

pub unknown_checked : (shape : Shape) (levels : ℕ) (fs : List FieldShape) (r : WireRecord) (at : ℕ) → is_unknown fs r ≡ true → RecordChecked shape levels fs r at (Ok tt)
unknown_checked shape levels fs r at unknown =
    let good = good_unknown shape levels fs r unknown in
    record { readable = ap (λ b. b && true) good.0; shallow = good.1; err = tt }
