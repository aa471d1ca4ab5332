-- Each step finds a fault where it is, or that there is none.
use Rattle.std.proofs.Common.{◌≡◌, suc, ◌-◌, ◌∷◌, true, false, not, option_map, is_some, Result, Ok, Err, OnOk, refl, ap, sym, subst, ◌∙◌, arith}
use Rattle.std.specs.Option.{option_copied}
use Rattle.std.proofs.lemmas.Result.{IfErr-weaker, err_from_is_err_and, on_ok_weaker}
use Rattle.pg_schema.specs.Parts.{field_shape, shape_of}
use Rattle.pg_schema.specs.Shape.{fields, is_map, is_packable}
use Rattle.pg_wire.specs.Reads.{seen, seen_record}
use Rattle.pg_dyn.specs.declared.error.DynError.TheVariants as errors
use Rattle.pg_dyn.specs.word.Coding.{form, form_wire, scalar_form}
use Rattle.pg_dyn.specs.reading.Content.{packed_leaves, same_wire}
use Rattle.pg_dyn.specs.reading.Steps.{RefusedIn, RefusedOf, RowRefused}
use Rattle.pg_dyn.proofs.lemmas.reading.faults.Ahead as ahead
use Rattle.pg_dyn.proofs.lemmas.reading.TypeFields.{rising}
use Rattle.pg_dyn.proofs.lemmas.reading.faults.EntryFaults as entries
use Rattle.pg_dyn.proofs.lemmas.reading.faults.FaultSteps as steps
use Rattle.pg_dyn.proofs.lemmas.reading.FieldKinds.{is_no_message, message_clash, not_map}
use Rattle.pg_dyn.proofs.lemmas.reading.records.FieldRecords.{packable_of}
use Rattle.pg_dyn.proofs.lemmas.fitting.FitsChecks.{unknown_by_field, unknown_without_field}
use Rattle.pg_dyn.specs.inner.FaultSteps.{held_fields}
use Rattle.pg_dyn.proofs.lemmas.reading.faults.ShallowRecords.{entry_shallow}
use Rattle.pg_dyn.proofs.lemmas.reading.faults.EntryFaults.{rank}
use Rattle.pg_dyn.proofs.lemmas.reading.faults.StopSteps.{handed_on}
use Rattle.pg_dyn.proofs.reading.faults.+faults.Goals as goal

on_any_ok : {T E : Type 0} {A : Type 0} (r : Result T E) → A → OnOk r A
on_any_ok (Ok x) h = h
on_any_ok (Err e) h = tt

pub check_item-returns-in-Scalar : goal.check_item-returns-in-Scalar
check_item-returns-in-Scalar t c =
    let k = steps.scalar_checked (shape_of c.args.schema.now) c.args.levels c.args.element (seen_record c.args.found.now) c.args.at c.check_scalar.result
    c.scalar_of.result
    (is_no_message c.args.element c.in-Scalar.is) c.scalar_of.ensures c.requires.wire c.check_scalar.ensures.readable c.check_scalar.ensures.err in
    record { readable = k.readable; shallow = k.shallow; err = k.err }

pub check_item-returns-then-levels-eq0-clause-err : goal.check_item-returns-then-levels-eq0-clause-err
check_item-returns-then-levels-eq0-clause-err t c =
    λ f no_map is.
    steps.too_deep (shape_of c.args.schema.now) c.args.levels c.in-Message.type_id (seen_record c.args.found.now) c.args.at c.if-levels-eq0.true f no_map
    (is ∙ c.in-Message.is)

pub check_item-returns-else-levels-eq0 : goal.check_item-returns-else-levels-eq0
check_item-returns-else-levels-eq0 t c =
    let shape = shape_of c.args.schema.now in
    let r = seen_record c.args.found.now in
    let up : c.args.levels ≡ suc (c.args.levels - 1) = omega arith in
    let own = subst (λ e. steps.is_own e r ≡ true) c.in-Message.is c.requires.wire in
    let below = c.find_fault.ensures in
    record {
      readable = on_ok_weaker c.find_fault.result (λ h f no_map is. steps.message_reads shape c.in-Message.type_id r own h f no_map (is ∙ c.in-Message.is)) below.readable;
      shallow = on_ok_weaker c.find_fault.result (λ h f no_map is. steps.message_shallow shape c.args.levels (c.args.levels - 1) c.in-Message.type_id
          r up h f no_map (is ∙ c.in-Message.is)) below.shallow;
      err = IfErr-weaker c.find_fault.result _ _ (λ e h f no_map is. steps.child_refused shape c.args.levels (c.args.levels - 1) c.in-Message.type_id r c.args.at
          c.body_place.result e up c.body_place.ensures.start h f no_map (is ∙ c.in-Message.is)) below.err;
    }

pub check_known-returns-then-is_own : goal.check_known-returns-then-is_own
check_known-returns-then-is_own t c =
    let f = field_shape c.args.field.now in
    let no_map : is_map f.presence ≡ false = not_map c.args.field.now.presence c.in_default.not-Map in
    record {
      readable = on_ok_weaker c.check_item.result (λ h. h f no_map refl) c.check_item.ensures.readable;
      shallow = on_ok_weaker c.check_item.result (λ h. h f no_map refl) c.check_item.ensures.shallow;
      err = IfErr-weaker c.check_item.result _ _ (λ e h. h f no_map refl) c.check_item.ensures.err;
    }

pub check_known-returns : goal.check_known-returns
check_known-returns t c =
    let shape = shape_of c.args.schema.now in
    let f = field_shape c.args.field.now in
    let r = seen_record c.args.found.now in
    let no_map : is_map f.presence ≡ false = not_map c.args.field.now.presence c.in_default.not-Map in
    let other : same_wire r.wire (form_wire (form f.element)) ≡ false = sym c.is_own.ensures ∙ c.if-is_own.false in
    let packable : is_packable f.element ≡ true = packable_of f r c.requires.taken no_map other in
    let result = c.check_packed.result in
    record {
      readable = on_ok_weaker result (λ h. steps.row_reads shape f r no_map packable other
          (subst (λ s. is_some (packed_leaves (scalar_form s) r.body) ≡ true) c.scalar_of.ensures h)) c.check_packed.ensures.readable;
      shallow = on_any_ok result (steps.row_shallow shape f r no_map packable other c.args.levels);
      err = IfErr-weaker result _ _ (λ e h. steps.row_refused shape f r no_map packable other c.args.levels c.args.at e
          (subst (λ s. RowRefused s r.body c.args.at e) c.scalar_of.ensures h)) c.check_packed.ensures.err;
    }

pub check_entry-returns-in_err-find_fault-clause-err : goal.check_entry-returns-in_err-find_fault-clause-err
check_entry-returns-in_err-find_fault-clause-err t c =
    let shape = shape_of c.args.schema.now in
    let f = field_shape c.args.field.now in
    let r = seen_record c.args.found.now in
    let (y, was, from) = err_from_is_err_and c.from_residual.result c.from_residual.ensures.1 in
    handed_on (RefusedOf shape c.args.levels f r c.args.at) c.from_residual.result _ y was from
    (entries.entry_refused shape c.args.levels f r c.args.key c.requires.of_map c.args.at c.body_place.result _ c.body_place.ensures.start c.in_err-find_fault.ensures.err)

pub check_entry-returns-else-levels-gt0-clause-err : goal.check_entry-returns-else-levels-gt0-clause-err
check_entry-returns-else-levels-gt0-clause-err t c =
    let below = c.in_ok-find_fault.ensures in
    entries.value_missing (shape_of c.args.schema.now) c.args.levels (field_shape c.args.field.now) (seen_record c.args.found.now) c.args.key c.requires.of_map
    _ c.args.at below.readable below.shallow c.in-Message.is (omega arith)

pub check_entry-returns-then-levels-gt0 : goal.check_entry-returns-then-levels-gt0
check_entry-returns-then-levels-gt0 t c =
    let shape = shape_of c.args.schema.now in
    let f = field_shape c.args.field.now in
    let r = seen_record c.args.found.now in
    let below = c.in_ok-find_fault.ensures in
    record {
      readable = entries.entry_reads shape c.args.levels f r c.args.key c.requires.of_map below.readable;
      shallow = entry_shallow shape f c.args.key c.requires.of_map c.args.levels r below.shallow (λ rs t is low spelled none. absurd (omega arith));
      err = tt;
    }

pub check_entry-returns-in-Scalar : goal.check_entry-returns-in-Scalar
check_entry-returns-in-Scalar t c =
    let shape = shape_of c.args.schema.now in
    let f = field_shape c.args.field.now in
    let r = seen_record c.args.found.now in
    let below = c.in_ok-find_fault.ensures in
    record {
      readable = entries.entry_reads shape c.args.levels f r c.args.key c.requires.of_map below.readable;
      shallow = entry_shallow shape f c.args.key c.requires.of_map c.args.levels r below.shallow
          (λ rs t is low spelled none. message_clash f.element t (is_no_message f.element c.in-Scalar.is) is);
      err = tt;
    }

pub check_record-check_known-requires : goal.check_record-check_known-requires
check_record-check_known-requires t c =
    let fs = fields (shape_of c.args.schema.now) c.in-Message.type_id in
    let taken = steps.taken_here fs (seen_record c.args.found.now) (field_shape c.in-Some.field.now) c.in-Some.ensures.shape
    (sym c.accepts.ensures ∙ c.if-accepts.true) in
    (omega (arith, ap rank c.in-Message.is, c.decreases), (c.requires.is_schema, (c.requires.is_record, (taken.taken, c.requires.room))))

pub check_record-returns-in-Some : goal.check_record-returns-in-Some
check_record-returns-in-Some t c =
    let shape = shape_of c.args.schema.now in
    let r = seen_record c.args.found.now in
    let f = field_shape c.in-Some.field.now in
    let fs = fields shape c.in-Message.type_id in
    let taken = steps.taken_here fs r f c.in-Some.ensures.shape (sym c.accepts.ensures ∙ c.if-accepts.true) in
    let k = steps.known_checked shape c.args.levels fs r f c.args.at c.check_known.result (rising c.args.schema.now c.requires.is_schema c.in-Message.type_id) taken
    c.check_known.ensures.readable c.check_known.ensures.shallow c.check_known.ensures.err in
    rw c.in-Message.is (record { readable = k.readable; shallow = k.shallow; err = k.err })

pub check_record-returns-in_default : goal.check_record-returns-in_default
check_record-returns-in_default t c =
    let r = seen_record c.args.found.now in
    let unknown = unknown_by_field c.args.schema.now c.requires.is_schema c.in-Message.type_id r (field_shape c.in-Some.field.now) c.in-Some.ensures.shape ∙ ap not
    (sym c.accepts.ensures ∙ c.if-accepts.false) in
    let k = steps.unknown_checked (shape_of c.args.schema.now) c.args.levels (fields (shape_of c.args.schema.now) c.in-Message.type_id) r c.args.at unknown in
    rw c.in-Message.is (record { readable = k.readable; shallow = k.shallow; err = tt })

pub check_record-returns-in_default-2 : goal.check_record-returns-in_default-2
check_record-returns-in_default-2 t c =
    let r = seen_record c.args.found.now in
    let none = ap (λ o. option_map field_shape (option_copied o)) (sym c.in_default.is) ∙ c.field.ensures.shape in
    let unknown = unknown_without_field c.args.schema.now c.requires.is_schema c.in-Message.type_id r none in
    let k = steps.unknown_checked (shape_of c.args.schema.now) c.args.levels (fields (shape_of c.args.schema.now) c.in-Message.type_id) r c.args.at unknown in
    rw c.in-Message.is (record { readable = k.readable; shallow = k.shallow; err = tt })

pub check_record-returns-in-Some-part_at : goal.check_record-returns-in-Some-part_at
check_record-returns-in-Some-part_at t c =
    let h = c.check_item.ensures in
    let k = entries.part_checked (shape_of c.args.schema.now) c.args.levels c.in-Entry.key c.in-Entry.element (seen_record c.args.found.now) c.args.at
    c.in-Some-part_at.part c.check_item.result c.in-Some-part_at.ensures (sym c.is_own.ensures ∙ c.if-is_own.true) h.readable h.shallow h.err in
    rw c.in-Entry.is (record { readable = k.readable; shallow = k.shallow; err = k.err })

pub find_fault-loop-found-init : goal.find_fault-loop-found-init
find_fault-loop-found-init t c =
    let shape = shape_of c.args.schema.now in
    subst (λ l. ahead.Ahead shape c.args.levels (held_fields shape c.args.holder) c.args.bytes.now c.args.start c.args.start l)
    (sym (c.into_iter-found-iterator.ensures.into_iter_gives ∙ c.new-found-items.ensures))
    (ahead.begin shape c.args.levels (held_fields shape c.args.holder) c.args.bytes.now c.args.start)

pub find_fault-check_record-requires : goal.find_fault-check_record-requires
find_fault-check_record-requires t c =
    let shape = shape_of c.args.schema.now in
    let l = c.loop-found in
    let next = c.in-Some.ensures.steps ∙ ap (λ x. seen x ∷ c.next.new.self) c.in-Ok.is in
    let r = seen_record c.in-Ok.record in
    let fs = held_fields shape c.args.holder in
    let inside = ahead.inside shape c.args.levels fs c.args.bytes.now c.args.start l.at l.found-iterator l.invariant r c.next.new.self next in (
      omega (arith, c.decreases),
      (
        c.requires.is_schema,
        (
          ahead.is_record shape c.args.levels fs c.args.bytes.now c.args.start l.at l.found-iterator
              l.invariant r c.next.new.self next,
          omega (arith, c.requires.room),
        ),
      ),
    )

pub find_fault-returns-in_err-check_record-in-Ok-clause-err : goal.find_fault-returns-in_err-check_record-in-Ok-clause-err
find_fault-returns-in_err-check_record-in-Ok-clause-err t c =
    let shape = shape_of c.args.schema.now in
    let l = c.loop-found in
    let next = c.in-Some.ensures.steps ∙ ap (λ x. seen x ∷ c.next.new.self) c.in-Ok.is in
    let fs = held_fields shape c.args.holder in
    let (y, is, from) = err_from_is_err_and c.from_residual.result c.from_residual.ensures.1 in
    handed_on (RefusedIn shape (suc c.args.levels) fs c.args.bytes.now c.args.start) c.from_residual.result _ y is from
    (ahead.refused shape c.args.levels fs c.args.bytes.now c.args.start l.at l.found-iterator l.invariant (seen_record c.in-Ok.record) c.next.new.self next _
    c.in_err-check_record-in-Ok.ensures.err)

pub find_fault-overflow_add-at : goal.find_fault-overflow_add-at
find_fault-overflow_add-at t c =
    let shape = shape_of c.args.schema.now in
    let l = c.loop-found in
    let next = c.in-Some.ensures.steps ∙ ap (λ x. seen x ∷ c.next.new.self) c.in-Ok.is in
    let inside = ahead.inside shape c.args.levels (held_fields shape c.args.holder) c.args.bytes.now c.args.start l.at l.found-iterator l.invariant
    (seen_record c.in-Ok.record) c.next.new.self next in
    omega (arith, c.requires.room)

pub find_fault-loop-found-preserved : goal.find_fault-loop-found-preserved
find_fault-loop-found-preserved t c =
    let shape = shape_of c.args.schema.now in
    let l = c.loop-found in
    let next = c.in-Some.ensures.steps ∙ ap (λ x. seen x ∷ c.next.new.self) c.in-Ok.is in
    let done = c.in_ok-check_record-in-Ok.ensures in
    ahead.onward shape c.args.levels (held_fields shape c.args.holder) c.args.bytes.now c.args.start l.at l.found-iterator l.invariant
    (seen_record c.in-Ok.record) c.next.new.self next done.readable done.shallow

pub find_fault-after-requires : goal.find_fault-after-requires
find_fault-after-requires t c =
    let shape = shape_of c.args.schema.now in
    let l = c.loop-found in
    let next = c.in-Some.ensures.steps ∙ ap (λ x. seen x ∷ c.next.new.self) c.in-Err.is in
    ahead.stop_room shape c.args.levels (held_fields shape c.args.holder) c.args.bytes.now c.args.start l.at l.found-iterator l.invariant c.in-Err.error
    c.next.new.self next c.requires.room

pub find_fault-returns-in-Err-clause-err : goal.find_fault-returns-in-Err-clause-err
find_fault-returns-in-Err-clause-err t c =
    let shape = shape_of c.args.schema.now in
    let l = c.loop-found in
    let next = c.in-Some.ensures.steps ∙ ap (λ x. seen x ∷ c.next.new.self) c.in-Err.is in
    let fs = held_fields shape c.args.holder in
    subst (λ x. RefusedIn shape (suc c.args.levels) fs c.args.bytes.now c.args.start (errors.Wire x)) (sym c.after.ensures)
    (ahead.stopped shape c.args.levels fs c.args.bytes.now c.args.start l.at l.found-iterator l.invariant c.in-Err.error c.next.new.self next)

pub find_fault-returns-clause-readable : goal.find_fault-returns-clause-readable
find_fault-returns-clause-readable t c =
    let shape = shape_of c.args.schema.now in
    let l = c.loop-found in
    let whole = ahead.all_records shape c.args.levels (held_fields shape c.args.holder) c.args.bytes.now c.args.start l.at l.found-iterator l.invariant
    c.in-None.ensures.steps.0 in
    entries.holder_reads shape c.args.holder c.args.bytes.now l.invariant.records whole l.invariant.readable

pub find_fault-returns-clause-shallow : goal.find_fault-returns-clause-shallow
find_fault-returns-clause-shallow t c =
    let shape = shape_of c.args.schema.now in
    let l = c.loop-found in
    ahead.all_shallow shape c.args.levels (held_fields shape c.args.holder) c.args.bytes.now c.args.start l.at l.found-iterator l.invariant
    c.in-None.ensures.steps.0
