-- Messages are read field by field.
use Rattle.std.proofs.Common.{◌≡◌, ◌++◌, map, arith, Option, Some, None, sym, subst, ◌∙◌, append-nil, take_all, ◌+◌, ◌-◌, take, refl, ap, List}
use Rattle.std.proofs.lemmas.Result.{IfOk-weaker, err_from_is_err_and}
use Rattle.pg_schema.specs.Parts.{field_shape, shape_of}
use Rattle.pg_schema.specs.Shape.{fields}
use Rattle.pg_wire.specs.Reads.{seen_record}
use Rattle.pg_dyn.specs.reading.ByFields.{AreGood, HoldsOf, IsEntryRead, RecordsGood, StopsFor}
use Rattle.pg_dyn.proofs.lemmas.reading.by_fields.ByFields.{with_held}
use Rattle.pg_dyn.proofs.lemmas.reading.TypeFields.{is_field_of, rising}
use Rattle.pg_dyn.proofs.lemmas.reading.FieldKinds.{is_no_message, lists_no_map, not_list, not_map}
use Rattle.pg_dyn.proofs.lemmas.reading.runs.FieldRuns as runs
use Rattle.pg_dyn.proofs.Lists.{each_weaker}
use Rattle.std.specs.List.{AllByRecursion}
use Rattle.pg_schema.specs.declared.parts.field.Element.TheVariants as elements
use Rattle.pg_dyn.specs.declared.message_ref.ContentRef.TheVariants as contents
use Rattle.pg_dyn.specs.message_ref.BorrowedItems.{ItemKept}
use Rattle.pg_dyn.specs.reading.Steps.{HeldFits}
use Rattle.pg_dyn.specs.message.Kept.{message_of, ends}
use Rattle.pg_dyn.proofs.lemmas.reading.by_fields.BodiesByFields as bodies
use Rattle.pg_dyn.proofs.lemmas.reading.by_fields.ChildrenByFields as children
use Rattle.pg_dyn.proofs.lemmas.reading.by_fields.EntriesByFields as entries
use Rattle.pg_dyn.proofs.lemmas.reading.by_fields.MapsByFields as maps
use Rattle.pg_dyn.proofs.lemmas.reading.faults.StopSteps.{stopped, handed_on, stops_for}
use Rattle.pg_dyn.proofs.reading.nested.+reading.Goals.{read_entry-in-Message+in_ok-value-in-Message, read_entry-in-Scalar, counted-in-Some+then-counts+in_ok-push, counted-in-Some+else-counts+in_ok-read_content+in-Some+in-One+in-Msg-1, counted-in-Some+else-counts+in_ok-read_content+in-Some+in-One+in-Int-1, counted-in-Some+else-counts+in_ok-read_content+in-Some+in-Many-1, counted-in-Some+else-counts+in_ok-read_content+in-Some+in-Map-1, counted-in-Some+else-counts+in_ok-read_content+in-Some+in-Numbers-1, counted-in-Some+else-counts+in_ok-read_content+in-None-1, counted-in_default, read_gathered-then-oneof_runs, read_gathered-else-oneof_runs+in_ok-left}
use Rattle.pg_dyn.proofs.reading.nested.+reading.Goals as goal
use Rattle.pg_wire.specs.declared.record.Record.{Record}
use Rattle.pg_dyn.proofs.lemmas.reading.gathered.CountedRecords as counting
use Rattle.pg_dyn.proofs.lemmas.reading.gathered.Gathered.{counted_so_far}
use Rattle.pg_dyn.proofs.lemmas.reading.by_fields.HeldFields.{child_zero, list_held, one_held}
use Rattle.pg_dyn.proofs.lemmas.message.ReplacingLaws.{type_of-kept_onto}
use Rattle.pg_dyn.specs.message_ref.Borrowed.{all_seen}
use Rattle.pg_dyn.specs.fitting.Belonging.{IsUnknown}
use Rattle.pg_dyn.proofs.lemmas.reading.gathered.GatheredReading as gathered
use Rattle.pg_wire.specs.Records.{IsRecord, WireRecord}
use Rattle.pg_dyn.specs.reading.Gathering.{AreByNumber, AreGathered}

none_some : {A : Type 0} {x : A} → ◌≡◌ {A = Option A} None (Some x) → ⊥
none_some e = cc

pub counted-read_content-requires : goal.counted-read_content-requires
counted-read_content-requires t c =
    let shape = shape_of c.args.schema.now in
    let fs = fields shape c.args.type_id in
    let up = rising c.args.schema.now c.requires.is_schema c.args.type_id in
    let l = c.loop-place in
    let f = field_shape c.in-Some.field.now in
    let run =
    counting.one_run shape c.args.levels fs up c.args.oneof_runs.now c.args.known.now c.requires.are_records c.requires.known l.place l.counted.items
    l.invariant c.loop-place-test.true _ f (sym c.in-Some.ensures.shape) in
    (omega arith, (c.requires.is_schema, (is_field_of c.args.schema.now c.requires.is_schema c.args.type_id _ f (sym c.in-Some.ensures.shape), run)))

pub counted-returns-in_err-read_content-clause-err : goal.counted-returns-in_err-read_content-clause-err
counted-returns-in_err-read_content-clause-err t c =
    let shape = shape_of c.args.schema.now in
    let fs = fields shape c.args.type_id in
    let up = rising c.args.schema.now c.requires.is_schema c.args.type_id in
    let l = c.loop-place in
    let f = field_shape c.in-Some.field.now in
    let (y, is, from) = err_from_is_err_and c.from_residual-in_err-read_content.result c.from_residual-in_err-read_content.ensures.1 in
    let one =
    counting.one_good shape c.args.levels fs up c.args.oneof_runs.now c.args.known.now c.requires.are_records c.requires.known l.place l.counted.items
    l.invariant c.loop-place-test.true _ f (sym c.in-Some.ensures.shape) in
    handed_on (StopsFor (RecordsGood shape c.args.levels fs (map seen_record c.args.known.now))) c.from_residual-in_err-read_content.result _ y is from
    (stops_for _ _ one _ c.in_err-read_content.ensures.err)

pub counted-returns-clause-ok : goal.counted-returns-clause-ok
counted-returns-clause-ok t c =
    let shape = shape_of c.args.schema.now in
    let fs = fields shape c.args.type_id in
    let up = rising c.args.schema.now c.requires.is_schema c.args.type_id in
    let l = c.loop-place in
    counted_so_far fs up c.args.oneof_runs.now c.args.known.now c.requires.are_records c.requires.known l.place l.counted.items l.invariant.counted
    c.loop-place-test.false c.requires.oneof_runs

pub counted-returns-clause-good : goal.counted-returns-clause-good
counted-returns-clause-good t c =
    let shape = shape_of c.args.schema.now in
    let fs = fields shape c.args.type_id in
    counting.all_counted_good shape c.args.levels fs (rising c.args.schema.now c.requires.is_schema c.args.type_id) c.args.oneof_runs.now c.args.known.now
    c.loop-place.place c.loop-place.counted.items c.loop-place-test.false c.loop-place.invariant

pub read_child-loop-record-init : goal.read_child-loop-record-init
read_child-loop-record-init t c = record {
  spelled = tt;
  gathered = c.new-gathered.ensures (shape_of c.args.schema.now) c.args.type_id;
}

pub read_child-loop-record-preserved : goal.read_child-loop-record-preserved
read_child-loop-record-preserved t c =
    let l = c.loop-record in
    bodies.opened_step
    (shape_of c.args.schema.now) c.args.type_id c.args.run.now l.record-index _ l.gathered c.add_all.new.self c.loop-record-test.true l.invariant
    c.in_ok-add_all.ensures.ok

pub read_child-returns-in_err-add_all-clause-err : goal.read_child-returns-in_err-add_all-clause-err
read_child-returns-in_err-add_all-clause-err t c =
    stopped _ _ c.from_residual.result _ c.from_residual.ensures.1
    (bodies.good_spelled
    (shape_of c.args.schema.now) c.args.type_id c.args.run.now c.loop-record.record-index c.args.levels _ c.loop-record-test.true) c.in_err-add_all.ensures.err

pub read_child-read_gathered-requires : goal.read_child-read_gathered-requires
read_child-read_gathered-requires t c = (omega arith, (c.requires.is_schema, (c.requires.type_id, (_, c.loop-record.invariant.gathered))))

pub read_child-returns-in_err-child-clause-err : goal.read_child-returns-in_err-child-clause-err
read_child-returns-in_err-child-clause-err t c =
    let shape = shape_of c.args.schema.now in
    let l = c.loop-record in
    let all = bodies.opened_all shape c.args.type_id c.args.run.now l.record-index l.gathered c.loop-record-test.false l.invariant in
    stopped _ _ c.from_residual-in_err-child.result _ c.from_residual-in_err-child.ensures.1
    (bodies.good_opened shape c.args.type_id (map seen_record c.args.run.now) l.gathered all c.args.levels (c.args.levels - 1)
    (omega (arith, c.if-levels-eq0.false)))
    (c.in_err-child.ensures.err _ all.gathered)

pub read_child-returns-clause-ok : goal.read_child-returns-clause-ok
read_child-returns-clause-ok t c =
    let shape = shape_of c.args.schema.now in
    let l = c.loop-record in
    let all = bodies.opened_all shape c.args.type_id c.args.run.now l.record-index l.gathered c.loop-record-test.false l.invariant in
    bodies.opened_read shape c.args.type_id (map seen_record c.args.run.now) l.gathered all (message_of c.in_ok-new.field-0.value)
    (c.in_ok-child.ensures.ok _ all.gathered ∙ ap (λ m. Some (message_of m)) (sym c.in_ok-new.ensures.ok))

pub read_child-returns-clause-good : goal.read_child-returns-clause-good
read_child-returns-clause-good t c =
    let shape = shape_of c.args.schema.now in
    let l = c.loop-record in
    let all = bodies.opened_all shape c.args.type_id c.args.run.now l.record-index l.gathered c.loop-record-test.false l.invariant in
    bodies.opened_good shape c.args.type_id (map seen_record c.args.run.now) l.gathered all c.args.levels (c.args.levels - 1)
    (omega (arith, c.if-levels-eq0.false)) (c.in_ok-child.ensures.good _ all.gathered)

pub read_children-loop-place-preserved : goal.read_children-loop-place-preserved
read_children-loop-place-preserved t c =
    let f = field_shape c.args.field.now in
    let l = c.loop-place in
    children.read_more (shape_of c.args.schema.now) c.args.levels f c.args.type_id c.requires.of_type
    (lists_no_map f.presence c.requires.repeated) c.args.run.now l.place (l.place + 1 - l.place) c.loop-place-test.true (omega arith)
    l.values.items c.push.new.self.items c.in_ok-child.child c.requires.run l.invariant c.in_ok-child.ensures.ok c.in_ok-child.ensures.fits
    c.in_ok-child.ensures.good c.in_ok-push.ensures.items

pub read_children-returns-in_err-child-clause-err : goal.read_children-returns-in_err-child-clause-err
read_children-returns-in_err-child-clause-err t c =
    let f = field_shape c.args.field.now in
    let place = c.loop-place.place in
    stopped _ _ c.from_residual-in_err-child.result _ c.from_residual-in_err-child.ensures.1
    (children.one_of_good (shape_of c.args.schema.now) c.args.levels f c.args.type_id c.requires.of_type
    (lists_no_map f.presence c.requires.repeated) c.args.run.now place (place + 1 - place) c.loop-place-test.true (omega arith))
    c.in_err-child.ensures.err

pub read_children-returns : goal.read_children-returns
read_children-returns t c =
    let shape = shape_of c.args.schema.now in
    let f = field_shape c.args.field.now in
    let l = c.loop-place in
    let rs = map seen_record c.args.run.now in
    let all = take_all l.place c.args.run.now c.loop-place-test.false in
    let read = subst (λ run. children.AreChildren shape c.args.type_id (map seen_record run) l.values.items) all l.invariant.read in
    record {
      ok = children.children_held shape f c.args.type_id c.requires.of_type (lists_no_map f.presence c.requires.repeated) rs l.values.items
          c.requires.repeated c.requires.run read;
      fits = list_held shape f l.values c.requires.repeated
          (subst (λ e. AllByRecursion (ItemKept shape e) l.values.items) (sym c.requires.of_type) l.invariant.fits)
          (children.children_filled shape c.args.type_id rs l.values.items (children.seen_some c.args.run.now c.requires.some) read);
      good = subst (λ run. AreGood shape c.args.levels f (map seen_record run)) all l.invariant.good;
      err = tt;
    }

pub read_content-returns-in_err-child-in_default-Message-clause-err : goal.read_content-returns-in_err-child-in_default-Message-clause-err
read_content-returns-in_err-child-in_default-Message-clause-err t c =
    let f = field_shape c.args.field.now in
    stopped _ _ c.from_residual.result _ c.from_residual.ensures.1
    (children.bodies_from_good (shape_of c.args.schema.now) f c.in_default-Message.type_id c.in_default-Message.is-1
    (not_map f.presence c.in_default-Message.not-Map-0) c.args.levels (map seen_record c.args.run.now)
    (children.seen_some c.args.run.now c.requires.some)) c.in_err-child-in_default-Message.ensures.err

pub read_content-returns-in-Repeated-default : goal.read_content-returns-in-Repeated-default
read_content-returns-in-Repeated-default t c =
    let shape = shape_of c.args.schema.now in
    let f = field_shape c.args.field.now in
    record {
      ok = IfOk-weaker c.read_list.result _ (HoldsOf shape f (map seen_record c.args.run.now)) (λ held h. h shape) c.read_list.ensures.ok;
      fits = IfOk-weaker c.read_list.result _ (HeldFits shape f) (λ held h. h shape) c.read_list.ensures.fits;
      good = c.read_list.ensures.good shape c.args.levels;
      err = c.read_list.ensures.err shape c.args.levels;
    }

pub read_content-returns-in_ok-child-in_default-Message : goal.read_content-returns-in_ok-child-in_default-Message
read_content-returns-in_ok-child-in_default-Message t c =
    let shape = shape_of c.args.schema.now in
    let f = field_shape c.args.field.now in
    let m = c.in_default-Message in
    let v = c.in_ok-child-in_default-Message.child in
    let read = c.in_ok-child-in_default-Message.ensures in
    let rs = map seen_record c.args.run.now in
    let singular = not_list f.presence m.not-Repeated-0 in
    let no_map = not_map f.presence m.not-Map-0 in
    record {
      ok = children.child_held shape f m.type_id m.is-1 no_map rs v singular (children.seen_some c.args.run.now c.requires.some) c.requires.run read.ok;
      fits = one_held shape f v singular no_map (subst (λ e. ItemKept shape e v) (sym m.is-1) read.fits) (child_zero shape m.type_id f.presence v read.fits);
      good = children.good_from_bodies shape f m.type_id m.is-1 no_map c.args.levels rs c.requires.run read.good;
      err = tt;
    }

pub read_content-returns-in_default : goal.read_content-returns-in_default
read_content-returns-in_default t c =
    let shape = shape_of c.args.schema.now in
    let f = field_shape c.args.field.now in
    record {
      ok = IfOk-weaker c.read_last.result _ (HoldsOf shape f (map seen_record c.args.run.now)) (λ held h. h shape) c.read_last.ensures.ok;
      fits = IfOk-weaker c.read_last.result _ (HeldFits shape f) (λ held h. h shape) c.read_last.ensures.fits;
      good = c.read_last.ensures.good shape c.args.levels;
      err = c.read_last.ensures.err shape c.args.levels;
    }

pub read_contents-read_content-requires : goal.read_contents-read_content-requires
read_contents-read_content-requires t c =
    let shape = shape_of c.args.schema.now in
    let f = field_shape c.in-Some.field.now in
    let run =
    runs.one_run shape c.args.levels c.args.type_id c.args.sorted.now
    (rising c.args.schema.now c.requires.is_schema c.args.type_id) c.requires.rise c.requires.count
    c.loop-place.place c.loop-place-test.true c.run_end-end.result c.run_end-end.ensures.later c.run_end-end.ensures.inside c.run_end-end.ensures.run _ f
    (sym c.in-Some.ensures.shape) in
    (omega arith, (c.requires.is_schema, (is_field_of c.args.schema.now c.requires.is_schema c.args.type_id _ f (sym c.in-Some.ensures.shape), run)))

pub read_contents-returns-in_err-content-clause-err : goal.read_contents-returns-in_err-content-clause-err
read_contents-returns-in_err-content-clause-err t c =
    let shape = shape_of c.args.schema.now in
    let f = field_shape c.in-Some.field.now in
    let run =
    runs.good_run shape c.args.levels c.args.type_id c.args.sorted.now
    (rising c.args.schema.now c.requires.is_schema c.args.type_id) c.requires.rise c.requires.count
    c.loop-place.place c.loop-place-test.true c.run_end-end.result c.run_end-end.ensures.later c.run_end-end.ensures.inside c.run_end-end.ensures.run _ f
    (sym c.in-Some.ensures.shape) in
    stopped _ _ c.from_residual-in_err-content.result _ c.from_residual-in_err-content.ensures.1 run c.in_err-content.ensures.err

pub read_contents-returns : goal.read_contents-returns
read_contents-returns t c =
    let l = c.loop-place in
    let all =
    runs.all_are (shape_of c.args.schema.now) c.args.levels c.args.type_id c.args.sorted.now
    (rising c.args.schema.now c.requires.is_schema c.args.type_id) c.requires.count l.place l.contents.items l.invariant c.loop-place-test.false
    c.requires.type_id in
    let read = l.invariant.read in
    record { ok = all.0; fits = all.1; kept = (read.rises, read.filled, read.keys); good = all.2; err = tt }

pub read_contents-loop-place-preserved-in_ok-push : goal.read_contents-loop-place-preserved-in_ok-push
read_contents-loop-place-preserved-in_ok-push t c =
    let shape = shape_of c.args.schema.now in
    let f = field_shape c.in-Some.field.now in
    runs.onward_by shape c.args.levels c.args.type_id c.args.sorted.now
    (rising c.args.schema.now c.requires.is_schema c.args.type_id) c.requires.rise c.requires.count
    c.loop-place.place c.loop-place-test.true c.run_end-end.result c.run_end-end.ensures.later c.run_end-end.ensures.inside c.run_end-end.ensures.run _ f
    (sym c.in-Some.ensures.shape) c.loop-place.contents.items c.loop-place.invariant c.run_end-end.ensures.beyond c.in_ok-content.field-0 _
    (c.in_ok-push.ensures.items ∙ ap (λ held. c.loop-place.contents.items ++ with_held f.number held) (sym c.in-Some-2.is))
    c.in_ok-content.ensures.ok c.in_ok-content.ensures.fits c.in_ok-content.ensures.good

pub read_contents-loop-place-preserved-in_default-2 : goal.read_contents-loop-place-preserved-in_default-2
read_contents-loop-place-preserved-in_default-2 t c =
    let shape = shape_of c.args.schema.now in
    let f = field_shape c.in-Some.field.now in
    runs.onward_by shape c.args.levels c.args.type_id c.args.sorted.now
    (rising c.args.schema.now c.requires.is_schema c.args.type_id) c.requires.rise c.requires.count
    c.loop-place.place c.loop-place-test.true c.run_end-end.result c.run_end-end.ensures.later c.run_end-end.ensures.inside c.run_end-end.ensures.run _ f
    (sym c.in-Some.ensures.shape) c.loop-place.contents.items c.loop-place.invariant c.run_end-end.ensures.beyond c.in_ok-content.field-0 _
    (sym (append-nil c.loop-place.contents.items) ∙ ap (λ held. c.loop-place.contents.items ++ with_held f.number held) (sym c.in_default-2.is))
    c.in_ok-content.ensures.ok c.in_ok-content.ensures.fits c.in_ok-content.ensures.good

pub read_contents-loop-place-preserved : goal.read_contents-loop-place-preserved
read_contents-loop-place-preserved t c =
    let there =
    runs.field_there (shape_of c.args.schema.now) c.args.levels c.args.type_id c.args.sorted.now
    (rising c.args.schema.now c.requires.is_schema c.args.type_id) c.requires.rise c.requires.count
    c.loop-place.place c.loop-place-test.true _ in
    absurd (none_some (c.in_default.ensures.shape ∙ there.1.found))

pub read_entry-returns-in_err-parts-clause-err : goal.read_entry-returns-in_err-parts-clause-err
read_entry-returns-in_err-parts-clause-err t c =
    stopped _ _ c.from_residual.result _ c.from_residual.ensures.1
    (entries.scalars_of_entry (shape_of c.args.schema.now) c.args.levels (field_shape c.args.field.now) c.args.key c.requires.of_map
    (seen_record c.args.found.now)) c.in_err-parts.ensures.err

pub read_entry-returns-in_err-value-in-Message-clause-err : goal.read_entry-returns-in_err-value-in-Message-clause-err
read_entry-returns-in_err-value-in-Message-clause-err t c =
    stopped _ _ c.from_residual-in_err-value-in-Message.result _ c.from_residual-in_err-value-in-Message.ensures.1
    (entries.good_child (shape_of c.args.schema.now) c.args.levels (field_shape c.args.field.now) c.args.key c.requires.of_map
    (seen_record c.args.found.now) c.in_ok-parts.parts c.in_ok-parts.ensures.ok
    c.in-Message.type_id c.in-Message.is c.as_slice.result.now c.as_slice.ensures.value) c.in_err-value-in-Message.ensures.err

pub read_entry-returns-clause-ok : goal.read_entry-returns-clause-ok
read_entry-returns-clause-ok t c =
    let shape = shape_of c.args.schema.now in
    let f = field_shape c.args.field.now in
    let r = seen_record c.args.found.now in
    let k = c.or_zero-whole_key in
    let whole_key = k.ensures.whole shape (elements.Scalar c.args.key) tt refl in
    let key_fits = k.ensures.fits shape (elements.Scalar c.args.key) tt refl in
    elim c.match-element.branch [
      | read_entry-in-Message+in_ok-value-in-Message w ↦
          let m = w.in-Message in
          let read = w.in_ok-value-in-Message in
          subst (λ v. IsEntryRead shape c.args.key f.element r (record { key = k.result; value = v })) (sym w.value-is)
          (entries.child_entry shape c.args.levels f c.args.key c.requires.of_map r c.in_ok-parts.parts c.in_ok-parts.ensures.ok m.type_id m.is
          w.as_slice.result.now w.as_slice.ensures.value k.result read.value (whole_key, key_fits)
          read.ensures.ok read.ensures.fits)
      | read_entry-in-Scalar w ↦
          let scalar = is_no_message f.element w.in-Scalar.is in
          let whole = w.or_zero-value.ensures in
          subst (λ v. IsEntryRead shape c.args.key f.element r (record { key = k.result; value = v })) (sym w.value-is)
          (entries.scalar_entry shape c.args.levels f c.args.key c.requires.of_map r c.in_ok-parts.parts c.in_ok-parts.ensures.ok scalar k.result
          w.or_zero-value.result (whole_key, key_fits)
          (whole.whole shape f.element scalar (sym w.scalar_of.ensures)) (whole.fits shape f.element scalar (sym w.scalar_of.ensures)))
    ]

pub read_entry-returns-clause-good : goal.read_entry-returns-clause-good
read_entry-returns-clause-good t c =
    let shape = shape_of c.args.schema.now in
    let f = field_shape c.args.field.now in
    let r = seen_record c.args.found.now in
    elim c.match-element.branch [
      | read_entry-in-Message+in_ok-value-in-Message w ↦
          entries.child_good shape c.args.levels f c.args.key c.requires.of_map r c.in_ok-parts.parts c.in_ok-parts.ensures.ok w.in-Message.type_id
          w.in-Message.is w.as_slice.result.now w.as_slice.ensures.value
          w.in_ok-value-in-Message.ensures.good
      | read_entry-in-Scalar w ↦ entries.scalar_good shape c.args.levels f c.args.key c.requires.of_map r c.in_ok-parts.parts c.in_ok-parts.ensures.ok
          (is_no_message f.element w.in-Scalar.is)
    ]

pub read_gathered-counted-requires : goal.read_gathered-counted-requires
read_gathered-counted-requires t c =
    let (rs, are) = c.requires.gathered in
    let asked =
    gathered.known_asked (shape_of c.args.schema.now) c.args.levels c.args.type_id rs c.args.gathered are c.deref.result.now c.deref.ensures.value in
    (omega arith, (c.requires.is_schema, asked))

pub read_gathered-returns-in_err-left-clause-err : goal.read_gathered-returns-in_err-left-clause-err
read_gathered-returns-in_err-left-clause-err t c =
    let shape = shape_of c.args.schema.now in
    let (y, is, from) = err_from_is_err_and c.from_residual.result c.from_residual.ensures.1 in
    handed_on (λ e. (rs : List WireRecord) → AreGathered shape c.args.type_id rs c.args.gathered
    → StopsFor (RecordsGood shape c.args.levels (fields shape c.args.type_id) rs) e) c.from_residual.result _ y is from
    (λ rs are. stops_for _ _
    (gathered.known_good shape c.args.levels c.args.type_id rs c.args.gathered are c.deref.result.now c.deref.ensures.value) _ c.in_err-left.ensures.err)

pub read_gathered-read_contents-requires : goal.read_gathered-read_contents-requires
read_gathered-read_contents-requires t c =
    let shape = shape_of c.args.schema.now in
    let (rs, are) = c.requires.gathered in
    let left : gathered.IsLeft shape c.args.levels (fields shape c.args.type_id) rs c.if-oneof_runs.left.items =
    elim c.if-oneof_runs.branch [
      | read_gathered-then-oneof_runs w ↦ rw w.left-is (gathered.all_left shape c.args.levels c.args.type_id rs c.args.gathered are w.if-oneof_runs.true)
      | read_gathered-else-oneof_runs+in_ok-left w ↦
          rw w.left-is
          (gathered.some_left shape c.args.levels c.args.type_id rs c.args.gathered are w.deref.result.now w.in_ok-left.left.items
          w.deref.ensures.value w.in_ok-left.ensures.ok w.in_ok-left.ensures.good)
    ] in
    let by = subst (AreByNumber c.if-oneof_runs.left.items) (sym c.deref-2.ensures.value) c.in_ok-sorted.ensures in
    let up = rising c.args.schema.now c.requires.is_schema c.args.type_id in
    let count = gathered.all_count shape c.args.levels c.args.type_id rs c.args.gathered are up c.if-oneof_runs.left.items c.deref-2.result.now left by in
    (omega arith, (c.requires.is_schema, (c.requires.type_id, (by.rise, count))))

pub read_gathered-returns-in_err-fields-clause-err : goal.read_gathered-returns-in_err-fields-clause-err
read_gathered-returns-in_err-fields-clause-err t c =
    let shape = shape_of c.args.schema.now in
    let (y, is, from) = err_from_is_err_and c.from_residual-in_err-fields.result c.from_residual-in_err-fields.ensures.1 in
    handed_on (λ e. (rs : List WireRecord) → AreGathered shape c.args.type_id rs c.args.gathered
    → StopsFor (RecordsGood shape c.args.levels (fields shape c.args.type_id) rs) e) c.from_residual-in_err-fields.result _ y is from
    (λ rs are.
    let left : gathered.IsLeft shape c.args.levels (fields shape c.args.type_id) rs c.if-oneof_runs.left.items =
    elim c.if-oneof_runs.branch [
      | read_gathered-then-oneof_runs w ↦ rw w.left-is (gathered.all_left shape c.args.levels c.args.type_id rs c.args.gathered are w.if-oneof_runs.true)
      | read_gathered-else-oneof_runs+in_ok-left w ↦
          rw w.left-is
          (gathered.some_left shape c.args.levels c.args.type_id rs c.args.gathered are w.deref.result.now w.in_ok-left.left.items
          w.deref.ensures.value w.in_ok-left.ensures.ok w.in_ok-left.ensures.good)
    ] in
    let by = subst (AreByNumber c.if-oneof_runs.left.items) (sym c.deref-2.ensures.value) c.in_ok-sorted.ensures in
    stops_for _ _ (gathered.good_before shape c.args.levels c.args.type_id rs c.args.gathered are
    (rising c.args.schema.now c.requires.is_schema c.args.type_id) c.if-oneof_runs.left.items c.deref-2.result.now left by) _ c.in_err-fields.ensures.err)

pub read_gathered-invariant_of-result : goal.read_gathered-invariant_of-result
read_gathered-invariant_of-result t c =
    let shape = shape_of c.args.schema.now in
    let (rs, are) = c.requires.gathered in
    record {
      rises = c.in_ok-fields.ensures.kept.0;
      filled = c.in_ok-fields.ensures.kept.1;
      keys = c.in_ok-fields.ensures.kept.2;
      records = each_weaker (IsUnknown (fields shape c.args.type_id)) IsRecord (λ r k. k.is_record) (map seen_record c.args.gathered.unknown.items)
          (gathered.unknown_are shape c.args.levels c.args.type_id rs c.args.gathered are);
    }

pub read_gathered-returns : goal.read_gathered-returns
read_gathered-returns t c =
    let shape = shape_of c.args.schema.now in
    let up = rising c.args.schema.now c.requires.is_schema c.args.type_id in
    let cs = c.in_ok-fields.fields.items in
    let unknown = map seen_record c.args.gathered.unknown.items in
    let left = c.if-oneof_runs.left.items in
    let is_left : (rs : List WireRecord) → AreGathered shape c.args.type_id rs c.args.gathered → gathered.IsLeft shape c.args.levels (fields shape c.args.type_id) rs left =
    λ rs are. elim c.if-oneof_runs.branch [
      | read_gathered-then-oneof_runs w ↦ rw w.left-is (gathered.all_left shape c.args.levels c.args.type_id rs c.args.gathered are w.if-oneof_runs.true)
      | read_gathered-else-oneof_runs+in_ok-left w ↦
          rw w.left-is
          (gathered.some_left shape c.args.levels c.args.type_id rs c.args.gathered are w.deref.result.now w.in_ok-left.left.items
          w.deref.ensures.value w.in_ok-left.ensures.ok w.in_ok-left.ensures.good)
    ] in
    let by = subst (AreByNumber left) (sym c.deref-2.ensures.value) c.in_ok-sorted.ensures in
    let (rs, are) = c.requires.gathered in
    record {
      ok = λ rs are. gathered.read_of_all shape c.args.levels c.args.type_id rs c.args.gathered are up left c.deref-2.result.now (is_left rs are) by cs
          c.in_ok-fields.ensures.good c.in_ok-fields.ensures.ok;
      fits = (
        gathered.fits_of_all shape c.args.levels c.args.type_id rs c.args.gathered are cs c.requires.type_id c.in_ok-fields.ensures.fits,
        type_of-kept_onto (all_seen cs) (ends c.args.type_id unknown),
      );
      good = λ rs are. gathered.good_after shape c.args.levels c.args.type_id rs c.args.gathered are up left c.deref-2.result.now (is_left rs are) by
          c.in_ok-fields.ensures.good;
      err = tt;
    }

pub read_map-loop-record-preserved : goal.read_map-loop-record-preserved
read_map-loop-record-preserved t c =
    let l = c.loop-record in
    entries.entries_more (shape_of c.args.schema.now) c.args.levels
    (field_shape c.args.field.now) c.args.key c.args.run.now l.record-index c.loop-record-test.true _ l.entries.items c.push.new.self.items
    c.in_ok-read_entry.field-0 l.invariant c.in_ok-read_entry.ensures.ok c.in_ok-read_entry.ensures.good c.in_ok-push.ensures.items

pub read_map-returns-in_err-read_entry-clause-err : goal.read_map-returns-in_err-read_entry-clause-err
read_map-returns-in_err-read_entry-clause-err t c =
    stopped _ _ c.from_residual-in_err-read_entry.result _ c.from_residual-in_err-read_entry.ensures.1
    (entries.entry_of_good (shape_of c.args.schema.now) c.args.levels
    (field_shape c.args.field.now) c.args.key c.args.run.now c.loop-record.record-index c.loop-record-test.true _) c.in_err-read_entry.ensures.err

pub read_map-last_of_keys-requires : goal.read_map-last_of_keys-requires
read_map-last_of_keys-requires t c =
    let f = field_shape c.args.field.now in
    let l = c.loop-record in
    maps.entries_alike (shape_of c.args.schema.now) c.args.key f.element (map seen_record (take l.record-index c.args.run.now)) l.entries.items
    (entries.key_of_map f.presence c.args.key f.element f.oneof c.requires.of_map c.requires.is_field.presence_fits) l.invariant.read

pub read_map-returns : goal.read_map-returns
read_map-returns t c =
    let shape = shape_of c.args.schema.now in
    let f = field_shape c.args.field.now in
    let l = c.loop-record in
    let rs = map seen_record c.args.run.now in
    let all = take_all l.record-index c.args.run.now c.loop-record-test.false in
    let read = subst (λ run. maps.AreEntriesRead shape c.args.key f.element (map seen_record run) l.entries.items) all l.invariant.read in
    let held = contents.Map c.in_ok-last_of_keys.field-0 in
    record {
      ok = maps.map_holds shape f c.args.key rs l.entries.items held c.requires.of_map read c.in_ok-last_of_keys.ensures;
      fits = maps.map_fits shape f c.args.key rs l.entries.items held c.requires.of_map
          (entries.key_of_map f.presence c.args.key f.element f.oneof c.requires.of_map c.requires.is_field.presence_fits)
          (children.seen_some c.args.run.now c.requires.some) read c.in_ok-last_of_keys.ensures;
      good = subst (λ run. AreGood shape c.args.levels f (map seen_record run)) all l.invariant.good;
      err = tt;
    }

pub counted-loop-place-init : goal.counted-loop-place-init
counted-loop-place-init t c =
    let shape = shape_of c.args.schema.now in
    let fs = fields shape c.args.type_id in
    subst (λ (xs : List Record). counting.CountedUpTo shape c.args.levels fs c.args.oneof_runs.now c.args.known.now 0 xs) (sym c.new-counted.ensures.items)
    (counting.none_counted shape c.args.levels fs (rising c.args.schema.now c.requires.is_schema c.args.type_id) c.args.oneof_runs.now c.args.known.now)

pub counted-loop-place-preserved : goal.counted-loop-place-preserved
counted-loop-place-preserved t c =
    let shape = shape_of c.args.schema.now in
    let fs = fields shape c.args.type_id in
    let up = rising c.args.schema.now c.requires.is_schema c.args.type_id in
    let l = c.loop-place in
    let keeps =
    counting.one_kept shape c.args.levels fs up c.args.oneof_runs.now c.args.known.now c.requires.are_records c.requires.known l.place l.counted.items
    l.invariant c.loop-place-test.true in
    let drops =
    counting.one_read shape c.args.levels fs up c.args.oneof_runs.now c.args.known.now c.requires.are_records c.requires.known l.place l.counted.items
    l.invariant c.loop-place-test.true in
    let some =
    counting.some_field shape c.args.levels fs up c.args.oneof_runs.now c.args.known.now c.requires.are_records c.requires.known l.place l.counted.items
    l.invariant c.loop-place-test.true in
    elim c.match-field.branch [
      | counted-in-Some+then-counts+in_ok-push w ↦
          let h = w.in_ok-push.ensures.items in
          let i = w.counted-is in
          rw w.counted-is (rw w.in_ok-push.ensures.items (keeps _ _ (sym w.in-Some.ensures.shape) (sym w.counts.ensures ∙ w.if-counts.true)))
      | counted-in-Some+else-counts+in_ok-read_content+in-Some+in-One+in-Msg-1 w ↦
          rw w.counted-is (drops _ _ (sym w.in-Some.ensures.shape) (sym w.counts.ensures ∙ w.if-counts.false) w.in_ok-read_content.ensures.good)
      | counted-in-Some+else-counts+in_ok-read_content+in-Some+in-One+in-Int-1 w ↦
          rw w.counted-is (drops _ _ (sym w.in-Some.ensures.shape) (sym w.counts.ensures ∙ w.if-counts.false) w.in_ok-read_content.ensures.good)
      | counted-in-Some+else-counts+in_ok-read_content+in-Some+in-Many-1 w ↦
          rw w.counted-is (drops _ _ (sym w.in-Some.ensures.shape) (sym w.counts.ensures ∙ w.if-counts.false) w.in_ok-read_content.ensures.good)
      | counted-in-Some+else-counts+in_ok-read_content+in-Some+in-Numbers-1 w ↦
          rw w.counted-is (drops _ _ (sym w.in-Some.ensures.shape) (sym w.counts.ensures ∙ w.if-counts.false) w.in_ok-read_content.ensures.good)
      | counted-in-Some+else-counts+in_ok-read_content+in-Some+in-Map-1 w ↦
          rw w.counted-is (drops _ _ (sym w.in-Some.ensures.shape) (sym w.counts.ensures ∙ w.if-counts.false) w.in_ok-read_content.ensures.good)
      | counted-in-Some+else-counts+in_ok-read_content+in-None-1 w ↦
          rw w.counted-is (drops _ _ (sym w.in-Some.ensures.shape) (sym w.counts.ensures ∙ w.if-counts.false) w.in_ok-read_content.ensures.good)
      | counted-in_default w ↦ absurd (some _ (sym w.in_default.ensures.shape))
    ]
