use Rattle.std.proofs.Common.{◌≡◌, map, take, true, is_some, Some, ap, sym, subst, ◌∙◌}
use Rattle.std.proofs.lemmas.Result.{err_from_is_err_and}
use Rattle.pg_schema.specs.declared.parts.field.Scalar.{Scalar}
use Rattle.pg_schema.specs.Parts.{field_shape}
use Rattle.pg_wire.specs.Reads.{seen_record}
use Rattle.pg_wire.specs.Records.{IsRecord}
use Rattle.pg_dyn.specs.reading.ByFields.{AreGood, HoldsOf, StopsFor}
use Rattle.pg_dyn.specs.word.Coding.{leaf_in, scalar_form}
use Rattle.pg_dyn.specs.reading.Content.{takes}
use Rattle.pg_dyn.specs.message_ref.BorrowedItems.{IsItemKept}
use Rattle.pg_dyn.specs.message_ref.Borrowed.{leaf_of}
use Rattle.pg_dyn.specs.reading.Steps.{FieldReads, HeldFits, IsShallow}
use Rattle.pg_dyn.proofs.lemmas.reading.records.FieldRecords.{singular_wire}
use Rattle.pg_dyn.proofs.lemmas.reading.runs.ScalarRuns.{LastSoFar, all_good, good_read, item_there, last_fits, last_holds, new_last, own_item, own_shape}
use Rattle.pg_dyn.proofs.lemmas.reading.runs.SliceRuns.{all_of, holds_in, one_more, record_in, some_seen}
use Rattle.pg_dyn.proofs.lemmas.reading.faults.StopSteps.{handed_on, stops_for}
use Rattle.pg_dyn.proofs.reading.scalars.read_last.Goals.{in-Some, in-None}
use Rattle.pg_dyn.proofs.reading.scalars.read_last.Goals as goal

pub item_in-requires : goal.item_in-requires
item_in-requires c =
    let f = field_shape c.args.field.now in
    let r = record_in c.args.run.now c.loop-record.record-index in
    let taken = holds_in (λ r. IsRecord r × (takes f r ≡ true)) c.args.run.now c.loop-record.record-index c.loop-record-test.true c.requires.run in
    own_shape f r c.scalar_of-scalar.result c.scalar_of-scalar.ensures taken.0 (singular_wire f r taken.1 c.requires.no_map c.requires.singular)

pub returns-in_err-item_in-clause-err : goal.returns-in_err-item_in-clause-err
returns-in_err-item_in-clause-err c =
    let f = field_shape c.args.field.now in
    let r = record_in c.args.run.now c.loop-record.record-index in
    let taken = holds_in (λ r. IsRecord r × (takes f r ≡ true)) c.args.run.now c.loop-record.record-index c.loop-record-test.true c.requires.run in
    let (y, is, from) = err_from_is_err_and c.from_residual.result c.from_residual.ensures.1 in
    λ shape levels.
    handed_on (StopsFor (AreGood shape levels f (map seen_record c.args.run.now))) c.from_residual.result _ y is from
    (stops_for _ (AreGood shape levels f (map seen_record c.args.run.now))
    (λ all.
    ap (λ (s : Scalar). is_some (leaf_in (scalar_form s) r.body)) c.scalar_of-scalar.ensures
    ∙ item_there f r (singular_wire f r taken.1 c.requires.no_map c.requires.singular)
    (good_read f c.requires.no_map c.requires.no_message shape levels r
    (holds_in (λ r. FieldReads shape f r × IsShallow shape levels f r) c.args.run.now c.loop-record.record-index c.loop-record-test.true all)))
    c.in_err-item_in.field-0.0 c.in_err-item_in.ensures.err)

pub loop-record-preserved : goal.loop-record-preserved
loop-record-preserved c =
    let f = field_shape c.args.field.now in
    let l = c.loop-record in
    let r = record_in c.args.run.now l.record-index in
    let v = c.in_ok-item_in.field-0 in
    let read = c.in_ok-item_in.ensures.ok in
    let taken = holds_in (λ r. IsRecord r × (takes f r ≡ true)) c.args.run.now l.record-index c.loop-record-test.true c.requires.run in
    subst (λ rs. LastSoFar f rs (Some v)) (sym (one_more c.args.run.now l.record-index c.loop-record-test.true))
    (new_last f (map seen_record (take l.record-index c.args.run.now)) r l.held v l.invariant
    (own_item f r (leaf_of v) (singular_wire f r taken.1 c.requires.no_map c.requires.singular)
    (ap (λ (s : Scalar). leaf_in (scalar_form s) r.body) (sym c.scalar_of-scalar.ensures) ∙ read.0))
    (subst (λ (s : Scalar). IsItemKept s v) c.scalar_of-scalar.ensures read.1))

pub returns-clause-ok : goal.returns-clause-ok
returns-clause-ok c =
    let f = field_shape c.args.field.now in
    let l = c.loop-record in
    let rs = map seen_record c.args.run.now in
    let whole : LastSoFar f rs l.held = subst (λ rs. LastSoFar f rs l.held) (all_of c.args.run.now l.record-index c.loop-record-test.false) l.invariant in
    λ shape.
    elim c.match-held-5.branch as (λ b. HoldsOf shape f rs c.match-held-5.result) [
      | in-Some w ↦
          subst (HoldsOf shape f rs) (sym (w.result-is ∙ w.left.ensures))
          (last_holds shape f c.requires.singular c.requires.no_map c.requires.no_message rs w.in-Some.value (subst (LastSoFar f rs) w.in-Some.is whole))
      | in-None w ↦ absurd (c.requires.some (some_seen c.args.run.now (whole.none w.in-None.is)))
    ]

pub returns-clause-fits : goal.returns-clause-fits
returns-clause-fits c =
    let f = field_shape c.args.field.now in
    let l = c.loop-record in
    let rs = map seen_record c.args.run.now in
    let whole : LastSoFar f rs l.held = subst (λ rs. LastSoFar f rs l.held) (all_of c.args.run.now l.record-index c.loop-record-test.false) l.invariant in
    λ shape.
    elim c.match-held-5.branch as (λ b. HeldFits shape f c.match-held-5.result) [
      | in-Some w ↦
          subst (HeldFits shape f) (sym (w.result-is ∙ w.left.ensures))
          (last_fits shape f c.requires.singular c.requires.no_map c.requires.no_message rs w.in-Some.value (subst (LastSoFar f rs) w.in-Some.is whole))
      | in-None w ↦ absurd (c.requires.some (some_seen c.args.run.now (whole.none w.in-None.is)))
    ]

pub returns-clause-good : goal.returns-clause-good
returns-clause-good c =
    let f = field_shape c.args.field.now in
    let l = c.loop-record in
    let rs = map seen_record c.args.run.now in
    let whole : LastSoFar f rs l.held = subst (λ rs. LastSoFar f rs l.held) (all_of c.args.run.now l.record-index c.loop-record-test.false) l.invariant in
    λ shape levels. all_good f c.requires.no_map c.requires.no_message shape levels rs whole.so_far.rows whole.so_far.read
