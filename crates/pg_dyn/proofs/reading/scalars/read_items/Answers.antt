-- Each record holds one item.
use Rattle.std.proofs.Common.{◌≡◌, [], ◌∷◌, map, take, true, is_some, ap, sym, subst, ◌∙◌}
use Rattle.std.proofs.lemmas.Result.{err_from_is_err_and}
use Rattle.pg_schema.specs.declared.parts.field.Scalar.{Scalar}
use Rattle.pg_schema.specs.Parts.{field_shape}
use Rattle.pg_wire.specs.Reads.{seen_record}
use Rattle.pg_wire.specs.Records.{IsRecord}
use Rattle.pg_dyn.specs.reading.ByFields.{StopsFor}
use Rattle.pg_dyn.specs.word.Coding.{leaf_in, scalar_form}
use Rattle.pg_dyn.specs.reading.Content.{leaves_in, takes}
use Rattle.pg_dyn.specs.reading.ItemRuns.{AllRead}
use Rattle.pg_dyn.specs.message_ref.BorrowedItems.{IsItemKept}
use Rattle.pg_dyn.specs.message_ref.Borrowed.{leaf_of}
use Rattle.pg_dyn.proofs.lemmas.reading.FieldKinds.{lists_no_map}
use Rattle.pg_dyn.proofs.lemmas.reading.runs.ScalarRuns.{ItemsSoFar, item_there, more_items, own_item, own_of_single, own_shape}
use Rattle.pg_dyn.proofs.lemmas.reading.runs.SliceRuns.{holds_in, one_more, record_in}
use Rattle.pg_dyn.proofs.lemmas.reading.faults.StopSteps.{handed_on, stops_for}
use Rattle.pg_dyn.proofs.reading.scalars.read_items.Goals as goal

pub item_in-requires : goal.item_in-requires
item_in-requires c =
    let f = field_shape c.args.field.now in
    let r = record_in c.args.run.now c.loop-record.record-index in
    let taken = holds_in (λ r. IsRecord r × (takes f r ≡ true)) c.args.run.now c.loop-record.record-index c.loop-record-test.true c.requires.run in
    own_shape f r c.scalar_of-scalar.result c.scalar_of-scalar.ensures taken.0 (own_of_single f r taken.1 (lists_no_map f.presence c.requires.repeated) c.requires.single)

pub returns-in_err-item_in-clause-err : goal.returns-in_err-item_in-clause-err
returns-in_err-item_in-clause-err c =
    let f = field_shape c.args.field.now in
    let r = record_in c.args.run.now c.loop-record.record-index in
    let taken = holds_in (λ r. IsRecord r × (takes f r ≡ true)) c.args.run.now c.loop-record.record-index c.loop-record-test.true c.requires.run in
    let (y, is, from) = err_from_is_err_and c.from_residual.result c.from_residual.ensures.1 in
    handed_on (StopsFor (AllRead f (map seen_record c.args.run.now))) c.from_residual.result _ y is from
    (stops_for _ (AllRead f (map seen_record c.args.run.now))
    (λ all.
    ap (λ (s : Scalar). is_some (leaf_in (scalar_form s) r.body)) c.scalar_of-scalar.ensures
    ∙ item_there f r (own_of_single f r taken.1 (lists_no_map f.presence c.requires.repeated) c.requires.single)
    (holds_in (λ r. is_some (leaves_in f r) ≡ true) c.args.run.now c.loop-record.record-index c.loop-record-test.true all))
    c.in_err-item_in.field-0.0 c.in_err-item_in.ensures.err)

pub loop-record-preserved : goal.loop-record-preserved
loop-record-preserved c =
    let f = field_shape c.args.field.now in
    let r = record_in c.args.run.now c.loop-record.record-index in
    let l = c.loop-record in
    let rs = map seen_record (take l.record-index c.args.run.now) in
    let taken = holds_in (λ r. IsRecord r × (takes f r ≡ true)) c.args.run.now l.record-index c.loop-record-test.true c.requires.run in
    let v = c.in_ok-item_in.field-0 in
    let read = c.in_ok-item_in.ensures.ok in
    subst (λ rs. ItemsSoFar f rs c.push.new.self.items) (sym (one_more c.args.run.now l.record-index c.loop-record-test.true))
    (more_items f rs r l.values.items (v ∷ []) c.push.new.self.items l.invariant
    (own_item f r (leaf_of v) (own_of_single f r taken.1 (lists_no_map f.presence c.requires.repeated) c.requires.single)
    (ap (λ (s : Scalar). leaf_in (scalar_form s) r.body) (sym c.scalar_of-scalar.ensures) ∙ read.0))
    (subst (λ (s : Scalar). IsItemKept s v) c.scalar_of-scalar.ensures read.1, tt) c.in_ok-push.ensures.items)
