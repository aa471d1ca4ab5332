-- Each record holds a number, or a packed list of them.
use Rattle.std.proofs.Common.{ℕ, List, ◌≡◌, ◌∷◌, [], ◌++◌, map, take, true, is_some, ap, sym, subst, ◌∙◌, arith}
use Rattle.std.proofs.lemmas.Result.{err_from_is_err_and}
use Rattle.pg_schema.specs.declared.parts.field.Scalar.{Scalar}
use Rattle.pg_schema.specs.Parts.{field_shape}
use Rattle.pg_wire.specs.declared.record.WireType.{WireType}
use Rattle.pg_wire.specs.Reads.{seen_record}
use Rattle.pg_wire.specs.Records.{IsRecord}
use Rattle.pg_dyn.specs.word.Coding.{form_wire, scalar_form, HasShape}
use Rattle.pg_dyn.specs.word.NumberLists.{number_item}
use Rattle.pg_dyn.specs.reading.ByFields.{StopsFor}
use Rattle.pg_dyn.specs.reading.Content.{leaves_in, packed_leaves, takes}
use Rattle.pg_dyn.specs.reading.Held.{read_as}
use Rattle.pg_dyn.specs.reading.ItemRuns.{AllRead}
use Rattle.pg_dyn.specs.reading.Steps.{RowReads}
use Rattle.pg_dyn.proofs.lemmas.reading.FieldKinds.{packable_as}
use Rattle.pg_dyn.proofs.lemmas.reading.runs.NumberRuns.{own_number, row_numbers}
use Rattle.pg_dyn.proofs.lemmas.reading.runs.ScalarRuns.{ItemsSoFar, own_shape, row_there}
use Rattle.pg_dyn.proofs.lemmas.reading.runs.SliceRuns.{holds_in, one_more, record_in}
use Rattle.pg_dyn.proofs.lemmas.reading.faults.StopSteps.{handed_on, stops_for}
use Rattle.pg_dyn.proofs.reading.scalars.read_words.Goals.{then-is_own+in_ok-push, else-is_own+in_ok-push_packed}
use Rattle.pg_dyn.proofs.reading.scalars.read_words.Goals as goal

pub body_word-requires : goal.body_word-requires
body_word-requires c =
    let f = field_shape c.args.field.now in
    let r = record_in c.args.run.now c.loop-record.record-index in
    let taken = holds_in (λ r. IsRecord r × (takes f r ≡ true)) c.args.run.now c.loop-record.record-index c.loop-record-test.true c.requires.run in
    subst (λ (w : WireType). HasShape w r.body) (sym c.wire_type_of.ensures)
    (own_shape f r c.scalar_of-scalar.result c.scalar_of-scalar.ensures taken.0 (sym c.is_own.ensures ∙ c.if-is_own.true))

pub push_packed-requires : goal.push_packed-requires
push_packed-requires c = packable_as c.scalar_of-scalar.result c.args.field.now.element c.scalar_of-scalar.ensures c.requires.packable

pub returns-in_err-push_packed-clause-err : goal.returns-in_err-push_packed-clause-err
returns-in_err-push_packed-clause-err c =
    let f = field_shape c.args.field.now in
    let r = record_in c.args.run.now c.loop-record.record-index in
    let (y, is, from) = err_from_is_err_and c.from_residual-in_err-push_packed.result c.from_residual-in_err-push_packed.ensures.1 in
    handed_on (StopsFor (AllRead f (map seen_record c.args.run.now))) c.from_residual-in_err-push_packed.result _ y is from
    (stops_for _ (AllRead f (map seen_record c.args.run.now))
    (λ all.
    ap (λ (s : Scalar). is_some (packed_leaves (scalar_form s) r.body)) c.scalar_of-scalar.ensures
    ∙ row_there f r (sym c.is_own.ensures ∙ c.if-is_own.false)
    (holds_in (λ r. is_some (leaves_in f r) ≡ true) c.args.run.now c.loop-record.record-index c.loop-record-test.true all))
    c.in_err-push_packed.field-0.0 c.in_err-push_packed.ensures.err)

pub loop-record-preserved : goal.loop-record-preserved
loop-record-preserved c =
    let f = field_shape c.args.field.now in
    let r = record_in c.args.run.now c.loop-record.record-index in
    let l = c.loop-record in
    let rs = map seen_record (take l.record-index c.args.run.now) in
    subst (λ rs. ItemsSoFar f rs (map (number_item (scalar_form (read_as c.args.field.now.element))) c.if-is_own.words.items)) (sym (one_more c.args.run.now l.record-index c.loop-record-test.true))
    (elim c.if-is_own.branch as (λ b. ItemsSoFar f (rs ++ r ∷ []) (map (number_item (scalar_form (read_as c.args.field.now.element))) c.if-is_own.words.items)) [
      | then-is_own+in_ok-push w ↦
          own_number f rs r l.words.items c.if-is_own.words.items w.wire_type_of.result w.body_word.result
          (w.wire_type_of.ensures ∙ ap (λ (s : Scalar). form_wire (scalar_form s)) c.scalar_of-scalar.ensures) c.requires.packable
          (sym c.is_own.ensures ∙ w.if-is_own.true) w.body_word.ensures.word w.body_word.ensures.bits (omega (arith, w.body_word.type_inv))
          (ap (λ x. x.items) w.words-is ∙ w.in_ok-push.ensures.items) l.invariant
      | else-is_own+in_ok-push_packed w ↦
          row_numbers f rs r l.words.items c.if-is_own.words.items (sym c.is_own.ensures ∙ w.if-is_own.false)
          (subst (λ (s : Scalar). RowReads s r.body l.words.items c.if-is_own.words.items) c.scalar_of-scalar.ensures
          (subst (λ (xs : List ℕ). RowReads c.scalar_of-scalar.result r.body l.words.items xs) (sym (ap (λ x. x.items) w.words-is)) w.in_ok-push_packed.ensures.ok)) l.invariant
    ])
