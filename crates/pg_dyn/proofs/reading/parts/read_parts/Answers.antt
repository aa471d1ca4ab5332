use Rattle.std.proofs.Common.{◌≡◌, List, ◌∷◌, Ok, ap, subst, ◌∙◌}
use Rattle.std.proofs.lemmas.Result.{err_from_is_err_and}
use Rattle.pg_wire.specs.Reads.{seen, seen_record}
use Rattle.pg_wire.specs.Records.{WireRecord, records_of}
use Rattle.pg_dyn.specs.reading.ByFields.{StopsFor}
use Rattle.pg_dyn.specs.reading.EntryParts.{ScalarsGood}
use Rattle.pg_dyn.proofs.lemmas.reading.by_fields.EntryByParts.{good_one}
use Rattle.pg_dyn.proofs.lemmas.reading.records.RecordFronts.{all_read, next_is_record, next_of_all, no_records, one_read}
use Rattle.pg_dyn.proofs.lemmas.reading.faults.StopSteps.{handed_on, stops_for}
use Rattle.pg_dyn.proofs.reading.parts.read_parts.Goals as goal

pub add-requires : goal.add-requires
add-requires c =
    let l = c.loop-found in
    let next = c.in-Some.ensures.steps ∙ ap (λ x. seen x ∷ c.next.new.self) c.in-Ok.is in
    next_is_record c.args.bytes.now l.found-iterator l.invariant.records l.invariant.front (seen_record c.in-Ok.record) c.next.new.self next

pub loop-found-preserved : goal.loop-found-preserved
loop-found-preserved c =
    let l = c.loop-found in
    let next = c.in-Some.ensures.steps ∙ ap (λ x. seen x ∷ c.next.new.self) c.in-Ok.is in
    record {
      records = _;
      front = one_read c.args.bytes.now l.found-iterator l.invariant.records l.invariant.front (seen_record c.in-Ok.record) c.next.new.self next;
      read = c.in_ok-add-in-Ok.ensures.ok l.invariant.records l.invariant.read;
    }

pub returns-in_err-add-in-Ok-clause-err : goal.returns-in_err-add-in-Ok-clause-err
returns-in_err-add-in-Ok-clause-err c =
    let l = c.loop-found in
    let r = seen_record c.in-Ok.record in
    let next = c.in-Some.ensures.steps ∙ ap (λ x. seen x ∷ c.next.new.self) c.in-Ok.is in
    let (y, is, from) = err_from_is_err_and c.from_residual.result c.from_residual.ensures.1 in
    let All : Type 0 = (rs : List WireRecord) × (records_of c.args.bytes.now ≡ Ok rs) × ScalarsGood c.args.key c.args.element rs in
    handed_on (StopsFor All) c.from_residual.result _ y is from
    (stops_for _ All
    (λ all.
    let (others, are) = next_of_all c.args.bytes.now l.found-iterator l.invariant.records l.invariant.front r c.next.new.self next all.0 all.1 in
    good_one c.args.key c.args.element l.invariant.records r others
    (subst (ScalarsGood c.args.key c.args.element) are all.2)) c.in_err-add-in-Ok.field-0.0 c.in_err-add-in-Ok.ensures.err)

pub returns-in-Err-clause-err : goal.returns-in-Err-clause-err
returns-in-Err-clause-err c =
    let l = c.loop-found in
    let next = c.in-Some.ensures.steps ∙ ap (λ x. seen x ∷ c.next.new.self) c.in-Err.is in
    λ all. no_records c.args.bytes.now l.found-iterator l.invariant.records l.invariant.front _ c.next.new.self next all.0 all.1

pub returns-clause-ok : goal.returns-clause-ok
returns-clause-ok c =
    let l = c.loop-found in
    (l.invariant.records, all_read c.args.bytes.now l.found-iterator l.invariant.records l.invariant.front c.in-None.ensures.steps.0, l.invariant.read)
