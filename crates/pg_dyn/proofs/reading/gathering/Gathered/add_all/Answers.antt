-- Each record is gathered after those before it.
use Rattle.std.proofs.Common.{◌∷◌, ap, ◌∙◌}
use Rattle.pg_schema.specs.Parts.{shape_of}
use Rattle.pg_wire.specs.Reads.{seen, seen_record}
use Rattle.pg_dyn.proofs.lemmas.reading.gathered.GatheringSteps.{begin, done, onward}
use Rattle.pg_dyn.proofs.lemmas.reading.records.RecordFronts.{next_is_record, no_records}
use Rattle.pg_dyn.proofs.reading.gathering.Gathered.add_all.Goals as goal

pub loop-found-init : goal.loop-found-init
loop-found-init c =
    begin (shape_of c.args.schema.now) c.args.type_id c.args.bytes.now c.args.self.now c.into_iter-found-iterator.result
    (c.into_iter-found-iterator.ensures.into_iter_gives ∙ c.new-found-items.ensures)

pub add-requires-clause-is_record : goal.add-requires-clause-is_record
add-requires-clause-is_record c =
    let l = c.loop-found in
    next_is_record c.args.bytes.now l.found-iterator l.invariant.records l.invariant.front (seen_record c.in-Ok.record) c.next.new.self
    (c.in-Some.ensures.steps ∙ ap (λ x. seen x ∷ c.next.new.self) c.in-Ok.is)

pub loop-found-preserved : goal.loop-found-preserved
loop-found-preserved c =
    let l = c.loop-found in
    onward (shape_of c.args.schema.now) c.args.type_id c.args.bytes.now c.args.self.now l.self l.found-iterator l.invariant
    (seen_record c.in-Ok.record) c.next.new.self
    (c.in-Some.ensures.steps ∙ ap (λ x. seen x ∷ c.next.new.self) c.in-Ok.is) c.add.new.self c.in_ok-add-in-Ok.ensures.ok

pub returns-in-Err-clause-err : goal.returns-in-Err-clause-err
returns-in-Err-clause-err c =
    let l = c.loop-found in
    λ h. no_records c.args.bytes.now l.found-iterator l.invariant.records l.invariant.front c.in-Err.field-0 c.next.new.self
    (c.in-Some.ensures.steps ∙ ap (λ x. seen x ∷ c.next.new.self) c.in-Err.is) h.0 h.1

pub returns-clause-ok : goal.returns-clause-ok
returns-clause-ok c =
    let l = c.loop-found in
    done (shape_of c.args.schema.now) c.args.type_id c.args.bytes.now c.args.self.now l.self l.found-iterator l.invariant c.in-None.ensures.steps.0
