-- The bytes' records are gathered and read.
use Rattle.std.proofs.Common.{◌≡◌, true, suc, [], is_some}
use Rattle.std.proofs.lemmas.Result.{IfErr-weaker, IfOk-weaker, err_from_is_err_and, on_ok_weaker}
use Rattle.pg_schema.specs.Parts.{shape_of}
use Rattle.pg_schema.specs.Shape.{fields}
use Rattle.pg_dyn.specs.reading.ByFields.{StopsFor}
use Rattle.pg_dyn.specs.reading.Decoding.{dec}
use Rattle.pg_dyn.specs.message.Kept.{message_of}
use Rattle.pg_dyn.specs.reading.Steps.{IsShallowIn}
use Rattle.pg_dyn.proofs.lemmas.reading.by_fields.BodiesByFields.{bytes_good, bytes_read, records_good}
use Rattle.pg_dyn.proofs.lemmas.reading.records.Joining.{readable_from_dec}
use Rattle.pg_dyn.proofs.lemmas.reading.faults.StopSteps.{handed_on, stops_for}
use Rattle.pg_dyn.proofs.reading.nested.read_message.Goals as goal

pub returns-in_err-add_all-clause-err : goal.returns-in_err-add_all-clause-err
returns-in_err-add_all-clause-err c =
    let shape = shape_of c.args.schema.now in
    let (y, is, from) = err_from_is_err_and c.from_residual.result c.from_residual.ensures.1 in
    handed_on (StopsFor ((is_some (dec shape c.args.type_id c.args.bytes.now) ≡ true)
    × IsShallowIn shape (suc c.args.levels) (fields shape c.args.type_id) c.args.bytes.now)) c.from_residual.result _ y is from
    (stops_for _ _
    (λ h. let (rs, spelled, readable) = readable_from_dec shape c.args.type_id c.args.bytes.now h.0 in (rs, spelled)) _ c.in_err-add_all.ensures.err)

pub read_gathered-requires-clause-gathered : goal.read_gathered-requires-clause-gathered
read_gathered-requires-clause-gathered c =
    let all = c.in_ok-add_all.ensures.ok in
    (all.0, all.2 [] (c.new-gathered.ensures (shape_of c.args.schema.now) c.args.type_id))

pub returns-clause-ok : goal.returns-clause-ok
returns-clause-ok c =
    let shape = shape_of c.args.schema.now in
    let all = c.in_ok-add_all.ensures.ok in
    let are = all.2 [] (c.new-gathered.ensures shape c.args.type_id) in
    IfOk-weaker c.read_gathered.result _ _ (λ m read. bytes_read shape c.args.levels c.args.type_id c.args.bytes.now all.0 all.1 (message_of m)
    (read all.0 are)) c.read_gathered.ensures.ok

pub returns-clause-shallow : goal.returns-clause-shallow
returns-clause-shallow c =
    let shape = shape_of c.args.schema.now in
    let all = c.in_ok-add_all.ensures.ok in
    let are = all.2 [] (c.new-gathered.ensures shape c.args.type_id) in
    on_ok_weaker c.read_gathered.result (λ good. (bytes_good shape c.args.levels c.args.type_id c.args.bytes.now all.0 all.1
    (good all.0 are)).1) c.read_gathered.ensures.good

pub returns-clause-err : goal.returns-clause-err
returns-clause-err c =
    let shape = shape_of c.args.schema.now in
    let all = c.in_ok-add_all.ensures.ok in
    let are = all.2 [] (c.new-gathered.ensures shape c.args.type_id) in
    IfErr-weaker c.read_gathered.result _ _ (λ e stop. stops_for _ _ (records_good shape c.args.levels c.args.type_id c.args.bytes.now all.0 all.1) e
    (stop all.0 are)) c.read_gathered.ensures.err
