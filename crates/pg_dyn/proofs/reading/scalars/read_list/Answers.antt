use Rattle.std.proofs.Common.{map, subst}
use Rattle.std.proofs.lemmas.Result.{err_from_is_err_and}
use Rattle.pg_schema.specs.declared.parts.field.Scalar.{Scalar}
use Rattle.pg_schema.specs.Parts.{field_shape}
use Rattle.pg_wire.specs.Reads.{seen_record}
use Rattle.pg_dyn.specs.word.Coding.{scalar_form}
use Rattle.pg_dyn.specs.word.NumberLists.{number_item}
use Rattle.pg_dyn.specs.reading.ByFields.{AreGood, StopsFor}
use Rattle.pg_dyn.specs.reading.Held.{IsHeldList, read_as}
use Rattle.pg_dyn.proofs.lemmas.reading.FieldKinds.{lists_no_map}
use Rattle.pg_dyn.proofs.lemmas.reading.runs.ScalarRuns.{all_read, items_good, list_fits, list_holds}
use Rattle.pg_dyn.proofs.lemmas.reading.faults.StopSteps.{handed_on, stops_for}
use Rattle.pg_dyn.proofs.reading.scalars.read_list.Goals as goal

-- A list of numbers.

pub returns-in_err-words-clause-err : goal.returns-in_err-words-clause-err
returns-in_err-words-clause-err c =
    let f = field_shape c.args.field.now in
    let rs = map seen_record c.args.run.now in
    let (y, is, from) = err_from_is_err_and c.from_residual.result c.from_residual.ensures.1 in
    λ shape levels.
    handed_on (StopsFor (AreGood shape levels f rs)) c.from_residual.result _ y is from
    (stops_for _ (AreGood shape levels f rs)
    (all_read f
    (lists_no_map f.presence c.requires.repeated) c.requires.no_message shape levels rs) c.in_err-words.field-0.0 c.in_err-words.ensures.err)

pub returns-then-is_packable-clause-ok : goal.returns-then-is_packable-clause-ok
returns-then-is_packable-clause-ok c =
    λ shape. list_holds shape (field_shape c.args.field.now) c.requires.repeated c.requires.no_message
    (map seen_record c.args.run.now) (map (number_item (scalar_form (read_as c.args.field.now.element))) c.in_ok-words.words.items) c.numbers_left.result c.in_ok-words.ensures.ok
    (subst (λ (s : Scalar). IsHeldList (map (number_item (scalar_form s)) c.in_ok-words.words.items) c.numbers_left.result) c.scalar_of.ensures c.numbers_left.ensures)

pub returns-then-is_packable-clause-fits : goal.returns-then-is_packable-clause-fits
returns-then-is_packable-clause-fits c =
    λ shape. list_fits shape (field_shape c.args.field.now) c.requires.repeated c.requires.no_message
    (map seen_record c.args.run.now) (map (number_item (scalar_form (read_as c.args.field.now.element))) c.in_ok-words.words.items) c.numbers_left.result c.in_ok-words.ensures.ok
    (subst (λ (s : Scalar). IsHeldList (map (number_item (scalar_form s)) c.in_ok-words.words.items) c.numbers_left.result) c.scalar_of.ensures c.numbers_left.ensures)

pub returns-then-is_packable-clause-good : goal.returns-then-is_packable-clause-good
returns-then-is_packable-clause-good c =
    let f = field_shape c.args.field.now in
    λ shape levels. items_good f (lists_no_map f.presence c.requires.repeated) c.requires.no_message shape levels
    (map seen_record c.args.run.now) (map (number_item (scalar_form (read_as c.args.field.now.element))) c.in_ok-words.words.items) c.in_ok-words.ensures.ok

-- A list of strings or bytes.

pub returns-in_err-read_items-clause-err : goal.returns-in_err-read_items-clause-err
returns-in_err-read_items-clause-err c =
    let f = field_shape c.args.field.now in
    let rs = map seen_record c.args.run.now in
    let (y, is, from) = err_from_is_err_and c.from_residual-in_err-read_items.result c.from_residual-in_err-read_items.ensures.1 in
    λ shape levels.
    handed_on (StopsFor (AreGood shape levels f rs)) c.from_residual-in_err-read_items.result _ y is from
    (stops_for _ (AreGood shape levels f rs)
    (all_read f
    (lists_no_map f.presence c.requires.repeated) c.requires.no_message shape levels rs) c.in_err-read_items.field-0.0 c.in_err-read_items.ensures.err)

pub returns-clause-ok : goal.returns-clause-ok
returns-clause-ok c =
    λ shape. list_holds shape (field_shape c.args.field.now) c.requires.repeated c.requires.no_message
    (map seen_record c.args.run.now) c.in_ok-read_items.field-0.items c.list_left.result c.in_ok-read_items.ensures.ok c.list_left.ensures

pub returns-clause-fits : goal.returns-clause-fits
returns-clause-fits c =
    λ shape. list_fits shape (field_shape c.args.field.now) c.requires.repeated c.requires.no_message
    (map seen_record c.args.run.now) c.in_ok-read_items.field-0.items c.list_left.result c.in_ok-read_items.ensures.ok c.list_left.ensures

pub returns-clause-good : goal.returns-clause-good
returns-clause-good c =
    let f = field_shape c.args.field.now in
    λ shape levels. items_good f (lists_no_map f.presence c.requires.repeated) c.requires.no_message shape levels
    (map seen_record c.args.run.now) c.in_ok-read_items.field-0.items c.in_ok-read_items.ensures.ok
