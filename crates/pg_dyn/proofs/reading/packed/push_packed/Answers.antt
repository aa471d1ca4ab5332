-- The numbers of a packed list are those of its words.
use Rattle.std.proofs.Common.{◌≡◌, ℕ, List, true, is_some, sym, subst, subst₂}
use Rattle.std.proofs.lemmas.Result.{IfErr-weaker, on_ok_weaker}
use Rattle.pg_wire.specs.declared.record.WireType.{WireType}
use Rattle.pg_dyn.specs.word.Coding.{scalar_form}
use Rattle.pg_dyn.specs.reading.ByFields.{StopsFor}
use Rattle.pg_dyn.specs.reading.Content.{packed_leaves}
use Rattle.pg_dyn.specs.reading.Steps.{IsRow, WordsRead}
use Rattle.pg_dyn.proofs.lemmas.reading.PackedRows.{row_numbers, row_there}
use Rattle.pg_dyn.proofs.lemmas.reading.faults.StopSteps.{stops_for}
use Rattle.pg_dyn.proofs.reading.packed.push_packed.Goals as goal

pub returns-clause-ok : goal.returns-clause-ok
returns-clause-ok c =
    on_ok_weaker c.push_row.result
    (λ read. row_numbers c.args.scalar c.requires c.args.body.now c.args.words.now.items c.push_row.new.words.items
    (subst₂ (λ (w : WireType) (xs : List ℕ). WordsRead w c.args.body.now xs c.push_row.new.words.items) c.wire_type_of-wire_type.ensures c.in_ok-reserve.ensures.items read))
    c.push_row.ensures.ok

pub returns-clause-err : goal.returns-clause-err
returns-clause-err c =
    IfErr-weaker c.push_row.result (StopsFor (IsRow c.wire_type_of-wire_type.result c.args.body.now)) (StopsFor (is_some (packed_leaves (scalar_form c.args.scalar) c.args.body.now) ≡ true))
    (λ e. stops_for (IsRow c.wire_type_of-wire_type.result c.args.body.now) (is_some (packed_leaves (scalar_form c.args.scalar) c.args.body.now) ≡ true)
    (λ some. subst (λ (w : WireType). IsRow w c.args.body.now) (sym c.wire_type_of-wire_type.ensures) (row_there c.args.scalar c.args.body.now some)) e)
    c.push_row.ensures.err
