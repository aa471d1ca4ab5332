-- Each element that is there is passed.
use Rattle.std.proofs.Common.{ℕ, List, ap, ap₂, sym, subst₂, ◌∙◌}
use Rattle.pg_wire.specs.declared.record.WireType.{WireType}
use Rattle.pg_dyn.specs.declared.error.DynError.TheVariants as errors
use Rattle.pg_dyn.specs.word.Coding.{element_at}
use Rattle.pg_dyn.proofs.lemmas.reading.PackedRows.{IsOne, error_after, to_end}
use Rattle.pg_dyn.proofs.lemmas.reading.faults.RowFaults.{row_begins, row_whole, row_breaks, row_further}
use Rattle.pg_dyn.proofs.reading.packed.check_packed.Goals as goal

pub loop-start-init : goal.loop-start-init
loop-start-init c = row_begins c.args.scalar c.args.body.now

pub loop-start-preserved : goal.loop-start-preserved
loop-start-preserved c =
    row_further c.args.scalar c.args.body.now c.loop-start.start c.loop-start.invariant c.in-Ok.len
    (subst₂ (λ (w : WireType) (xs : List ℕ). IsOne w xs c.in-Ok.len) c.wire_type_of-wire_type.ensures
    (to_end c.args.body.now c.loop-start.start) c.in-Ok.ensures.ok)

pub returns-in-Err-clause-err : goal.returns-in-Err-clause-err
returns-in-Err-clause-err c =
    let e = c.in-Err.ensures.err in (
      e.0,
      ap (λ x. errors.Wire x) (c.after.ensures ∙ error_after e.0 c.in-Err.error c.args.at e.2),
      row_breaks c.args.scalar c.args.body.now c.loop-start.start c.loop-start.invariant c.loop-start-test.true e.0
          (ap₂ (λ (w : WireType) (xs : List ℕ). element_at w xs) (sym c.wire_type_of-wire_type.ensures) (sym (to_end c.args.body.now c.loop-start.start))
          ∙ e.1),
    )

pub returns-clause-readable : goal.returns-clause-readable
returns-clause-readable c = row_whole c.args.scalar c.args.body.now c.loop-start.start c.loop-start.invariant c.requires c.loop-start-test.false
