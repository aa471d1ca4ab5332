use Rattle.std.proofs.Common.{length, ap, sym, ◌∙◌, arith}
use Rattle.std.proofs.lemmas.List.{take_all}
use Rattle.pg_schema.specs.Parts.{shape_of}
use Rattle.pg_schema.specs.Shape.{fields}
use Rattle.pg_dyn.specs.setting.ContentFaults.{members}
use Rattle.pg_dyn.proofs.lemmas.fitting.OneofWalks.{above, none_more}
use Rattle.pg_dyn.proofs.oneofs.oneofs_end.Goals as goal

pub loop-number-preserved : goal.loop-number-preserved
loop-number-preserved c = (
  c.end_with-end.ensures.bound,
  λ o from.
      let l = c.loop-number in
      none_more (fields (shape_of c.args.schema.now) c.args.type_id) o c.args.contents.now l.number-index c.loop-number-item.result c.loop-number-test.true c.loop-number-item.is
      (above (fields (shape_of c.args.schema.now) c.args.type_id) c.loop-number-item.result.0 c.oneof_of.result c.oneof_of.ensures c.end_with-end.result o c.end_with-end.ensures.above from)
      (l.invariant.1 o (omega (arith, c.end_with-end.ensures.grows, from))),
)

pub returns-clause-none : goal.returns-clause-none
returns-clause-none c = λ o from.
    ap (λ cs. length (members (fields (shape_of c.args.schema.now) c.args.type_id) o cs)) (sym (take_all c.loop-number.number-index c.args.contents.now c.loop-number-test.false)) ∙ c.loop-number.invariant.1 o from
