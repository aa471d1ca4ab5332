use Rattle.std.proofs.Common.{◌∙◌, Option, ℕ, ap, sym}
use Rattle.std.specs.Ordering.{int_eq}
use Rattle.pg_schema.specs.declared.parts.enum_type.EnumValue.{EnumValue}
use Rattle.pg_notes.specs.inner.Tables.{found_or}
use Rattle.pg_notes.proofs.Firsts.{first_more}
use Rattle.pg_notes.proofs.tables.numbers_of.Goals as goal

pub loop-index-preserved : goal.loop-index-preserved
loop-index-preserved c =
    let value : EnumValue = c.index-values-index.result in
    λ q. c.in_ok-keep_first.ensures q ∙ (ap (λ (found : Option ℕ). found_or found (int_eq q value.number) c.loop-index.index) (c.loop-index.invariant q)
    ∙ sym (first_more (λ (v : EnumValue). int_eq q v.number) c.args.values.now c.loop-index.index value c.loop-index-test.true c.index-values-index.is))
