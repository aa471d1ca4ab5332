use Rattle.std.proofs.Common.{get_or, pos, sym, ◌∙◌}
use Rattle.std.specs.Ordering.{int_eq}
use Rattle.pg_schema.specs.declared.parts.field.Scalar.TheVariants.{Double}
use Rattle.pg_dyn.specs.message.Kept.{message_of}
use Rattle.pg_set.specs.stated.Codes.{scalars}
use Rattle.pg_set.specs.writing.Fields.{scalar_code}
use Rattle.pg_set.specs.stated.SetMessages.{number_at}
use Rattle.pg_set.proofs.lemmas.reading.ElementLaws.{find_step}
use Rattle.pg_set.proofs.lemmas.writing.FileLaws.{same_default}
use Rattle.pg_set.proofs.reading.codes.scalar_of.Goals as goal

pub loop-scalar-preserved : goal.loop-scalar-preserved
loop-scalar-preserved c =
    let i = c.loop-scalar.scalar-index in
    let x = get_or scalars i Double in
    find_step (λ s. int_eq (number_at 5 (message_of c.args.field.now)) (pos (scalar_code s))) scalars i x c.loop-scalar-test.true (same_default scalars i Double x c.loop-scalar-test.true)
    (sym c.has_code-is_of.ensures ∙ c.if-is_of.false) ∙ c.loop-scalar.invariant
