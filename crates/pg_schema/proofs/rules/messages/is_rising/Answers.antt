use Rattle.std.proofs.Common.{◌+◌, ◌∷◌, drop, List, sym, ◌∙◌, ap, arith}
use Rattle.pg_schema.specs.declared.parts.field.Field.{Field}
use Rattle.pg_schema.specs.rules.Messages.{numbers}
use Rattle.pg_schema.specs.rules.Pairs.{is_rising}
use Rattle.pg_schema.proofs.lemmas.rules.MessageLemmas.{rising_step, item_and_rest}
use Rattle.pg_schema.proofs.rules.messages.is_rising.Goals as goal

pub loop-field-preserved : goal.loop-field-preserved
loop-field-preserved c =
    let rest = drop (c.loop-field.field-index + 1) c.args.fields.now in
    rising_step c.loop-field.below c.field-item.result.number (numbers rest) (omega arith)
    ∙ (ap (λ (fs : List Field). is_rising (c.loop-field.below ∷ numbers fs)) (sym (item_and_rest c.args.fields.now c.loop-field.field-index c.field-item.result c.loop-field-test.true c.field-item.is))
    ∙ c.loop-field.invariant)
