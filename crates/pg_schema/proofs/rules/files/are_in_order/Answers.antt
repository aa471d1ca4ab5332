use Rattle.std.proofs.Common.{◌+◌, ◌∷◌, drop, List, sym, ◌∙◌, ap, arith}
use Rattle.pg_schema.specs.declared.parts.options.FileOption.{FileOption}
use Rattle.pg_schema.specs.rules.Files.{option_numbers}
use Rattle.pg_schema.specs.rules.Pairs.{is_rising}
use Rattle.pg_schema.proofs.lemmas.rules.MessageLemmas.{rising_step, item_and_rest}
use Rattle.pg_schema.proofs.rules.files.are_in_order.Goals as goal

pub loop-option-preserved : goal.loop-option-preserved
loop-option-preserved c =
    let rest = drop (c.loop-option.option-index + 1) c.args.options.now in
    rising_step c.loop-option.below c.option-item.result.number (option_numbers rest) (omega arith)
    ∙ (ap (λ (os : List FileOption). is_rising (c.loop-option.below ∷ option_numbers os)) (sym (item_and_rest c.args.options.now c.loop-option.option-index c.option-item.result c.loop-option-test.true c.option-item.is))
    ∙ c.loop-option.invariant)
