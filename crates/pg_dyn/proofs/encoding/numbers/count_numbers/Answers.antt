-- The records of the numbers are those of their words.
use Rattle.std.proofs.Common.{ℕ, List, Bool, length, ap, sym, subst, ◌∙◌}
use Rattle.pg_schema.specs.declared.parts.field.Element.TheVariants as elements
use Rattle.pg_dyn.specs.encoding.Lending.{word_item}
use Rattle.pg_dyn.specs.encoding.Written.{LeavesFit, capped, number_bytes, single_bytes}
use Rattle.pg_dyn.proofs.lemmas.encoding.NumberWords.{words_fit, words_single}
use Rattle.pg_dyn.proofs.encoding.numbers.count_numbers.Goals as goal

pub records_len-requires-clause-fit : goal.records_len-requires-clause-fit
records_len-requires-clause-fit c =
    subst (LeavesFit (word_item c.args.numbers.now.scalar) (elements.Scalar c.args.scalar)) (sym c.deref.ensures.value)
    (words_fit c.args.numbers.now (elements.Scalar c.args.scalar) c.requires.fit)

pub returns-clause-len : goal.returns-clause-len
returns-clause-len c =
    c.records_len.ensures
    ∙ ap (λ (ws : List ℕ). capped (length (single_bytes (word_item c.args.numbers.now.scalar) c.args.number (elements.Scalar c.args.scalar) ws))) c.deref.ensures.value
    ∙ ap (λ (bs : List ℕ). capped (length bs)) (words_single c.args.numbers.now (elements.Scalar c.args.scalar) c.args.number)
    ∙ ap (λ (b : Bool). capped (length (number_bytes b c.args.number (elements.Scalar c.args.scalar) c.args.numbers.now))) (sym c.if-packed.false)
