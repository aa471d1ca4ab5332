-- The records of the numbers are those of their words.
use Rattle.std.proofs.Common.{ℕ, List, Bool, ◌++◌, ap, sym, subst, ◌∙◌}
use Rattle.pg_schema.specs.declared.parts.field.Element.TheVariants as elements
use Rattle.pg_dyn.specs.encoding.Lending.{word_item}
use Rattle.pg_dyn.specs.encoding.Written.{LeavesFit, number_bytes, number_lengths, single_bytes}
use Rattle.pg_dyn.proofs.lemmas.encoding.NumberWords.{words_fit, words_single}
use Rattle.pg_dyn.proofs.encoding.numbers.push_numbers.Goals as goal

pub push_records-requires : goal.push_records-requires
push_records-requires c =
    subst (LeavesFit (word_item c.args.numbers.now.scalar) (elements.Scalar c.args.scalar)) (sym c.deref.ensures.value)
    (words_fit c.args.numbers.now (elements.Scalar c.args.scalar) c.requires)

pub returns-clause-ok : goal.returns-clause-ok
returns-clause-ok c = λ rest whole. (
  c.in_ok-push_records.ensures.ok
      ∙ ap (λ (ws : List ℕ). c.args.out.now.items ++ single_bytes (word_item c.args.numbers.now.scalar) c.args.number (elements.Scalar c.args.scalar) ws) c.deref.ensures.value
      ∙ ap (λ (bs : List ℕ). c.args.out.now.items ++ bs) (words_single c.args.numbers.now (elements.Scalar c.args.scalar) c.args.number)
      ∙ ap (λ (b : Bool). c.args.out.now.items ++ number_bytes b c.args.number (elements.Scalar c.args.scalar) c.args.numbers.now) (sym c.if-packed.false),
  whole ∙ ap (λ (b : Bool). number_lengths b (elements.Scalar c.args.scalar) c.args.numbers.now ++ rest) c.if-packed.false,
)
