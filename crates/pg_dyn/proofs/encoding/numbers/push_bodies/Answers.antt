-- The bodies of the numbers are those of their words.
use Rattle.std.proofs.Common.{ℕ, List, ◌++◌, ap, ap₂, sym, subst, subst₂, ◌∙◌}
use Rattle.std.proofs.lemmas.Result.{on_ok_weaker}
use Rattle.pg_schema.specs.declared.parts.field.Element.TheVariants as elements
use Rattle.pg_schema.specs.declared.parts.field.Scalar.{Scalar}
use Rattle.pg_schema.specs.contracts.parts.field.Scalar.{the_type}
use denote.Enum.Bare.{same_true}
use Rattle.pg_dyn.specs.encoding.Lending.{word_item}
use Rattle.pg_dyn.specs.encoding.Written.{LeavesFit, packed_body}
use Rattle.pg_dyn.proofs.lemmas.encoding.NumberWords.{words_fit, words_packed}
use Rattle.pg_dyn.proofs.encoding.numbers.push_bodies.Goals as goal

pub push_own-requires : goal.push_own-requires
push_own-requires c =
    subst₂ (λ (s : Scalar) (ws : List ℕ). LeavesFit (word_item s) (elements.Scalar c.args.scalar) ws) (same_true the_type tt c.args.numbers.now.scalar c.args.scalar (sym c.if-eq.ensures)) (sym c.deref.ensures.value)
    (words_fit c.args.numbers.now (elements.Scalar c.args.scalar) c.requires)

pub push_words-requires : goal.push_words-requires
push_words-requires c =
    subst (LeavesFit (word_item c.args.numbers.now.scalar) (elements.Scalar c.args.scalar)) (sym c.deref-else-eq.ensures.value)
    (words_fit c.args.numbers.now (elements.Scalar c.args.scalar) c.requires)

pub returns-then-eq : goal.returns-then-eq
returns-then-eq c = record {
  ok = on_ok_weaker c.push_own.result
      (λ e. e
      ∙ ap₂ (λ (s : Scalar) (ws : List ℕ). c.args.out.now.items ++ packed_body (word_item s) (elements.Scalar c.args.scalar) ws) (sym (same_true the_type tt c.args.numbers.now.scalar c.args.scalar (sym c.if-eq.ensures))) c.deref.ensures.value
      ∙ ap (λ (bs : List ℕ). c.args.out.now.items ++ bs) (words_packed c.args.numbers.now (elements.Scalar c.args.scalar)))
      c.push_own.ensures.ok;
}

pub returns-else-eq : goal.returns-else-eq
returns-else-eq c = record {
  ok = on_ok_weaker c.push_words.result
      (λ e. e
      ∙ ap (λ (ws : List ℕ). c.args.out.now.items ++ packed_body (word_item c.args.numbers.now.scalar) (elements.Scalar c.args.scalar) ws) c.deref-else-eq.ensures.value
      ∙ ap (λ (bs : List ℕ). c.args.out.now.items ++ bs) (words_packed c.args.numbers.now (elements.Scalar c.args.scalar)))
      c.push_words.ensures.ok;
}
