use Rattle.std.proofs.Common.{ap, sym, ◌∙◌}
use Rattle.std.specs.Option.{option_copied}
use Rattle.pg_pairs.specs.inner.Comparing.{keyed_if, keyed_shown}
use Rattle.pg_pairs.proofs.lemmas.witness.SameSteps.{all_shown}
use Rattle.pg_pairs.proofs.witness.same_contents.shown.Goals as goal

pub returns-then-not-hides_zero-clause-items : goal.returns-then-not-hides_zero-clause-items
returns-then-not-hides_zero-clause-items c =
    sym (all_shown (keyed_if (option_copied c.args.content))) ∙ ap (λ hidden. keyed_shown hidden (option_copied c.args.content)) (sym c.if-not-hides_zero.true ∙ c.hides_zero.ensures)
