use Rattle.pg_schema.specs.inner.LentTexts.{lent}
use Rattle.pg_schema.proofs.lemmas.rules.TextSetLemmas.{named_once}
use Rattle.pg_schema.proofs.rules.text_sets.are_named_once.Goals as goal

pub returns-in-Some : goal.returns-in-Some
returns-in-Some c =
    named_once (lent c.args.names.now) c.args.reserved.now c.in_ok-set.field-0 c.in-Some.set c.holds_none.result c.in-Some.is
    c.in_ok-set.ensures.distinct c.in_ok-set.ensures.held c.holds_none.ensures
