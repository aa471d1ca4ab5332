use Rattle.std.proofs.Common.{sym, ◌∙◌}
use Rattle.pg_set.specs.stated.Codes.{is_taken}
use Rattle.pg_set.proofs.lemmas.order.SetLaws.{all_lost}
use Rattle.pg_set.proofs.reading.codes.are_taken.Goals as goal

pub returns-then-not-taken : goal.returns-then-not-taken
returns-then-not-taken c =
    sym (all_lost is_taken c.args.fields.now c.loop-field.field-index c.field-item.result c.loop-field-test.true c.field-item.is (sym c.is_taken-taken.ensures ∙ c.if-not-taken.true))
