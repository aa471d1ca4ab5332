use Rattle.std.proofs.Common.{◌≡◌, true, take, not}
use Rattle.std.specs.List.{list_all}
use Rattle.std.specs.String.{string_bytes}
use Rattle.pg_schema.specs.inner.LentTexts.{has_lent}
use Rattle.pg_schema.proofs.rules.text_sets.holds_none.Given as goal

abbrev pub invariant-loop-text : goal.invariant-loop-text
invariant-loop-text l = list_all (λ text. not (has_lent l.set (string_bytes text))) (take l.text-index l.texts) ≡ true
