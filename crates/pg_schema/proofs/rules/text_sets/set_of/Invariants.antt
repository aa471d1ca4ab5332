use Rattle.std.proofs.Common.{◌≡◌, true, take}
use Rattle.pg_schema.specs.rules.Pairs.{are_distinct}
use Rattle.pg_schema.specs.inner.LentTexts.{IsLentSetOf, lent}
use Rattle.pg_schema.proofs.rules.text_sets.set_of.Given as goal

abbrev pub invariant-loop-text : goal.invariant-loop-text
invariant-loop-text l = record {
  distinct : are_distinct (lent (take l.text-index l.texts)) ≡ true;
  held : IsLentSetOf (lent (take l.text-index l.texts)) l.set;
}
