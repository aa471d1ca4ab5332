use Rattle.std.proofs.Common.{◌≡◌, map, take, drop}
use Rattle.pg_check.specs.inner.NameFaults.{at, first_twice, text_of, titled}
use Rattle.pg_check.specs.rules.Names.{is_same}
use Rattle.pg_check.specs.inner.NumberFaults.{first_again}
use Rattle.pg_check.proofs.lemmas.rules.TextSets.{IsLentSetOf}
use Rattle.pg_check.proofs.rules.names.first_twice.Given as goal

abbrev pub invariant-loop-one : goal.invariant-loop-one
invariant-loop-one l = record {
  held : IsLentSetOf (map text_of (take l.one-index (map titled l.texts))) l.seen;
  left : first_again is_same at (take l.one-index (map titled l.texts)) (drop l.one-index (map titled l.texts)) ≡ first_twice (map titled l.texts);
}
