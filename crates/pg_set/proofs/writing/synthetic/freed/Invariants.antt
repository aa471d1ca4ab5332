use Rattle.std.proofs.Common.{◌≡◌, ℕ, ◌-◌, List, true}
use Rattle.std.specs.String.{string_bytes}
use Rattle.pg_set.specs.inner.writing.MadeNames.{HasMade, begins_made}
use Rattle.pg_set.specs.writing.Synthetic.{freed}
use Rattle.pg_set.proofs.writing.synthetic.freed.Given as goal

abbrev pub invariant-loop : goal.invariant-loop
invariant-loop l = record {
  begins : begins_made (string_bytes l.made) ≡ true;
  same : (names : List (List ℕ)) → HasMade names l.taken → freed (l.tries - l.counter) names (string_bytes l.made) ≡ freed l.tries names (string_bytes l.fn.name);
}
