use Rattle.std.proofs.Common.{ℕ, List, length}
use Rattle.std.specs.List.{AllByRecursion}
use Rattle.pg_cert.specs.declared.bounds.PairBound.{PairBound}
use Rattle.pg_cert.specs.inner.Reading.{IsRest, IsLeft}
use Rattle.pg_cert.specs.Text.{IsPairOf}
use Rattle.pg_cert.proofs.reading.read_lines.Given as goal

abbrev pub invariant-loop-words : goal.invariant-loop-words
invariant-loop-words l =
    AllByRecursion (λ (b : PairBound). IsPairOf l.old l.new b.pair) l.bounds.items
    × ((bounds : List PairBound) (later : List ℕ) → IsRest l.old l.new l.text bounds later
    → IsLeft l.old l.new bounds later l.bounds.items l.left)

abbrev pub decreases-loop-words : goal.decreases-loop-words
decreases-loop-words l = length l.left
