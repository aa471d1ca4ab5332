use Rattle.std.proofs.Common.{◌≡◌, ◌<◌, ℕ, false, get_or}
use Rattle.std.specs.List.{All}
use Rattle.pg_link.specs.inner.VisibleFiles.{is_numbered}
use Rattle.pg_link.proofs.names.visible_files.numbers_of.Given as goal

-- the numbers of the marks so far
abbrev pub invariant-loop-number : goal.invariant-loop-number
invariant-loop-number l = record {
  within : All (λ n. n < l.number) l.numbers.items;
  each : (k : ℕ) → k < l.number → is_numbered l.numbers.items k ≡ get_or l.marks k false;
}
