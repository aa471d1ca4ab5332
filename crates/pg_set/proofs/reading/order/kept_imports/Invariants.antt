use Rattle.std.proofs.Common.{◌≡◌, filter, not, take, ◌&&◌}
use Rattle.pg_set.specs.inner.Lent.{lent}
use Rattle.pg_set.specs.stated.FileMessages.{is_descriptor}
use Rattle.pg_set.proofs.reading.order.kept_imports.Given as goal

abbrev pub invariant-loop-path : goal.invariant-loop-path
invariant-loop-path l = lent l.kept.items ≡ filter (λ path. not (l.skips && is_descriptor path)) (lent (take l.path-index l.path-items))
