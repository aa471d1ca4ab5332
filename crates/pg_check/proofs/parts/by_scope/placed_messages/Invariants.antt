use Rattle.std.proofs.Common.{◌≡◌, ◌+◌, ◌++◌, length, map, drop}
use Rattle.pg_check.specs.inner.Grouped.{placed}
use Rattle.pg_check.specs.parts.ByScope.{placed_from}
use Rattle.pg_check.specs.inner.CodeViews.{message}
use Rattle.pg_check.specs.rules.Outline.{message_scope}
use Rattle.pg_check.proofs.parts.by_scope.placed_messages.Given as goal

abbrev pub invariant-loop-index : goal.invariant-loop-index
invariant-loop-index l = map placed l.list.items ++ placed_from (length l.before + l.index) (map message_scope (map message (drop l.index l.found))) ≡ placed_from (length l.before) (map message_scope (map message l.found))
