use Rattle.std.proofs.Common.{◌≡◌, ◌+◌, ◌++◌, length, map, drop}
use Rattle.pg_check.specs.inner.Grouped.{placed}
use Rattle.pg_check.specs.parts.ByScope.{placed_from}
use Rattle.pg_check.specs.inner.CodeViews.{enumeration}
use Rattle.pg_check.specs.rules.Outline.{enum_scope}
use Rattle.pg_check.proofs.parts.by_scope.placed_enums.Given as goal

abbrev pub invariant-loop-index : goal.invariant-loop-index
invariant-loop-index l = map placed l.list.items ++ placed_from (length l.before + l.index) (map enum_scope (map enumeration (drop l.index l.found))) ≡ placed_from (length l.before) (map enum_scope (map enumeration l.found))
