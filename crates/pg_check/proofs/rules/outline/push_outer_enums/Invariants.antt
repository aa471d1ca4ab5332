use Rattle.std.proofs.Common.{◌≡◌, ◌++◌, flat_map, map, take}
use Rattle.pg_check.specs.rules.Outline.{enum_stated}
use Rattle.pg_check.specs.inner.CodeViews.{enumeration}
use Rattle.pg_check.proofs.rules.outline.push_outer_enums.Given as goal

abbrev pub invariant-loop-statement : goal.invariant-loop-statement
invariant-loop-statement l = map enumeration l.found.items ≡ map enumeration l.fn.found.items ++ flat_map (enum_stated l.scope) (take l.statement-index l.statements)
