use Rattle.std.proofs.Common.{◌≡◌, ◌++◌, flat_map, map, take}
use Rattle.pg_check.specs.inner.CodeViews.{enumeration, message}
use Rattle.pg_check.specs.rules.Outline.{own_enums}
use Rattle.pg_check.proofs.rules.outline.push_inner_enums.Given as goal

abbrev pub invariant-loop-one : goal.invariant-loop-one
invariant-loop-one l = map enumeration l.found.items ≡ map enumeration l.fn.found.items ++ flat_map own_enums (map message (take l.one-index l.messages))
