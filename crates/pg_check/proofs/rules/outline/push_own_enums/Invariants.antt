use Rattle.std.proofs.Common.{◌≡◌, ◌++◌, flat_map, map, take}
use Rattle.pg_check.specs.rules.Outline.{enum_in}
use Rattle.pg_check.specs.inner.CodeViews.{enumeration}
use Rattle.pg_check.proofs.rules.outline.push_own_enums.Given as goal

abbrev pub invariant-loop-part : goal.invariant-loop-part
invariant-loop-part l = map enumeration l.found.items ≡ map enumeration l.fn.found.items ++ flat_map (enum_in l.scope) (take l.part-index l.body)
