use Rattle.std.proofs.Common.{map, take}
use Rattle.pg_check.specs.inner.Grouped.{in_scope, grouped_tree}
use Rattle.pg_check.specs.parts.MadeParts.{EachIs, IsTypeOf}
use Rattle.pg_check.specs.inner.CodeViews.{message}
use Rattle.pg_check.proofs.parts.made_parts.made_types.Given as goal
use Rattle.pg_check.specs.inner.Sources.{target_in}

abbrev pub invariant-loop-one : goal.invariant-loop-one
invariant-loop-one l = EachIs IsTypeOf (map (grouped_tree (target_in l.targets) (in_scope l.types) (in_scope l.enums)) (map message (take l.one-index l.found))) l.made.items
