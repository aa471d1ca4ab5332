use Rattle.std.proofs.Common.{◌≡◌, ◌++◌, flat_map, map, take}
use Rattle.pg_check.specs.inner.CodeViews.{message}
use Rattle.pg_check.specs.rules.Outline.{messages_in}
use Rattle.pg_check.proofs.rules.outline.+messages.Given as goal

abbrev pub invariant-push_parts-loop-part : goal.invariant-push_parts-loop-part
invariant-push_parts-loop-part l = map message l.found.items ≡ map message l.fn.found.items ++ flat_map (messages_in l.scope) (take l.part-index l.body)
