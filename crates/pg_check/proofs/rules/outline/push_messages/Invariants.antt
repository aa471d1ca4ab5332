use Rattle.std.proofs.Common.{◌≡◌, ◌++◌, map, take}
use Rattle.pg_check.specs.rules.Outline.{all_messages}
use Rattle.pg_check.specs.inner.CodeViews.{message}
use Rattle.pg_check.proofs.rules.outline.push_messages.Given as goal

abbrev pub invariant-loop-statement : goal.invariant-loop-statement
invariant-loop-statement l = map message l.found.items ≡ map message l.fn.found.items ++ all_messages l.scope (take l.statement-index l.statements)
