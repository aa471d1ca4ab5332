use Rattle.std.proofs.Common.{◌≡◌, drop}
use Rattle.pg_check.specs.inner.Faults.{first_fault}
use Rattle.pg_check.specs.inner.FileFaults.{statement_fault}
use Rattle.pg_check.proofs.rules.file.services_fault.Given as goal

abbrev pub invariant-loop-statement : goal.invariant-loop-statement
invariant-loop-statement l = first_fault statement_fault (drop l.statement-index l.statements) ≡ first_fault statement_fault l.statements
