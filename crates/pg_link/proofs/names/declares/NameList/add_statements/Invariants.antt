use Rattle.std.proofs.Common.{◌≡◌, ◌++◌, map, drop}
use Rattle.pg_link.specs.names.Declares.{Done, names_in}
use Rattle.pg_link.specs.names.Outline.{all_of, of_statement}
use Rattle.pg_link.specs.inner.Made.{declared_of}
use Rattle.pg_link.proofs.names.declares.NameList.add_statements.Given as goal

-- the names so far, and those of the parts that are left, are those of all
abbrev pub invariant-loop-statement : goal.invariant-loop-statement
invariant-loop-statement l = map declared_of l.self.names.items ++ names_in l.scope (all_of of_statement (drop l.statement-index l.statements) Done) ≡ map declared_of l.fn.self.names.items ++ names_in l.scope (all_of of_statement l.statements Done)
