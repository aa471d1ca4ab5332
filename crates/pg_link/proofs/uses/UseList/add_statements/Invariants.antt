use Rattle.std.proofs.Common.{◌≡◌, ◌++◌, map, flat_map, drop}
use Rattle.pg_link.specs.names.Names.{texts}
use Rattle.pg_link.specs.inner.Made.{use_of}
use Rattle.pg_link.specs.uses.Uses.{statement_uses}
use Rattle.pg_link.proofs.uses.UseList.add_statements.Given as goal

-- the uses so far, and those of the parts that are left, are those of all
abbrev pub invariant-loop-statement : goal.invariant-loop-statement
invariant-loop-statement l = map use_of l.self.uses.items ++ flat_map (statement_uses (texts l.scope.value.items)) (drop l.statement-index l.statements) ≡ map use_of l.fn.self.uses.items ++ flat_map (statement_uses (texts l.scope.value.items)) l.statements
