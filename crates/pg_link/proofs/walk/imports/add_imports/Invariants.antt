use Rattle.std.proofs.Common.{◌≡◌, ◌++◌, map, flat_map, drop}
use Rattle.pg_link.specs.names.Outline.{imports_in}
use Rattle.pg_link.specs.inner.Made.{line_of}
use Rattle.pg_link.proofs.walk.imports.add_imports.Given as goal

-- the lines so far, and the imports that are left, are those of all
abbrev pub invariant-loop-statement : goal.invariant-loop-statement
invariant-loop-statement l = map line_of l.lines.items ++ flat_map imports_in (drop l.statement-index l.statements) ≡ map line_of l.fn.lines.items ++ flat_map imports_in l.statements
