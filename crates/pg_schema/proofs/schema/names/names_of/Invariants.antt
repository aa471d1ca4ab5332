use Rattle.pg_schema.proofs.lemmas.schema.NameTables.{IsTableOfFirst}
use Rattle.pg_schema.proofs.schema.names.names_of.Given as goal

abbrev pub invariant-loop-index : goal.invariant-loop-index
invariant-loop-index l = IsTableOfFirst l.index l.types l.names
