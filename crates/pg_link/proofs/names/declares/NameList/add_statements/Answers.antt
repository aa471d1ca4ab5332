use Rattle.pg_link.specs.names.Outline.{of_statement}
use Rattle.pg_link.proofs.lemmas.names.DeclareLaws.{one_more, statement_rest}
use Rattle.pg_link.proofs.names.declares.NameList.add_statements.Goals as goal

pub loop-statement-preserved : goal.loop-statement-preserved
loop-statement-preserved c =
    one_more c.args.scope.now of_statement (statement_rest c.args.scope.now) c.args.statements.now c.loop-statement.statement-index c.statement-item.result _ _ _ c.loop-statement-test.true c.statement-item.is
    c.in_ok-add_statement.ensures c.loop-statement.invariant
