use Rattle.std.proofs.Common.{◌++◌, ◌∙◌, ap}
use Rattle.pg_syntax.proofs.Runs.{joined_run}
use Rattle.pg_syntax.proofs.tree.EmptyStatements.join.Goals as goal

pub returns : goal.returns
returns c =
    joined_run c.args.self.now.first c.args.self.now.more.items c.args.others.first c.args.others.more.items c.append.new.self.items
    (c.in_ok-append.ensures.items ∙ ap (λ xs. xs ++ c.args.others.more.items) c.in_ok-push.ensures.items)
