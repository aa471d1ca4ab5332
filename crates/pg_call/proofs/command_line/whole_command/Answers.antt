use Rattle.std.proofs.Common.{List, subst}
use Rattle.std.specs.Prelude.{IfOk}
use Rattle.pg_call.specs.CommandLine.{top_app, with_apps}
use Rattle.pg_call.specs.inner.Commands.{apps_for}
use Rattle.pg_call.specs.declared.commands.Subcommand.{Subcommand}
use Rattle.pg_call.specs.inner.Apps.{HasApp}
use Rattle.pg_call.proofs.command_line.whole_command.Goals as goal

pub returns : goal.returns
returns c =
    subst (λ (all : List Subcommand). IfOk c.with_subcommands.result (HasApp (with_apps top_app (apps_for c.args.views all))))
    c.as_slice.ensures c.with_subcommands.ensures
