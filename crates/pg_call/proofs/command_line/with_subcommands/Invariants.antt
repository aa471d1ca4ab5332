-- the subcommands that are left lead to the same command as all of them
use Rattle.std.proofs.Common.{◌≡◌, false, drop}
use Rattle.clap.specs.Words.{app_of}
use Rattle.clap.specs.declared.Command.TheViews.{out-Command}
use Rattle.pg_call.specs.CommandLine.{top_app, with_apps}
use Rattle.pg_call.specs.inner.Commands.{apps_for}
use Rattle.pg_call.proofs.command_line.with_subcommands.Given as goal

abbrev pub invariant-loop-subcommand : goal.invariant-loop-subcommand
invariant-loop-subcommand l =
    ((out-Command l.built).has_globals ≡ false)
    × (with_apps (app_of l.built) (apps_for l.views.0 (drop l.subcommand-index l.subcommands)) ≡ with_apps top_app (apps_for l.views.0 l.subcommands))
