-- the arguments that are left lead to the same command as all did at the start
use Rattle.std.proofs.Common.{◌≡◌, false, drop}
use Rattle.clap.specs.Words.{App, app_of}
use Rattle.clap.specs.declared.Command.TheViews.{out-Command}
use Rattle.pg_call.specs.CommandLine.{with_rules}
use Rattle.pg_call.specs.inner.Commands.{rules_for}
use Rattle.pg_call.specs.inner.Apps.{HasApp}
use Rattle.pg_call.proofs.command_line.with_arguments.Given as goal

abbrev pub invariant-loop-argument : goal.invariant-loop-argument
invariant-loop-argument l = (app : App) → HasApp app l.fn.command →
    ((out-Command l.built).has_globals ≡ false)
    × (with_rules (app_of l.built) (rules_for l.views.0 (drop l.argument-index l.arguments)) ≡ with_rules app (rules_for l.views.0 l.arguments))
