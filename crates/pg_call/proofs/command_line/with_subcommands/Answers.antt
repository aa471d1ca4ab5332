use Rattle.std.proofs.Common.{◌∙◌, List, ap, refl, sym}
use Rattle.std.proofs.lemmas.List.{at_drop_all}
use Rattle.clap.specs.Words.{App, app_of}
use Rattle.pg_call.specs.CommandLine.{with_apps}
use Rattle.pg_call.specs.inner.Commands.{apps_for}
use Rattle.pg_call.specs.declared.commands.Subcommand.{Subcommand}
use Rattle.pg_call.specs.inner.Apps.{HasApp}
use Rattle.pg_call.proofs.CommandLineLemmas.{one_app_on, with_sub}
use Rattle.pg_call.proofs.command_line.with_subcommands.Goals as goal

pub loop-subcommand-init : goal.loop-subcommand-init
loop-subcommand-init c =
    let top = c.in_ok-built.ensures in
    (top.local, ap (λ (app : App). with_apps app (apps_for c.args.views.0 c.args.subcommands.now)) top.shape)

pub loop-subcommand-preserved : goal.loop-subcommand-preserved
loop-subcommand-preserved c =
    let before = c.loop-subcommand.invariant in
    let adds = c.in_ok-built-2.ensures in
    let below = c.in_ok-command.ensures in
    let start : HasApp (app_of c.loop-subcommand.built) c.loop-subcommand.built = record { shape = refl; local = before.0 } in
    let now = with_sub c.in_ok-built-2.built start below refl (adds.shape below.local) adds.globals in
    (now.local, one_app_on c.args.views.0 c.args.subcommands.now c.loop-subcommand.subcommand-index _ _ _ c.loop-subcommand-test.true now.shape before.1)

pub returns : goal.returns
returns c =
    let built = c.loop-subcommand.built in
    let done = c.loop-subcommand.invariant in
    let none = at_drop_all (λ (left : List Subcommand). with_apps (app_of built) (apps_for c.args.views.0 left)) c.args.subcommands.now c.loop-subcommand.subcommand-index c.loop-subcommand-test.false in
    record { shape = sym none ∙ done.1; local = done.0 }
