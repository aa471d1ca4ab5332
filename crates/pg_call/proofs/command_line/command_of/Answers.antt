use Rattle.std.proofs.Common.{refl}
use Rattle.clap.specs.Words.{new_app}
use Rattle.pg_call.specs.inner.Apps.{HasApp}
use Rattle.pg_call.proofs.CommandLineLemmas.{with_text}
use Rattle.pg_call.proofs.command_line.command_of.Goals as goal

pub returns : goal.returns
returns c =
    let bare : HasApp (new_app c.args.subcommand.now.name.now) c.new.result = record { shape = c.new.ensures.app; local = c.new.ensures.local } in
    let told = with_text c.about.result bare c.about.ensures refl refl in
    c.with_arguments.ensures _ (with_text c.after_help-command.result told c.after_help-command.ensures refl refl)
