-- What the descriptions of subcommands and arguments describe, in clap's contracts.
use Rattle.std.specs.Prelude.{List, map}
use Rattle.std.specs.Borrow.{Bor}
use Rattle.clap.specs.Words.{App, Rule, Text, new_app}
use Rattle.pg_call.specs.CommandLine as command_line
use Rattle.pg_call.specs.declared.commands.Description.{Description}
use Rattle.pg_call.specs.declared.commands.Description.TheVariants as descriptions
use Rattle.pg_call.specs.declared.commands.Subcommand.{Subcommand}

-- an argument, with the names of the views that this reference leads to
abbrev pub rule_for : Bor (List (Bor Text)) → Description → Rule
rule_for names (descriptions.Folder name help) = command_line.folder name.now
rule_for names (descriptions.Optional name value help) = command_line.optional name.now
rule_for names (descriptions.Each name value help) = command_line.each name.now
rule_for names (descriptions.Named name value help) = command_line.named name.now
rule_for names (descriptions.Positional name help) = command_line.positional name.now
rule_for names (descriptions.Positionals name help) = command_line.positionals name.now
rule_for names (descriptions.Flag name help) = command_line.flag name.now
rule_for names descriptions.View = command_line.view_option names

abbrev pub rules_for : Bor (List (Bor Text)) → List Description → List Rule
rules_for names = map (rule_for names)

-- a subcommand, likewise
abbrev pub app_for : Bor (List (Bor Text)) → Subcommand → App
app_for names command =
    command_line.with_rules (new_app command.name.now) (rules_for names command.arguments.now)

abbrev pub apps_for : Bor (List (Bor Text)) → List Subcommand → List App
apps_for names = map (app_for names)
