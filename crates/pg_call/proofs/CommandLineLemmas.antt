-- How a command is built, step by step.
use Rattle.std.proofs.Common.{◌≡◌, ◌∙◌, ◌+◌, ◌<◌, Bool, false, List, length, get_or, drop, ap, ap₂, sym, ◌||◌}
use Rattle.std.proofs.lemmas.List.{at_drop_more}
use Rattle.std.specs.Prelude.{ℕ}
use Rattle.std.specs.Borrow.{Bor}
use Rattle.clap.specs.Words.{App, Rule, Shape, Text, app_of, shape_of, with_rule, with_subcommand}
use Rattle.clap.specs.Simple.{app_of_fields}
use Rattle.clap.specs.declared.Command.{Command}
use Rattle.clap.specs.declared.Command.TheOpen.{Command-F}
use Rattle.clap.specs.declared.Command.TheViews.{out-Command}
use Rattle.pg_call.specs.CommandLine.{with_apps, with_rules}
use Rattle.pg_call.specs.declared.commands.Description.{Description}
use Rattle.pg_call.specs.declared.commands.Subcommand.{Subcommand}
use Rattle.pg_call.specs.inner.Commands.{app_for, apps_for, rule_for, rules_for}
use Rattle.pg_call.specs.inner.Apps.{HasApp}

-- a setting that a parse does not read
pub with_text : {app : App} {old : Command} (new : Command) {fields : Command-F Command} → HasApp app old → out-Command new ≡ fields
    → app_of_fields fields ≡ app_of old → fields.has_globals ≡ (out-Command old).has_globals → HasApp app new
with_text new has set same globals = record {
  shape = ap app_of_fields set ∙ same ∙ has.shape;
  local = ap (λ (f : Command-F Command). f.has_globals) set ∙ globals ∙ has.local;
}

-- one more argument, by what `Command::arg` says of the shape and of global arguments
pub with_arg : {app : App} {rule : Rule} {old : Command} (new : Command) {given : Rule} {global : Bool} → HasApp app old → given ≡ rule → global ≡ false
    → app_of new ≡ with_rule (app_of old) given → (out-Command new).has_globals ≡ ((out-Command old).has_globals || global) → HasApp (with_rule app rule) new
with_arg new has rule local shape globals = record {
  shape = shape ∙ ap₂ with_rule has.shape rule;
  local = globals ∙ ap₂ ◌||◌ has.local local;
}

-- one more subcommand
pub with_sub : {app below : App} {old sub : Command} (new : Command) {shape : Shape} → HasApp app old → HasApp below sub → shape ≡ shape_of sub
    → app_of new ≡ with_subcommand (app_of old) shape → (out-Command new).has_globals ≡ ((out-Command old).has_globals || (out-Command sub).has_globals)
    → HasApp (with_subcommand app below.top) new
with_sub new has below same shape globals = record {
  shape = shape ∙ ap₂ with_subcommand has.shape (same ∙ ap (λ (a : App). a.top) below.shape);
  local = globals ∙ ap₂ ◌||◌ has.local below.local;
}

-- after one of the arguments that are left, the others lead to the same command
pub one_rule_on : (names : Bor (List (Bor Text))) (all : List Description) (i : ℕ) (d : Description) (before now : App) {app : App} → i < length all
    → now ≡ with_rule before (rule_for names (get_or all i d)) → with_rules before (rules_for names (drop i all)) ≡ app
    → with_rules now (rules_for names (drop (i + 1) all)) ≡ app
one_rule_on names all i d before now more is_now same =
    ap (λ (a : App). with_rules a (rules_for names (drop (i + 1) all))) is_now
    ∙ sym (at_drop_more (λ (left : List Description). with_rules before (rules_for names left)) all i d more) ∙ same

-- likewise of subcommands
pub one_app_on : (names : Bor (List (Bor Text))) (all : List Subcommand) (i : ℕ) (d : Subcommand) (before now : App) {app : App} → i < length all
    → now ≡ with_subcommand before (app_for names (get_or all i d)).top → with_apps before (apps_for names (drop i all)) ≡ app
    → with_apps now (apps_for names (drop (i + 1) all)) ≡ app
one_app_on names all i d before now more is_now same =
    ap (λ (a : App). with_apps a (apps_for names (drop (i + 1) all))) is_now
    ∙ sym (at_drop_more (λ (left : List Subcommand). with_apps before (apps_for names left)) all i d more) ∙ same
