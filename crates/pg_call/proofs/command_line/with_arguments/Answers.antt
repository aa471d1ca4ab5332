use Rattle.std.proofs.Common.{◌∙◌, List, refl, sym}
use Rattle.std.proofs.lemmas.List.{at_drop_all}
use Rattle.clap.specs.Words.{app_of}
use Rattle.pg_call.specs.CommandLine.{with_rules}
use Rattle.pg_call.specs.inner.Commands.{rules_for}
use Rattle.pg_call.specs.declared.commands.Description.{Description}
use Rattle.pg_call.specs.inner.Apps.{HasApp}
use Rattle.pg_call.proofs.CommandLineLemmas.{one_rule_on, with_arg}
use Rattle.pg_call.proofs.command_line.with_arguments.Goals as goal

pub loop-argument-preserved : goal.loop-argument-preserved
loop-argument-preserved c app has =
    let before = c.loop-argument.invariant app has in
    let adds = c.in_ok-built.ensures in
    let local = c.argument_of.ensures.local in
    let start : HasApp (app_of c.loop-argument.built) c.loop-argument.built = record { shape = refl; local = before.0 } in
    let now = with_arg c.in_ok-built.built start c.argument_of.ensures.rule local (adds.shape local) adds.globals in
    (now.local, one_rule_on c.args.views.0 c.args.arguments.now c.loop-argument.argument-index _ _ _ c.loop-argument-test.true now.shape before.1)

pub returns : goal.returns
returns c app has =
    let built = c.loop-argument.built in
    let done = c.loop-argument.invariant app has in
    let none = at_drop_all (λ (left : List Description). with_rules (app_of built) (rules_for c.args.views.0 left)) c.args.arguments.now c.loop-argument.argument-index c.loop-argument-test.false in
    record { shape = sym none ∙ done.1; local = done.0 }
