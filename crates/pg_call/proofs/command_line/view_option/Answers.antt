use Rattle.std.proofs.Common.{◌≡◌, ◌∙◌, Some, ap, ap₂}
use Rattle.clap.specs.Words.{Rule, rule_of}
use Rattle.clap.specs.declared.Arg.{Arg}
use Rattle.clap.specs.declared.builder.value_parser.ValueParser.{ValueParser}
use Rattle.clap.specs.declared.builder.value_parser.ValueParser.TheVariants as parsers
use Rattle.std.specs.Prelude.{Option}
use Rattle.pg_call.proofs.command_line.view_option.Goals as goal

pub returns-clause-rule : goal.returns-clause-rule
returns-clause-rule c =
    let given = c.value_parser.ensures.given in
    let parser : c.value_parser.result.value_parser ≡ Some (parsers.Names c.args.names) = given.1 ∙ ap Some given.2 in
    ap rule_of c.value_parser.ensures.others
    ∙ ap₂ (λ (r : Rule) (p : Option ValueParser). record r { parser = p }) c.defaulted-view.ensures.rule parser

pub returns-clause-local : goal.returns-clause-local
returns-clause-local c = ap (λ (a : Arg). a.global) c.value_parser.ensures.others ∙ c.defaulted-view.ensures.local
