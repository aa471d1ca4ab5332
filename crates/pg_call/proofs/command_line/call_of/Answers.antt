use Rattle.std.proofs.Common.{◌∙◌, Some, ap, sym, option_map}
use Rattle.clap.specs.Words.{found_of, rows_of}
use Rattle.pg_call.specs.Call.{request_in}
use Rattle.pg_call.proofs.CallLemmas.{subcommand_rows_of-Some}
use Rattle.pg_call.proofs.command_line.call_of.Goals as goal

-- The call is that of the subcommand which the matches entered.
pub returns : goal.returns
returns c words are =
    let name = c.unwrap.result.0.now in
    let rows = rows_of (found_of c.unwrap.result.1.now) in
    let named = sym c.subcommand.ensures.name ∙ ap (option_map (λ p. p.0.now)) c.unwrap.ensures in
    let below = sym c.subcommand.ensures.rows ∙ ap (option_map (λ p. rows_of (found_of p.1.now))) c.unwrap.ensures in
    let entered = subcommand_rows_of-Some c.args.matches.now name rows named below in
    record {
      names = are.names;
      are_names = are.are_names;
      taken = are.taken;
      by_matches = ap (option_map request_in) (sym are.entered ∙ entered) ∙ ap Some (sym c.call_in.ensures);
    }
