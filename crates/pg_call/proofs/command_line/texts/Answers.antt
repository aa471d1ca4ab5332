use Rattle.std.proofs.Common.{◌∙◌, List, ℕ, [], ap, unwrap_or}
use Rattle.std.specs.Borrow.{Bor}
use Rattle.clap.proofs.WalkLemmas.{raw_values-rows}
use Rattle.clap.specs.Walk.{texts}
use Rattle.clap.specs.Words.{found_of}
use Rattle.pg_call.proofs.CallLemmas.{apply-unwrap_or}
use Rattle.pg_call.proofs.command_line.texts.Goals as goal

pub returns : goal.returns
returns c =
    ap (λ s. texts s.now) c.unwrap_or.ensures ∙ apply-unwrap_or (λ (s : Bor (List (Bor (List ℕ)))). texts s.now) c.get_strs.result _
    ∙ ap (λ o. unwrap_or o []) (c.get_strs.ensures ∙ raw_values-rows (found_of c.args.found.now) c.args.name.now)
