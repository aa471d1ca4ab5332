use Rattle.std.proofs.Common.{◌∙◌, List, ℕ, [], ap, unwrap_or}
use Rattle.std.specs.Borrow.{Bor}
use Rattle.clap.proofs.WalkLemmas.{first_value-rows}
use Rattle.clap.specs.Words.{found_of}
use Rattle.pg_call.proofs.CallLemmas.{apply-unwrap_or}
use Rattle.pg_call.proofs.command_line.text.Goals as goal

pub returns : goal.returns
returns c =
    ap (λ s. s.now) c.unwrap_or.ensures ∙ apply-unwrap_or (λ (s : Bor (List ℕ)). s.now) c.get_str.result _
    ∙ ap (λ o. unwrap_or o []) (c.get_str.ensures ∙ first_value-rows (found_of c.args.found.now) c.args.name.now)
