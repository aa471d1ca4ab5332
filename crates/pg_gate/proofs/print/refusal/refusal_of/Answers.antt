use Rattle.std.proofs.Common.{ℕ, ◌∙◌, ap}
use Rattle.pg_gate.specs.print.Refusals.{refusal_with}
use Rattle.pg_gate.proofs.print.refusal.refusal_of.Goals as goal

pub returns : goal.returns
returns c = c.refusal_with.ensures ∙ ap (λ (code : ℕ). refusal_with code c.args.error) c.code.ensures
