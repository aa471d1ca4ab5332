use Rattle.std.proofs.Common.{◌≡◌, string_bytes, subst, IfOk}
use Rattle.pg_lines.specs.Text.{refusal_of}
use Rattle.pg_lines.specs.declared.refusal.Refusal.{Refusal}
use Rattle.pg_gate.proofs.answer.explaining.refusal_line.Goals as goal

pub returns : goal.returns
returns c =
    subst (λ (refusal : Refusal). IfOk c.line_of.result (λ text. string_bytes text ≡ refusal_of refusal)) c.refusal_of_bytes-refusal.ensures c.line_of.ensures
