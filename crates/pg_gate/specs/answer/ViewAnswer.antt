-- What the gate answers under the view of a name.
use Rattle.std.specs.Prelude.{◌≡◌, ℕ, List}
use Rattle.pg_schema.specs.declared.parts.Parts.{Parts}
use Rattle.pg_dyn.specs.declared.view_name.ViewName.{ViewName}
use Rattle.pg_pairs.specs.views.NamedView.{seen_under}
use Rattle.pg_gate.specs.answer.Answer.{IsAnswerBy, certificate_of}
use Rattle.pg_gate.specs.declared.answer.gate.Answer.{Answer}

-- The promise of `gate`, with the numbers of two enums compared as the view of that name does. The certificate names
-- the view.
abbrev pub IsAnswerUnder : ViewName → Parts → Parts → List ℕ → Answer → Type 0
IsAnswerUnder view old new root answer =
    ((certificate_of answer).view ≡ view) × IsAnswerBy (seen_under view old new) old new root answer
