-- What `gate_all` says of a message type is what `gate_with` says of it.
use Rattle.std.specs.Prelude.{◌≡◌, ℕ, length, Option, Some, None, string_bytes}
use Rattle.pg_schema.specs.declared.parts.Parts.{Parts}
use Rattle.pg_schema.specs.Invariant.{IsSchema}
use Rattle.pg_schema.specs.Parts.{shape_of}
use Rattle.pg_dyn.specs.declared.view_name.ViewName.{ViewName}
use Rattle.pg_dyn.specs.encoding.Encoding.{enc}
use Rattle.pg_dyn.specs.message.Kept.{message_of}
use Rattle.pg_pairs.specs.bounds.Covering.{IsAmong}
use Rattle.pg_causes.specs.declared.overview.Overview.{Overview}
use Rattle.pg_causes.specs.declared.overview.TypeLine.{TypeLine}
use Rattle.pg_causes.specs.Overview.{IsOverview}
use Rattle.pg_gate.specs.answer.ViewAnswer.{IsAnswerUnder}
use Rattle.pg_gate.specs.declared.answer.gate.Answer.{Answer}
use Rattle.pg_gate.specs.declared.answer.gate.Answer.TheVariants as answers

-- how many bytes a shortest message has that breaks, by the answer; none where no message breaks
abbrev pub bytes_to_break : Parts → Answer → Option ℕ
bytes_to_break old (answers.Compatible certificate) = None
bytes_to_break old (answers.Breaks witness certificate) =
    Some (length (enc (shape_of old) certificate.root.old (message_of witness)))

-- Each type line of an overview says what the answer says that is asked for by the line's name, under the same view.
abbrev pub AllSaysWhatGateSays : Type 0
AllSaysWhatGateSays =
    (view : ViewName) (old new : Parts) → IsSchema old → IsSchema new
    → (overview : Overview) → IsOverview view old new overview
    → (line : TypeLine) → IsAmong line overview.types.items
    → (answer : Answer) → IsAnswerUnder view old new (string_bytes line.name) answer
    → line.bound ≡ bytes_to_break old answer
