use Rattle.std.proofs.Common.{◌++◌, ℕ, Bool, if◌then◌else◌, sym, ap, ◌∙◌}
use Rattle.std.proofs.Math.Utf8.{encode}
use Rattle.std.specs.String.{string_bytes}
use Rattle.pg_set.specs.stated.SetNames.{is_backslash, is_dot_or_backslash}
use Rattle.pg_set.proofs.lemmas.outline.Escaped.{kept_on, low_kind, marked_on}
use Rattle.pg_set.proofs.reading.set_names.push_escaped.Goals as goal
use Rattle.pg_set.proofs.reading.set_names.push_escaped.Goals.{then-is_escaped+in_ok-push, else-is_escaped}

pub loop-letter-preserved : goal.loop-letter-preserved
loop-letter-preserved c =
    let kind : ℕ → Bool = λ byte. if c.args.dots then is_dot_or_backslash byte else is_backslash byte in
    let low = low_kind c.args.dots in
    let full = string_bytes c.loop-letter.full in
    let rest = c.loop-letter.letter-iterator.rest.now in
    let later = c.next.new.self.rest.now in
    let letter = c.in-Some.letter in
    let grown = string_bytes c.push-in-loop-letter.new.self in
    let next = c.in-Some.ensures.steps.0 in
    elim c.if-is_escaped.branch [
      | then-is_escaped+in_ok-push w ↦
          marked_on kind low full rest later letter next (string_bytes w.push.new.self) grown w.in_ok-push.ensures.bytes
          (c.in_ok-push-2.ensures.bytes ∙ ap (λ f. string_bytes f ++ encode letter) w.full-is) (sym c.is_escaped.ensures ∙ w.if-is_escaped.true) ∙ c.loop-letter.invariant
      | else-is_escaped w ↦
          kept_on kind low full rest later letter next grown (c.in_ok-push-2.ensures.bytes ∙ ap (λ f. string_bytes f ++ encode letter) w.full-is)
          (sym c.is_escaped.ensures ∙ w.if-is_escaped.false) ∙ c.loop-letter.invariant
    ]
