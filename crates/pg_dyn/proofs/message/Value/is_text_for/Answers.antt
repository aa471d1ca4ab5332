-- The item is a string or not, and so is the scalar.
use Rattle.std.proofs.Common.{◌≡◌, Bool, true, false, not, refl, ap, sym, ◌∙◌}
use Rattle.pg_dyn.proofs.message.Value.is_text_for.Goals as goal

not_true : (b : Bool) → not b ≡ true → false ≡ b
not_true true h = absurd (cc)
not_true false h = refl

pub returns-then-is_text : goal.returns-then-is_text
returns-then-is_text c = (
  λ e. sym c.is_text.ensures ∙ c.if-is_text.true ∙ sym e ∙ c.is_string-string.ensures,
  λ h. c.is_string-string.ensures ∙ sym h ∙ sym c.is_text.ensures ∙ c.if-is_text.true,
)

pub returns-else-is_text : goal.returns-else-is_text
returns-else-is_text c = (
  λ e. sym c.is_text.ensures ∙ c.if-is_text.false ∙ not_true c.is_string-string.result e ∙ c.is_string-string.ensures,
  λ h. ap not (c.is_string-string.ensures ∙ sym h ∙ sym c.is_text.ensures ∙ c.if-is_text.false),
)
