use Rattle.std.proofs.Common.{ap, cond, sym, ◌∙◌}
use Rattle.pg_schema.specs.declared.parts.field.Presence.TheVariants.{Explicit, Implicit}
use Rattle.pg_set.proofs.reading.made_fields.singular.Goals as goal

pub returns-then-explicit : goal.returns-then-explicit
returns-then-explicit c = sym (ap (λ b. cond b Explicit Implicit) (sym c.is_explicit-explicit.ensures ∙ c.if-explicit.true))

pub returns : goal.returns
returns c = sym (ap (λ b. cond b Explicit Implicit) (sym c.is_explicit-explicit.ensures ∙ c.if-explicit.false))
