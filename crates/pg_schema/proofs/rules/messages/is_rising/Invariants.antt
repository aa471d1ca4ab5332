use Rattle.std.proofs.Common.{◌≡◌, drop, ◌∷◌}
use Rattle.pg_schema.specs.rules.Messages.{numbers}
use Rattle.pg_schema.specs.rules.Pairs.{is_rising}
use Rattle.pg_schema.proofs.rules.messages.is_rising.Given as goal

-- all rise exactly where those that are left do
abbrev pub invariant-loop-field : goal.invariant-loop-field
invariant-loop-field l = is_rising (l.below ∷ numbers (drop l.field-index l.fields)) ≡ is_rising (0 ∷ numbers l.fields)
