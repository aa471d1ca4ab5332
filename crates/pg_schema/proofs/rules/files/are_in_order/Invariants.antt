use Rattle.std.proofs.Common.{◌≡◌, drop, ◌∷◌}
use Rattle.pg_schema.specs.rules.Files.{option_numbers}
use Rattle.pg_schema.specs.rules.Pairs.{is_rising}
use Rattle.pg_schema.proofs.rules.files.are_in_order.Given as goal

-- all rise exactly where those that are left do
abbrev pub invariant-loop-option : goal.invariant-loop-option
invariant-loop-option l = is_rising (l.below ∷ option_numbers (drop l.option-index l.options)) ≡ is_rising (0 ∷ option_numbers l.options)
