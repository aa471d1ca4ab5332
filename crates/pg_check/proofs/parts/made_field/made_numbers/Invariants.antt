use Rattle.std.proofs.Common.{◌≡◌, map, take}
use Rattle.pg_check.specs.inner.CodeViews.{member}
use Rattle.pg_check.specs.parts.MadeFields.{made_number}
use Rattle.pg_check.proofs.parts.made_field.made_numbers.Given as goal

abbrev pub invariant-loop-one : goal.invariant-loop-one
invariant-loop-one l = l.numbers.items ≡ map made_number (map member (take l.one-index l.list))
