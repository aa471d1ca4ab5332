use Rattle.std.proofs.Common.{take}
use Rattle.pg_schema.specs.inner.Sets.{IsNumberSet}
use Rattle.pg_schema.proofs.rules.messages.number_set.Given as goal

abbrev pub invariant-loop-number : goal.invariant-loop-number
invariant-loop-number l = IsNumberSet (take l.number-index l.numbers) l.set
