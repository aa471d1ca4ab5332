use Rattle.std.proofs.Common.{◌≡◌, drop, pos}
use Rattle.std.specs.Prelude.{find}
use Rattle.std.specs.Ordering.{int_eq}
use Rattle.pg_dyn.specs.message.Kept.{message_of}
use Rattle.pg_set.specs.stated.Codes.{scalars}
use Rattle.pg_set.specs.writing.Fields.{scalar_code}
use Rattle.pg_set.specs.stated.SetMessages.{number_at}
use Rattle.pg_set.proofs.reading.codes.scalar_of.Given as goal

abbrev pub invariant-loop-scalar : goal.invariant-loop-scalar
invariant-loop-scalar l =
    find (λ s. int_eq (number_at 5 (message_of l.field)) (pos (scalar_code s))) (drop l.scalar-index scalars) ≡ find (λ s. int_eq (number_at 5 (message_of l.field)) (pos (scalar_code s))) scalars
