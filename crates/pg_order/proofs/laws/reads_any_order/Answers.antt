use Rattle.std.proofs.Common.{arith}
use Rattle.pg_order.proofs.lemmas.OldReads as OldReads
use Rattle.pg_order.proofs.laws.reads_any_order.Goals as goal

pub returns : goal.returns
returns c = λ shape type m bytes is_shape h short w. OldReads.reads_any_order shape is_shape type m bytes h (omega arith) w
