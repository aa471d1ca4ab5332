use Rattle.pg_wire.proofs.Pieces.{exactly_read, few_read}
use Rattle.pg_wire.proofs.laws.reads_exactly.Goals as goal

pub returns : goal.returns
returns c = (exactly_read, few_read)
