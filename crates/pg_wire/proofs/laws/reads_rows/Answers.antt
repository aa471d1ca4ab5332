use Rattle.pg_wire.proofs.Pieces.{varints_read, pieces_read}
use Rattle.pg_wire.proofs.laws.reads_rows.Goals as goal

pub returns : goal.returns
returns c = (varints_read, pieces_read)
