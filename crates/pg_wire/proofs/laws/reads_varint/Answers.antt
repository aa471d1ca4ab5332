use Rattle.pg_wire.proofs.Pieces.{varint_read, long_read, cut_read, no_other}
use Rattle.pg_wire.proofs.laws.reads_varint.Goals as goal

pub returns : goal.returns
returns c = (varint_read, long_read, cut_read, no_other)
