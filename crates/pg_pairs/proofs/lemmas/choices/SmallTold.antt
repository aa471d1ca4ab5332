-- The causes of small pairs, by computation.
use Rattle.std.proofs.Common.{rules}
use Rattle.pg_wire.specs.Varint.{varint}
use Rattle.pg_wire.specs.Records.{tag}
use Rattle.pg_dyn.specs.word.Coding.{word_bytes}
use Rattle.pg_pairs.specs.laws.SmallTold.{SmallTold}

pub small_told : SmallTold
unfolding varint tag word_bytes
small_told = search rules
