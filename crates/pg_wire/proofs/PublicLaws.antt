-- The laws that proofs of other crates cite. Each is the contract of the public function of its name.
use Rattle.pg_wire.specs.Varint.{varint}
use Rattle.pg_wire.specs.Laws.{LengthsGrow, ReadsVarintAgain}
use Rattle.pg_wire.proofs.Lengths.{length-written, length-written_grows}
use Rattle.pg_wire.proofs.Varints.{IsVarint-varint, length-IsVarint, length-varint_grows, length-varint_positive, varint_at-append, varint_value-varint}

pub varint_read_again : ReadsVarintAgain
varint_read_again = λ n rest fits. (varint_at-append (varint n) rest (IsVarint-varint n fits), varint_value-varint n fits, IsVarint-varint n fits)

pub lengths_grow : LengthsGrow
lengths_grow = (length-varint_grows, length-written_grows, length-written, length-varint_positive, λ v is. (length-IsVarint v is, is.at_most_ten))
