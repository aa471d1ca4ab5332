use Rattle.pg_wire.proofs.Words.{signed-twos_complement, twos_complement_below, IsBetween-signed, twos_complement-signed}
use Rattle.pg_wire.proofs.laws.signed_inverse.Goals as goal

pub returns : goal.returns
returns c = (λ half z between. (twos_complement_below half z between, signed-twos_complement half z between), λ half word below. (IsBetween-signed half word below, twos_complement-signed half word below))
