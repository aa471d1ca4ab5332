use Rattle.pg_cert.proofs.Coverings as Coverings
use Rattle.pg_cert.proofs.laws.covers_without_fault.Goals as goal

pub returns : goal.returns
returns c = Coverings.covers_without_fault
