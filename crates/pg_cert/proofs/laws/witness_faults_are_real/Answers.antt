use Rattle.pg_cert.proofs.Witnesses as Witnesses
use Rattle.pg_cert.proofs.laws.witness_faults_are_real.Goals as goal

pub returns : goal.returns
returns c = Witnesses.witness_faults_are_real
