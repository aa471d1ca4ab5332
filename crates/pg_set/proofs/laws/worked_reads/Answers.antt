use Rattle.pg_set.proofs.lemmas.examples.ReadExamples.{one_field_read}
use Rattle.pg_set.proofs.laws.worked_reads.Goals as goal

pub returns : goal.returns
returns c = one_field_read
