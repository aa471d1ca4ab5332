use Rattle.pg_wire.specs.declared.record.WireType.TheVariants.{Len}
use Rattle.pg_wire.proofs.RecordLaws.{IsRecord-of_body, IsBody-length_before}
use Rattle.pg_wire.proofs.laws.writes_records.Goals as goal

pub returns : goal.returns
returns c = (IsRecord-of_body, IsBody-length_before Len)
