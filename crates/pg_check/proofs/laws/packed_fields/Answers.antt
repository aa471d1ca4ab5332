use Rattle.pg_check.proofs.lemmas.parts.PackedFields.{packed_fields}
use Rattle.pg_check.proofs.laws.packed_fields.Goals as goal

pub returns : goal.returns
returns c linked up = packed_fields linked up
