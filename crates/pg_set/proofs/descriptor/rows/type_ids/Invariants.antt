use Rattle.std.proofs.Common.{◌≡◌, take, map}
use Rattle.pg_set.specs.descriptor.Descriptor.{type_id}
use Rattle.pg_set.proofs.descriptor.rows.type_ids.Given as goal

abbrev pub invariant-loop-place : goal.invariant-loop-place
invariant-loop-place l = l.ids.items ≡ map type_id (take l.place-index l.places)
