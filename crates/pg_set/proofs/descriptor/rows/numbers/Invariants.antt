use Rattle.std.proofs.Common.{◌≡◌, take, map}
use Rattle.pg_schema.specs.declared.parts.field.Field.{Field}
use Rattle.pg_set.proofs.descriptor.rows.numbers.Given as goal

abbrev pub invariant-loop-field : goal.invariant-loop-field
invariant-loop-field l = l.numbers.items ≡ map (λ (f : Field). f.number) (take l.field-index l.fields)
