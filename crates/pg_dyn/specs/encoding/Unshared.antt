-- What a writer writes of the fields that another type doesn't have, field by field.
use Rattle.std.specs.Prelude.{ℕ, List, [], is_none, if◌then◌else◌}
use Rattle.pg_schema.specs.declared.parts.field.TypeId.{TypeId}
use Rattle.pg_schema.specs.Shape.{Shape, FieldShape, field_at}
use Rattle.pg_dyn.specs.message.KeptParts.{KeptItem}
use Rattle.pg_dyn.specs.message.Message.{Part}
use Rattle.pg_dyn.specs.encoding.Written.{parts_written}

abbrev pub outside_written : {C : Type 0} → (ℕ → C → List (Part KeptItem)) → Shape → TypeId → List FieldShape → ℕ × C → List ℕ
outside_written parts shape type gs c = if is_none (field_at gs c.0) then parts_written shape type c.0 (parts c.0 c.1) else []
