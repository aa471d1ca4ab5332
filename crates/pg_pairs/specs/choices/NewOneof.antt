-- Fields that come into one oneof of a new type.
use Rattle.std.specs.Prelude.{ℕ, List, Option, option_and_then}
use Rattle.pg_schema.specs.Shape.{FieldShape, field_at}

-- the oneof that the new type's field of that number is in
abbrev pub new_oneof : List FieldShape → FieldShape → Option ℕ
new_oneof gs f = option_and_then (λ g. g.oneof) (field_at gs f.number)
