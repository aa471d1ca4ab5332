-- What references point to, and the fields that numbers name.
use Rattle.std.specs.Prelude.{ℕ, List, map, flat_map}
use denote.Ref.{Bor}
use Rattle.pg_schema.specs.declared.parts.field.Field.{Field}
use Rattle.pg_schema.specs.declared.parts.field.TypeId.{TypeId}
use Rattle.pg_schema.specs.declared.parts.Parts.{Parts}
use Rattle.pg_schema.specs.Lookups.{field_of}
use Rattle.pg_set.specs.writing.Messages.{where_found}

abbrev pub lent : {A : Type 0} → List (Bor A) → List A
lent list = map (λ x. x.now) list

-- the fields of the type with these numbers, in their order
abbrev pub fields_at : Parts → TypeId → List ℕ → List Field
fields_at parts id numbers = flat_map (λ number. where_found (λ f. f) (field_of parts id number)) numbers
