-- The table of full names (proto3 language specification, "Packages"; the table is this project's choice).
use Rattle.std.specs.Prelude.{◌≡◌, ◌↔◌, ℕ, List, Some, String}
use Rattle.std.specs.BTreeMap.{BTreeMap, get_by_text}
use Rattle.pg_schema.specs.declared.parts.field.TypeId.{TypeId}
use Rattle.pg_schema.specs.declared.parts.message_type.MessageType.{MessageType}
use Rattle.pg_schema.specs.Parts.{name_at}

-- the table has the name of each type, with its index, and no other
abbrev pub IsTable : {Y : Type 0} → List MessageType → BTreeMap (String Y) TypeId → Type 0
IsTable types table =
    (id : TypeId) (name : List ℕ) → (get_by_text table name ≡ Some id) ↔ (name_at types id ≡ Some name)
