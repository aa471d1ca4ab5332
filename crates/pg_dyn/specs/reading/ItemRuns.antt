-- The items of a run of records of a field that is no map and holds no messages.
use Rattle.std.specs.Prelude.{◌≡◌, true, List, map, Some, option_map, is_some}
use Rattle.std.specs.List.{AllByRecursion}
use Rattle.pg_schema.specs.Shape.{FieldShape}
use Rattle.pg_wire.specs.Records.{WireRecord}
use Rattle.pg_dyn.specs.declared.message_ref.ValueRef.{ValueRef}
use Rattle.pg_dyn.specs.reading.Content.{leaves_in}
use Rattle.pg_dyn.specs.reading.Held.{read_as}
use Rattle.pg_dyn.specs.reading.Optional.{all_some, joined}
use Rattle.pg_dyn.specs.message_ref.BorrowedItems.{IsItemKept}
use Rattle.pg_dyn.specs.message_ref.Borrowed.{leaf_of}

-- each record's items can be read
abbrev pub AllRead : FieldShape → List WireRecord → Type 0
AllRead f rs = AllByRecursion (λ r. is_some (leaves_in f r) ≡ true) rs

-- these are the items of all the records
abbrev pub AreItemsOf : FieldShape → List WireRecord → List ValueRef → Type 0
AreItemsOf f rs values =
    (option_map joined (all_some (map (leaves_in f) rs)) ≡ Some (map leaf_of values)) × AllByRecursion (IsItemKept (read_as f.element)) values
