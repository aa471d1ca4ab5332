use Rattle.std.proofs.Common.{◌≡◌, ◌++◌, ◌-◌, ◌∷◌, [], drop, filter, map, take}
use Rattle.std.specs.List.{AllByRecursion, flat_map}
use Rattle.pg_schema.specs.rules.Scopes.{type_places}
use Rattle.pg_dyn.specs.message.Kept.{message_of}
use Rattle.pg_set.specs.inner.Declarations.{types_declared, whole_declared}
use Rattle.pg_set.specs.inner.reading.OutlinedRows.{NameOneofs, NamesOneofs, StayFew, row, type_row}
use Rattle.pg_set.specs.stated.Outlines.{enum_rows, rows_of_enums, rows_of_type, type_rows}
use Rattle.pg_set.specs.stated.Numbering.{behind_type, each_from, placed_types, placed_with}
use Rattle.pg_set.specs.inner.reading.OutlinedPlaces.{counts_behind, counts_of, placed_type}
use Rattle.pg_set.specs.stated.SetMessages.{children_at}
use Rattle.pg_set.specs.stated.TypeMessages.{is_no_entry}
use Rattle.pg_set.proofs.lemmas.outline.Declaring.{Left}
use Rattle.pg_set.proofs.reading.outline.Outline.+outline_types.Given as goal

abbrev pub decreases-outline_types : goal.decreases-outline_types
decreases-outline_types l = l.depth

abbrev pub invariant-loop-message : goal.invariant-loop-message
invariant-loop-message l = record {
  rows : map type_row l.self.types.items ≡ map type_row l.fn.self.types.items ++ flat_map (rows_of_type (type_rows (l.depth - 1)) l.scope) (map message_of (take l.message-index l.messages));
  enum_rows : map row l.self.enums.items ≡ map row l.fn.self.enums.items ++ flat_map (rows_of_enums (enum_rows (l.depth - 1)) l.scope) (map message_of (take l.message-index l.messages));
  ids : type_places l.ids.items ≡ each_from (behind_type (l.depth - 1) l.scope) (λ c m. c.types ∷ []) (counts_of l.fn.self) (map message_of (take l.message-index l.messages));
  placed : map placed_type l.self.types.items
      ≡ map placed_type l.fn.self.types.items ++ each_from (behind_type (l.depth - 1) l.scope) (placed_with (l.depth - 1) (placed_types (l.depth - 1)) l.scope) (counts_of l.fn.self) (map message_of (take l.message-index l.messages));
  counts : counts_of l.self ≡ counts_behind (behind_type (l.depth - 1) l.scope) (counts_of l.fn.self) (map message_of (take l.message-index l.messages));
  others : (l.self.services.items ≡ l.fn.self.services.items) × (l.self.files.items ≡ l.fn.self.files.items);
  left : Left (each_from (behind_type (l.depth - 1) l.scope) (whole_declared (types_declared (l.depth - 1)) l.scope) (counts_of l.self) (map message_of (drop l.message-index l.messages)))
      (each_from (behind_type (l.depth - 1) l.scope) (whole_declared (types_declared (l.depth - 1)) l.scope) (counts_of l.fn.self) (map message_of l.messages)) l.self.names l.fn.self.names;
  few_types : StayFew l.fn.self.types.items l.self.types.items;
  oneofs : AllByRecursion (λ m. NamesOneofs m × NameOneofs (l.depth - 1) (filter is_no_entry (children_at 3 m))) (map message_of (take l.message-index l.messages));
}
