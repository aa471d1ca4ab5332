-- What an outline has more, once what a scope, a file or all files declare is in it.
use Rattle.std.specs.Prelude.{◌≡◌, ◌+◌, ◌≤◌, ◌^◌, ◌++◌, ◌∷◌, [], ℕ, List, filter, flat_map, length, map}
use Rattle.pg_dyn.specs.message.Message.{Message}
use Rattle.pg_set.specs.declared.reading.outline.Outline.{Outline}
use Rattle.pg_set.specs.inner.Declarations.{Adds, file_declared, types_declared}
use Rattle.pg_set.specs.stated.Numbering.{Counts, file_places, inside_file, no_counts, placed_files, placed_types, types_of_files}
use Rattle.pg_set.specs.inner.reading.OutlinedPlaces.{counts_of, placed_file, placed_type}
use Rattle.pg_set.specs.inner.reading.OutlinedRows.{NameOneofs, StayFew, row, type_row}
use Rattle.pg_set.specs.stated.Outlines.{enum_rows, file_enums, file_services, file_types, type_rows}
use Rattle.pg_set.specs.declared.descriptor.proto.TheConstants as proto
use Rattle.pg_set.specs.stated.SetMessages.{children_at}
use Rattle.pg_set.specs.stated.TypeMessages.{is_entry}
use Rattle.pg_set.specs.stated.SetNames.{file_scope}

-- the message types of a scope, nested less deep than that, and the enums in them
pub record OutlinesTypes (depth : ℕ) (scope : List ℕ) (ms : List Message) (old new : Outline) : Type 0 where
  pub rows : map type_row new.types.items ≡ map type_row old.types.items ++ type_rows depth scope ms
  pub enum_rows : map row new.enums.items ≡ map row old.enums.items ++ enum_rows depth scope ms
  pub placed : map placed_type new.types.items
      ≡ map placed_type old.types.items ++ placed_types depth scope (counts_of old) ms
  pub others : (new.services.items ≡ old.services.items) × (new.files.items ≡ old.files.items)
  pub adds : Adds (types_declared depth scope (counts_of old) ms) old.names new.names
  pub few_types : StayFew old.types.items new.types.items
  pub oneofs : NameOneofs depth ms

-- all that a file declares, with message types nested less deep than that
pub record OutlinesFile (depth : ℕ) (m : Message) (old new : Outline) : Type 0 where
  pub types : map type_row new.types.items ≡ map type_row old.types.items ++ file_types depth m
  pub enums : map row new.enums.items ≡ map row old.enums.items ++ file_enums depth m
  pub services : map row new.services.items ≡ map row old.services.items ++ file_services m
  pub files : map placed_file new.files.items
      ≡ map placed_file old.files.items ++ file_places depth (counts_of old) m ∷ []
  pub placed : map placed_type new.types.items
      ≡ map placed_type old.types.items
      ++ placed_types depth (file_scope m) (inside_file (counts_of old) m) (children_at proto.FILE_MESSAGE_TYPE m)
  pub adds : Adds (file_declared depth (counts_of old) m) old.names new.names
  pub few_types : StayFew old.types.items new.types.items
  pub oneofs : NameOneofs depth (children_at proto.FILE_MESSAGE_TYPE m)
  pub no_entries : filter is_entry (children_at proto.FILE_MESSAGE_TYPE m) ≡ []

-- All that a file declares may be placed, as far as its names aren't looked at, where so many message types come before
-- it: none of its own message types is an entry type, `optional` fields name oneofs that are there, and 32 bits hold
-- the indices of its message types.
pub record MayPlace (depth : ℕ) (counts : Counts) (m : Message) : Type 0 where
  pub no_entries : filter is_entry (children_at proto.FILE_MESSAGE_TYPE m) ≡ []
  pub oneofs : NameOneofs depth (children_at proto.FILE_MESSAGE_TYPE m)
  pub few_types : counts.types + length (file_types depth m) ≤ 2 ^ 32

-- all that the files declare, taken in this order, and nothing else
pub record OutlinesFiles (depth : ℕ) (ms : List Message) (outline : Outline) : Type 0 where
  pub enums : map row outline.enums.items ≡ flat_map (file_enums depth) ms
  pub services : map row outline.services.items ≡ flat_map file_services ms
  pub files : map placed_file outline.files.items ≡ placed_files depth no_counts ms
  pub placed : map placed_type outline.types.items ≡ types_of_files depth no_counts ms
