-- The rows of an outline, and what holds of them.
use Rattle.std.specs.String.{string_bytes}
use Rattle.std.specs.Prelude.{ℕ, List, filter_map, slice_get, ◌≤◌, ◌^◌, length, ◌≡◌, true, zero, suc, [], filter}
use Rattle.std.specs.List.{list_all, AllByRecursion}
use Rattle.pg_dyn.specs.message.Kept.{message_of}
use Rattle.pg_set.specs.declared.reading.outline.Outlined.{Outlined}
use Rattle.pg_set.specs.stated.Outlines.{Row}
use Rattle.pg_set.specs.declared.reading.outline.OutlinedType.{OutlinedType}
use Rattle.pg_dyn.specs.message.Message.{Message}
use Rattle.pg_set.specs.stated.SetMessages.{children_at}
use Rattle.pg_set.specs.stated.FileMessages.{is_place}
use Rattle.pg_set.specs.stated.TypeMessages.{synthetic_places, is_no_entry}
use Rattle.pg_set.specs.declared.descriptor.proto.TheConstants as proto

abbrev pub row : Outlined → Row
row o = (string_bytes o.name, message_of o.message)

abbrev pub type_row : OutlinedType → Row
type_row o = (string_bytes o.name, message_of o.message)

-- the files at these indices
abbrev pub files_at : List Message → List ℕ → List Message
files_at files places = filter_map (slice_get files) places

-- 32 bits hold the indices of all, where they did those of the ones in front
abbrev pub StayFew : {A : Type 0} → (old new : List A) → Type 0
StayFew old new = length old ≤ 2 ^ 32 → length new ≤ 2 ^ 32

-- the `optional` fields of a message type name oneofs of it
abbrev pub NamesOneofs : Message → Type 0
NamesOneofs m = list_all (is_place (length (children_at proto.MESSAGE_ONEOF_DECL m))) (synthetic_places (children_at proto.MESSAGE_FIELD m)) ≡ true

-- so do those of message types nested less deep than that, and none is nested deeper
abbrev pub NameOneofs : (depth : ℕ) → List Message → Type 0
NameOneofs zero ms = ms ≡ []
NameOneofs (suc depth) ms = AllByRecursion (λ m. NamesOneofs m × NameOneofs depth (filter is_no_entry (children_at proto.MESSAGE_NESTED_TYPE m))) ms
