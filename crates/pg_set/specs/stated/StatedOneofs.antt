-- The oneofs that a set's fields are in, as a function of its messages (descriptor.proto,
-- `FieldDescriptorProto.oneof_index` and `proto3_optional`).
use Rattle.std.specs.Prelude.{Bool, true, false, not, Option, Some, None, ℕ, ℤ, pos, negsuc, List, slice_get, if◌then◌else◌, ◌^◌, nat_lt, filter, length, take, option_map, nat_eq, slice_index, map}
use Rattle.std.specs.Option.{option_and_then}
use Rattle.pg_set.specs.stated.StatedNames.{only_if}
use Rattle.pg_dyn.specs.message.Message.{Message}
use Rattle.pg_set.specs.stated.TypeMessages.{is_optional, is_marked, synthetic_places, members_at}
use Rattle.pg_set.specs.stated.SetMessages.{maybe_number_at}
use Rattle.pg_schema.specs.standing.Places.{places_from}
use Rattle.pg_set.specs.declared.descriptor.proto.TheConstants as proto

abbrev pub has_mark : Bool → Option Bool → Bool
has_mark mark None = false
has_mark true (Some own) = own
has_mark false (Some own) = not own

-- the index that a number is, which has this mark
abbrev pub place_marked : (marks : List Bool) → (mark : Bool) → ℤ → Option ℕ
place_marked marks mark (pos place) = only_if (has_mark mark (slice_get marks place)) (Some place)
place_marked marks mark (negsuc n) = None

-- an index that 32 bits hold
abbrev pub small : ℕ → Option ℕ
small place = only_if (nat_lt place (2 ^ 32)) (Some place)

-- how many indices in front aren't marked
abbrev pub unmarked : (marks : List Bool) → ℕ → ℕ
unmarked marks place = length (filter not (take place marks))

-- the index among the real oneofs of the one that a number says
abbrev pub real_place : (synthetic : List Bool) → ℤ → Option ℕ
real_place synthetic number =
    option_and_then (λ place. small (unmarked synthetic place)) (place_marked synthetic false number)

-- of a field that isn't `optional`
abbrev pub real_oneof : (synthetic : List Bool) → Option ℤ → Option (Option ℕ)
real_oneof synthetic None = Some None
real_oneof synthetic (Some number) = option_map Some (real_place synthetic number)

-- of one that is: it is alone in a synthetic one
abbrev pub own_oneof : (synthetic : List Bool) → (members : List ℕ) → Option ℤ → Option (Option ℕ)
own_oneof synthetic members None = None
own_oneof synthetic members (Some number) = option_and_then (λ place. only_if (nat_eq (slice_index members place) 1) (Some None)) (place_marked synthetic true number)

-- The real oneof of a field, by its index among those, where it is known of each oneof whether it is synthetic and how
-- many fields name it.
abbrev pub oneof : (synthetic : List Bool) → (members : List ℕ) → Message → Option (Option ℕ)
oneof synthetic members m =
    if is_optional m then own_oneof synthetic members (maybe_number_at proto.FIELD_ONEOF_INDEX m) else real_oneof synthetic (maybe_number_at proto.FIELD_ONEOF_INDEX m)

-- ---- what is known of each of so many oneofs

abbrev pub synthetic_in : (fields : List Message) → (count : ℕ) → List Bool
synthetic_in fields count = map (is_marked (synthetic_places fields)) (places_from 0 count)

abbrev pub members_in : (fields : List Message) → (count : ℕ) → List ℕ
members_in fields count = map (λ place. members_at place fields) (places_from 0 count)
