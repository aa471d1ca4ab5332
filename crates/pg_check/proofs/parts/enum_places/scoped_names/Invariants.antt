use Rattle.std.proofs.Common.{◌≡◌, map, string_bytes, take}
use Rattle.pg_check.specs.parts.EnumPlaces.{scoped_names}
use Rattle.pg_check.proofs.parts.enum_places.scoped_names.Given as goal

abbrev pub invariant-loop-number : goal.invariant-loop-number
invariant-loop-number l = map string_bytes l.names.items ≡ scoped_names (take l.number l.files.entries)
