use Rattle.std.proofs.Common.{◌≡◌, map, take}
use Rattle.pg_set.specs.inner.reading.OutlinedRows.{row}
use Rattle.pg_set.specs.stated.StatedEnums as stated
use Rattle.pg_set.specs.stated.Views.{enum_view}
use Rattle.pg_set.proofs.reading.made_parts.all_enums.Given as goal

abbrev pub invariant-loop-one : goal.invariant-loop-one
invariant-loop-one l = map enum_view l.enums.items ≡ map stated.enum_type (map row (take l.one-index l.outlined))
