-- The names before the index that the other schema lacks are kept.
use Rattle.std.proofs.Common.{◌≡◌, map, filter, not, take, string_bytes}
use Rattle.pg_causes.specs.Names.{is_declared, name_of}
use Rattle.pg_causes.proofs.names.names_only.Given as goal

abbrev pub invariant-loop-message_type : goal.invariant-loop-message_type
invariant-loop-message_type l =
    map string_bytes l.names.items ≡ filter (λ name. not (is_declared l.other name)) (map name_of (take l.message_type-index l.types))
