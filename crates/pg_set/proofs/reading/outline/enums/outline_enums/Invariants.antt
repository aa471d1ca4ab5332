use Rattle.std.proofs.Common.{◌≡◌, ◌++◌, drop, length, map, take}
use Rattle.pg_schema.specs.rules.Scopes.{enum_places}
use Rattle.pg_dyn.specs.message.Kept.{message_of}
use Rattle.pg_schema.specs.standing.Places.{places_from}
use Rattle.pg_set.specs.inner.Declarations.{enums_declared}
use Rattle.pg_set.specs.inner.reading.OutlinedRows.{row}
use Rattle.pg_set.specs.stated.Outlines.{rows_in}
use Rattle.pg_set.proofs.lemmas.outline.Declaring.{Left}
use Rattle.pg_set.proofs.reading.outline.enums.outline_enums.Given as goal

abbrev pub invariant-loop-message : goal.invariant-loop-message
invariant-loop-message l = record {
  ids : enum_places l.ids.items ≡ places_from (length l.fn.enums.items) l.message-index;
  rows : map row l.enums.items ≡ map row l.fn.enums.items ++ rows_in l.scope (map message_of (take l.message-index l.messages));
  left : Left (enums_declared l.scope (length l.enums.items) (map message_of (drop l.message-index l.messages))) (enums_declared l.scope (length l.fn.enums.items) (map message_of l.messages)) l.names l.fn.names;
}
