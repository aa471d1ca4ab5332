use Rattle.std.proofs.Common.{◌≡◌, ◌++◌, drop, length, map, take}
use Rattle.pg_schema.specs.rules.Scopes.{service_places}
use Rattle.pg_dyn.specs.message.Kept.{message_of}
use Rattle.pg_schema.specs.standing.Places.{places_from}
use Rattle.pg_set.specs.inner.Declarations.{services_declared}
use Rattle.pg_set.specs.inner.reading.OutlinedRows.{row}
use Rattle.pg_set.specs.stated.Outlines.{rows_in}
use Rattle.pg_set.proofs.lemmas.outline.Declaring.{Left}
use Rattle.pg_set.proofs.reading.outline.services.outline_services.Given as goal

abbrev pub invariant-loop-message : goal.invariant-loop-message
invariant-loop-message l = record {
  ids : service_places l.ids.items ≡ places_from (length l.fn.services.items) l.message-index;
  rows : map row l.services.items ≡ map row l.fn.services.items ++ rows_in l.scope (map message_of (take l.message-index l.messages));
  left : Left (services_declared l.scope (map message_of (drop l.message-index l.messages))) (services_declared l.scope (map message_of l.messages)) l.names l.fn.names;
}
