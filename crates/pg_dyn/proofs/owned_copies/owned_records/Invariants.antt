-- the records so far
use Rattle.std.proofs.Common.{◌≡◌, map, take}
use Rattle.std.specs.List.{AllByRecursion}
use Rattle.pg_wire.specs.Reads.{seen_record}
use Rattle.pg_dyn.specs.message.Seen.{HasBody, record_seen}
use Rattle.pg_dyn.proofs.owned_copies.owned_records.Given as goal

abbrev pub invariant-loop-found : goal.invariant-loop-found
invariant-loop-found l = record {
  seen : map record_seen l.owned.items ≡ map seen_record (take l.found-index l.records);
  bodies : AllByRecursion HasBody l.owned.items;
}
