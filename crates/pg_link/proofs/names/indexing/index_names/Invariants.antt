use Rattle.std.proofs.Common.{take}
use Rattle.pg_link.specs.inner.Indexed.{Lists}
use Rattle.pg_link.specs.names.Standing.{NoneTwice, all_standings}
use Rattle.pg_link.proofs.names.indexing.index_names.Given as goal

-- the names of the files so far have come
abbrev pub invariant-loop-number : goal.invariant-loop-number
invariant-loop-number l = record {
  lists : Lists l.index (all_standings (take l.number l.files.entries));
  once : NoneTwice (all_standings (take l.number l.files.entries));
}
