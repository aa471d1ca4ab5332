use Rattle.std.proofs.Common.{◌≡◌, ◌++◌, length, map}
use Rattle.std.specs.Vec.Iter.{into_iter_items, into_iter_len}
use Rattle.pg_link.specs.inner.Indexed.{AddsAll}
use Rattle.pg_link.proofs.lemmas.names.StandingLaws.{standing_of}
use Rattle.pg_link.proofs.names.index.Index.add_file.Given as goal

-- the names so far have come, and the others follow
abbrev pub invariant-loop-declared : goal.invariant-loop-declared
invariant-loop-declared l = record {
  whole : l.yielded ++ into_iter_items l.declared-iterator ≡ into_iter_items l.initial.declared-iterator;
  adds : AddsAll l.fn.self l.self (map (standing_of l.number) l.yielded);
  left : into_iter_len l.declared-iterator ≡ length (into_iter_items l.declared-iterator);
}
