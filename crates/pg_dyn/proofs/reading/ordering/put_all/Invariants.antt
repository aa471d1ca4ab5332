-- the entries so far are normalized, and the rest is put in after them
use Rattle.pg_dyn.proofs.lemmas.reading.entries.NormalizedEntries.{NormalizesTo}
use Rattle.pg_dyn.proofs.reading.ordering.put_all.Given as goal

abbrev pub invariant-loop-entry : goal.invariant-loop-entry
invariant-loop-entry l = NormalizesTo l.fn.entries.items l.normalized.items l.entry-iterator.rest.items
