-- What is read of the records so far.
use Rattle.pg_dyn.proofs.lemmas.reading.by_fields.EntryByParts.{PartsAhead}
use Rattle.pg_dyn.proofs.reading.parts.read_parts.Given as goal

abbrev pub invariant-loop-found : goal.invariant-loop-found
invariant-loop-found l = PartsAhead l.fn.key l.fn.element l.fn.bytes l.found-iterator l.parts
