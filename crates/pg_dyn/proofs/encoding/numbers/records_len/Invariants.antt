-- The records of the words before the index are counted.
use Rattle.std.proofs.Common.{◌≡◌, length, take}
use Rattle.pg_schema.specs.declared.parts.field.Element.TheVariants as elements
use Rattle.pg_dyn.specs.encoding.Lending.{word_item}
use Rattle.pg_dyn.specs.encoding.Written.{capped, single_bytes}
use Rattle.pg_dyn.proofs.encoding.numbers.records_len.Given as goal

abbrev pub invariant-loop-word : goal.invariant-loop-word
invariant-loop-word l = l.total ≡ capped (length (single_bytes (word_item l.fn.from) l.fn.number (elements.Scalar l.fn.scalar) (take l.word-index l.fn.words)))
