-- The records of the words before the index are added.
use Rattle.std.proofs.Common.{◌≡◌, ◌++◌, take}
use Rattle.pg_schema.specs.declared.parts.field.Element.TheVariants as elements
use Rattle.pg_dyn.specs.encoding.Lending.{word_item}
use Rattle.pg_dyn.specs.encoding.Written.{single_bytes}
use Rattle.pg_dyn.proofs.encoding.numbers.push_records.Given as goal

abbrev pub invariant-loop-word : goal.invariant-loop-word
invariant-loop-word l = l.out.items ≡ l.fn.out.items ++ single_bytes (word_item l.fn.from) l.fn.number (elements.Scalar l.fn.scalar) (take l.word-index l.fn.words)
