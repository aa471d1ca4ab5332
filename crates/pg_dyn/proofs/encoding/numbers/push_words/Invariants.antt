-- The bodies of the words before the index are added.
use Rattle.std.proofs.Common.{◌≡◌, ◌++◌, take}
use Rattle.pg_schema.specs.declared.parts.field.Element.TheVariants as elements
use Rattle.pg_dyn.specs.encoding.Lending.{word_item}
use Rattle.pg_dyn.specs.encoding.Written.{packed_body}
use Rattle.pg_dyn.proofs.encoding.numbers.push_words.Given as goal

abbrev pub invariant-loop-word : goal.invariant-loop-word
invariant-loop-word l = l.out.items ≡ l.fn.out.items ++ packed_body (word_item l.fn.from) (elements.Scalar l.fn.scalar) (take l.word-index l.fn.words)
