use Rattle.std.proofs.Common.{◌≡◌, ◌∷◌, take, string_bytes}
use Rattle.pg_link.specs.names.Names.{texts}
use Rattle.pg_link.specs.names.Resolves.{part_words}
use Rattle.pg_link.proofs.uses.words_of.Given as goal

abbrev pub invariant-loop-word : goal.invariant-loop-word
invariant-loop-word l = texts l.words.items ≡ string_bytes l.dotted.first.text ∷ part_words (take l.word-index l.word-items)
