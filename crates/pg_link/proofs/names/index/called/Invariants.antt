use Rattle.std.proofs.Common.{◌≡◌, take, string_bytes}
use Rattle.pg_link.specs.names.Names.{texts, called}
use Rattle.pg_link.proofs.names.index.called.Given as goal

abbrev pub invariant-loop-word : goal.invariant-loop-word
invariant-loop-word l = string_bytes l.text ≡ called (texts (take l.word-index l.words))
