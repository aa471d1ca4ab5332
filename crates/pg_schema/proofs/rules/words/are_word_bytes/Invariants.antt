use Rattle.std.proofs.Common.{◌≡◌, true, take}
use Rattle.pg_schema.specs.rules.Words.{is_word_byte}
use Rattle.std.specs.List.{list_all}
use Rattle.pg_schema.proofs.rules.words.are_word_bytes.Given as goal

abbrev pub invariant-loop-byte : goal.invariant-loop-byte
invariant-loop-byte l = list_all is_word_byte (take l.byte-index l.bytes) ≡ true
