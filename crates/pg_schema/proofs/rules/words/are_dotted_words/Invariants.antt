use Rattle.std.proofs.Common.{◌≡◌, drop}
use Rattle.std.specs.List.{list_all}
use Rattle.pg_schema.specs.rules.Words.{is_word, parts_at_dots}
use Rattle.pg_schema.proofs.lemmas.rules.WordLemmas.{words_from}
use Rattle.pg_schema.proofs.rules.words.are_dotted_words.Given as goal

-- all are words exactly where those that are left are
abbrev pub invariant-loop-byte : goal.invariant-loop-byte
invariant-loop-byte l = words_from l.begins (drop l.byte-index l.bytes) ≡ list_all is_word (parts_at_dots l.bytes)
