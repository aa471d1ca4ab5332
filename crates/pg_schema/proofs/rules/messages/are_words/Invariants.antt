use Rattle.std.proofs.Common.{◌≡◌, true, take}
use Rattle.std.specs.List.{list_all}
use Rattle.std.specs.String.{string_bytes}
use Rattle.pg_schema.specs.rules.Words.{is_word}
use Rattle.pg_schema.proofs.rules.messages.are_words.Given as goal

abbrev pub invariant-loop-text : goal.invariant-loop-text
invariant-loop-text l = list_all (λ text. is_word (string_bytes text)) (take l.text-index l.texts) ≡ true
