use Rattle.std.proofs.Common.{◌≡◌, ◌++◌, map, take}
use Rattle.std.specs.String.{string_bytes}
use Rattle.pg_check.specs.rules.ReservedItems.{text_of}
use Rattle.pg_check.proofs.rules.reserved.push_texts.Given as goal

abbrev pub invariant-loop-text : goal.invariant-loop-text
invariant-loop-text l = map string_bytes l.names.items ≡ map string_bytes l.fn.names.items ++ map text_of (take l.text-index l.texts)
