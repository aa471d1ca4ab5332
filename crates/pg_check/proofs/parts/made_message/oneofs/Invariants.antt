use Rattle.std.proofs.Common.{◌≡◌, map, take}
use Rattle.std.specs.String.{string_bytes}
use Rattle.pg_check.specs.parts.MadeMessages.{oneofs}
use Rattle.pg_check.proofs.parts.made_message.oneofs.Given as goal

abbrev pub invariant-loop-part : goal.invariant-loop-part
invariant-loop-part l = map string_bytes l.names.items ≡ oneofs (take l.part-index l.body)
