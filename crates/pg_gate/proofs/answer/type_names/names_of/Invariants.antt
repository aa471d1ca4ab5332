-- The types before the index have their names.
use Rattle.std.proofs.Common.{◌≡◌, map, string_bytes, take}
use Rattle.pg_schema.specs.declared.parts.message_type.MessageType.{MessageType}
use Rattle.pg_gate.proofs.answer.type_names.names_of.Given as goal

abbrev pub invariant-loop-message_type : goal.invariant-loop-message_type
invariant-loop-message_type l =
    map string_bytes l.names.items ≡ map (λ (type : MessageType). string_bytes type.name) (take l.message_type-index l.types)
