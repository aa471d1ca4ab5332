use Rattle.std.proofs.Common.{◌≡◌, true, take, length}
use Rattle.std.specs.List.{list_all}
use Rattle.pg_schema.specs.rules.Messages.{is_message_type}
use Rattle.pg_schema.proofs.rules.messages.are_message_types.Given as goal

abbrev pub invariant-loop-message_type : goal.invariant-loop-message_type
invariant-loop-message_type l = list_all (is_message_type (length l.message_types) l.enums) (take l.message_type-index l.message_types) ≡ true
