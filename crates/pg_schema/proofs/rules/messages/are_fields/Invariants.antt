use Rattle.std.proofs.Common.{◌≡◌, true, take}
use Rattle.std.specs.List.{list_all}
use Rattle.pg_schema.specs.rules.Messages.{is_field}
use Rattle.pg_schema.proofs.rules.messages.are_fields.Given as goal

abbrev pub invariant-loop-field : goal.invariant-loop-field
invariant-loop-field l = list_all (is_field l.oneofs l.types l.enums) (take l.field-index l.fields) ≡ true
