use Rattle.std.proofs.Common.{◌≡◌, take}
use Rattle.pg_set.specs.inner.Lent.{fields_at, lent}
use Rattle.pg_set.proofs.writing.messages.declared_fields.Given as goal

abbrev pub invariant-loop-number : goal.invariant-loop-number
invariant-loop-number l = lent l.fields.items ≡ fields_at l.source l.id (take l.number-index l.message_type.declared.items)
