use Rattle.std.proofs.Common.{◌≡◌, ◌++◌, ◌+◌, ◌≤◌, drop}
use Rattle.pg_set.specs.declared.descriptor.places.TheConstants.{FIELD}
use Rattle.pg_set.specs.writing.Fields.{fields_items}
use Rattle.pg_set.specs.inner.Lent.{lent}
use Rattle.pg_set.specs.writing.Places.{declared_in}
use Rattle.pg_set.proofs.writing.messages.fields.Given as goal

abbrev pub invariant-loop-field : goal.invariant-loop-field
invariant-loop-field l = record {
  items : l.made.items ++ fields_items (declared_in l.writer) l.scope l.next (lent (drop l.field-index l.fields)) ≡ fields_items (declared_in l.writer) l.scope l.first (lent l.fields);
  of_type : l.made.type ≡ FIELD;
  next : l.next ≤ l.first + l.field-index;
}
