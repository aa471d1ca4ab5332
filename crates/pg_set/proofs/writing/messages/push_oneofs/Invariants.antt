use Rattle.std.proofs.Common.{◌≡◌, ◌++◌, map, take}
use Rattle.pg_set.specs.inner.writing.Drafts.{listed}
use Rattle.std.specs.String.{string_bytes}
use Rattle.pg_set.specs.declared.descriptor.places.TheConstants.{ONEOF}
use Rattle.pg_set.specs.writing.Messages.{oneof_items}
use Rattle.pg_set.proofs.writing.messages.push_oneofs.Given as goal

abbrev pub invariant-loop-name : goal.invariant-loop-name
invariant-loop-name l = l.made ≡ listed ONEOF (l.fn.made.items ++ map oneof_items (map string_bytes (take l.name-index l.names)))
