use Rattle.std.proofs.Common.{drop, map}
use Rattle.pg_dyn.specs.message.Kept.{message_of}
use Rattle.pg_set.specs.inner.Declarations.{all_named}
use Rattle.pg_set.proofs.lemmas.outline.Declaring.{Left}
use Rattle.pg_set.proofs.reading.declare.declare_each.Given as goal

abbrev pub invariant-loop-message : goal.invariant-loop-message
invariant-loop-message l = Left (all_named l.scope l.named (map message_of (drop l.message-index l.messages))) (all_named l.scope l.named (map message_of l.messages)) l.names l.fn.names
