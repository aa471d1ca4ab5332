-- The two message types of one full name, and whether the reader of the new one reads what the writer of the old one
-- meant. A view says which numbers of two enums are the same item.
use Rattle.std.specs.Prelude.{◌≡◌, ◌≤◌, length, true, Some, ◌≢◌, ℕ, List}
use Rattle.pg_schema.specs.Shape.{Shape, fields}
use Rattle.pg_schema.specs.declared.parts.field.TypeId.{TypeId}
use Rattle.pg_schema.specs.declared.parts.Parts.{Parts}
use Rattle.pg_schema.specs.Parts.{name_at}
use Rattle.pg_dyn.specs.fitting.Belonging.{IsMessage}
use Rattle.pg_dyn.specs.views.Comparison.{View, records_outside, same, unshared_bytes}
use Rattle.pg_dyn.specs.reading.Decoding.{dec}
use Rattle.pg_dyn.specs.encoding.Encoding.{cap, enc}
use Rattle.pg_dyn.specs.message.Message.{IsPlain, Message, unknown_of}
use Rattle.pg_dyn.specs.encoding.Writing.{bytes_of}
use Rattle.pg_pairs.specs.declared.choices.choice.Pair.{Pair}

-- the message type of that full name
abbrev pub IsNamed : Parts → List ℕ → TypeId → Type 0
IsNamed parts name id = name_at parts.types.items id ≡ Some name

-- no message type has the name
abbrev pub Lacks : Parts → List ℕ → Type 0
Lacks parts name = (id : TypeId) → name_at parts.types.items id ≢ Some name

-- the two message types of that full name
pub record AreRoots (old new : Parts) (root : List ℕ) (pair : Pair) : Type 0 where
  pub old_named : IsNamed old root pair.old
  pub new_named : IsNamed new root pair.new

-- a message that the old writer encodes: one of the type, without unknown records, of no more bytes than an encoding
-- may have
pub record OldWrites (old : Shape) (pair : Pair) (message : Message) : Type 0 where
  pub is_message : IsMessage old pair.old message
  pub is_plain : IsPlain message
  pub has_encoding : length (enc old pair.old message) ≤ cap

-- The new reader reads the old writer's bytes. It finds the same values in the fields of both types, at every depth,
-- and gives back all others: among the records that it doesn't know, those of numbers that its type hasn't are the
-- bytes that the writer wrote for them.
pub record NewSees (view : View) (old new : Shape) (pair : Pair) (message : Message) : Type 0 where
  pub read : Message
  pub reads : dec new pair.new (enc old pair.old message) ≡ Some read
  pub same : same view old new pair.old pair.new message read ≡ true
  pub gives_back : bytes_of (records_outside (fields new pair.new) (unknown_of read))
      ≡ unshared_bytes old pair.old (fields new pair.new) message

-- The old writer encodes the message, and the new reader misreads it or loses a value.
pub record IsLost (view : View) (old new : Shape) (pair : Pair) (message : Message) : Type 0 where
  pub written : OldWrites old pair message
  pub not_seen : NewSees view old new pair message → ⊥
