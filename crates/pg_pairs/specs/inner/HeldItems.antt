-- An item of a content, whichever way it is held.
use Rattle.pg_dyn.specs.declared.message_ref.ValueRef.{ValueRef}
use Rattle.pg_pairs.specs.declared.witness.same_contents.HeldItem.{HeldItem}
use Rattle.pg_pairs.specs.declared.witness.same_contents.HeldItem.TheVariants as held

abbrev pub item_value : HeldItem → ValueRef
item_value (held.Lent value) = value.now
item_value (held.Made value) = value
