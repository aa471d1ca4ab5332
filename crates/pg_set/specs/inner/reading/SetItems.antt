-- What an item of a set's message says.
use Rattle.pg_dyn.specs.message.Kept.{message_of}
use Rattle.pg_dyn.specs.message.Message.{Int, Bytes, Item, Plain, Msg}
use Rattle.pg_set.specs.declared.descriptor.access.SetItem.{SetItem}
use Rattle.pg_set.specs.declared.descriptor.access.SetItem.TheVariants as items

abbrev pub said : SetItem → Item
said (items.Number n) = Plain (Int n)
said (items.Text text) = Plain (Bytes text.now)
said (items.Message child) = Msg (message_of child)
