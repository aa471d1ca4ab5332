-- The numbers before the index have their copies.
use Rattle.std.proofs.Common.{◌≡◌, true, map, take}
use Rattle.pg_dyn.specs.message_ref.Borrowed as borrowed
use Rattle.pg_dyn.specs.word.Coding.{scalar_form}
use Rattle.pg_dyn.specs.word.NumberLists.{number_item}
use Rattle.pg_dyn.specs.message.Seen.{item_seen}
use Rattle.pg_dyn.proofs.number_list.NumberList.to_values.Given as goal

abbrev pub invariant-loop-word : goal.invariant-loop-word
invariant-loop-word l =
    map (item_seen true) l.owned.items ≡ map (borrowed.item_seen true) (map (number_item (scalar_form l.self.scalar)) (take l.word-index l.word-items))
