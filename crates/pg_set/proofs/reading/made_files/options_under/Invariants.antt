use Rattle.std.proofs.Common.{◌≡◌, map, take}
use Rattle.pg_dyn.specs.message.Kept.{message_of}
use Rattle.pg_set.specs.stated.StatedFiles.{options_under}
use Rattle.pg_set.specs.stated.Views.{option_view}
use Rattle.pg_set.proofs.reading.made_files.options_under.Given as goal

abbrev pub invariant-loop-number : goal.invariant-loop-number
invariant-loop-number l = map option_view l.options.items ≡ options_under (message_of l.message) (take l.number-index l.numbers)
