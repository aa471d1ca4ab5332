-- The laws that proofs of other crates cite. Each is the contract of the public function of its name.
use Rattle.pg_least.specs.laws.LossLaws.{CompatibleIsSeen, LostMessagesBreak, NamedTypesAreThere}
use Rattle.pg_least.specs.laws.Tables.{TablesByLines}
use Rattle.pg_least.proofs.Listed.{among_found, found_at, there_among}
use Rattle.pg_least.proofs.Losses.{each_seen, lost_breaks}
use Rattle.pg_least.proofs.NamedTypes.{named_there}

pub lost_messages_break : LostMessagesBreak
lost_messages_break = lost_breaks

pub compatible_is_seen : CompatibleIsSeen
compatible_is_seen = each_seen

pub named_types_are_there : NamedTypesAreThere
named_types_are_there = named_there

pub tables_by_lines : TablesByLines
tables_by_lines = record { among = among_found; there = there_among; by_line = found_at }
