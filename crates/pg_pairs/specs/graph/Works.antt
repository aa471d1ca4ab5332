-- What a search counts.
use Rattle.std.specs.Prelude.{◌+◌}
use Rattle.pg_pairs.specs.declared.graph.work.Work.{Work}

abbrev pub opened_more : Work → Work
opened_more work = record { settled = work.settled; relaxed = work.relaxed; opened = work.opened + 1 }

abbrev pub relaxed_more : Work → Work
relaxed_more work = record { settled = work.settled; relaxed = work.relaxed + 1; opened = work.opened }
