use Rattle.pg_set.proofs.lemmas.descriptor.MessageLaws.{filled_items, no_items}
use Rattle.pg_set.proofs.reading.made_entries.lacks_all.Goals as goal

pub returns-in-None : goal.returns-in-None
returns-in-None c = record { ok = no_items c.args.number c.args.message.now c.in-None.ensures.content; refused = tt }

pub returns-in-Some-clause-refused : goal.returns-in-Some-clause-refused
returns-in-Some-clause-refused c = filled_items c.args.number c.args.message.now c.in-Some._content.now c.in-Some.ensures.content c.in-Some.ensures.filled
