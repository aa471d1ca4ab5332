use Rattle.std.proofs.Common.{sym}
use Rattle.pg_set.proofs.lemmas.outline.Escaped.{no_dot}
use Rattle.pg_set.proofs.reading.set_names.undotted.Goals as goal

pub returns-in-None : goal.returns-in-None
returns-in-None c = sym (no_dot c.args.name.now (λ rest is. c.in-None.ensures.cases rest is))
