use Rattle.std.proofs.Common.{sym, ◌∙◌}
use Rattle.pg_schema.specs.Parts.{shape_of}
use Rattle.pg_pairs.proofs.lemmas.graph.ChildSteps.{no_children}
use Rattle.pg_pairs.proofs.graph.children.children.Goals as goal

pub returns-in-None : goal.returns-in-None
returns-in-None c = c.new.ensures.items ∙ sym (no_children c.args.old.now (shape_of c.args.new.now) c.args.pair (sym c.in-None.ensures.exact))
