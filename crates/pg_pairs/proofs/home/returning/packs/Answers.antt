use Rattle.std.proofs.Common.{map, ap, sym, ◌∙◌}
use Rattle.pg_schema.specs.Parts.{field_shape, shape_of}
use Rattle.pg_pairs.proofs.lemmas.home.ReturnSteps.{packs_none, packs_of}
use Rattle.pg_pairs.proofs.home.returning.packs.Goals as goal

pub returns-in-Some : goal.returns-in-Some
returns-in-Some c = c.one_becomes_packed.ensures ∙ packs_of c.args.old.now (shape_of c.args.new.now) c.args.pair c.deref.result.now (ap (map field_shape) c.deref.ensures.value ∙ c.in-Some.ensures.fields)

pub returns-in-None : goal.returns-in-None
returns-in-None c = packs_none c.args.old.now (shape_of c.args.new.now) c.args.pair (sym c.in-None.ensures.exact)
