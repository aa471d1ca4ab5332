use Rattle.std.proofs.Common.{◌∙◌}
use Rattle.pg_check.proofs.lemmas.parts.places.EnumPlaces.{one_placed}
use Rattle.pg_check.proofs.parts.enum_places.places_of.Goals as goal

pub names-preserved : goal.names-preserved
names-preserved c =
    one_placed c.args.names.items c.names.names.items c.pop.new.self.items c.in-Some.name c.names.places c.insert.new.self c.len.result c.names.invariant c.in-Some.ensures.items (c.len.ensures ∙ c.pop.new.self.ok.0) c.in_ok-insert.ensures.updates
