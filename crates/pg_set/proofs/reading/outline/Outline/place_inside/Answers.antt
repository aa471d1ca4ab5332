use Rattle.std.proofs.Common.{refl, ap}
use Rattle.std.proofs.Math.Seq.{map-set_same}
use Rattle.pg_schema.specs.rules.Scopes.{enum_places, type_places}
use Rattle.pg_set.specs.inner.reading.OutlinedRows.{type_row}
use Rattle.pg_set.proofs.lemmas.outline.OutlinedPlaces.{placed_inside}
use Rattle.pg_set.proofs.reading.outline.Outline.place_inside.Goals as goal

pub returns-in-Some-clause-rows : goal.returns-in-Some-clause-rows
returns-in-Some-clause-rows c = map-set_same type_row c.args.self.now.types.items c.args.id.index _ c.in-Some.outlined.now (ap type_row c.in-Some.ensures.value)

pub returns-in-Some-clause-inside : goal.returns-in-Some-clause-inside
returns-in-Some-clause-inside c = λ front behind r is at.
    placed_inside c.args.self.now.types.items c.args.id.index c.in-Some.outlined.now _ (type_places c.args.types.items) (enum_places c.args.enums.items) front behind r c.in-Some.ensures.value refl is at
