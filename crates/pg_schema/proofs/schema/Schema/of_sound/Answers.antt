use Rattle.std.proofs.Common.{subst, sym}
use Rattle.pg_schema.specs.Invariant.{HasDistinctNames}
use Rattle.pg_schema.proofs.lemmas.schema.NameTables.{table_along}
use Rattle.pg_schema.proofs.lemmas.rules.SoundNames.{distinct_from_sound}
use Rattle.pg_schema.proofs.lemmas.rules.SoundShapes.{shape_from_sound}
use Rattle.pg_schema.proofs.schema.Schema.of_sound.Goals as goal

pub invariant_of-result : goal.invariant_of-result
invariant_of-result c =
    let sound = c.requires in (
      record { shape = shape_from_sound c.args.parts sound; names = distinct_from_sound c.args.parts sound.names; sound = sound },
      table_along _ _ c.in-Ok.names c.deref.ensures.value c.in-Ok.ensures.table,
    )

pub unreachable-requires : goal.unreachable-requires
unreachable-requires c =
    c.in-Err-Invariant.ensures.twice c.in-Err-Invariant.field-0-is (subst HasDistinctNames (sym c.deref.ensures.value) (distinct_from_sound c.args.parts c.requires.names))
