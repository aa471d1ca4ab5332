use Rattle.std.proofs.Common.{subst, sym}
use Rattle.pg_schema.specs.Invariant.{IsSchema, HasDistinctNames}
use Rattle.pg_schema.proofs.lemmas.schema.NameTables.{distinct_from_table, table_along}
use Rattle.pg_schema.proofs.lemmas.rules.SoundNames.{distinct_from_sound}
use Rattle.pg_schema.proofs.lemmas.rules.SoundShapes.{shape_from_sound}
use Rattle.pg_schema.proofs.schema.Schema.from_parts.Goals as goal

checked : (c : goal.In-Ok-names_of) → IsSchema c.args.parts
checked c =
    let sound = c.in-Ok.ensures.0 c.if-not-is_sound.false in
    let table = table_along _ _ c.in-Ok-names_of.names c.deref.ensures.value c.in-Ok-names_of.ensures.table in
    record { shape = shape_from_sound c.args.parts sound; names = distinct_from_table _ c.in-Ok-names_of.names table; sound = sound }

pub invariant_of-result : goal.invariant_of-result
invariant_of-result c = (checked c, table_along _ _ c.in-Ok-names_of.names c.deref.ensures.value c.in-Ok-names_of.ensures.table)

pub returns-in-Ok-names_of-clause-checked : goal.returns-in-Ok-names_of-clause-checked
returns-in-Ok-names_of-clause-checked c = checked c

pub returns-in-Err-clause-broken : goal.returns-in-Err-clause-broken
returns-in-Err-clause-broken c =
    λ is sound. c.in-Err.ensures.twice is (subst HasDistinctNames (sym c.deref.ensures.value) (distinct_from_sound c.args.parts sound.names))
