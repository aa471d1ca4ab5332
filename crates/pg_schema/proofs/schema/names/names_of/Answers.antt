use Rattle.std.proofs.Common.{sym, ◌∙◌, refl}
use Rattle.std.proofs.lemmas.Option.{slice_get_read}
use Rattle.std.proofs.lemmas.Map.Text.{btree_map_updates_text}
use Rattle.pg_schema.proofs.lemmas.schema.NameTables.{named, table_more, name_twice, table_all}
use Rattle.pg_schema.proofs.schema.names.names_of.Goals as goal

pub returns-in-Ok-Some-clause-twice : goal.returns-in-Ok-Some-clause-twice
returns-in-Ok-Some-clause-twice c =
    λ _ distinct. name_twice c.loop-index.index c.args.types.now _ c.loop-index.names c.in-Ok-Some.field-0-0
    (named c.args.types.now c.loop-index.index c.index-types-index.result _ (slice_get_read _ _ _ _ refl c.loop-index-test.true c.index-types-index.is) c.in-Ok.ensures.cases)
    (sym c.in-Ok-Some.ensures.old ∙ c.in-Ok-Some.field-0-is) c.loop-index.invariant distinct

pub loop-index-preserved : goal.loop-index-preserved
loop-index-preserved c =
    table_more c.loop-index.index c.args.types.now _ c.loop-index.names c.insert.new.self
    (named c.args.types.now c.loop-index.index c.index-types-index.result _ (slice_get_read _ _ _ _ refl c.loop-index-test.true c.index-types-index.is) c.in-Ok.ensures.cases)
    (sym c.in-Ok-None.ensures.old ∙ c.in-Ok-None.field-0-is)
    (btree_map_updates_text _ c.loop-index.names c.insert.new.self _ c.in-Ok-None.ensures.updates) c.loop-index.invariant

pub returns-clause-table : goal.returns-clause-table
returns-clause-table c = table_all c.loop-index.index c.args.types.now c.loop-index.names c.loop-index-test.false c.loop-index.invariant
