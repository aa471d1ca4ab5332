use Rattle.std.proofs.Common.{◌≡◌, true, ap, sym, ◌∙◌}
use Rattle.std.specs.String.{string_bytes}
use Rattle.pg_schema.specs.rules.DeclaredNames.{entry_name}
use Rattle.pg_schema.specs.Shape.{is_map}
use Rattle.pg_set.proofs.lemmas.reading.KeptOnce.{kept_more}
use Rattle.pg_set.proofs.reading.named_entries.named_once.Goals as goal

pub loop-field-preserved : goal.loop-field-preserved
loop-field-preserved c =
    let f = c.field-item.result in
    let map : is_map f.presence ≡ true = sym c.is_map.ensures ∙ c.if-not-is_map.false in
    let own = c.in_ok-entry.ensures ∙ ap entry_name c.as_str.ensures.value in
    kept_more c.args.fields.now c.loop-field.field-index f c.loop-field-test.true c.field-item.is c.loop-field.once c.keep.new.once (string_bytes c.in_ok-entry.entry) map own c.in_ok-keep.ensures c.loop-field.invariant
