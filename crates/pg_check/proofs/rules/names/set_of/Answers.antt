use Rattle.std.proofs.Common.{true, map, take, sym, subst}
use Rattle.std.proofs.lemmas.Map.Text.{btree_set_updates_text}
use Rattle.std.specs.String.{string_bytes}
use Rattle.pg_schema.specs.rules.TextSets.{IsSetOf}
use Rattle.pg_check.proofs.lemmas.rules.TextSets.{set_more, texts_step}
use Rattle.pg_check.proofs.rules.names.set_of.Goals as goal

pub loop-text-preserved : goal.loop-text-preserved
loop-text-preserved c =
    let key = string_bytes c.in_ok-clone.field-0 in
    let done = map string_bytes (take c.loop-text.text-index c.args.texts.now) in
    subst (λ ts. IsSetOf ts c.insert.new.self) (sym (texts_step c.args.texts.now c.loop-text.text-index c.text-item.result key c.loop-text-test.true c.text-item.is c.in_ok-clone.ensures.cases))
    (set_more done key c.loop-text.set c.insert.new.self (btree_set_updates_text key c.loop-text.set c.insert.new.self true c.in_ok-insert.ensures.updates) c.loop-text.invariant)
