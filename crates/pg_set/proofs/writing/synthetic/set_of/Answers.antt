use Rattle.std.proofs.Common.{map, take, true, sym, subst, refl, ◌∙◌, ap}
use Rattle.std.proofs.lemmas.Map.Text.{btree_set_updates_text}
use Rattle.std.specs.String.{string_bytes}
use Rattle.pg_set.proofs.lemmas.lists.TextSets.{texts_step}
use Rattle.pg_set.specs.inner.writing.MadeNames.{HasMade, begins_made}
use Rattle.pg_set.proofs.lemmas.writing.SyntheticLaws.{made_more, made_others}
use Rattle.pg_set.proofs.writing.synthetic.set_of.Goals as goal

pub loop-name-preserved : goal.loop-name-preserved
loop-name-preserved c =
    let key = string_bytes c.in_ok-clone.field-0 in
    let done = map string_bytes (take c.loop-name.name-index c.args.names.now) in
    let step = texts_step c.args.names.now c.loop-name.name-index c.name-item.result key c.loop-name-test.true c.name-item.is c.in_ok-clone.ensures.cases in
    subst (λ ts. HasMade ts c.insert.new.self) (sym step)
    (made_more done key c.loop-name.set c.insert.new.self (btree_set_updates_text key c.loop-name.set c.insert.new.self true c.in_ok-insert.ensures.updates) c.loop-name.invariant)

pub loop-name-preserved-then-not-begins_made : goal.loop-name-preserved-then-not-begins_made
loop-name-preserved-then-not-begins_made c =
    let key = string_bytes c.name-item.result in
    let done = map string_bytes (take c.loop-name.name-index c.args.names.now) in
    let step = texts_step c.args.names.now c.loop-name.name-index c.name-item.result key c.loop-name-test.true c.name-item.is refl in
    subst (λ ts. HasMade ts c.loop-name.set) (sym step)
    (made_others done key c.loop-name.set (ap begins_made (sym c.deref.ensures) ∙ (sym c.begins_made.ensures ∙ c.if-not-begins_made.true)) c.loop-name.invariant)
