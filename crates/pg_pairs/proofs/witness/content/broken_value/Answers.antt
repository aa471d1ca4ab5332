use Rattle.std.proofs.Common.{◌≡◌, true, IfOk, option_map, refl, sym, ◌∙◌, subst}
use Rattle.pg_dyn.specs.message.Kept.{message_of}
use Rattle.pg_dyn.specs.message.Message.{Msg}
use Rattle.pg_pairs.specs.witness.Carried.{broken_value}
use Rattle.pg_pairs.specs.inner.CarriedItems.{value_item}
use Rattle.pg_pairs.specs.gaps.Gaps.{gap_item}
use Rattle.pg_pairs.specs.graph.GraphView.{seen}
use Rattle.pg_pairs.proofs.lemmas.witness.TakenItems.{if_ok_map, plain_items}
use Rattle.pg_pairs.proofs.witness.content.broken_value.Goals as goal

pub returns-in-Some-clause-seen : goal.returns-in-Some-clause-seen
returns-in-Some-clause-seen c =
    let gap = gap_item (seen c.args.graph.now) true c.args.elements.0 c.args.elements.1 in
    if_ok_map c.child_item.result (λ value h. h ∙ subst (λ o. option_map Msg (option_map message_of o) ≡ broken_value (option_map message_of o) gap) (sym c.in-Some.is) refl) c.child_item.ensures.seen

pub returns-in-None-clause-seen : goal.returns-in-None-clause-seen
returns-in-None-clause-seen c =
    let gap = gap_item (seen c.args.graph.now) true c.args.elements.0 c.args.elements.1 in
    subst (λ o. IfOk c.gap_item.result (λ value. option_map value_item value ≡ broken_value (option_map message_of o) gap)) (sym c.in-None.is)
    (plain_items c.gap_item.result gap c.gap_item.ensures.item c.gap_item.ensures.key)
