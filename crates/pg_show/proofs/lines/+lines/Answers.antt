-- A message's lines are those of its contents and of its unknown records, and what is inside weighs less.
use Rattle.std.proofs.Common.{◌∙◌, ◌++◌, flat_map, None, string_bytes, take, take_all, ap, sym, arith, append_assoc}
use Rattle.std.proofs.lemmas.Result.{on_ok_weaker}
use denote.Param.Weighed.{at_most}
use Rattle.pg_dyn.specs.message.Kept.{ends, type_of}
use Rattle.pg_dyn.specs.message.KeptParts.{unknown_of}
use Rattle.pg_dyn.specs.message.Weights.{weight}
use Rattle.pg_dyn.specs.message_ref.Borrowed.{fields_onto}
use Rattle.pg_dyn.specs.word.NumberLists.{numbers_in}
use Rattle.pg_show.specs.Contents.{content_lines, record_line, value_lines}
use Rattle.pg_show.proofs.ByContent.{message_by_content}
use Rattle.pg_show.proofs.ByIndex.{one_more, within_most}
use Rattle.pg_show.proofs.Weights.{field_weight, fields_heavier, some_weight, value_weight}
use Rattle.pg_show.proofs.lines.+lines.Goals as goal

pub push_message-push_content-requires : goal.push_message-push_content-requires
push_message-push_content-requires t c =
    let fs = c.contents-number-items.result.now in
    let bound = at_most field_weight fs c.loop-number.number-index c.loop-number-item.result c.loop-number-test.true in
    let heavier = fields_heavier fs (ends (type_of c.args.message.now) (unknown_of c.args.message.now)) in
    omega (arith, c.decreases, bound, ap field_weight c.loop-number-item.is, heavier, ap weight c.contents-number-items.ensures.whole)

pub push_message-returns : goal.push_message-returns
push_message-returns t c =
    let m = c.args.message.now in
    let fs = c.contents-number-items.result.now in
    let us = c.unknown.result.now in
    let parts = c.args.level.now.schema.now in
    let type = c.args.level.now.type_id in
    let indent = c.args.level.now.indent.now in
    let before = string_bytes c.args.text.now in
    let whole = c.contents-number-items.ensures.whole ∙ ap (λ rs. fields_onto fs (ends (type_of m) rs)) (sym c.unknown.ensures) in
    on_ok_weaker c.push_unknown.result
    (λ added.
    added
    ∙ ap (λ t. t ++ flat_map (record_line indent) us) (c.loop-number.invariant ∙ ap (λ gs. before ++ flat_map (content_lines parts type indent) gs) (take_all c.loop-number.number-index fs c.loop-number-test.false))
    ∙ append_assoc before (flat_map (content_lines parts type indent) fs) (flat_map (record_line indent) us)
    ∙ ap (λ t. before ++ t) (message_by_content parts type indent m (type_of m) fs us whole))
    c.push_unknown.ensures

pub push_value-push_message-requires : goal.push_value-push_message-requires
push_value-push_message-requires t c =
    omega (arith, c.decreases, ap value_weight c.in-Msg.is, ap weight c.deref.ensures, some_weight c.deref.result.now)

pub push_numbers-push_value-requires : goal.push_numbers-push_value-requires
push_numbers-push_value-requires t c =
    omega (arith, c.decreases, within_most value_weight (numbers_in c.args.numbers.now) c.loop-at.at c.get-value.result c.get-value.ensures.item)

pub push_numbers-loop-at-preserved : goal.push_numbers-loop-at-preserved
push_numbers-loop-at-preserved t c =
    let row = c.args.row.now in
    let lines = value_lines row.schema.now row.indent.now row.number row.name.now row.element None in
    let before = string_bytes c.args.text.now in
    let numbers = numbers_in c.args.numbers.now in
    c.in_ok-push_value.ensures
    ∙ ap (λ t. t ++ lines c.get-value.result) c.loop-at.invariant
    ∙ append_assoc before (flat_map lines (take c.loop-at.at numbers)) (lines c.get-value.result)
    ∙ ap (λ t. before ++ t) (sym (one_more lines numbers c.loop-at.at c.get-value.result c.get-value.ensures.item))
