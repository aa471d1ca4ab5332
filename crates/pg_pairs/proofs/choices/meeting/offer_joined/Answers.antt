use Rattle.std.proofs.Common.{rules, arith, ◌≡◌, ◌++◌, suc, slice_index_or, true, false, subst}
use Rattle.pg_schema.specs.declared.parts.field.Field.{Field}
use Rattle.pg_schema.specs.Parts.{field_shape}
use Rattle.pg_dyn.specs.reading.Content.{same_oneof}
use Rattle.pg_pairs.specs.choices.Choices.{affordable}
use Rattle.pg_pairs.specs.inner.OneofLinks.{joined_from}
use Rattle.pg_pairs.proofs.lemmas.choices.OneofLinks.{Follows, skips, offers}
use Rattle.pg_pairs.proofs.lemmas.choices.OptionSteps.{item_is}
use Rattle.pg_pairs.proofs.choices.meeting.offer_joined.Goals as goal

pub loop-later-preserved-then-same_oneof : goal.loop-later-preserved-then-same_oneof
loop-later-preserved-then-same_oneof c = λ gs are f f_is.
    let list = c.args.list.now in
    let first = c.index-list-at.result in
    let second = c.index-list-later.result in
    let later = c.loop-later.later in
    let there = c.loop-later-test.true in
    let link = slice_index_or c.args.links.now later (record { next = 0; other = 0 }) in
    let old : same_oneof first.oneof second.oneof ≡ true = search rules in
    subst (λ (x : Field). Follows gs list (field_shape x) (c.args.choices.now.items ++ affordable (joined_from gs (field_shape x) list (suc c.args.at))) c.loop-later.choices.items link.other) (item_is list c.args.at first f c.requires.at c.index-list-at.is f_is)
    (skips gs list (field_shape first) second _ c.loop-later.choices.items later there c.index-list-later.is (c.loop-later.invariant gs are first c.index-list-at.is) link.other old (are.each later (record { next = 0; other = 0 }) (omega arith) there second c.index-list-later.is).other)

pub loop-later-preserved : goal.loop-later-preserved
loop-later-preserved c = λ gs are f f_is.
    let list = c.args.list.now in
    let first = c.index-list-at.result in
    let second = c.index-list-later.result in
    let later = c.loop-later.later in
    let there = c.loop-later-test.true in
    let link = slice_index_or c.args.links.now later (record { next = 0; other = 0 }) in
    let apart : same_oneof first.oneof second.oneof ≡ false = search rules in
    subst (λ (x : Field). Follows gs list (field_shape x) (c.args.choices.now.items ++ affordable (joined_from gs (field_shape x) list (suc c.args.at))) c.offer_meeting.new.choices.items link.next) (item_is list c.args.at first f c.requires.at c.index-list-at.is f_is)
    (offers gs list (field_shape first) second _ c.loop-later.choices.items later there c.index-list-later.is (c.loop-later.invariant gs are first c.index-list-at.is) link.next c.offer_meeting.new.choices.items apart (are.each later (record { next = 0; other = 0 }) (omega arith) there second c.index-list-later.is).next c.in_ok-offer_meeting.ensures)
