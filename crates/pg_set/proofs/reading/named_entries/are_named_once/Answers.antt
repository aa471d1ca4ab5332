use Rattle.std.proofs.Common.{◌≡◌, map, ap, sym, ◌∙◌}
use Rattle.pg_dyn.specs.message.Kept.{message_of}
use Rattle.pg_set.specs.stated.SetMessages.{text_at}
use Rattle.pg_set.specs.stated.StatedFields.{is_named_once}
use Rattle.pg_set.specs.inner.reading.NamedEntries.{is_kept_once}
use Rattle.pg_set.specs.stated.Views.{field_view}
use Rattle.pg_set.proofs.lemmas.reading.KeptOnce.{all_more, kept_is}
use Rattle.pg_set.proofs.lemmas.order.SetLaws.{all_lost}
use Rattle.pg_set.proofs.reading.named_entries.are_named_once.Goals as goal

pub returns-then-not-named : goal.returns-then-not-named
returns-then-not-named c =
    let fs = map field_view c.args.fields.now in
    let m = c.entry-item.result in
    let named : c.is_once-named.result ≡ is_named_once fs (message_of m) = c.is_once-named.ensures ∙ (ap is_kept_once (c.in_ok-once.ensures (text_at 1 (message_of m))) ∙ kept_is _) in
    sym (all_lost (is_named_once fs) c.args.entries.now c.loop-entry.entry-index m c.loop-entry-test.true c.entry-item.is (sym named ∙ c.if-not-named.true))

pub loop-entry-preserved : goal.loop-entry-preserved
loop-entry-preserved c =
    let fs = map field_view c.args.fields.now in
    let m = c.entry-item.result in
    let named : c.is_once-named.result ≡ is_named_once fs (message_of m) = c.is_once-named.ensures ∙ (ap is_kept_once (c.in_ok-once.ensures (text_at 1 (message_of m))) ∙ kept_is _) in
    all_more (is_named_once fs) c.args.entries.now c.loop-entry.entry-index m c.loop-entry-test.true c.entry-item.is c.loop-entry.invariant (sym named ∙ c.if-not-named.false)
