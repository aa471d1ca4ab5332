-- Each part has its copy.
use Rattle.std.proofs.Common.{arith, ℕ, List, map, true, ap, sym, subst, ◌∙◌}
use denote.Param.Weighed.{most}
use Rattle.pg_dyn.specs.declared.message_ref.MessageRef.TheDeep.{deep-ContentRef, deep-EntryRef, deep-ValueRef}
use Rattle.pg_dyn.specs.declared.message_ref.ValueRef.{ValueRef}
use Rattle.std.specs.List.{AllByRecursion}
use Rattle.std.proofs.lemmas.List.{take_all}
use Rattle.pg_wire.specs.Reads.{seen_record}
use Rattle.pg_wire.specs.Records.{IsRecord}
use Rattle.pg_dyn.specs.declared.message.Content.TheVariants as held
use Rattle.pg_dyn.specs.declared.message_ref.ContentRef.{ContentRef}
use Rattle.pg_dyn.specs.declared.message_ref.EntryRef.{EntryRef}
use Rattle.pg_dyn.specs.message_ref.Borrowed as borrowed
use Rattle.pg_dyn.specs.inner.Copies.{AreEntryCopies, IsContentCopy}
use Rattle.pg_dyn.specs.message.Seen.{record_seen}
use Rattle.pg_dyn.proofs.lemmas.message_ref.BorrowedParts.{AreCopies, copies_more, copy_shows, entries_more, entry_copied, list_copied, map_copied, numbers_copied, rises_same}
use Rattle.pg_dyn.proofs.message_ref.+owning.Goals as goal

pub EntryRef::to_entry-returns : goal.EntryRef::to_entry-returns
EntryRef::to_entry-returns t c = entry_copied c.args.self.now c.in_ok-key.key c.in_ok-value.value c.in_ok-key.ensures c.in_ok-value.ensures

pub ContentRef::to_values-returns : goal.ContentRef::to_values-returns
ContentRef::to_values-returns t c = c.loop-value.invariant ∙ ap (map (borrowed.item_seen true)) (take_all c.loop-value.value-index c.args.values.now c.loop-value-test.false)

pub ContentRef::to_entries-loop-entry-preserved : goal.ContentRef::to_entries-loop-entry-preserved
ContentRef::to_entries-loop-entry-preserved t c =
    let l = c.loop-entry in
    rw c.in_ok-push.ensures.items
    (entries_more c.args.entries.now l.owned.items l.entry-index c.entry-item.result c.in_ok-to_entry.field-0 c.loop-entry-test.true c.entry-item.is l.invariant c.in_ok-to_entry.ensures)

pub ContentRef::to_entries-returns : goal.ContentRef::to_entries-returns
ContentRef::to_entries-returns t c =
    subst (λ (es : List EntryRef). AreEntryCopies es c.loop-entry.owned.items) (take_all c.loop-entry.entry-index c.args.entries.now c.loop-entry-test.false) c.loop-entry.invariant

pub ContentRef::to_content-returns-in_ok-to_values-in-Many : goal.ContentRef::to_content-returns-in_ok-to_values-in-Many
ContentRef::to_content-returns-in_ok-to_values-in-Many t c =
    subst (λ (r : ContentRef). IsContentCopy r (held.Many c.in_ok-to_values-in-Many.field-0)) (sym c.in-Many.is)
    (list_copied c.in-Many.values c.in_ok-to_values-in-Many.field-0 (c.in_ok-to_values-in-Many.ensures ∙ ap (map (borrowed.item_seen true)) c.deref.ensures.value))

pub ContentRef::to_content-returns-in_ok-to_entries-in-Map : goal.ContentRef::to_content-returns-in_ok-to_entries-in-Map
ContentRef::to_content-returns-in_ok-to_entries-in-Map t c =
    subst (λ (r : ContentRef). IsContentCopy r (held.Map c.in_ok-to_entries-in-Map.field-0)) (sym c.in-Map.is)
    (map_copied c.in-Map.entries c.in_ok-to_entries-in-Map.field-0 (subst (λ (es : List EntryRef). AreEntryCopies es c.in_ok-to_entries-in-Map.field-0.items) c.deref-in-Map.ensures.value c.in_ok-to_entries-in-Map.ensures))

pub ContentRef::to_content-returns-in_ok-to_values-in-Numbers : goal.ContentRef::to_content-returns-in_ok-to_values-in-Numbers
ContentRef::to_content-returns-in_ok-to_values-in-Numbers t c =
    subst (λ (r : ContentRef). IsContentCopy r (held.Many c.in_ok-to_values-in-Numbers.field-0)) (sym c.in-Numbers.is)
    (numbers_copied c.in-Numbers.numbers c.in_ok-to_values-in-Numbers.field-0 c.in_ok-to_values-in-Numbers.ensures)

pub MessageRef::to_message-loop-number-preserved : goal.MessageRef::to_message-loop-number-preserved
MessageRef::to_message-loop-number-preserved t c =
    let l = c.loop-number in
    rw c.in_ok-push.ensures.items
    (copies_more c.deref-number-items.result.now l.fields.items l.number-index c.loop-number-item.result c.in_ok-to_content.field-0 c.loop-number-test.true c.loop-number-item.is l.invariant c.in_ok-to_content.ensures)

pub MessageRef::to_message-invariant_of-result : goal.MessageRef::to_message-invariant_of-result
MessageRef::to_message-invariant_of-result t c =
    let a = c.self.inside in
    let whole = take_all c.loop-number.number-index c.deref-number-items.result.now c.loop-number-test.false ∙ c.deref-number-items.ensures.value in
    let all = subst (λ (fs : List (ℕ × ContentRef)). AreCopies fs c.loop-number.fields.items) whole c.loop-number.invariant in
    record {
      rises = rises_same c.loop-number.fields.items a.fields.items all.numbers c.self.invariant.rises;
      filled = all.filled c.self.invariant.filled;
      keys = all.keys c.self.invariant.keys;
      records = subst (AllByRecursion IsRecord) (sym (c.in_ok-unknown.ensures.seen ∙ ap (map seen_record) c.deref.ensures.value)) c.self.invariant.records;
      bodies = c.in_ok-unknown.ensures.bodies;
    }

pub MessageRef::to_message-returns : goal.MessageRef::to_message-returns
MessageRef::to_message-returns t c =
    let a = c.self.inside in
    let whole = take_all c.loop-number.number-index c.deref-number-items.result.now c.loop-number-test.false ∙ c.deref-number-items.ensures.value in
    let all = subst (λ (fs : List (ℕ × ContentRef)). AreCopies fs c.loop-number.fields.items) whole c.loop-number.invariant in
    copy_shows a.type_id a.fields.items c.loop-number.fields.items (map record_seen c.in_ok-unknown.unknown.items) (map seen_record a.unknown.items) all
    (c.in_ok-unknown.ensures.seen ∙ ap (map seen_record) c.deref.ensures.value)
    ∙ c.self.view_is

pub ContentRef::to_content-to_values-requires : goal.ContentRef::to_content-to_values-requires
ContentRef::to_content-to_values-requires t c = (omega (arith, c.decreases, ap (most (λ (v : ValueRef). deep-ValueRef v)) c.deref.ensures.value, ap (λ (x : ContentRef). deep-ContentRef x) c.in-Many.is), tt)

pub ContentRef::to_content-to_entries-requires : goal.ContentRef::to_content-to_entries-requires
ContentRef::to_content-to_entries-requires t c = (omega (arith, c.decreases, ap (most (λ (e : EntryRef). deep-EntryRef e)) c.deref-in-Map.ensures.value, ap (λ (x : ContentRef). deep-ContentRef x) c.in-Map.is), tt)
