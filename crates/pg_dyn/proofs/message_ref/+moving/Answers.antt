-- Each part has its copy.
use Rattle.std.proofs.Common.{ℕ, List, map, ap, sym, subst, ◌∙◌}
use Rattle.std.specs.List.{AllByRecursion}
use Rattle.std.specs.Vec.Iter.{into_iter_items}
use Rattle.pg_wire.specs.Reads.{seen_record}
use Rattle.pg_wire.specs.Records.{IsRecord}
use Rattle.pg_dyn.specs.declared.message.Content.TheVariants as held
use Rattle.pg_dyn.specs.declared.message_ref.ContentRef.{ContentRef}
use Rattle.pg_dyn.specs.declared.message_ref.EntryRef.{EntryRef}
use Rattle.pg_dyn.specs.inner.Copies.{AreEntryCopies, IsContentCopy}
use Rattle.pg_dyn.specs.message.Seen.{record_seen}
use Rattle.pg_dyn.proofs.lemmas.message_ref.BorrowedParts.{AreCopies, copy_shows, list_copied, map_copied, numbers_copied, one_content_more, rises_same}
use Rattle.pg_dyn.proofs.lemmas.message.TakenApart.{taken_all, taken_more}
use Rattle.pg_dyn.proofs.message_ref.+moving.Goals as goal

pub ContentRef::into_content-returns-in_ok-into_values-in-Many : goal.ContentRef::into_content-returns-in_ok-into_values-in-Many
ContentRef::into_content-returns-in_ok-into_values-in-Many t c =
    subst (λ (r : ContentRef). IsContentCopy r (held.Many c.in_ok-into_values-in-Many.field-0)) (sym c.in-Many.is)
    (list_copied c.in-Many.values c.in_ok-into_values-in-Many.field-0 c.in_ok-into_values-in-Many.ensures)

pub ContentRef::into_content-returns-in_ok-to_entries-in-Map : goal.ContentRef::into_content-returns-in_ok-to_entries-in-Map
ContentRef::into_content-returns-in_ok-to_entries-in-Map t c =
    let made = c.in_ok-to_entries-in-Map.field-0 in
    subst (λ (r : ContentRef). IsContentCopy r (held.Map made)) (sym c.in-Map.is)
    (map_copied c.in-Map.entries made (subst (λ (es : List EntryRef). AreEntryCopies es made.items) c.deref.ensures.value c.in_ok-to_entries-in-Map.ensures))

pub ContentRef::into_content-returns-in_ok-to_values-in-Numbers : goal.ContentRef::into_content-returns-in_ok-to_values-in-Numbers
ContentRef::into_content-returns-in_ok-to_values-in-Numbers t c =
    subst (λ (r : ContentRef). IsContentCopy r (held.Many c.in_ok-to_values-in-Numbers.field-0)) (sym c.in-Numbers.is)
    (numbers_copied c.in-Numbers.numbers c.in_ok-to_values-in-Numbers.field-0 c.in_ok-to_values-in-Numbers.ensures)

pub MessageRef::into_message-loop-number-preserved : goal.MessageRef::into_message-loop-number-preserved
MessageRef::into_message-loop-number-preserved t c =
    let l = c.loop-number in
    let r : ℕ × ContentRef = (c.in-Some.number, c.in-Some.content) in (
      taken_more (into_iter_items c.into_iter-number-iterator.result) l.yielded l.number-iterator c.next.new.self r l.invariant.0 c.in-Some.ensures.steps,
      rw c.in_ok-push.ensures.items (one_content_more l.yielded l.owned.items r c.in_ok-into_content.field-0 l.invariant.1 c.in_ok-into_content.ensures),
    )

pub MessageRef::into_message-invariant_of-result : goal.MessageRef::into_message-invariant_of-result
MessageRef::into_message-invariant_of-result t c =
    let a = c.self.inside in
    let l = c.loop-number in
    let taken = c.into_iter-number-iterator in
    let whole = taken_all (into_iter_items taken.result) l.yielded l.number-iterator c.next.new.self l.invariant.0 c.in-None.ensures.steps ∙ taken.ensures.into_iter_gives.0 in
    let all = subst (λ (fs : List (ℕ × ContentRef)). AreCopies fs l.owned.items) whole l.invariant.1 in
    record {
      rises = rises_same l.owned.items a.fields.items all.numbers c.self.invariant.rises;
      filled = all.filled c.self.invariant.filled;
      keys = all.keys c.self.invariant.keys;
      records = subst (AllByRecursion IsRecord) (sym (c.in_ok-owned_records.ensures.seen ∙ ap (map seen_record) c.deref.ensures.value)) c.self.invariant.records;
      bodies = c.in_ok-owned_records.ensures.bodies;
    }

pub MessageRef::into_message-returns : goal.MessageRef::into_message-returns
MessageRef::into_message-returns t c =
    let a = c.self.inside in
    let l = c.loop-number in
    let taken = c.into_iter-number-iterator in
    let whole = taken_all (into_iter_items taken.result) l.yielded l.number-iterator c.next.new.self l.invariant.0 c.in-None.ensures.steps ∙ taken.ensures.into_iter_gives.0 in
    let all = subst (λ (fs : List (ℕ × ContentRef)). AreCopies fs l.owned.items) whole l.invariant.1 in
    copy_shows a.type_id a.fields.items l.owned.items (map record_seen c.in_ok-owned_records.field-0.items) (map seen_record a.unknown.items) all
    (c.in_ok-owned_records.ensures.seen ∙ ap (map seen_record) c.deref.ensures.value)
    ∙ c.self.view_is
