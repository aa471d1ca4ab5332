-- A content is plain where each of its items is, and a message where each of its contents is and no record is unknown.
use Rattle.std.proofs.Common.{arith, ap, false, IsTrue, ℕ, subst, sym, true≢false}
use denote.Param.Weighed.{most}
use Rattle.pg_dyn.specs.declared.message_ref.MessageRef.TheDeep.{deep-ContentRef, deep-EntryRef, deep-ValueRef}
use Rattle.pg_dyn.specs.declared.message_ref.ValueRef.{ValueRef}
use Rattle.std.specs.List.{AllByRecursion}
use Rattle.pg_wire.specs.Reads.{seen_record}
use Rattle.pg_dyn.specs.declared.message_ref.ContentRef.{ContentRef}
use Rattle.pg_dyn.specs.declared.message_ref.EntryRef.{EntryRef}
use Rattle.pg_dyn.specs.message_ref.Borrowed.{ArePlain, content_seen, item_seen}
use Rattle.pg_dyn.specs.message.KeptParts.{IsPlain, IsPlainItem}
use Rattle.pg_dyn.proofs.lemmas.message.Plainness.{lent_plain, message_plain, none_from_empty, empty_from_none}
use Rattle.pg_dyn.proofs.message_ref.+is_plain.Goals as goal
use Rattle.pg_dyn.proofs.Lists.{each_at_index, each_from_take}

abbrev IsPlainEntry : EntryRef → Type 0
IsPlainEntry e = IsPlainItem (item_seen false e.value)

pub MessageRef::is_plain-returns-then-not-is_plain : goal.MessageRef::is_plain-returns-then-not-is_plain
MessageRef::is_plain-returns-then-not-is_plain t c =
    let a = c.self.inside in (
      (λ e. absurd (true≢false (sym e))),
      λ plain.
          let each = ((message_plain content_seen ArePlain lent_plain seen_record a.fields.items a.type_id a.unknown.items).1 (subst IsPlain (sym c.self.view_is) plain)).0 in
          let content = each_at_index (λ (f : ℕ × ContentRef). ArePlain f.1) _ _ c.loop-content.content-index c.loop-content-item.result c.deref-content-items.ensures.value c.loop-content-test.true c.loop-content-item.is each in
          subst IsTrue c.if-not-is_plain.true (c.is_plain.ensures.1 content),
    )

pub MessageRef::is_plain-returns : goal.MessageRef::is_plain-returns
MessageRef::is_plain-returns t c =
    let a = c.self.inside in
    let level = message_plain content_seen ArePlain lent_plain seen_record a.fields.items a.type_id a.unknown.items in (
      (λ e.
          subst IsPlain c.self.view_is (level.0 (
            each_from_take (λ (f : ℕ × ContentRef). ArePlain f.1) _ _ c.loop-content.content-index c.deref-content-items.ensures.value c.loop-content-test.false c.loop-content.invariant,
            none_from_empty a.unknown c.is_empty.result c.is_empty.ensures e,
          ))),
      λ plain. empty_from_none a.unknown c.is_empty.result c.is_empty.ensures (level.1 (subst IsPlain (sym c.self.view_is) plain)).1,
    )

pub ContentRef::is_plain-returns-in-Map : goal.ContentRef::is_plain-returns-in-Map
ContentRef::is_plain-returns-in-Map t c = (
  (λ e. subst (λ x. ArePlain x) (sym c.in-Map.is) (subst (AllByRecursion IsPlainEntry) c.deref-in-Map.ensures.value (c.have_plain_values.ensures.0 e))),
  λ plain. c.have_plain_values.ensures.1 (subst (AllByRecursion IsPlainEntry) (sym c.deref-in-Map.ensures.value) (subst (λ x. ArePlain x) c.in-Map.is plain)),
)

pub ContentRef::is_plain-are_plain-requires : goal.ContentRef::is_plain-are_plain-requires
ContentRef::is_plain-are_plain-requires t c = (omega (arith, c.decreases, ap (most (λ (v : ValueRef). deep-ValueRef v)) c.deref.ensures.value, ap (λ (x : ContentRef). deep-ContentRef x) c.in-Many.is), tt)

pub ContentRef::is_plain-have_plain_values-requires : goal.ContentRef::is_plain-have_plain_values-requires
ContentRef::is_plain-have_plain_values-requires t c = (omega (arith, c.decreases, ap (most (λ (e : EntryRef). deep-EntryRef e)) c.deref-in-Map.ensures.value, ap (λ (x : ContentRef). deep-ContentRef x) c.in-Map.is), tt)
