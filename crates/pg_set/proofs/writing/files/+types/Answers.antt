use Rattle.std.proofs.Common.{◌++◌, ◌-◌, ◌∷◌, [], get_or, slice_get, take, refl, ap, ap₂, sym, ◌∙◌}
use Rattle.std.specs.Option.{option_copied}
use Rattle.pg_schema.specs.declared.parts.field.TypeId.{TypeId}
use Rattle.pg_schema.specs.declared.parts.Parts.{Parts}
use Rattle.pg_set.specs.declared.descriptor.places.TheConstants.{MESSAGE}
use Rattle.pg_set.specs.inner.writing.Drafts.{Listed, listed}
use Rattle.pg_set.specs.writing.Messages.{type_items, types_items}
use Rattle.pg_set.specs.writing.Places.{declared_in}
use Rattle.pg_set.specs.inner.writing.Small.{IsSmallType}
use Rattle.pg_set.proofs.lemmas.writing.FileLaws.{same_default, types_none, types_some}
use Rattle.pg_set.proofs.writing.files.+types.Goals as goal
use Rattle.pg_set.proofs.lemmas.lists.Marks.{all_at}

pub loop-id-preserved-in_default : goal.loop-id-preserved-in_default
loop-id-preserved-in_default t c =
    let first : TypeId = record { index = 0 } in
    let id = get_or c.args.ids.now c.loop-id.id-index first in
    let all = declared_in c.args.writer.now in
    let none = ap (λ (p : Parts). slice_get p.types.items id.index) (sym c.writer.view_is) ∙ (sym c.message_type.ensures.exact ∙ ap option_copied c.in_default.is) in
    c.loop-id.invariant ∙ ap (listed MESSAGE) (types_none (types_items c.args.depth all (take c.loop-id.id-index c.args.ids.now)) c.args.depth all c.args.ids.now c.loop-id.id-index id c.if-depth-eq0.false c.loop-id-test.true
    (same_default c.args.ids.now c.loop-id.id-index first id c.loop-id-test.true) none refl)

pub type_message-requires-clause-small : goal.type_message-requires-clause-small
type_message-requires-clause-small t c =
    let first : TypeId = record { index = 0 } in
    let id = get_or c.args.ids.now c.loop-id.id-index first in
    all_at IsSmallType c.args.writer.now.types.items id.index c.in-Some.declared.now c.requires (ap (λ (p : Parts). slice_get p.types.items id.index) (sym c.writer.view_is) ∙ (sym c.message_type.ensures.exact ∙ ap option_copied c.in-Some.is))

pub loop-id-preserved : goal.loop-id-preserved
loop-id-preserved t c =
    let first : TypeId = record { index = 0 } in
    let id = get_or c.args.ids.now c.loop-id.id-index first in
    let all = declared_in c.args.writer.now in
    let made = c.loop-id.made.items in
    let child = c.in_ok-type_message.field-0.items in
    let some = ap (λ (p : Parts). slice_get p.types.items id.index) (sym c.writer.view_is) ∙ (sym c.message_type.ensures.exact ∙ ap option_copied c.in-Some.is) in
    let inside = ap (λ (l : Listed). l.items) c.in_ok-nested.ensures ∙ ap (types_items (c.args.depth - 1) all) c.deref.ensures.value in
    let own = c.in_ok-type_message.ensures.1 ∙ ap (λ nested. type_items all nested c.in-Some.declared.now) inside in
    let before = ap (λ (l : Listed). l.items) c.loop-id.invariant in
    c.in_ok-push.ensures ∙ ap₂ listed (ap (λ (l : Listed). l.type) c.loop-id.invariant)
    (types_some made (made ++ child ∷ []) c.args.depth all c.args.ids.now c.loop-id.id-index id c.in-Some.declared.now c.if-depth-eq0.false c.loop-id-test.true (same_default c.args.ids.now c.loop-id.id-index first id c.loop-id-test.true) some before
    (ap (λ x. made ++ x ∷ []) own))
