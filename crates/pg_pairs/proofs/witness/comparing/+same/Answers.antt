-- Two messages show the same where their fields do, and these where their items do.
use Rattle.std.proofs.Common.{◌≡◌, ◌∙◌, ◌+◌, ◌&&◌, true, false, Some, None, drop, ap, ap₂, refl, sym, arith}
use Rattle.std.specs.Option.{option_copied}
use lib.Pointwise.{pointwise}
use Rattle.pg_schema.specs.Parts.{field_shape, shape_of}
use Rattle.pg_schema.specs.Shape.{field_at, fields}
use Rattle.pg_dyn.specs.views.Comparison.{hides_zero}
use Rattle.pg_dyn.specs.message.Kept.{type_of}
use Rattle.pg_dyn.specs.message.KeptParts.{unknown_of}
use Rattle.pg_dyn.specs.message.Weights.{weight}
use Rattle.pg_dyn.specs.message.KeptParts as kept_parts
use Rattle.pg_dyn.specs.message_ref.Borrowed.{item_seen}
use Rattle.std.proofs.lemmas.Result.{IfOk-weaker}
use Rattle.pg_dyn.proofs.Lists.{list_all_each, each_from_take}
use Rattle.pg_dyn.proofs.PublicLaws.{fields_are_found}
use Rattle.pg_pairs.specs.inner.Comparing.{HeldFits, ItemHasEncoding, items_match, Keyed, keyed, keyed_if, keyed_match, keyed_shown}
use Rattle.pg_pairs.specs.inner.HeldItems.{item_value}
use Rattle.pg_pairs.proofs.lemmas.witness.SameSteps.{both_go_on, each_got, held_weight, of_number_seen, shown_weight, total, total_got, weight_is}
use Rattle.pg_pairs.proofs.lemmas.witness.SameFields.{beside_with, first_alone, hides_first, hides_second, key_lent, message_fits, second_alone, shown_filled, shown_fits, single_found}
use Rattle.pg_pairs.proofs.lemmas.witness.SameLengths.{child_encoded, shown_encoded}
use Rattle.pg_pairs.proofs.lemmas.witness.SameMessages.{each_more, none_held, one_not, same_at, same_held, same_of_all, same_of_none, some_held}
use Rattle.pg_pairs.proofs.witness.comparing.+same.Goals as goal

pub are_same_contents-is_same_at-requires : goal.are_same_contents-is_same_at-requires
are_same_contents-is_same_at-requires t c =
    (omega (arith, c.decreases, weight_is c.args.message.now), (c.requires.old_schema, (c.requires.new_schema, (c.requires.fits, (c.requires.encoded, c.requires.read_fits)))))

pub are_same_contents-returns-then-not-branch : goal.are_same_contents-returns-then-not-branch
are_same_contents-returns-then-not-branch t c =
    one_not (same_held c.args.graph.now.view c.args.graph.now.old.now c.args.graph.now.new.now c.args.message.now c.args.read.now) c.args.contents.now c.loop-number.number-index c.loop-number-item.result c.loop-number-test.true c.loop-number-item.is (sym c.in_ok-is_same_at.ensures ∙ c.if-not-branch.true)

pub are_same_contents-loop-number-preserved : goal.are_same_contents-loop-number-preserved
are_same_contents-loop-number-preserved t c =
    each_more (λ x. same_held c.args.graph.now.view c.args.graph.now.old.now c.args.graph.now.new.now c.args.message.now c.args.read.now x ≡ true) c.args.contents.now c.loop-number.number-index c.loop-number-item.result c.loop-number-test.true c.loop-number-item.is c.loop-number.invariant (sym c.in_ok-is_same_at.ensures ∙ c.if-not-branch.false)

pub are_same_contents-returns : goal.are_same_contents-returns
are_same_contents-returns t c =
    sym (list_all_each (same_held c.args.graph.now.view c.args.graph.now.old.now c.args.graph.now.new.now c.args.message.now c.args.read.now) c.args.contents.now (each_from_take (λ x. same_held c.args.graph.now.view c.args.graph.now.old.now c.args.graph.now.new.now c.args.message.now c.args.read.now x ≡ true) c.args.contents.now c.args.contents.now c.loop-number.number-index refl c.loop-number-test.false c.loop-number.invariant))

pub are_same_others-is_same_other-requires : goal.are_same_others-is_same_other-requires
are_same_others-is_same_other-requires t c =
    (omega (arith, c.decreases, weight_is c.args.message.now), (c.requires.old_schema, (c.requires.new_schema, (c.requires.fits, (c.requires.encoded, (c.requires.read_fits, c.requires.held c.loop-number-item.result.0))))))

pub are_same_others-returns-then-not-branch : goal.are_same_others-returns-then-not-branch
are_same_others-returns-then-not-branch t c =
    one_not (same_held c.args.graph.now.view c.args.graph.now.old.now c.args.graph.now.new.now c.args.message.now c.args.read.now) c.args.others.now c.loop-number.number-index c.loop-number-item.result c.loop-number-test.true c.loop-number-item.is (sym c.in_ok-is_same_other.ensures ∙ c.if-not-branch.true)

pub are_same_others-loop-number-preserved : goal.are_same_others-loop-number-preserved
are_same_others-loop-number-preserved t c =
    each_more (λ x. same_held c.args.graph.now.view c.args.graph.now.old.now c.args.graph.now.new.now c.args.message.now c.args.read.now x ≡ true) c.args.others.now c.loop-number.number-index c.loop-number-item.result c.loop-number-test.true c.loop-number-item.is c.loop-number.invariant (sym c.in_ok-is_same_other.ensures ∙ c.if-not-branch.false)

pub are_same_others-returns : goal.are_same_others-returns
are_same_others-returns t c =
    sym (list_all_each (same_held c.args.graph.now.view c.args.graph.now.old.now c.args.graph.now.new.now c.args.message.now c.args.read.now) c.args.others.now (each_from_take (λ x. same_held c.args.graph.now.view c.args.graph.now.old.now c.args.graph.now.new.now c.args.message.now c.args.read.now x ≡ true) c.args.others.now c.args.others.now c.loop-number.number-index refl c.loop-number-test.false c.loop-number.invariant))

pub is_same_at-is_same_field-requires : goal.is_same_at-is_same_field-requires
is_same_at-is_same_field-requires t c =
    let its = fields (shape_of c.args.graph.now.old.now) (type_of c.args.message.now) in
    let by_number : field_at (fields (shape_of c.args.graph.now.old.now) (type_of c.args.message.now)) c.args.number ≡ Some (field_shape c.in-Some.field.now) =
    ap (λ type. field_at (fields (shape_of c.args.graph.now.old.now) type) c.args.number) (sym c.type_id.ensures) ∙ sym c.in-Some.ensures.shape in
    let found = ap (field_at its) (fields_are_found.1 its c.args.number (field_shape c.in-Some.field.now) by_number) ∙ by_number in
    (omega (arith, c.decreases, weight_is c.args.message.now), (c.requires.old_schema, (c.requires.new_schema, (c.requires.fits, (c.requires.encoded, (c.requires.read_fits, found))))))

pub is_same_content-is_same_key-requires-clause-first : goal.is_same_content-is_same_key-requires-clause-first
is_same_content-is_same_key-requires-clause-first t c =
    key_lent c.held_at-first.result.key
    (each_got (HeldFits (shape_of c.args.graph.now.old.now) c.args.fields.now.old.now.element) (keyed c.args.content.now) c.loop-at.at (option_copied c.held_at-first.result.key, item_value c.held_at-first.result.item)
    c.requires.fits c.held_at-first.ensures).0

pub is_same_content-is_same_key-requires-clause-second : goal.is_same_content-is_same_key-requires-clause-second
is_same_content-is_same_key-requires-clause-second t c =
    key_lent c.held_at-second.result.key
    (each_got (HeldFits (shape_of c.args.graph.now.new.now) c.args.fields.now.new.now.element) (keyed c.args.read.now) c.loop-at.at (option_copied c.held_at-second.result.key, item_value c.held_at-second.result.item)
    c.requires.read_fits c.held_at-second.ensures).0

pub is_same_content-returns-then-not-is_same_key : goal.is_same_content-returns-then-not-is_same_key
is_same_content-returns-then-not-is_same_key t c =
    let test = keyed_match c.args.graph.now.view c.args.graph.now.old.now c.args.graph.now.new.now (field_shape c.args.fields.now.old.now) (field_shape c.args.fields.now.new.now) in
    let matches = items_match c.args.graph.now.view c.args.graph.now.old.now c.args.graph.now.new.now (field_shape c.args.fields.now.old.now) (field_shape c.args.fields.now.new.now) (item_value c.held_at-first.result.item) (item_value c.held_at-second.result.item) in
    let rest = pointwise test (drop (c.loop-at.at + 1) (keyed c.args.content.now)) (drop (c.loop-at.at + 1) (keyed c.args.read.now)) in
    sym (sym c.loop-at.invariant
    ∙ both_go_on test (keyed c.args.content.now) (keyed c.args.read.now) c.loop-at.at (option_copied c.held_at-first.result.key, item_value c.held_at-first.result.item) (option_copied c.held_at-second.result.key, item_value c.held_at-second.result.item) c.held_at-first.ensures c.held_at-second.ensures
    ∙ ap (λ b. (b && matches) && rest) (sym c.is_same_key.ensures ∙ c.if-not-is_same_key.true))

pub is_same_content-is_same_item-requires : goal.is_same_content-is_same_item-requires
is_same_content-is_same_item-requires t c =
    let one = c.held_at-first.ensures ∙ ap (λ v. Some (option_copied c.held_at-first.result.key, v)) (sym c.value-item.ensures) in
    let two = c.held_at-second.ensures ∙ ap (λ v. Some (option_copied c.held_at-second.result.key, v)) (sym c.value-other.ensures) in
    let old = shape_of c.args.graph.now.old.now in
    let new = shape_of c.args.graph.now.new.now in
    let first = each_got (HeldFits (shape_of c.args.graph.now.old.now) c.args.fields.now.old.now.element) (keyed c.args.content.now) c.loop-at.at (option_copied c.held_at-first.result.key, c.value-item.result.now)
    c.requires.fits one in
    let second = each_got (HeldFits (shape_of c.args.graph.now.new.now) c.args.fields.now.new.now.element) (keyed c.args.read.now) c.loop-at.at (option_copied c.held_at-second.result.key, c.value-other.result.now)
    c.requires.read_fits two in
    let encoded = each_got (λ (x : Keyed). ItemHasEncoding (shape_of c.args.graph.now.old.now) x.1) (keyed c.args.content.now) c.loop-at.at (option_copied c.held_at-first.result.key, c.value-item.result.now) c.requires.encoded one in
    let less = total_got (keyed c.args.content.now) c.loop-at.at (option_copied c.held_at-first.result.key, c.value-item.result.now) one in
    (omega (arith, c.decreases, less), (c.requires.old_schema, (c.requires.new_schema, (first.1, (encoded, second.1)))))

pub is_same_content-returns-then-not-branch : goal.is_same_content-returns-then-not-branch
is_same_content-returns-then-not-branch t c =
    let one = c.held_at-first.ensures ∙ ap (λ v. Some (option_copied c.held_at-first.result.key, v)) (sym c.value-item.ensures) in
    let two = c.held_at-second.ensures ∙ ap (λ v. Some (option_copied c.held_at-second.result.key, v)) (sym c.value-other.ensures) in
    let test = keyed_match c.args.graph.now.view c.args.graph.now.old.now c.args.graph.now.new.now (field_shape c.args.fields.now.old.now) (field_shape c.args.fields.now.new.now) in
    let rest = pointwise test (drop (c.loop-at.at + 1) (keyed c.args.content.now)) (drop (c.loop-at.at + 1) (keyed c.args.read.now)) in
    sym (sym c.loop-at.invariant
    ∙ both_go_on test (keyed c.args.content.now) (keyed c.args.read.now) c.loop-at.at (option_copied c.held_at-first.result.key, c.value-item.result.now) (option_copied c.held_at-second.result.key, c.value-other.result.now) one two
    ∙ ap₂ (λ a b. (a && b) && rest) (sym c.is_same_key.ensures ∙ c.if-not-is_same_key.false) (sym c.in_ok-is_same_item.ensures ∙ c.if-not-branch.true))

pub is_same_content-loop-at-preserved : goal.is_same_content-loop-at-preserved
is_same_content-loop-at-preserved t c =
    let one = c.held_at-first.ensures ∙ ap (λ v. Some (option_copied c.held_at-first.result.key, v)) (sym c.value-item.ensures) in
    let two = c.held_at-second.ensures ∙ ap (λ v. Some (option_copied c.held_at-second.result.key, v)) (sym c.value-other.ensures) in
    let test = keyed_match c.args.graph.now.view c.args.graph.now.old.now c.args.graph.now.new.now (field_shape c.args.fields.now.old.now) (field_shape c.args.fields.now.new.now) in
    let rest = pointwise test (drop (c.loop-at.at + 1) (keyed c.args.content.now)) (drop (c.loop-at.at + 1) (keyed c.args.read.now)) in
    sym (both_go_on test (keyed c.args.content.now) (keyed c.args.read.now) c.loop-at.at (option_copied c.held_at-first.result.key, c.value-item.result.now) (option_copied c.held_at-second.result.key, c.value-other.result.now) one two
    ∙ ap₂ (λ a b. (a && b) && rest) (sym c.is_same_key.ensures ∙ c.if-not-is_same_key.false) (sym c.in_ok-is_same_item.ensures ∙ c.if-not-branch.false))
    ∙ c.loop-at.invariant

pub is_same_field-shown-content-requires : goal.is_same_field-shown-content-requires
is_same_field-shown-content-requires t c hidden =
    single_found (shape_of c.args.graph.now.old.now) c.args.message.now c.args.field.now.number (field_shape c.args.field.now) c.requires.old_schema.shape c.requires.fits c.requires.found c.get.result c.get.ensures.filled c.get.ensures.fits (hides_first (field_shape c.args.field.now) (field_shape c.in-Some.beside.now) hidden)

pub is_same_field-shown-other-requires : goal.is_same_field-shown-other-requires
is_same_field-shown-other-requires t c hidden =
    let found : field_at (fields (shape_of c.args.graph.now.new.now) (type_of c.args.read.now)) c.args.field.now.number ≡ Some (field_shape c.in-Some.beside.now) =
    ap (λ type. field_at (fields (shape_of c.args.graph.now.new.now) type) c.args.field.now.number) (sym c.type_id.ensures) ∙ sym c.in-Some.ensures.shape in
    single_found (shape_of c.args.graph.now.new.now) c.args.read.now c.args.field.now.number (field_shape c.in-Some.beside.now) c.requires.new_schema.shape c.requires.read_fits found c.get-2.result c.get-2.ensures.filled c.get-2.ensures.fits (hides_second (field_shape c.args.field.now) (field_shape c.in-Some.beside.now) hidden)

pub is_same_field-is_same_content-requires : goal.is_same_field-is_same_content-requires
is_same_field-is_same_content-requires t c =
    let f = field_shape c.args.field.now in
    let beside = field_shape c.in-Some.beside.now in
    let found : field_at (fields (shape_of c.args.graph.now.new.now) (type_of c.args.read.now)) c.args.field.now.number ≡ Some (field_shape c.in-Some.beside.now) =
    ap (λ type. field_at (fields (shape_of c.args.graph.now.new.now) type) c.args.field.now.number) (sym c.type_id.ensures) ∙ sym c.in-Some.ensures.shape in
    let same : keyed c.in-Some-Some.content.now ≡ keyed_shown (hides_zero (field_shape c.args.field.now) (field_shape c.in-Some.beside.now)) (option_copied c.get.result) =
    sym (ap (λ o. keyed_if (option_copied o)) c.in-Some-Some.is-0) ∙ c.shown-content.ensures.items in
    let less = shown_weight c.args.field.now.number c.args.message.now (option_copied c.get.result) (hides_zero (field_shape c.args.field.now) (field_shape c.in-Some.beside.now)) (of_number_seen c.args.field.now.number c.args.message.now c.get.result c.get.ensures.content) in (
      omega (arith, c.decreases, ap total same, less),
      (
        c.requires.old_schema,
        (
          c.requires.new_schema,
          (
            shown_fits (shape_of c.args.graph.now.old.now) c.args.message.now c.args.field.now.number (field_shape c.args.field.now) c.requires.old_schema.shape c.requires.fits c.requires.found c.get.result c.shown-content.result c.in-Some-Some.content c.get.ensures.keys c.get.ensures.fits c.shown-content.ensures.same c.in-Some-Some.is-0,
            (
              shown_encoded (shape_of c.args.graph.now.old.now) c.requires.old_schema.shape c.args.message.now c.requires.fits c.requires.encoded c.args.field.now.number c.get.result c.shown-content.result c.in-Some-Some.content c.get.ensures.content c.shown-content.ensures.same c.in-Some-Some.is-0,
              shown_fits (shape_of c.args.graph.now.new.now) c.args.read.now c.args.field.now.number (field_shape c.in-Some.beside.now) c.requires.new_schema.shape c.requires.read_fits found c.get-2.result c.shown-other.result c.in-Some-Some.other c.get-2.ensures.keys c.get-2.ensures.fits c.shown-other.ensures.same c.in-Some-Some.is-1,
            ),
          ),
        ),
      ),
    )

pub is_same_field-returns-in-Some-Some : goal.is_same_field-returns-in-Some-Some
is_same_field-returns-in-Some-Some t c =
    let found : field_at (fields (shape_of c.args.graph.now.new.now) (type_of c.args.read.now)) c.args.field.now.number ≡ Some (field_shape c.in-Some.beside.now) =
    ap (λ type. field_at (fields (shape_of c.args.graph.now.new.now) type) c.args.field.now.number) (sym c.type_id.ensures) ∙ sym c.in-Some.ensures.shape in
    IfOk-weaker c.is_same_content.result _ _ (λ so h.
    h
    ∙ beside_with c.args.graph.now.view c.args.graph.now.old.now c.args.graph.now.new.now (field_shape c.args.field.now) (field_shape c.in-Some.beside.now) c.args.message.now c.args.read.now c.requires.old_schema.shape c.requires.fits c.requires.found found c.get.result c.get-2.result c.shown-content.result c.shown-other.result (Some c.in-Some-Some.content) (Some c.in-Some-Some.other) c.get.ensures.content c.get-2.ensures.content c.get.ensures.keys c.get.ensures.fits c.shown-content.ensures.items c.shown-other.ensures.items c.in-Some-Some.is-0 c.in-Some-Some.is-1)
    c.is_same_content.ensures

pub is_same_field-returns-in-None-None : goal.is_same_field-returns-in-None-None
is_same_field-returns-in-None-None t c =
    let found : field_at (fields (shape_of c.args.graph.now.new.now) (type_of c.args.read.now)) c.args.field.now.number ≡ Some (field_shape c.in-Some.beside.now) =
    ap (λ type. field_at (fields (shape_of c.args.graph.now.new.now) type) c.args.field.now.number) (sym c.type_id.ensures) ∙ sym c.in-Some.ensures.shape in
    beside_with c.args.graph.now.view c.args.graph.now.old.now c.args.graph.now.new.now (field_shape c.args.field.now) (field_shape c.in-Some.beside.now) c.args.message.now c.args.read.now c.requires.old_schema.shape c.requires.fits c.requires.found found c.get.result c.get-2.result c.shown-content.result c.shown-other.result None None c.get.ensures.content c.get-2.ensures.content c.get.ensures.keys c.get.ensures.fits c.shown-content.ensures.items c.shown-other.ensures.items c.in-None-None.is-0 c.in-None-None.is-1

pub is_same_field-returns-in_default-2 : goal.is_same_field-returns-in_default-2
is_same_field-returns-in_default-2 t c =
    let found : field_at (fields (shape_of c.args.graph.now.new.now) (type_of c.args.read.now)) c.args.field.now.number ≡ Some (field_shape c.in-Some.beside.now) =
    ap (λ type. field_at (fields (shape_of c.args.graph.now.new.now) type) c.args.field.now.number) (sym c.type_id.ensures) ∙ sym c.in-Some.ensures.shape in
    let test = keyed_match c.args.graph.now.view c.args.graph.now.old.now c.args.graph.now.new.now (field_shape c.args.field.now) (field_shape c.in-Some.beside.now) in
    first_alone test (keyed c.in_default-2.field-0-0.now) (shown_filled c.get.result c.shown-content.result c.in_default-2.field-0-0 c.get.ensures.filled c.shown-content.ensures.same c.in_default-2.is-0)
    ∙ beside_with c.args.graph.now.view c.args.graph.now.old.now c.args.graph.now.new.now (field_shape c.args.field.now) (field_shape c.in-Some.beside.now) c.args.message.now c.args.read.now c.requires.old_schema.shape c.requires.fits c.requires.found found c.get.result c.get-2.result c.shown-content.result c.shown-other.result (Some c.in_default-2.field-0-0) None c.get.ensures.content c.get-2.ensures.content c.get.ensures.keys c.get.ensures.fits c.shown-content.ensures.items c.shown-other.ensures.items c.in_default-2.is-0 c.in_default-2.is-1

pub is_same_field-returns-in_default-2-2 : goal.is_same_field-returns-in_default-2-2
is_same_field-returns-in_default-2-2 t c =
    let found : field_at (fields (shape_of c.args.graph.now.new.now) (type_of c.args.read.now)) c.args.field.now.number ≡ Some (field_shape c.in-Some.beside.now) =
    ap (λ type. field_at (fields (shape_of c.args.graph.now.new.now) type) c.args.field.now.number) (sym c.type_id.ensures) ∙ sym c.in-Some.ensures.shape in
    let test = keyed_match c.args.graph.now.view c.args.graph.now.old.now c.args.graph.now.new.now (field_shape c.args.field.now) (field_shape c.in-Some.beside.now) in
    second_alone test (keyed c.in_default-2.field-0-1.now) (shown_filled c.get-2.result c.shown-other.result c.in_default-2.field-0-1 c.get-2.ensures.filled c.shown-other.ensures.same c.in_default-2.is-1)
    ∙ beside_with c.args.graph.now.view c.args.graph.now.old.now c.args.graph.now.new.now (field_shape c.args.field.now) (field_shape c.in-Some.beside.now) c.args.message.now c.args.read.now c.requires.old_schema.shape c.requires.fits c.requires.found found c.get.result c.get-2.result c.shown-content.result c.shown-other.result None (Some c.in_default-2.field-0-1) c.get.ensures.content c.get-2.ensures.content c.get.ensures.keys c.get.ensures.fits c.shown-content.ensures.items c.shown-other.ensures.items c.in_default-2.is-0 c.in_default-2.is-1

pub is_same_item-is_same_message-requires : goal.is_same_item-is_same_message-requires
is_same_item-is_same_message-requires t c =
    let child = ap (item_seen false) c.in-Msg-Msg.is-0 ∙ ap (kept_parts.Msg false) (sym c.deref.ensures) in
    let other = ap (item_seen false) c.in-Msg-Msg.is-1 ∙ ap (kept_parts.Msg false) (sym c.deref-in-Msg-Msg.ensures) in (
      omega (arith, c.decreases, ap held_weight c.in-Msg-Msg.is-0, ap weight c.deref.ensures, weight_is c.deref.result.now),
      (
        c.requires.old_schema,
        (
          c.requires.new_schema,
          (
            message_fits (shape_of c.args.graph.now.old.now) c.args.fields.now.old.now.element c.args.value.now c.deref.result.now child c.requires.fits,
            (
              child_encoded (shape_of c.args.graph.now.old.now) c.args.value.now c.deref.result.now child c.requires.encoded,
              message_fits (shape_of c.args.graph.now.new.now) c.args.fields.now.new.now.element c.args.read.now c.deref-in-Msg-Msg.result.now other c.requires.read_fits,
            ),
          ),
        ),
      ),
    )

pub is_same_message-are_same_contents-requires : goal.is_same_message-are_same_contents-requires
is_same_message-are_same_contents-requires t c =
    (omega (arith, c.decreases, weight_is c.args.message.now), (c.requires.old_schema, (c.requires.new_schema, (c.requires.fits, (c.requires.encoded, c.requires.read_fits)))))

pub is_same_message-returns-then-not-branch : goal.is_same_message-returns-then-not-branch
is_same_message-returns-then-not-branch t c =
    same_of_none c.args.graph.now.view c.args.graph.now.old.now c.args.graph.now.new.now c.args.message.now c.args.read.now c.contents.result.now (sym c.if-not-branch.true ∙ c.in_ok-are_same_contents.ensures)

pub is_same_message-are_same_others-requires : goal.is_same_message-are_same_others-requires
is_same_message-are_same_others-requires t c =
    let held = none_held (same_at c.args.graph.now.view c.args.graph.now.old.now c.args.graph.now.new.now c.args.message.now c.args.read.now) c.contents.result.now c.args.message.now (type_of c.args.message.now) (unknown_of c.args.message.now) c.contents.ensures.whole (sym c.if-not-branch.false ∙ c.in_ok-are_same_contents.ensures) in
    (omega (arith, c.decreases, weight_is c.args.message.now), (c.requires.old_schema, (c.requires.new_schema, (c.requires.fits, (c.requires.encoded, (c.requires.read_fits, held))))))

pub is_same_message-returns-then-not-branch-2 : goal.is_same_message-returns-then-not-branch-2
is_same_message-returns-then-not-branch-2 t c =
    same_of_none c.args.graph.now.view c.args.graph.now.old.now c.args.graph.now.new.now c.args.message.now c.args.read.now c.contents-2.result.now (sym c.if-not-branch-2.true ∙ c.in_ok-are_same_others.ensures)

pub is_same_message-returns : goal.is_same_message-returns
is_same_message-returns t c =
    let held = none_held (same_at c.args.graph.now.view c.args.graph.now.old.now c.args.graph.now.new.now c.args.message.now c.args.read.now) c.contents.result.now c.args.message.now (type_of c.args.message.now) (unknown_of c.args.message.now) c.contents.ensures.whole (sym c.if-not-branch.false ∙ c.in_ok-are_same_contents.ensures) in
    let read = none_held (same_at c.args.graph.now.view c.args.graph.now.old.now c.args.graph.now.new.now c.args.message.now c.args.read.now) c.contents-2.result.now c.args.read.now (type_of c.args.read.now) (unknown_of c.args.read.now) c.contents-2.ensures.whole (sym c.if-not-branch-2.false ∙ c.in_ok-are_same_others.ensures) in
    IfOk-weaker c.is_same_outside.result _ _ (λ so h. h ∙ same_of_all c.args.graph.now.view c.args.graph.now.old.now c.args.graph.now.new.now c.args.message.now c.args.read.now c.requires.old_schema.shape c.requires.fits held read) c.is_same_outside.ensures

pub is_same_other-is_same_at-requires : goal.is_same_other-is_same_at-requires
is_same_other-is_same_at-requires t c =
    (omega (arith, c.decreases, weight_is c.args.message.now), (c.requires.old_schema, (c.requires.new_schema, (c.requires.fits, (c.requires.encoded, c.requires.read_fits)))))

pub is_same_other-returns-in-Some : goal.is_same_other-returns-in-Some
is_same_other-returns-in-Some t c =
    elim (same_at c.args.graph.now.view c.args.graph.now.old.now c.args.graph.now.new.now c.args.message.now c.args.read.now c.args.number) as (λ b. same_at c.args.graph.now.view c.args.graph.now.old.now c.args.graph.now.new.now c.args.message.now c.args.read.now c.args.number ≡ b → true ≡ b) [
      | true ↦ λ e. refl
      | false ↦ λ e. absurd (some_held c.args.number c.args.message.now c.in-Some.field-0.now c.in-Some.ensures.filled c.in-Some.ensures.content (c.requires.held e))
    ] refl
