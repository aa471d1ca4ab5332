-- What is written of each item, entry, content and message, and the lengths that are left.
use Rattle.std.proofs.Common.{true, ◌≡◌, ◌≤◌, ◌++◌, length, flat_map, Some, refl, ap, ap₂, sym, ◌∙◌, arith, append_assoc, length-append}
use Rattle.std.proofs.lemmas.Result.{IfErr-weaker, IfOk-weaker, err_from_is_err_and}
use Rattle.pg_schema.specs.declared.parts.field.Element.TheVariants as elements
use Rattle.pg_schema.specs.declared.parts.field.Scalar.{Scalar}
use Rattle.pg_schema.specs.Parts.{field_shape, shape_of}
use Rattle.pg_schema.specs.Shape.{fields, field_at}
use Rattle.pg_wire.specs.declared.record.WireType.TheVariants.{Len}
use Rattle.pg_wire.specs.Records.{written}
use Rattle.pg_dyn.specs.word.Coding.{InRange, scalar_form}
use Rattle.pg_dyn.specs.message.Kept.{type_of}
use Rattle.pg_dyn.specs.message.KeptParts.{unknown_of}
use Rattle.pg_dyn.specs.encoding.Lending.{HoldsParts, bare_leaf}
use Rattle.pg_dyn.specs.encoding.Writing.{bytes_of, item_record}
use Rattle.pg_dyn.specs.encoding.Written.{BareFits, capped, entry_body, entry_record, item_body, item_bytes, item_lengths, own_bytes}
use Rattle.pg_dyn.proofs.lemmas.encoding.ContentParts.{adds, may_not, entries, items, numbers}
use Rattle.pg_dyn.proofs.lemmas.encoding.EncodeSteps.{at_the_end, content_bytes, contents_held, entry_in_turn, field_bytes, field_fits, first_is, later_is, leaves_fit, longer, on_the_way, own_is, packable, packs, record_in_turn, record_size, records_are, stopped_on_the_way, under}
use Rattle.pg_dyn.proofs.lemmas.fitting.FitsSteps.{some_not_none}
use Rattle.pg_dyn.proofs.lemmas.encoding.LentWeights.{content_lighter, item_lighter, parts_weight}
use Rattle.pg_dyn.proofs.Lists.{each_at_index}
use Rattle.pg_dyn.proofs.lemmas.encoding.NotedLengths.{content_lengths, field_noted, inner_is}
use Rattle.pg_dyn.proofs.lemmas.reading.records.Splitting.{found_number}
use Rattle.pg_dyn.proofs.encoding.+write.Goals as goal

-- Items, one after the other.

pub write_items-write_item-requires : goal.write_items-write_item-requires
write_items-write_item-requires g t c κs within =
    let lighter = item_lighter g.M.Lends.item c.args.values.now c.loop-value.value-index c.value-item.result c.loop-value-test.true c.value-item.is in
    let fits = each_at_index (λ v. BareFits (shape_of c.args.schema.now) c.args.element (g.M.Lends.item v)) c.args.values.now c.args.values.now c.loop-value.value-index c.value-item.result refl c.loop-value-test.true c.value-item.is c.requires.fit in
    (omega (arith, lighter, c.decreases), under within (c.requires.is_schema, fits))

pub write_items-loop-value-preserved : goal.write_items-loop-value-preserved
write_items-loop-value-preserved g t c =
    on_the_way (λ v. item_bytes (shape_of c.args.schema.now) c.args.number c.args.element (g.M.Lends.item v)) (λ v. item_lengths (shape_of c.args.schema.now) (g.M.Lends.item v)) c.args.values.now c.loop-value.value-index c.value-item.result c.args.out.now.items
    c.loop-value.out.items c.write_item.new.out.items c.args.lengths.now c.loop-value.left.now c.in_ok-left.left.now c.loop-value-test.true c.value-item.is c.loop-value.invariant c.in_ok-left.ensures.ok

pub write_items-returns-clause-ok : goal.write_items-returns-clause-ok
write_items-returns-clause-ok g t c =
    at_the_end (λ v. item_bytes (shape_of c.args.schema.now) c.args.number c.args.element (g.M.Lends.item v)) (λ v. item_lengths (shape_of c.args.schema.now) (g.M.Lends.item v)) c.args.values.now c.args.values.now c.loop-value.value-index c.args.out.now.items
    c.loop-value.out.items c.args.lengths.now c.loop-value.left.now refl c.loop-value-test.false c.loop-value.invariant

pub write_items-returns-in_err-left-clause-err : goal.write_items-returns-in_err-left-clause-err
write_items-returns-in_err-left-clause-err g t c =
    let p = err_from_is_err_and c.from_residual.result c.from_residual.ensures.1 in
    rw (p.1, p.2)
    (stopped_on_the_way (λ v. item_bytes (shape_of c.args.schema.now) c.args.number c.args.element (g.M.Lends.item v)) (λ v. item_lengths (shape_of c.args.schema.now) (g.M.Lends.item v)) c.args.values.now c.args.values.now c.loop-value.value-index c.value-item.result
    c.args.out.now.items c.loop-value.out.items c.args.lengths.now c.loop-value.left.now _ refl c.loop-value-test.true c.value-item.is c.loop-value.invariant c.in_err-left.ensures.err)

-- A map's entries.

pub write_entries-write_entry-requires : goal.write_entries-write_entry-requires
write_entries-write_entry-requires g t c κs within =
    let lighter = item_lighter (λ e. g.M.Lends.item (g.M.Lends.value_of e)) c.args.entries.now c.loop-entry.entry-index c.entry-item.result c.loop-entry-test.true c.entry-item.is in
    let fits = each_at_index (λ e. BareFits (shape_of c.args.schema.now) c.args.element (g.M.Lends.item (g.M.Lends.value_of e))) c.args.entries.now c.args.entries.now c.loop-entry.entry-index c.entry-item.result refl c.loop-entry-test.true c.entry-item.is c.requires.fit in
    let key = each_at_index (λ e. InRange (scalar_form c.args.key) (bare_leaf (g.M.Lends.item (g.M.Lends.key_of e)))) c.args.entries.now c.args.entries.now c.loop-entry.entry-index c.entry-item.result refl c.loop-entry-test.true c.entry-item.is c.requires.keys in
    (omega (arith, lighter, c.decreases), under within (c.requires.is_schema, (key, fits)))

pub write_entries-loop-entry-preserved : goal.write_entries-loop-entry-preserved
write_entries-loop-entry-preserved g t c =
    on_the_way (λ e. entry_record (shape_of c.args.schema.now) c.args.number c.args.key c.args.element (bare_leaf (g.M.Lends.item (g.M.Lends.key_of e))) (g.M.Lends.item (g.M.Lends.value_of e))) (λ e. item_lengths (shape_of c.args.schema.now) (g.M.Lends.item (g.M.Lends.value_of e)))
    c.args.entries.now c.loop-entry.entry-index c.entry-item.result c.args.out.now.items
    c.loop-entry.out.items c.write_entry.new.out.items c.args.lengths.now c.loop-entry.left.now c.in_ok-left.left.now c.loop-entry-test.true c.entry-item.is c.loop-entry.invariant c.in_ok-left.ensures.ok

pub write_entries-returns-clause-ok : goal.write_entries-returns-clause-ok
write_entries-returns-clause-ok g t c =
    at_the_end (λ e. entry_record (shape_of c.args.schema.now) c.args.number c.args.key c.args.element (bare_leaf (g.M.Lends.item (g.M.Lends.key_of e))) (g.M.Lends.item (g.M.Lends.value_of e))) (λ e. item_lengths (shape_of c.args.schema.now) (g.M.Lends.item (g.M.Lends.value_of e)))
    c.args.entries.now c.args.entries.now c.loop-entry.entry-index c.args.out.now.items c.loop-entry.out.items c.args.lengths.now c.loop-entry.left.now refl c.loop-entry-test.false c.loop-entry.invariant

pub write_entries-returns-in_err-left-clause-err : goal.write_entries-returns-in_err-left-clause-err
write_entries-returns-in_err-left-clause-err g t c =
    let p = err_from_is_err_and c.from_residual.result c.from_residual.ensures.1 in
    rw (p.1, p.2)
    (stopped_on_the_way (λ e. entry_record (shape_of c.args.schema.now) c.args.number c.args.key c.args.element (bare_leaf (g.M.Lends.item (g.M.Lends.key_of e))) (g.M.Lends.item (g.M.Lends.value_of e))) (λ e. item_lengths (shape_of c.args.schema.now) (g.M.Lends.item (g.M.Lends.value_of e)))
    c.args.entries.now c.args.entries.now c.loop-entry.entry-index c.entry-item.result
    c.args.out.now.items c.loop-entry.out.items c.args.lengths.now c.loop-entry.left.now _ refl c.loop-entry-test.true c.entry-item.is c.loop-entry.invariant c.in_err-left.ensures.err)

-- A message.

pub write_message-unreachable-requires : goal.write_message-unreachable-requires
write_message-unreachable-requires g t c =
    let m = g.M.Lends.kept c.args.message.now in
    let ms = c.fields-number-items.result.now in
    let held = contents_held g.M.Lends.parts (shape_of c.args.schema.now) m ms c.requires.is_schema.shape c.requires.fits c.fields-number-items.ensures.whole c.fields-number-items.ensures.filled c.fields-number-items.ensures.numbered in
    let one = each_at_index (λ x. HoldsParts (shape_of c.args.schema.now) (type_of m) x.0 (g.M.Lends.parts x.0 x.1)) ms ms c.loop-number.number-index c.loop-number-item.result refl c.loop-number-test.true c.loop-number-item.is held in
    absurd (some_not_none one.field (sym one.found ∙ ap (λ u. field_at (fields (shape_of c.args.schema.now) u) c.loop-number-item.result.0) (sym c.message_type-type_id.ensures) ∙ sym c.in_default.ensures.shape))

pub write_message-write_content-requires : goal.write_message-write_content-requires
write_message-write_content-requires g t c κs within =
    let shape = shape_of c.args.schema.now in
    let parts = g.M.Lends.parts in
    let m = g.M.Lends.kept c.args.message.now in
    let ms = c.fields-number-items.result.now in
    let f = field_shape c.in-Some.field.now in
    let found : field_at (fields (shape_of c.args.schema.now) (type_of (g.M.Lends.kept c.args.message.now))) c.loop-number-item.result.0 ≡ Some (field_shape c.in-Some.field.now) =
    ap (λ u. field_at (fields (shape_of c.args.schema.now) u) c.loop-number-item.result.0) (sym c.message_type-type_id.ensures) ∙ sym c.in-Some.ensures.shape in
    let number = found_number (fields (shape_of c.args.schema.now) (type_of (g.M.Lends.kept c.args.message.now))) c.loop-number-item.result.0 (field_shape c.in-Some.field.now) found in
    let held = contents_held parts shape m ms c.requires.is_schema.shape c.requires.fits c.fields-number-items.ensures.whole c.fields-number-items.ensures.filled c.fields-number-items.ensures.numbered in
    let here = each_at_index (λ x. HoldsParts (shape_of c.args.schema.now) (type_of (g.M.Lends.kept c.args.message.now)) x.0 (g.M.Lends.parts x.0 x.1)) ms ms c.loop-number.number-index c.loop-number-item.result refl c.loop-number-test.true c.loop-number-item.is held in
    let lighter = content_lighter parts m ms c.loop-number.number-index c.loop-number-item.result c.fields-number-items.ensures.whole c.loop-number-test.true c.loop-number-item.is in
    let same = ap (λ k. parts_weight (g.M.Lends.parts k c.loop-number-item.result.1)) number in
    (omega (arith, lighter, same, c.decreases), under within (c.requires.is_schema, (packs shape (type_of m) c.requires.is_schema.shape c.loop-number-item.result.0 f found, field_fits parts shape m c.loop-number-item.result f found here)))

pub write_message-loop-number-preserved : goal.write_message-loop-number-preserved
write_message-loop-number-preserved g t c =
    let shape = shape_of c.args.schema.now in
    let m = g.M.Lends.kept c.args.message.now in
    let f = field_shape c.in-Some.field.now in
    let found : field_at (fields (shape_of c.args.schema.now) (type_of (g.M.Lends.kept c.args.message.now))) c.loop-number-item.result.0 ≡ Some (field_shape c.in-Some.field.now) =
    ap (λ u. field_at (fields (shape_of c.args.schema.now) u) c.loop-number-item.result.0) (sym c.message_type-type_id.ensures) ∙ sym c.in-Some.ensures.shape in
    on_the_way (content_bytes g.M.Lends.parts shape m) (content_lengths g.M.Lends.parts shape m) c.fields-number-items.result.now c.loop-number.number-index c.loop-number-item.result c.args.out.now.items
    c.loop-number.out.items c.write_content.new.out.items c.args.lengths.now c.loop-number.left.now c.in_ok-left.left.now c.loop-number-test.true c.loop-number-item.is c.loop-number.invariant
    (λ rest ahead.
    let k = c.in_ok-left.ensures.ok rest (ahead ∙ ap (λ ns. ns ++ rest) (sym (field_noted g.M.Lends.parts shape m c.loop-number-item.result f found))) in
    (k.0 ∙ ap (λ bs. c.loop-number.out.items ++ bs) (field_bytes g.M.Lends.parts shape m c.loop-number-item.result f found), k.1))

pub write_message-returns-clause-ok : goal.write_message-returns-clause-ok
write_message-returns-clause-ok g t c = λ rest whole.
    let shape = shape_of c.args.schema.now in
    let m = g.M.Lends.kept c.args.message.now in
    let ms = c.fields-number-items.result.now in
    let held = contents_held g.M.Lends.parts (shape_of c.args.schema.now) m ms c.requires.is_schema.shape c.requires.fits c.fields-number-items.ensures.whole c.fields-number-items.ensures.filled c.fields-number-items.ensures.numbered in
    let inner = inner_is g.M.Lends.parts (shape_of c.args.schema.now) m ms c.requires.is_schema.shape c.fields-number-items.ensures.whole c.fields-number-items.ensures.rises held in
    let k = at_the_end (content_bytes g.M.Lends.parts (shape_of c.args.schema.now) m) (content_lengths g.M.Lends.parts (shape_of c.args.schema.now) m) ms ms c.loop-number.number-index c.args.out.now.items c.loop-number.out.items c.args.lengths.now c.loop-number.left.now
    refl c.loop-number-test.false c.loop-number.invariant rest (whole ∙ ap (λ ys. ys ++ rest) (sym inner)) in (
      c.in_ok-push_unknown.ensures.ok ∙ ap₂ (λ xs us. xs ++ us) k.0 (records_are g.M.Lends.record_of c.records.result.now (unknown_of m) c.records.ensures)
          ∙ append_assoc c.args.out.now.items (flat_map (content_bytes g.M.Lends.parts (shape_of c.args.schema.now) m) ms) (bytes_of (unknown_of m))
          ∙ ap (λ ys. c.args.out.now.items ++ ys) (own_is g.M.Lends.parts (shape_of c.args.schema.now) m ms c.requires.is_schema.shape c.fields-number-items.ensures.whole c.fields-number-items.ensures.rises held),
      k.1,
    )

pub write_message-returns-in_err-left-clause-err : goal.write_message-returns-in_err-left-clause-err
write_message-returns-in_err-left-clause-err g t c =
    let shape = shape_of c.args.schema.now in
    let m = g.M.Lends.kept c.args.message.now in
    let ms = c.fields-number-items.result.now in
    let held = contents_held g.M.Lends.parts (shape_of c.args.schema.now) m ms c.requires.is_schema.shape c.requires.fits c.fields-number-items.ensures.whole c.fields-number-items.ensures.filled c.fields-number-items.ensures.numbered in
    let inner = inner_is g.M.Lends.parts (shape_of c.args.schema.now) m ms c.requires.is_schema.shape c.fields-number-items.ensures.whole c.fields-number-items.ensures.rises held in
    let own = own_is g.M.Lends.parts (shape_of c.args.schema.now) m ms c.requires.is_schema.shape c.fields-number-items.ensures.whole c.fields-number-items.ensures.rises held in
    let fs = flat_map (content_bytes g.M.Lends.parts (shape_of c.args.schema.now) m) ms in
    let within : length fs ≤ length (own_bytes (shape_of c.args.schema.now) m) = omega (arith, ap length own, length-append fs (bytes_of (unknown_of m))) in
    let found : field_at (fields (shape_of c.args.schema.now) (type_of (g.M.Lends.kept c.args.message.now))) c.loop-number-item.result.0 ≡ Some (field_shape c.in-Some.field.now) =
    ap (λ u. field_at (fields (shape_of c.args.schema.now) u) c.loop-number-item.result.0) (sym c.message_type-type_id.ensures) ∙ sym c.in-Some.ensures.shape in
    let f = field_shape c.in-Some.field.now in
    let bytes = ap length (field_bytes g.M.Lends.parts shape m c.loop-number-item.result f found) in
    let p = err_from_is_err_and c.from_residual.result c.from_residual.ensures.1 in
    rw (p.1, p.2)
    (λ rest whole.
    longer (length fs) (length (own_bytes (shape_of c.args.schema.now) m)) _ within
    (stopped_on_the_way (content_bytes g.M.Lends.parts (shape_of c.args.schema.now) m) (content_lengths g.M.Lends.parts (shape_of c.args.schema.now) m) ms ms c.loop-number.number-index c.loop-number-item.result c.args.out.now.items c.loop-number.out.items c.args.lengths.now c.loop-number.left.now _
    refl c.loop-number-test.true c.loop-number-item.is c.loop-number.invariant
    (λ further ahead. longer _ (length (content_bytes g.M.Lends.parts (shape_of c.args.schema.now) m c.loop-number-item.result)) _ (omega (arith, bytes)) (c.in_err-left.ensures.err further (ahead ∙ ap (λ ns. ns ++ further) (sym (field_noted g.M.Lends.parts shape m c.loop-number-item.result f found)))))
    rest (whole ∙ ap (λ ys. ys ++ rest) (sym inner))))

-- A message inside.

pub write_child-returns-in_ok-push_front-in-len1-up-clause-ok : goal.write_child-returns-in_ok-push_front-in-len1-up-clause-ok
write_child-returns-in_ok-push_front-in-len1-up-clause-ok g t c =
    let own = own_bytes (shape_of c.args.schema.now) (g.M.Lends.kept c.args.child.now) in
    IfOk-weaker c.write_message.result _ _
    (λ left k rest whole.
    let told = c.in_ok-not_too_long-in-len1-up.ensures.ok (length own) (first_is c.args.lengths.now _ _ whole) in
    let front = c.in_ok-push_front-in-len1-up.ensures.ok own (sym told) in
    let done = k rest (later_is c.args.lengths.now _ _ whole) in
    (record_in_turn c.args.number own c.args.out.now.items _ _ front done.0, done.1))
    c.write_message.ensures.ok

pub write_child-returns-in_err-not_too_long-in-len1-up-clause-err : goal.write_child-returns-in_err-not_too_long-in-len1-up-clause-err
write_child-returns-in_err-not_too_long-in-len1-up-clause-err g t c =
    let own = own_bytes (shape_of c.args.schema.now) (g.M.Lends.kept c.args.child.now) in
    let p = err_from_is_err_and c.from_residual.result c.from_residual.ensures.1 in
    rw (p.1, p.2)
    (λ rest whole.
    longer (length own) (length (written c.args.number Len own).bytes) _ (omega (arith, record_size c.args.number Len own)) (c.in_err-not_too_long-in-len1-up.ensures.err (length own) (first_is c.args.lengths.now _ _ whole)))

pub write_child-returns-in_ok-push_front-in-len1-up-clause-err : goal.write_child-returns-in_ok-push_front-in-len1-up-clause-err
write_child-returns-in_ok-push_front-in-len1-up-clause-err g t c =
    let own = own_bytes (shape_of c.args.schema.now) (g.M.Lends.kept c.args.child.now) in
    IfErr-weaker c.write_message.result _ _
    (λ e why rest whole. longer _ (length (written c.args.number Len own).bytes) e (omega (arith, record_size c.args.number Len own)) (why rest (later_is c.args.lengths.now _ _ whole)))
    c.write_message.ensures.err

-- An entry.

pub write_entry-returns-clause-ok : goal.write_entry-returns-clause-ok
write_entry-returns-clause-ok g t c =
    let shape = shape_of c.args.schema.now in
    let x = g.M.Lends.item (g.M.Lends.value_of c.args.entry.now) in
    let k = bare_leaf (g.M.Lends.item (g.M.Lends.key_of c.args.entry.now)) in
    let b = entry_body (shape_of c.args.schema.now) c.args.key c.args.element k x in
    let key_is = ap (λ v. bare_leaf (g.M.Lends.item v)) c.key-entry_key.ensures in
    IfOk-weaker c.write_item.result _ _
    (λ left done rest whole.
    let ahead = whole ∙ ap (λ v. item_lengths (shape_of c.args.schema.now) (g.M.Lends.item v) ++ rest) (sym c.value-item.ensures) in
    let value = c.counted_len-value_len.ensures rest ahead ∙ ap (λ v. capped (length (item_body (shape_of c.args.schema.now) c.args.element (g.M.Lends.item v)))) c.value-item.ensures in
    let counted = c.entry_len-len.ensures (item_body (shape_of c.args.schema.now) c.args.element x) value
    ∙ ap₂ (λ l w. capped (length ((item_record 1 (elements.Scalar c.args.key) l).bytes ++ (written 2 w (item_body (shape_of c.args.schema.now) c.args.element x)).bytes))) (c.leaf.ensures ∙ key_is) c.element_wire_type.ensures in
    let told = c.in_ok-not_too_long.ensures.ok (length b) counted in
    let front = c.in_ok-push_front.ensures.ok b (sym told) in
    let wrote = done rest ahead in (
      entry_in_turn c.args.number (item_record 1 (elements.Scalar c.args.key) k).bytes (item_bytes shape 2 c.args.element x) c.args.out.now.items _ _ _ front
          (c.in_ok-push_item.ensures.ok ∙ ap (λ l. c.push_front.new.out.items ++ (item_record 1 (elements.Scalar c.args.key) l).bytes) key_is)
          (wrote.0 ∙ ap (λ v. c.push_item.new.out.items ++ item_bytes (shape_of c.args.schema.now) 2 c.args.element (g.M.Lends.item v)) c.value-item.ensures),
      wrote.1,
    ))
    c.write_item.ensures.ok

pub write_entry-returns-in_err-not_too_long-clause-err : goal.write_entry-returns-in_err-not_too_long-clause-err
write_entry-returns-in_err-not_too_long-clause-err g t c =
    let x = g.M.Lends.item (g.M.Lends.value_of c.args.entry.now) in
    let k = bare_leaf (g.M.Lends.item (g.M.Lends.key_of c.args.entry.now)) in
    let b = entry_body (shape_of c.args.schema.now) c.args.key c.args.element k x in
    let key_is = ap (λ v. bare_leaf (g.M.Lends.item v)) c.key-entry_key.ensures in
    let p = err_from_is_err_and c.from_residual.result c.from_residual.ensures.1 in
    rw (p.1, p.2)
    (λ rest whole.
    let ahead = whole ∙ ap (λ v. item_lengths (shape_of c.args.schema.now) (g.M.Lends.item v) ++ rest) (sym c.value-item.ensures) in
    let value = c.counted_len-value_len.ensures rest ahead ∙ ap (λ v. capped (length (item_body (shape_of c.args.schema.now) c.args.element (g.M.Lends.item v)))) c.value-item.ensures in
    let counted = c.entry_len-len.ensures (item_body (shape_of c.args.schema.now) c.args.element x) value
    ∙ ap₂ (λ l w. capped (length ((item_record 1 (elements.Scalar c.args.key) l).bytes ++ (written 2 w (item_body (shape_of c.args.schema.now) c.args.element x)).bytes))) (c.leaf.ensures ∙ key_is) c.element_wire_type.ensures in
    longer (length b) (length (written c.args.number Len b).bytes) _ (omega (arith, record_size c.args.number Len b)) (c.in_err-not_too_long.ensures.err (length b) counted))

pub write_entry-returns-clause-err : goal.write_entry-returns-clause-err
write_entry-returns-clause-err g t c =
    let x = g.M.Lends.item (g.M.Lends.value_of c.args.entry.now) in
    let k = bare_leaf (g.M.Lends.item (g.M.Lends.key_of c.args.entry.now)) in
    let b = entry_body (shape_of c.args.schema.now) c.args.key c.args.element k x in
    let first = (item_record 1 (elements.Scalar c.args.key) k).bytes in
    let second = item_bytes (shape_of c.args.schema.now) 2 c.args.element x in
    let same = ap (λ v. length (item_bytes (shape_of c.args.schema.now) 2 c.args.element (g.M.Lends.item v))) c.value-item.ensures in
    IfErr-weaker c.write_item.result _ _
    (λ e why rest whole.
    longer _ (length (written c.args.number Len b).bytes) e (omega (arith, same, record_size c.args.number Len b, length-append first second))
    (why rest (whole ∙ ap (λ v. item_lengths (shape_of c.args.schema.now) (g.M.Lends.item v) ++ rest) (sym c.value-item.ensures))))
    c.write_item.ensures.err

-- A content: a map's entries, numbers, a packed list, or items one by one.

pub write_content-write_entries-requires : goal.write_content-write_entries-requires
write_content-write_entries-requires g t c κs within =
    let shape = shape_of c.args.schema.now in
    let f = field_shape c.args.field.now in
    let ps = g.M.Lends.parts c.args.field.now.number c.args.content.now in
    let w = entries g.M.Lends.item g.M.Lends.key_of g.M.Lends.value_of shape f c.in-Some.key c.entries-held.result.now ps c.in-Some.ensures c.requires.fit (c.entries-held.ensures c.args.field.now.number) in
    (omega (arith, w.weigh, c.decreases), under within (c.requires.is_schema, (w.keys, w.fit)))

pub write_content-returns-in-Some : goal.write_content-returns-in-Some
write_content-returns-in-Some g t c =
    let shape = shape_of c.args.schema.now in
    let f = field_shape c.args.field.now in
    let ps = g.M.Lends.parts c.args.field.now.number c.args.content.now in
    let w = entries g.M.Lends.item g.M.Lends.key_of g.M.Lends.value_of shape f c.in-Some.key c.entries-held.result.now ps c.in-Some.ensures c.requires.fit (c.entries-held.ensures c.args.field.now.number) in
    record {
      ok = adds w.says c.write_entries.result (λ x. x.now) c.args.lengths.now c.args.out.now.items c.write_entries.new.out.items c.write_entries.ensures.ok;
      err = may_not w.says c.write_entries.result c.args.lengths.now c.write_entries.ensures.err;
    }

pub write_content-push_numbers-requires : goal.write_content-push_numbers-requires
write_content-push_numbers-requires g t c =
    let shape = shape_of c.args.schema.now in
    let f = field_shape c.args.field.now in
    let ps = g.M.Lends.parts c.args.field.now.number c.args.content.now in
    let w = numbers shape f c.in-Some-numbers.numbers.now ps _ _ c.is_packed-packed.ensures c.scalar_of-scalar.ensures c.in-None.ensures c.requires.packed c.requires.fit (c.in-Some-numbers.ensures c.args.field.now.number) in
    w.fit

pub write_content-returns-in-Some-numbers : goal.write_content-returns-in-Some-numbers
write_content-returns-in-Some-numbers g t c =
    let shape = shape_of c.args.schema.now in
    let f = field_shape c.args.field.now in
    let ps = g.M.Lends.parts c.args.field.now.number c.args.content.now in
    let w = numbers shape f c.in-Some-numbers.numbers.now ps _ _ c.is_packed-packed.ensures c.scalar_of-scalar.ensures c.in-None.ensures c.requires.packed c.requires.fit (c.in-Some-numbers.ensures c.args.field.now.number) in
    record {
      ok = adds w.says c.push_numbers.result (λ x. x.now) c.args.lengths.now c.args.out.now.items c.push_numbers.new.out.items c.push_numbers.ensures.ok;
      err = may_not w.says c.push_numbers.result c.args.lengths.now c.push_numbers.ensures.err;
    }

pub write_content-push_packed-requires : goal.write_content-push_packed-requires
write_content-push_packed-requires g t c =
    let shape = shape_of c.args.schema.now in
    let f = field_shape c.args.field.now in
    let ps = g.M.Lends.parts c.args.field.now.number c.args.content.now in
    let w = items g.M.Lends.item shape f c.items-values.result.now ps c.in-None.ensures c.requires.fit (c.items-values.ensures c.args.field.now.number c.in_default.ensures) in
    let packed = sym c.is_packed-packed.ensures ∙ c.if-packed.true in
    let can = packable f.presence f.element packed c.requires.packed in
    leaves_fit g.M.Lends.item shape f.element c.items-values.result.now can w.fit

pub write_content-returns-then-packed : goal.write_content-returns-then-packed
write_content-returns-then-packed g t c =
    let shape = shape_of c.args.schema.now in
    let f = field_shape c.args.field.now in
    let ps = g.M.Lends.parts c.args.field.now.number c.args.content.now in
    let w = items g.M.Lends.item shape f c.items-values.result.now ps c.in-None.ensures c.requires.fit (c.items-values.ensures c.args.field.now.number c.in_default.ensures) in
    let packed = sym c.is_packed-packed.ensures ∙ c.if-packed.true in
    let can = packable f.presence f.element packed c.requires.packed in
    record {
      ok = adds (w.packed packed can) c.push_packed.result (λ x. x.now) c.args.lengths.now c.args.out.now.items c.push_packed.new.out.items c.push_packed.ensures.ok;
      err = may_not (w.packed packed can) c.push_packed.result c.args.lengths.now c.push_packed.ensures.err;
    }

pub write_content-write_items-requires : goal.write_content-write_items-requires
write_content-write_items-requires g t c κs within =
    let shape = shape_of c.args.schema.now in
    let f = field_shape c.args.field.now in
    let ps = g.M.Lends.parts c.args.field.now.number c.args.content.now in
    let w = items g.M.Lends.item shape f c.items-values.result.now ps c.in-None.ensures c.requires.fit (c.items-values.ensures c.args.field.now.number c.in_default.ensures) in
    (omega (arith, w.weigh, c.decreases), under within (c.requires.is_schema, w.fit))

pub write_content-returns-else-packed : goal.write_content-returns-else-packed
write_content-returns-else-packed g t c =
    let shape = shape_of c.args.schema.now in
    let f = field_shape c.args.field.now in
    let ps = g.M.Lends.parts c.args.field.now.number c.args.content.now in
    let w = items g.M.Lends.item shape f c.items-values.result.now ps c.in-None.ensures c.requires.fit (c.items-values.ensures c.args.field.now.number c.in_default.ensures) in
    record {
      ok = adds (w.singly (sym c.is_packed-packed.ensures ∙ c.if-packed.false)) c.write_items.result (λ x. x.now) c.args.lengths.now c.args.out.now.items c.write_items.new.out.items c.write_items.ensures.ok;
      err = may_not (w.singly (sym c.is_packed-packed.ensures ∙ c.if-packed.false)) c.write_items.result c.args.lengths.now c.write_items.ensures.err;
    }
