-- What is counted of each item, entry, content and message is the length of what is written of it.
use Rattle.std.proofs.Common.{true, ◌≡◌, ℕ, ◌++◌, List, length, flat_map, Some, refl, ap, ap₂, sym, subst, ◌∙◌, arith, length-append}
use Rattle.pg_schema.specs.declared.parts.field.Element.TheVariants as elements
use Rattle.pg_schema.specs.declared.parts.field.Scalar.{Scalar}
use Rattle.pg_schema.specs.Parts.{field_shape, shape_of}
use Rattle.pg_schema.specs.Shape.{fields, field_at}
use Rattle.pg_wire.specs.Records.{written}
use Rattle.pg_dyn.specs.message.Kept.{type_of}
use Rattle.pg_dyn.specs.message.KeptParts.{unknown_of}
use Rattle.pg_dyn.specs.encoding.Lending.{HoldsParts, bare_leaf}
use Rattle.pg_dyn.specs.encoding.Writing.{bytes_of, item_record}
use Rattle.pg_dyn.specs.encoding.Written.{BareFits, capped, entry_body, entry_record, item_body, item_bytes, item_lengths}
use Rattle.pg_dyn.proofs.lemmas.encoding.ContentParts.{counted, listed, entries, items, numbers}
use Rattle.pg_dyn.proofs.lemmas.encoding.EncodeSteps.{content_bytes, contents_held, counted_all, counted_more, field_bytes, field_fits, field_is, if_on_ok, leaves_fit, listed_all, listed_more, own_is, packable, packs, records_are, under}
use Rattle.pg_dyn.proofs.lemmas.fitting.FitsSteps.{some_not_none}
use Rattle.pg_dyn.proofs.lemmas.encoding.LentWeights.{content_lighter, item_lighter, parts_weight, bare_weight}
use Rattle.pg_dyn.proofs.Lists.{each_at_index}
use Rattle.pg_dyn.proofs.lemmas.encoding.NotedLengths.{content_lengths, field_noted, inner_is}
use Rattle.pg_dyn.proofs.lemmas.reading.records.Splitting.{found_number}
use Rattle.pg_dyn.proofs.encoding.counting.+count.Goals as goal

pub count_items-count_item-requires : goal.count_items-count_item-requires
count_items-count_item-requires g t c κs within =
    let lighter = item_lighter g.M.Lends.item c.args.values.now c.loop-value.value-index c.value-item.result c.loop-value-test.true c.value-item.is in
    let fits = each_at_index (λ v. BareFits (shape_of c.args.schema.now) c.args.element (g.M.Lends.item v)) c.args.values.now c.args.values.now c.loop-value.value-index c.value-item.result refl c.loop-value-test.true c.value-item.is c.requires.fit in
    (omega (arith, lighter, c.decreases), under within (c.requires.is_schema, fits))

pub count_items-returns : goal.count_items-returns
count_items-returns g t c =
    record {
      len = counted_all (λ v. item_bytes (shape_of c.args.schema.now) c.args.number c.args.element (g.M.Lends.item v)) c.args.values.now c.args.values.now c.loop-value.value-index c.loop-value.total refl c.loop-value-test.false c.loop-value.invariant.total;
      inner = listed_all (λ v. item_lengths (shape_of c.args.schema.now) (g.M.Lends.item v)) c.args.values.now c.args.values.now c.loop-value.value-index c.args.inner.now.items c.loop-value.inner.items refl c.loop-value-test.false c.loop-value.invariant.inner;
    }

pub count_entries-count_item-requires : goal.count_entries-count_item-requires
count_entries-count_item-requires g t c κs within =
    let lighter = item_lighter (λ e. g.M.Lends.item (g.M.Lends.value_of e)) c.args.entries.now c.loop-entry.entry-index c.entry-item.result c.loop-entry-test.true c.entry-item.is in
    let same = ap (λ v. bare_weight (g.M.Lends.item v)) c.value.ensures in
    let fits = each_at_index (λ e. BareFits (shape_of c.args.schema.now) c.args.element (g.M.Lends.item (g.M.Lends.value_of e))) c.args.entries.now c.args.entries.now c.loop-entry.entry-index c.entry-item.result refl c.loop-entry-test.true c.entry-item.is c.requires.fit in
    (omega (arith, lighter, same, c.decreases), under within (c.requires.is_schema, subst (λ v. BareFits (shape_of c.args.schema.now) c.args.element (g.M.Lends.item v)) (sym c.value.ensures) fits))

pub count_entries-loop-entry-preserved : goal.count_entries-loop-entry-preserved
count_entries-loop-entry-preserved g t c =
    let shape = shape_of c.args.schema.now in
    let item = g.M.Lends.item in
    let x = g.M.Lends.item (g.M.Lends.value_of c.entry-item.result) in
    let k = bare_leaf (g.M.Lends.item (g.M.Lends.key_of c.entry-item.result)) in
    let counted = c.in_ok-len.ensures.len ∙ ap (λ v. capped (length (item_body (shape_of c.args.schema.now) c.args.element (g.M.Lends.item v)))) c.value.ensures in
    let leaf_is = c.leaf.ensures ∙ ap (λ v. bare_leaf (g.M.Lends.item v)) c.key.ensures in
    let body_is = c.entry_len-body.ensures (item_body shape c.args.element x) counted
    ∙ ap₂ (λ l w. capped (length ((item_record 1 (elements.Scalar c.args.key) l).bytes ++ (written 2 w (item_body (shape_of c.args.schema.now) c.args.element x)).bytes))) leaf_is c.element_wire_type-wire_type.ensures in
    let one = c.record_len.ensures (entry_body shape c.args.key c.args.element k x) body_is in
    record {
      total = counted_more (λ e. entry_record (shape_of c.args.schema.now) c.args.number c.args.key c.args.element (bare_leaf (g.M.Lends.item (g.M.Lends.key_of e))) (g.M.Lends.item (g.M.Lends.value_of e))) c.args.entries.now c.loop-entry.entry-index c.entry-item.result c.add-total.result c.loop-entry-test.true c.entry-item.is
          (c.add-total.ensures _ _ c.loop-entry.invariant.total one);
      inner = listed_more (λ e. item_lengths (shape_of c.args.schema.now) (g.M.Lends.item (g.M.Lends.value_of e))) c.args.entries.now c.loop-entry.entry-index c.entry-item.result c.args.inner.now.items c.loop-entry.inner.items c.count_item.new.inner.items c.loop-entry-test.true c.entry-item.is
          c.loop-entry.invariant.inner (c.in_ok-len.ensures.inner ∙ ap (λ v. c.loop-entry.inner.items ++ item_lengths (shape_of c.args.schema.now) (g.M.Lends.item v)) c.value.ensures);
    }

pub count_entries-returns : goal.count_entries-returns
count_entries-returns g t c =
    record {
      len = counted_all (λ e. entry_record (shape_of c.args.schema.now) c.args.number c.args.key c.args.element (bare_leaf (g.M.Lends.item (g.M.Lends.key_of e))) (g.M.Lends.item (g.M.Lends.value_of e))) c.args.entries.now c.args.entries.now c.loop-entry.entry-index c.loop-entry.total refl c.loop-entry-test.false c.loop-entry.invariant.total;
      inner = listed_all (λ e. item_lengths (shape_of c.args.schema.now) (g.M.Lends.item (g.M.Lends.value_of e))) c.args.entries.now c.args.entries.now c.loop-entry.entry-index c.args.inner.now.items c.loop-entry.inner.items refl c.loop-entry-test.false c.loop-entry.invariant.inner;
    }

pub count_content-count_entries-requires : goal.count_content-count_entries-requires
count_content-count_entries-requires g t c κs within =
    let shape = shape_of c.args.schema.now in
    let f = field_shape c.args.field.now in
    let ps = g.M.Lends.parts c.args.field.now.number c.args.content.now in
    let w = entries g.M.Lends.item g.M.Lends.key_of g.M.Lends.value_of shape f c.in-Some.key c.entries-held.result.now ps c.in-Some.ensures c.requires.fit (c.entries-held.ensures c.args.field.now.number) in
    (omega (arith, w.weigh, c.decreases), under within (c.requires.is_schema, (c.requires.number, (w.keys, w.fit))))

pub count_content-returns-in-Some : goal.count_content-returns-in-Some
count_content-returns-in-Some g t c =
    let shape = shape_of c.args.schema.now in
    let f = field_shape c.args.field.now in
    let ps = g.M.Lends.parts c.args.field.now.number c.args.content.now in
    let w = entries g.M.Lends.item g.M.Lends.key_of g.M.Lends.value_of shape f c.in-Some.key c.entries-held.result.now ps c.in-Some.ensures c.requires.fit (c.entries-held.ensures c.args.field.now.number) in
    record {
      len = counted w.says c.count_entries.result c.count_entries.ensures.len;
      inner = listed w.says c.count_entries.result c.args.inner.now.items c.count_entries.new.inner.items c.count_entries.ensures.inner;
    }

pub count_content-count_numbers-requires-clause-fit : goal.count_content-count_numbers-requires-clause-fit
count_content-count_numbers-requires-clause-fit g t c =
    let shape = shape_of c.args.schema.now in
    let f = field_shape c.args.field.now in
    let ps = g.M.Lends.parts c.args.field.now.number c.args.content.now in
    let w = numbers shape f c.in-Some-numbers.numbers.now ps _ _ c.is_packed-packed.ensures c.scalar_of-scalar.ensures c.in-None.ensures c.requires.packed c.requires.fit (c.in-Some-numbers.ensures c.args.field.now.number) in
    w.fit

pub count_content-returns-in-Some-numbers : goal.count_content-returns-in-Some-numbers
count_content-returns-in-Some-numbers g t c =
    let shape = shape_of c.args.schema.now in
    let f = field_shape c.args.field.now in
    let ps = g.M.Lends.parts c.args.field.now.number c.args.content.now in
    let w = numbers shape f c.in-Some-numbers.numbers.now ps _ _ c.is_packed-packed.ensures c.scalar_of-scalar.ensures c.in-None.ensures c.requires.packed c.requires.fit (c.in-Some-numbers.ensures c.args.field.now.number) in
    record {
      len = counted w.says c.count_numbers.result c.count_numbers.ensures.len;
      inner = listed w.says c.count_numbers.result c.args.inner.now.items c.count_numbers.new.inner.items (if_on_ok c.count_numbers.result c.count_numbers.ensures.inner (λ e. e));
    }

pub count_content-count_packed-requires-clause-fit : goal.count_content-count_packed-requires-clause-fit
count_content-count_packed-requires-clause-fit g t c =
    let shape = shape_of c.args.schema.now in
    let f = field_shape c.args.field.now in
    let ps = g.M.Lends.parts c.args.field.now.number c.args.content.now in
    let w = items g.M.Lends.item shape f c.items-values.result.now ps c.in-None.ensures c.requires.fit (c.items-values.ensures c.args.field.now.number c.in_default.ensures) in
    let packed = sym c.is_packed-packed.ensures ∙ c.if-packed.true in
    let can = packable f.presence f.element packed c.requires.packed in
    leaves_fit g.M.Lends.item shape f.element c.items-values.result.now can w.fit

pub count_content-returns-then-packed : goal.count_content-returns-then-packed
count_content-returns-then-packed g t c =
    let shape = shape_of c.args.schema.now in
    let f = field_shape c.args.field.now in
    let ps = g.M.Lends.parts c.args.field.now.number c.args.content.now in
    let w = items g.M.Lends.item shape f c.items-values.result.now ps c.in-None.ensures c.requires.fit (c.items-values.ensures c.args.field.now.number c.in_default.ensures) in
    let packed = sym c.is_packed-packed.ensures ∙ c.if-packed.true in
    let can = packable f.presence f.element packed c.requires.packed in
    record {
      len = counted (w.packed packed can) c.count_packed.result c.count_packed.ensures.len;
      inner = listed (w.packed packed can) c.count_packed.result c.args.inner.now.items c.count_packed.new.inner.items (if_on_ok c.count_packed.result c.count_packed.ensures.inner (λ e. e));
    }

pub count_content-count_items-requires : goal.count_content-count_items-requires
count_content-count_items-requires g t c κs within =
    let shape = shape_of c.args.schema.now in
    let f = field_shape c.args.field.now in
    let ps = g.M.Lends.parts c.args.field.now.number c.args.content.now in
    let w = items g.M.Lends.item shape f c.items-values.result.now ps c.in-None.ensures c.requires.fit (c.items-values.ensures c.args.field.now.number c.in_default.ensures) in
    (omega (arith, w.weigh, c.decreases), under within (c.requires.is_schema, (c.requires.number, w.fit)))

pub count_content-returns-else-packed : goal.count_content-returns-else-packed
count_content-returns-else-packed g t c =
    let shape = shape_of c.args.schema.now in
    let f = field_shape c.args.field.now in
    let ps = g.M.Lends.parts c.args.field.now.number c.args.content.now in
    let w = items g.M.Lends.item shape f c.items-values.result.now ps c.in-None.ensures c.requires.fit (c.items-values.ensures c.args.field.now.number c.in_default.ensures) in
    record {
      len = counted (w.singly (sym c.is_packed-packed.ensures ∙ c.if-packed.false)) c.count_items.result c.count_items.ensures.len;
      inner = listed (w.singly (sym c.is_packed-packed.ensures ∙ c.if-packed.false)) c.count_items.result c.args.inner.now.items c.count_items.new.inner.items c.count_items.ensures.inner;
    }

pub count_message-unreachable-requires : goal.count_message-unreachable-requires
count_message-unreachable-requires g t c =
    let m = g.M.Lends.kept c.args.message.now in
    let ms = c.fields-number-items.result.now in
    let held = contents_held g.M.Lends.parts (shape_of c.args.schema.now) m ms c.requires.is_schema.shape c.requires.fits c.fields-number-items.ensures.whole c.fields-number-items.ensures.filled c.fields-number-items.ensures.numbered in
    let one = each_at_index (λ x. HoldsParts (shape_of c.args.schema.now) (type_of m) x.0 (g.M.Lends.parts x.0 x.1)) ms ms c.loop-number.number-index c.loop-number-item.result refl c.loop-number-test.true c.loop-number-item.is held in
    absurd (some_not_none one.field (sym one.found ∙ ap (λ u. field_at (fields (shape_of c.args.schema.now) u) c.loop-number-item.result.0) (sym c.message_type-type_id.ensures) ∙ sym c.in_default.ensures.shape))

pub count_message-count_content-requires : goal.count_message-count_content-requires
count_message-count_content-requires g t c κs within =
    let shape = shape_of c.args.schema.now in
    let parts = g.M.Lends.parts in
    let m = g.M.Lends.kept c.args.message.now in
    let ms = c.fields-number-items.result.now in
    let one = c.loop-number-item.result in
    let f = field_shape c.in-Some.field.now in
    let found : field_at (fields (shape_of c.args.schema.now) (type_of (g.M.Lends.kept c.args.message.now))) c.loop-number-item.result.0 ≡ Some (field_shape c.in-Some.field.now) =
    ap (λ u. field_at (fields (shape_of c.args.schema.now) u) c.loop-number-item.result.0) (sym c.message_type-type_id.ensures) ∙ sym c.in-Some.ensures.shape in
    let number = found_number (fields (shape_of c.args.schema.now) (type_of (g.M.Lends.kept c.args.message.now))) c.loop-number-item.result.0 (field_shape c.in-Some.field.now) found in
    let held = contents_held parts shape m ms c.requires.is_schema.shape c.requires.fits c.fields-number-items.ensures.whole c.fields-number-items.ensures.filled c.fields-number-items.ensures.numbered in
    let here = each_at_index (λ x. HoldsParts (shape_of c.args.schema.now) (type_of (g.M.Lends.kept c.args.message.now)) x.0 (g.M.Lends.parts x.0 x.1)) ms ms c.loop-number.number-index c.loop-number-item.result refl c.loop-number-test.true c.loop-number-item.is held in
    let lighter = content_lighter parts m ms c.loop-number.number-index c.loop-number-item.result c.fields-number-items.ensures.whole c.loop-number-test.true c.loop-number-item.is in
    let same = ap (λ k. parts_weight (g.M.Lends.parts k c.loop-number-item.result.1)) number in
    let is_field = field_is shape (type_of m) c.requires.is_schema.shape c.loop-number-item.result.0 f found in
    (omega (arith, lighter, same, c.decreases), under within (c.requires.is_schema, (is_field.number_below, (packs shape (type_of m) c.requires.is_schema.shape c.loop-number-item.result.0 f found, field_fits parts shape m c.loop-number-item.result f found here))))

pub count_message-loop-number-preserved : goal.count_message-loop-number-preserved
count_message-loop-number-preserved g t c =
    let shape = shape_of c.args.schema.now in
    let m = g.M.Lends.kept c.args.message.now in
    let ms = c.fields-number-items.result.now in
    let f = field_shape c.in-Some.field.now in
    let found : field_at (fields (shape_of c.args.schema.now) (type_of (g.M.Lends.kept c.args.message.now))) c.loop-number-item.result.0 ≡ Some (field_shape c.in-Some.field.now) =
    ap (λ u. field_at (fields (shape_of c.args.schema.now) u) c.loop-number-item.result.0) (sym c.message_type-type_id.ensures) ∙ sym c.in-Some.ensures.shape in
    record {
      total = counted_more (content_bytes g.M.Lends.parts (shape_of c.args.schema.now) (g.M.Lends.kept c.args.message.now)) c.fields-number-items.result.now c.loop-number.number-index c.loop-number-item.result c.add-total.result c.loop-number-test.true c.loop-number-item.is
          (c.add-total.ensures _ _ c.loop-number.invariant.total (c.in_ok-len.ensures.len ∙ ap (λ bs. capped (length bs)) (field_bytes g.M.Lends.parts shape m c.loop-number-item.result f found)));
      inner = listed_more (content_lengths g.M.Lends.parts (shape_of c.args.schema.now) (g.M.Lends.kept c.args.message.now)) c.fields-number-items.result.now c.loop-number.number-index c.loop-number-item.result c.args.inner.now.items c.loop-number.inner.items c.count_content.new.inner.items c.loop-number-test.true c.loop-number-item.is
          c.loop-number.invariant.inner (c.in_ok-len.ensures.inner ∙ ap (λ ns. c.loop-number.inner.items ++ ns) (field_noted g.M.Lends.parts shape m c.loop-number-item.result f found));
    }

pub count_message-returns : goal.count_message-returns
count_message-returns g t c =
    let m = g.M.Lends.kept c.args.message.now in
    let ms = c.fields-number-items.result.now in
    let held = contents_held g.M.Lends.parts (shape_of c.args.schema.now) m ms c.requires.is_schema.shape c.requires.fits c.fields-number-items.ensures.whole c.fields-number-items.ensures.filled c.fields-number-items.ensures.numbered in
    let counted = counted_all (content_bytes g.M.Lends.parts (shape_of c.args.schema.now) m) ms ms c.loop-number.number-index c.loop-number.total refl c.loop-number-test.false c.loop-number.invariant.total in
    let unknown = c.unknown_len.ensures ∙ ap (λ bs. capped (length bs)) (records_are g.M.Lends.record_of c.records.result.now (unknown_of m) c.records.ensures) in
    record {
      len = c.add.ensures (length (flat_map (content_bytes g.M.Lends.parts (shape_of c.args.schema.now) m) ms)) (length (bytes_of (unknown_of m))) counted unknown
          ∙ ap capped (sym (length-append (flat_map (content_bytes g.M.Lends.parts (shape_of c.args.schema.now) m) ms) (bytes_of (unknown_of m))))
          ∙ ap (λ (b : List ℕ). capped (length b)) (own_is g.M.Lends.parts (shape_of c.args.schema.now) m ms c.requires.is_schema.shape c.fields-number-items.ensures.whole c.fields-number-items.ensures.rises held);
      inner = listed_all (content_lengths g.M.Lends.parts (shape_of c.args.schema.now) m) ms ms c.loop-number.number-index c.args.inner.now.items c.loop-number.inner.items refl c.loop-number-test.false c.loop-number.invariant.inner
          ∙ ap (λ xs. c.args.inner.now.items ++ xs) (inner_is g.M.Lends.parts (shape_of c.args.schema.now) m ms c.requires.is_schema.shape c.fields-number-items.ensures.whole c.fields-number-items.ensures.rises held);
    }
