-- A content fits where it has its field's shape and each of its items fits, and a message where each of its contents does.
use Rattle.std.proofs.Common.{arith, ap, ◌≡◌, List, true, map, refl, sym, subst, ◌∙◌, true≢false}
use denote.Param.Weighed.{most}
use Rattle.pg_dyn.specs.declared.message.Message.TheDeep.{deep-Content, deep-Value}
use Rattle.pg_dyn.specs.declared.message.Message.TheShapes.{weighed-Content-Map-0-at-2}
use Rattle.pg_dyn.specs.declared.message.Content.{Content}
use Rattle.std.specs.List.{AllByRecursion}
use Rattle.pg_schema.specs.Parts.{field_shape, shape_of}
use Rattle.pg_schema.specs.Shape.{FieldShape, fields}
use Rattle.pg_dyn.specs.declared.message.UnknownRecord.{UnknownRecord}
use Rattle.pg_dyn.specs.declared.message.Value.{Value}
use Rattle.pg_dyn.specs.fitting.ContentFits.{ContentFits, EntryKept, HoldsContent, NoneSiblings}
use Rattle.pg_dyn.specs.reading.Content.{is_unknown}
use Rattle.pg_dyn.specs.message.Seen.{IsKey, Rises, record_seen}
use Rattle.pg_dyn.proofs.lemmas.fitting.FitsByContents.{fits_from_contents, contents_from_fits}
use Rattle.pg_dyn.proofs.lemmas.fitting.ItemLeaves.{item_is_key}
use Rattle.pg_dyn.proofs.lemmas.fitting.FitsChecks.{same_field, all_unknown, none_accepted}
use Rattle.pg_dyn.proofs.lemmas.fitting.FitsSteps.{each_more, some_not_none}
use Rattle.pg_dyn.proofs.Lists.{each_weaker, each_at_index, each_from_take}
use Rattle.pg_dyn.proofs.message.+fits.Goals as goal

pub Content::fits-keys_rise-requires : goal.Content::fits-keys_rise-requires
Content::fits-keys_rise-requires t c =
    let Fits = EntryKept (shape_of c.args.schema.now) c.in-Map-Map.key c.args.field.now.element in
    subst (AllByRecursion (λ (e : Value × Value). IsKey e.0)) (sym c.deref-then-are_entries.ensures.value)
    (each_weaker Fits (λ (e : Value × Value). IsKey e.0) (λ e h. item_is_key c.in-Map-Map.key e.0 h.0) c.in-Map-Map.entries.items (subst (AllByRecursion Fits) c.deref-in-Map-Map.ensures.value (c.are_entries.ensures.0 c.if-are_entries.true)))

pub Message::is_one_of-returns-then-not-has : goal.Message::is_one_of-returns-then-not-has
Message::is_one_of-returns-then-not-has t c =
    let a = c.self.inside in (
      (λ e. absurd (true≢false (sym e))),
      λ fits.
          let by = contents_from_fits (shape_of c.args.schema.now) a.type_id a.fields.items (map record_seen a.unknown.items) c.args.self.now c.self.view_is c.requires.shape c.self.invariant.filled c.self.invariant.keys fits in
          absurd (true≢false (sym (c.has.ensures.1 by.type_is_there) ∙ c.if-not-has.true)),
    )

pub Message::is_one_of-returns-in_default : goal.Message::is_one_of-returns-in_default
Message::is_one_of-returns-in_default t c =
    let a = c.self.inside in (
      (λ e. absurd (true≢false (sym e))),
      λ fits.
          let by = contents_from_fits (shape_of c.args.schema.now) a.type_id a.fields.items (map record_seen a.unknown.items) c.args.self.now c.self.view_is c.requires.shape c.self.invariant.filled c.self.invariant.keys fits in
          let held = each_at_index (HoldsContent (shape_of c.args.schema.now) a.type_id) _ _ c.loop-number.number-index c.loop-number-item.result c.deref-number-items.ensures.value c.loop-number-test.true c.loop-number-item.is by.each in
          absurd (some_not_none held.field (sym held.found ∙ sym c.in_default.ensures.shape)),
    )

pub Message::is_one_of-returns-then-not-fits : goal.Message::is_one_of-returns-then-not-fits
Message::is_one_of-returns-then-not-fits t c =
    let a = c.self.inside in (
      (λ e. absurd (true≢false (sym e))),
      λ fits.
          let by = contents_from_fits (shape_of c.args.schema.now) a.type_id a.fields.items (map record_seen a.unknown.items) c.args.self.now c.self.view_is c.requires.shape c.self.invariant.filled c.self.invariant.keys fits in
          let held = each_at_index (HoldsContent (shape_of c.args.schema.now) a.type_id) _ _ c.loop-number.number-index c.loop-number-item.result c.deref-number-items.ensures.value c.loop-number-test.true c.loop-number-item.is by.each in
          let same : held.field ≡ field_shape c.in-Some.field.now = same_field held.field (field_shape c.in-Some.field.now) (sym held.found ∙ sym c.in-Some.ensures.shape) in
          let here = subst (λ (f : FieldShape). ContentFits (shape_of c.args.schema.now) f.presence f.element c.loop-number-item.result.1) same held.fits in
          absurd (true≢false (sym (c.fits.ensures.1 here) ∙ c.if-not-fits.true)),
    )

pub Message::is_one_of-loop-number-preserved : goal.Message::is_one_of-loop-number-preserved
Message::is_one_of-loop-number-preserved t c =
    each_more (HoldsContent (shape_of c.args.schema.now) c.self.inside.type_id) c.deref-number-items.result.now c.loop-number.number-index c.loop-number-item.result c.loop-number-test.true c.loop-number-item.is c.loop-number.invariant
    (record { field = field_shape c.in-Some.field.now; found = sym c.in-Some.ensures.shape; fits = c.fits.ensures.0 c.if-not-fits.false })

pub Content::are_entries-returns-then-not-is_item : goal.Content::are_entries-returns-then-not-is_item
Content::are_entries-returns-then-not-is_item t c = (
  (λ e. absurd (true≢false (sym e))),
  λ each.
      let one = each_at_index (EntryKept (shape_of c.args.schema.now) c.args.key c.args.element) _ _ c.loop-entry_key.entry_key-index c.loop-entry_key-item.result refl c.loop-entry_key-test.true c.loop-entry_key-item.is each in
      absurd (true≢false (sym (c.is_item.ensures.1 one.0) ∙ c.if-not-is_item.true)),
)

pub Content::are_entries-returns-then-not-fits : goal.Content::are_entries-returns-then-not-fits
Content::are_entries-returns-then-not-fits t c = (
  (λ e. absurd (true≢false (sym e))),
  λ each.
      let one = each_at_index (EntryKept (shape_of c.args.schema.now) c.args.key c.args.element) _ _ c.loop-entry_key.entry_key-index c.loop-entry_key-item.result refl c.loop-entry_key-test.true c.loop-entry_key-item.is each in
      absurd (true≢false (sym (c.fits.ensures.1 one.1) ∙ c.if-not-fits.true)),
)

pub Content::are_entries-loop-entry_key-preserved : goal.Content::are_entries-loop-entry_key-preserved
Content::are_entries-loop-entry_key-preserved t c =
    each_more (EntryKept (shape_of c.args.schema.now) c.args.key c.args.element) c.args.entries.now c.loop-entry_key.entry_key-index c.loop-entry_key-item.result c.loop-entry_key-test.true c.loop-entry_key-item.is c.loop-entry_key.invariant
    (c.is_item.ensures.0 c.if-not-is_item.false, c.fits.ensures.0 c.if-not-fits.false)

pub Message::is_one_of-none_siblings-requires : goal.Message::is_one_of-none_siblings-requires
Message::is_one_of-none_siblings-requires t c = subst Rises (sym c.deref.ensures.value) c.self.invariant.rises

pub Message::is_one_of-returns-then-not-none_siblings : goal.Message::is_one_of-returns-then-not-none_siblings
Message::is_one_of-returns-then-not-none_siblings t c =
    let a = c.self.inside in (
      (λ e. absurd (true≢false (sym e))),
      λ fits.
          let by = contents_from_fits (shape_of c.args.schema.now) a.type_id a.fields.items (map record_seen a.unknown.items) c.args.self.now c.self.view_is c.requires.shape c.self.invariant.filled c.self.invariant.keys fits in
          let apart = subst (NoneSiblings (fields (shape_of c.args.schema.now) a.type_id)) (sym c.deref.ensures.value) by.apart in
          absurd (true≢false (sym (c.none_siblings.ensures.1 apart) ∙ c.if-not-none_siblings.true)),
    )

pub Message::is_one_of-returns : goal.Message::is_one_of-returns
Message::is_one_of-returns t c =
    let a = c.self.inside in
    let fs = fields (shape_of c.args.schema.now) a.type_id in (
      (λ e.
          fits_from_contents (shape_of c.args.schema.now) a.type_id a.fields.items (map record_seen a.unknown.items) c.args.self.now c.self.view_is c.self.invariant.rises (record {
            type_is_there = c.has.ensures.0 c.if-not-has.false;
            each = each_from_take (HoldsContent (shape_of c.args.schema.now) a.type_id) _ _ c.loop-number.number-index c.deref-number-items.ensures.value c.loop-number-test.false c.loop-number.invariant;
            apart = subst (NoneSiblings (fields (shape_of c.args.schema.now) a.type_id)) c.deref.ensures.value (c.none_siblings.ensures.0 c.if-not-none_siblings.false);
            unknown = all_unknown (fields (shape_of c.args.schema.now) a.type_id) a.unknown.items
                (subst (λ (us : List UnknownRecord). AllByRecursion (λ (u : UnknownRecord). is_unknown (fields (shape_of c.args.schema.now) a.type_id) (record_seen u) ≡ true) us) c.deref-2.ensures.value (c.unknown_fit.ensures.0 e)) c.self.invariant.records;
          })),
      λ fits.
          let by = contents_from_fits (shape_of c.args.schema.now) a.type_id a.fields.items (map record_seen a.unknown.items) c.args.self.now c.self.view_is c.requires.shape c.self.invariant.filled c.self.invariant.keys fits in
          c.unknown_fit.ensures.1 (subst (λ (us : List UnknownRecord). AllByRecursion (λ (u : UnknownRecord). is_unknown (fields (shape_of c.args.schema.now) a.type_id) (record_seen u) ≡ true) us) (sym c.deref-2.ensures.value) (none_accepted (fields (shape_of c.args.schema.now) a.type_id) a.unknown.items by.unknown)),
    )

pub Content::fits-are_items-requires : goal.Content::fits-are_items-requires
Content::fits-are_items-requires t c = (omega (arith, c.decreases, ap (most (λ (v : Value). deep-Value v)) c.deref.ensures.value, ap (λ (x : Content). deep-Content x) c.in-Repeated-Many.is-1), c.requires)

pub Content::fits-are_entries-requires : goal.Content::fits-are_entries-requires
Content::fits-are_entries-requires t c = (omega (arith, c.decreases, ap (most ((weighed-Content-Map-0-at-2).weight Value deep-Value)) c.deref-in-Map-Map.ensures.value, ap (λ (x : Content). deep-Content x) c.in-Map-Map.is-1), c.requires)
