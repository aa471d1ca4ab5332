-- One item, a list item by item, and a map's entries in order.
use Rattle.std.proofs.Common.{◌≡◌, false, map, ap, sym, subst, ◌∙◌}
use Rattle.std.proofs.lemmas.List.Sorted.{length_permutation}
use Rattle.pg_schema.specs.declared.parts.field.Presence.{Presence}
use Rattle.pg_schema.specs.Parts.{field_shape, shape_of}
use Rattle.pg_dyn.specs.declared.message.Content.{Content}
use Rattle.pg_dyn.specs.declared.message.Content.TheVariants as contents
use Rattle.pg_dyn.specs.declared.message.Value.{Value}
use Rattle.pg_dyn.specs.setting.ContentFaults.{HasKeyTwice}
use Rattle.pg_dyn.specs.fitting.ContentFits.{ContentFits, EntryFits, ItemsFit}
use Rattle.pg_dyn.specs.message.KeyOrder.{KeysAlike}
use Rattle.pg_dyn.specs.message.Seen.{content_seen, IsMapKey}
use Rattle.pg_dyn.specs.setting.Setting.{normalized, normalized_by}
use Rattle.pg_dyn.specs.inner.Reported.{is_nothing, MayHoldKeys}
use Rattle.pg_dyn.specs.fitting.ScalarItems.{IsKeptAs}
use Rattle.pg_dyn.specs.fitting.Texts.{kept_in}
use Rattle.pg_dyn.proofs.lemmas.message.KeyLaws.{each_moved}
use Rattle.pg_dyn.proofs.Lists.{each_both, each_weaker}
use Rattle.pg_dyn.proofs.lemmas.setting.KeptVariants.{map_key}
use Rattle.pg_dyn.proofs.lemmas.setting.NormalizedLaws.{as_long, entries_kept, keys_rise, list_fits, list_seen, map_items, map_seen, none_left, one_fits, one_seen}
use Rattle.pg_dyn.proofs.message.Content.normalized.Goals as goal

pub returns-in_default-One-clause-fits : goal.returns-in_default-One-clause-fits
returns-in_default-One-clause-fits c =
    let shape = shape_of c.args.schema.now in
    let p = c.args.field.now.presence in
    let e = c.args.field.now.element in
    one_fits shape p e c.in_default-One.value c.kept_for.result (subst (ItemsFit shape p e) c.in_default-One.is-1 c.requires.items) (subst (λ (x : Content). is_nothing c.args.field.now.presence x ≡ false) c.in_default-One.is-1 c.requires.something)
    c.kept_for.ensures.fits (c.kept_for.ensures.seen false)

pub returns-in_default-One-clause-seen : goal.returns-in_default-One-clause-seen
returns-in_default-One-clause-seen c =
    λ n.
    let p = c.args.field.now.presence in
    let e = c.args.field.now.element in
    one_seen (shape_of c.args.schema.now) p e c.in_default-One.value c.kept_for.result n (subst (λ (x : Content). is_nothing c.args.field.now.presence x ≡ false) c.in_default-One.is-1 c.requires.something) (c.kept_for.ensures.seen false)
    ∙ ap (λ (x : Content). normalized (field_shape c.args.field.now) (content_seen n x)) (sym c.in_default-One.is-1)

pub returns-in_default-Many-clause-fits : goal.returns-in_default-Many-clause-fits
returns-in_default-Many-clause-fits c =
    let shape = shape_of c.args.schema.now in
    let p = c.args.field.now.presence in
    let e = c.args.field.now.element in
    list_fits shape p e c.in_default-Many.values c.kept_values.result (subst (ItemsFit shape p e) c.in_default-Many.is-1 c.requires.items) c.kept_values.ensures.fit c.kept_values.ensures.seen

pub returns-in_default-Many-clause-seen : goal.returns-in_default-Many-clause-seen
returns-in_default-Many-clause-seen c =
    λ n.
    let shape = shape_of c.args.schema.now in
    let p = c.args.field.now.presence in
    let e = c.args.field.now.element in
    list_seen shape p e c.in_default-Many.values c.kept_values.result.items n (subst (ItemsFit shape p e) c.in_default-Many.is-1 c.requires.items) c.kept_values.ensures.seen ∙ ap (λ (x : Content). normalized (field_shape c.args.field.now) (content_seen n x)) (sym c.in_default-Many.is-1)

pub kept_entries-requires : goal.kept_entries-requires
kept_entries-requires c =
    let shape = shape_of c.args.schema.now in
    let e = c.args.field.now.element in
    each_moved (EntryFits shape c.in-Map-Map.key e) c.in-Map-Map.entries.items c.sorted.result.items c.sorted.ensures.moved (map_items shape c.args.field.now.presence e c.in-Map-Map.key c.args.self c.in-Map-Map.entries c.in-Map-Map.is-0 c.in-Map-Map.is-1 c.requires.items)

pub returns-in-Map-Map-clause-seen : goal.returns-in-Map-Map-clause-seen
returns-in-Map-Map-clause-seen c =
    λ n.
    map_seen c.args.field.now.element c.in-Map-Map.entries.items c.sorted.result.items c.kept_entries.result.items (subst KeysAlike c.in-Map-Map.is-1 c.requires.alike) (subst (λ (x : Content). HasKeyTwice x → ⊥) c.in-Map-Map.is-1 c.requires.once) c.sorted.ensures.moved c.sorted.ensures.rise
    c.kept_entries.ensures.seen n
    ∙ ap (λ (p : Presence). map (kept_in c.args.field.now.element) (normalized_by p (content_seen n (contents.Map c.in-Map-Map.entries)))) (sym c.in-Map-Map.is-0)
    ∙ ap (λ (x : Content). normalized (field_shape c.args.field.now) (content_seen n x)) (sym c.in-Map-Map.is-1)

pub returns-in-Map-Map-clause-fits : goal.returns-in-Map-Map-clause-fits
returns-in-Map-Map-clause-fits c =
    subst (λ (p : Presence). ContentFits (shape_of c.args.schema.now) p c.args.field.now.element (contents.Map c.kept_entries.result)) (sym c.in-Map-Map.is-0)
    (entries_kept (shape_of c.args.schema.now) c.in-Map-Map.key c.args.field.now.element c.kept_entries.result.items c.sorted.result.items c.kept_entries.ensures.fit c.kept_entries.ensures.seen, keys_rise c.args.field.now.element c.kept_entries.result.items c.sorted.result.items c.kept_entries.ensures.seen c.sorted.ensures.rise)

pub returns-in-Map-Map-clause-filled : goal.returns-in-Map-Map-clause-filled
returns-in-Map-Map-clause-filled c =
    λ none.
    none_left c.in-Map-Map.entries.items c.kept_entries.result.items (as_long c.args.field.now.element c.kept_entries.result.items c.sorted.result.items c.kept_entries.ensures.seen ∙ length_permutation c.in-Map-Map.entries.items c.sorted.result.items c.sorted.ensures.moved)
    (subst (λ (x : Content). is_nothing c.args.field.now.presence x ≡ false) c.in-Map-Map.is-1 c.requires.something) none

pub returns-in-Map-Map-clause-keys : goal.returns-in-Map-Map-clause-keys
returns-in-Map-Map-clause-keys c =
    let key = c.in-Map-Map.key in
    let keyed = subst MayHoldKeys c.in-Map-Map.is-0 c.requires.keyed in
    let Fits = EntryFits (shape_of c.args.schema.now) key c.args.field.now.element in
    each_weaker (λ (x : Value × Value). Fits x × IsKeptAs key x.0) (λ (x : Value × Value). IsMapKey x.0) (λ x h. map_key key x.0 keyed h.0.0 h.1) c.kept_entries.result.items
    (each_both Fits (λ (x : Value × Value). IsKeptAs key x.0) c.kept_entries.result.items c.kept_entries.ensures.fit c.kept_entries.ensures.keys)
