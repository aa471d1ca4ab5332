use Rattle.std.proofs.Common.{arith, ap, sym, subst, map, drop, length, ◌∙◌}
use Rattle.pg_schema.specs.Parts.{shape_of}
use Rattle.pg_dyn.specs.inner.Reported.{entry_kept, entry_seen}
use Rattle.pg_dyn.specs.fitting.ContentFits.{EntryFits}
use Rattle.pg_dyn.specs.fitting.ScalarItems.{IsKeptAs}
use Rattle.pg_dyn.proofs.lemmas.setting.KeptVariants.{entries_same, keys_same}
use Rattle.pg_dyn.proofs.lemmas.setting.NormalizedLaws.{all_kept, each_replaced, each_up_to, entry_once, found_at, keep_entry, kept_next, written_back}
use Rattle.pg_dyn.proofs.setting.normalizing.kept_entries.Goals as goal

pub kept_entry-requires : goal.kept_entry-requires
kept_entry-requires c =
    let l = c.loop-entry in
    subst (EntryFits (shape_of c.args.schema.now) c.args.key c.args.element) (sym (c.replace-taken.ensures.value ∙ sym c.entry-item.is))
    (found_at (EntryFits (shape_of c.args.schema.now) c.args.key c.args.element) l.entry-items l.entry-index c.entry-item.result (omega (arith, c.loop-entry-test.true, l.auto.entry-items)) c.entry-item.is l.invariant.fit)

pub loop-entry-preserved : goal.loop-entry-preserved
loop-entry-preserved c =
    let l = c.loop-entry in
    let e = c.args.element in
    record {
      fit = each_replaced (EntryFits (shape_of c.args.schema.now) c.args.key e) l.entry-items l.entry-index c.kept_entry.result l.invariant.fit c.kept_entry.ensures.fits;
      kept = kept_next entry_seen (keep_entry e) (entry_once e) c.args.entries.items l.entry-items l.entry-index c.entry-item.result c.kept_entry.result (omega (arith, c.loop-entry-test.true, l.auto.entry-items))
          (c.kept_entry.ensures.seen ∙ ap (entry_kept e) c.replace-taken.ensures.value) l.invariant.kept;
      keys = each_up_to (λ x. IsKeptAs c.args.key x.0) l.entry-items l.entry-index c.kept_entry.result (omega (arith, c.loop-entry-test.true, l.auto.entry-items)) l.invariant.keys c.kept_entry.ensures.key;
    }

pub returns-then-not-has_texts-clause-seen : goal.returns-then-not-has_texts-clause-seen
returns-then-not-has_texts-clause-seen c =
    entries_same (shape_of c.args.schema.now) c.args.key c.args.element c.args.entries.items (sym c.has_texts.ensures ∙ c.if-not-has_texts.true) c.requires

pub returns-then-not-has_texts-clause-keys : goal.returns-then-not-has_texts-clause-keys
returns-then-not-has_texts-clause-keys c =
    keys_same c.args.key c.args.element c.args.entries.items (sym c.has_texts.ensures ∙ c.if-not-has_texts.true)

pub returns-clause-seen : goal.returns-clause-seen
returns-clause-seen c =
    let l = c.loop-entry in
    let e = c.args.element in
    ap (map entry_seen) (written_back l.entry-items (drop (length l.entry-items) c.args.entries.items) c.args.entries.len (omega (arith, l.auto.entry-items, c.args.entries.ok.0)))
    ∙ all_kept entry_seen (keep_entry e) (entry_once e) c.args.entries.items l.entry-items l.entry-index (omega (arith, c.loop-entry-test.false, l.auto.entry-items)) l.invariant.kept
