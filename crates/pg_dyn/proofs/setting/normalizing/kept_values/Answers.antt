use Rattle.std.proofs.Common.{arith, true, ap, sym, map, drop, length, ◌∙◌}
use Rattle.pg_schema.specs.Parts.{shape_of}
use Rattle.pg_dyn.specs.fitting.ContentFits.{ItemFits}
use Rattle.pg_dyn.specs.message.Seen.{item_seen}
use Rattle.pg_dyn.specs.fitting.Texts.{kept_item}
use Rattle.pg_dyn.proofs.lemmas.setting.KeptVariants.{values_same}
use Rattle.pg_dyn.proofs.lemmas.setting.NormalizedLaws.{all_kept, each_replaced, kept_next, kept_once, written_back}
use Rattle.pg_dyn.proofs.setting.normalizing.kept_values.Goals as goal

pub loop-value-preserved : goal.loop-value-preserved
loop-value-preserved c =
    let l = c.loop-value in
    let e = c.args.element in
    record {
      fit = each_replaced (ItemFits (shape_of c.args.schema.now) e) l.value-items l.value-index c.kept_for.result l.invariant.fit c.kept_for.ensures.fits;
      kept = kept_next (item_seen true) (kept_item e) (kept_once e) c.args.values.items l.value-items l.value-index c.value-item.result c.kept_for.result (omega (arith, c.loop-value-test.true, l.auto.value-items))
          (c.kept_for.ensures.seen true ∙ ap (λ v. kept_item e (item_seen true v)) c.replace-taken.ensures.value) l.invariant.kept;
    }

pub returns-then-not-is_text-clause-seen : goal.returns-then-not-is_text-clause-seen
returns-then-not-is_text-clause-seen c =
    values_same (shape_of c.args.schema.now) c.args.element c.args.values.items (sym c.is_text.ensures ∙ c.if-not-is_text.true) c.requires

pub returns-clause-seen : goal.returns-clause-seen
returns-clause-seen c =
    let l = c.loop-value in
    let e = c.args.element in
    ap (map (item_seen true)) (written_back l.value-items (drop (length l.value-items) c.args.values.items) c.args.values.len (omega (arith, l.auto.value-items, c.args.values.ok.0)))
    ∙ all_kept (item_seen true) (kept_item e) (kept_once e) c.args.values.items l.value-items l.value-index (omega (arith, c.loop-value-test.false, l.auto.value-items)) l.invariant.kept
