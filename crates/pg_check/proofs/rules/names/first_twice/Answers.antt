use Rattle.std.proofs.Common.{◌≡◌, true, false, map, take, sym, ◌∙◌, ap, subst}
use Rattle.pg_schema.specs.rules.TextSets.{is_among}
use Rattle.pg_schema.proofs.lemmas.rules.TextSetLemmas.{lent_more}
use Rattle.pg_check.specs.inner.NameFaults.{text_of, titled}
use Rattle.pg_check.proofs.lemmas.rules.FirstLaws.{was_new, was_old}
use Rattle.pg_check.proofs.lemmas.rules.TextSets.{IsLentSetOf}
use Rattle.pg_check.proofs.lemmas.rules.Titles.{title_found, title_left, titles_step}
use Rattle.pg_check.proofs.rules.names.first_twice.Goals as goal

pub returns-then-not-branch : goal.returns-then-not-branch
returns-then-not-branch c =
    let done = map text_of (take c.loop-one.one-index (map titled c.args.texts.now)) in
    let key = c.as_str.result.now in
    let old : is_among done key ≡ true = was_old _ _ _ c.in_ok-insert.ensures.added (c.loop-one.invariant.held key) c.if-not-branch.true in
    title_found c.args.texts.now c.loop-one.one-index c.one-item.result _ c.loop-one-test.true c.one-item.is
    (ap (is_among done) (sym c.as_str.ensures.value) ∙ old) c.loop-one.invariant.left

pub loop-one-preserved : goal.loop-one-preserved
loop-one-preserved c =
    let done = map text_of (take c.loop-one.one-index (map titled c.args.texts.now)) in
    let key = c.as_str.result.now in
    let new : is_among done key ≡ false = was_new _ _ _ c.in_ok-insert.ensures.added (c.loop-one.invariant.held key) c.if-not-branch.false in
    record {
      held = subst (λ ts. IsLentSetOf ts c.insert.new.self) (sym (titles_step c.args.texts.now c.loop-one.one-index c.one-item.result key c.loop-one-test.true c.one-item.is c.as_str.ensures.value))
          (lent_more done c.as_str.result c.loop-one.seen c.insert.new.self c.in_ok-insert.ensures.updates c.loop-one.invariant.held);
      left = title_left c.args.texts.now c.loop-one.one-index c.one-item.result _ c.loop-one-test.true c.one-item.is
          (ap (is_among done) (sym c.as_str.ensures.value) ∙ new) c.loop-one.invariant.left;
    }
