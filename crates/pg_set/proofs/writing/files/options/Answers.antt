use Rattle.std.proofs.Common.{ap, arith, ◌∙◌}
use Rattle.pg_set.specs.inner.writing.Drafts.{Drafted}
use Rattle.pg_set.proofs.lemmas.writing.FileLaws.{option_step, rising_next}
use Rattle.pg_set.proofs.writing.files.options.Goals as goal

pub loop-option-preserved : goal.loop-option-preserved
loop-option-preserved c =
    let before = c.loop-option.draft in
    let now = c.put_option.new.to in
    let put = c.in_ok-put_option.ensures in
    record {
      of_type = ap (λ (d : Drafted). d.type) put ∙ c.loop-option.invariant.of_type;
      items = option_step before.items c.args.stated.now c.loop-option.option-index c.option-item.result now.items c.loop-option-test.true c.option-item.is c.loop-option.invariant.items (ap (λ (d : Drafted). d.items) put);
      rising = rising_next before.last now.last c.args.stated.now c.loop-option.option-index c.option-item.result c.loop-option-test.true c.option-item.is (omega (arith, ap (λ (d : Drafted). d.last) put)) c.loop-option.invariant.rising;
    }
