use Rattle.std.proofs.Common.{ℕ, inl, inr, ⊎_elim}
use Rattle.pg_schema.specs.Parts.{shape_of}
use Rattle.pg_dyn.specs.declared.message.Content.{Content}
use Rattle.pg_dyn.specs.setting.ContentFaults.{HasKeyTwice}
use Rattle.pg_dyn.specs.inner.Reported.{TakesContent}
use Rattle.pg_dyn.proofs.lemmas.fitting.FitsSteps.{each_more}
use Rattle.pg_dyn.proofs.lemmas.setting.PutLaws.{content_alike}
use Rattle.pg_dyn.proofs.lemmas.setting.NormalizedLaws.{found_at}
use Rattle.pg_dyn.proofs.lemmas.reading.Standing.{any_from, stands_at}
use Rattle.pg_dyn.proofs.setting.filling.check_all_keys.Goals as goal

pub check_keys-requires : goal.check_keys-requires
check_keys-requires c =
    let x = c.loop-content-item.result in
    let (f, taken) = found_at (TakesContent (shape_of c.args.schema.now) c.args.type_id) c.args.contents.now c.loop-content.content-index x c.loop-content-test.true c.loop-content-item.is c.requires.taken in
    content_alike c.args.schema.now c.requires.schema c.args.type_id x.0 f x.1 taken.found taken.items

pub returns-in-Err-clause-err : goal.returns-in-Err-clause-err
returns-in-Err-clause-err c =
    let x = c.loop-content-item.result in
    ⊎_elim (λ memory. inl memory)
    (λ twice. inr (twice.0, any_from (λ (y : ℕ × Content). HasKeyTwice y.1) x c.args.contents.now (stands_at c.args.contents.now c.loop-content.content-index x c.loop-content-test.true c.loop-content-item.is) twice.1)) c.in-Err.ensures.err

pub loop-content-preserved : goal.loop-content-preserved
loop-content-preserved c =
    each_more (λ (y : ℕ × Content). HasKeyTwice y.1 → ⊥) c.args.contents.now c.loop-content.content-index c.loop-content-item.result c.loop-content-test.true c.loop-content-item.is c.loop-content.invariant c.in_default.ensures.ok
