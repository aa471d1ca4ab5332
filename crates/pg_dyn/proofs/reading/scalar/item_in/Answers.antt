use Rattle.std.proofs.Common.{ap, refl, sym, ◌∙◌, true≢false}
use Rattle.std.specs.Str.{is_utf8}
use Rattle.std.proofs.lemmas.Str.{is_utf8-from_IsUtf8}
use Rattle.pg_dyn.proofs.lemmas.laws.Bodies.{not_utf8, text_read}
use Rattle.pg_dyn.proofs.reading.scalar.item_in.Goals as goal

pub returns-in-Ok-clause-ok : goal.returns-in-Ok-clause-ok
returns-in-Ok-clause-ok c =
    let utf8 = is_utf8-from_IsUtf8 c.args.body.now c.in-Ok.ensures.cases.1 in
    let same = c.in-Ok.ensures.cases.0 in
    rw c.in-String.is (text_read c.args.body.now c.in-Ok.text.now utf8 (sym same), (ap is_utf8 same ∙ utf8, refl))

pub returns-in-Err-clause-err : goal.returns-in-Err-clause-err
returns-in-Err-clause-err c =
    λ some. true≢false (sym some ∙ rw (c.in-String.is, not_utf8 c.args.body.now c.in-Err.ensures.cases.0))
