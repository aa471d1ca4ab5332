-- A string is UTF-8, or is refused.
use Rattle.std.proofs.Common.{◌≡◌, true, is_some, refl, ap, sym, subst}
use Rattle.std.proofs.lemmas.Str.{is_utf8-from_IsUtf8}
use Rattle.pg_dyn.specs.word.Coding.{leaf_in, scalar_form}
use Rattle.pg_dyn.proofs.lemmas.laws.Bodies.{not_utf8}
use Rattle.pg_dyn.proofs.reading.faults.check_scalar.Goals as goal

pub returns-in-Ok-clause-readable : goal.returns-in-Ok-clause-readable
returns-in-Ok-clause-readable c =
    subst (λ s. is_some (leaf_in (scalar_form s) c.args.found.now.body.now) ≡ true) (sym c.in-String.is)
    (rw (is_utf8-from_IsUtf8 c.args.found.now.body.now c.in-Ok.ensures.cases.1) refl)

pub returns-in-Err-clause-err : goal.returns-in-Err-clause-err
returns-in-Err-clause-err c = (refl, ap scalar_form c.in-String.is, not_utf8 c.args.found.now.body.now c.in-Err.ensures.cases.0)
