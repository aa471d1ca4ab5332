use Rattle.std.proofs.Common.{arith}
use Rattle.std.proofs.lemmas.Result.{err_from_is_err_and}
use Rattle.pg_dyn.specs.message.Kept.{message_of}
use Rattle.pg_set.specs.stated.SetMessages.{numbers_at, texts_at}
use Rattle.pg_set.proofs.lemmas.reading.FileStateLaws.{places_asked}
use Rattle.pg_set.proofs.lemmas.reading.FileItems.{places_told}
use Rattle.pg_set.proofs.reading.made_files.imports.Goals as goal

pub returns-in_err-marks-clause-refused : goal.returns-in_err-marks-clause-refused
returns-in_err-marks-clause-refused c =
    let m = message_of c.args.message.now in
    let p = err_from_is_err_and c.from_residual-in_err-marks.result c.from_residual-in_err-marks.ensures.1 in
    rw (p.1, p.2) (λ places.
    c.in_err-marks.ensures.refused
    (places_asked c.len.result c.in_ok-paths.paths.items (texts_at 3 m) c.deref.result.now c.in_ok-public.public.items (numbers_at 10 m) (omega (arith, c.len.ensures, c.in_ok-paths.paths.ok.0))
    c.in_ok-paths.ensures c.deref.ensures.value c.in_ok-public.ensures places))

pub returns-clause-places : goal.returns-clause-places
returns-clause-places c =
    let m = message_of c.args.message.now in
    places_told c.len.result c.in_ok-paths.paths.items (texts_at 3 m) c.deref.result.now c.in_ok-public.public.items (numbers_at 10 m) (omega (arith, c.len.ensures, c.in_ok-paths.paths.ok.0))
    c.in_ok-paths.ensures c.deref.ensures.value c.in_ok-public.ensures c.in_ok-marks.ensures.places
