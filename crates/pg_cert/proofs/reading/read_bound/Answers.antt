use Rattle.std.proofs.Common.{◌≡◌, Some, ap}
use Rattle.pg_cert.specs.Text.{bound_word}
use Rattle.pg_cert.proofs.Cuts.{some_is, none_lost}
use Rattle.pg_cert.proofs.WordsRead.{bound_lacks}
use Rattle.pg_cert.proofs.reading.read_bound.Goals as goal

pub returns-in_err-word-clause-found : goal.returns-in_err-word-clause-found
returns-in_err-word-clause-found c = λ bound rest h is. none_lost _ c.cut.result _ (c.cut.ensures.found (bound_word bound) rest (bound_lacks bound h) is) c.in_err-word.was

pub returns-in_err-bound-clause-found : goal.returns-in_err-bound-clause-found
returns-in_err-bound-clause-found c =
    λ bound rest h is.
    let parts = some_is _ c.cut.result _ _ (c.cut.ensures.found (bound_word bound) rest (bound_lacks bound h) is) c.in_ok-word.was in
    let found = c.bound_of.ensures bound h (ap (λ p. p.0) parts) in
    absurd (let lost = c.in_err-bound.was in cc)

pub returns-clause-found : goal.returns-clause-found
returns-clause-found c =
    λ bound rest h is.
    let parts = some_is _ c.cut.result _ _ (c.cut.ensures.found (bound_word bound) rest (bound_lacks bound h) is) c.in_ok-word.was in
    let found = c.bound_of.ensures bound h (ap (λ p. p.0) parts) in
    let same : c.in_ok-bound.bound ≡ bound = let was = c.in_ok-bound.was in cc in
    λ j. Some (same j, (parts j).1)
