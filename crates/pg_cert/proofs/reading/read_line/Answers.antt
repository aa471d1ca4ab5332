use Rattle.std.proofs.Common.{Some, ap}
use Rattle.pg_cert.proofs.Cuts.{some_is, none_lost}
use Rattle.pg_cert.proofs.reading.read_line.Goals as goal

pub returns-in_err-pair-clause-found : goal.returns-in_err-pair-clause-found
returns-in_err-pair-clause-found c = λ line rest there h is. none_lost _ c.read_pair.result _ (c.read_pair.ensures.found line.pair _ there is) c.in_err-pair.was

pub returns-in_err-bound-clause-found : goal.returns-in_err-bound-clause-found
returns-in_err-bound-clause-found c =
    λ line rest there h is.
    let parts = some_is _ c.read_pair.result _ _ (c.read_pair.ensures.found line.pair _ there is) c.in_ok-pair.was in
    none_lost _ c.read_bound.result _ (c.read_bound.ensures.found line.bound rest h (ap (λ p. p.1) parts)) c.in_err-bound.was

pub returns-clause-found : goal.returns-clause-found
returns-clause-found c =
    λ line rest there h is.
    let parts = some_is _ c.read_pair.result _ _ (c.read_pair.ensures.found line.pair _ there is) c.in_ok-pair.was in
    let last = some_is _ c.read_bound.result _ _ (c.read_bound.ensures.found line.bound rest h (ap (λ p. p.1) parts)) c.in_ok-bound.was in
    λ j. Some (record { pair = (parts j).0; bound = (last j).0 }, (last j).1)
