use Rattle.std.proofs.Common.{Some, ap}
use Rattle.pg_cert.proofs.Cuts.{some_is, none_lost}
use Rattle.pg_cert.proofs.reading.read_pair.Goals as goal

pub returns-in_err-first-clause-found : goal.returns-in_err-first-clause-found
returns-in_err-first-clause-found c = λ pair rest there is. none_lost _ c.read_name.result _ (c.read_name.ensures.found pair.old _ there.0 is) c.in_err-first.was

pub returns-in_err-second-clause-found : goal.returns-in_err-second-clause-found
returns-in_err-second-clause-found c =
    λ pair rest there is.
    let parts = some_is _ c.read_name.result _ _ (c.read_name.ensures.found pair.old _ there.0 is) c.in_ok-first.was in
    none_lost _ c.read_name-2.result _ (c.read_name-2.ensures.found pair.new rest there.1 (ap (λ p. p.1) parts)) c.in_err-second.was

pub returns-clause-found : goal.returns-clause-found
returns-clause-found c =
    λ pair rest there is.
    let parts = some_is _ c.read_name.result _ _ (c.read_name.ensures.found pair.old _ there.0 is) c.in_ok-first.was in
    let last = some_is _ c.read_name-2.result _ _ (c.read_name-2.ensures.found pair.new rest there.1 (ap (λ p. p.1) parts)) c.in_ok-second.was in
    λ j. Some (record { old = (parts j).0; new = (last j).0 }, (last j).1)
