use Rattle.std.proofs.Common.{ℕ, ◌<◌, ◌^◌, List, [], ◌∷◌, get_or, zero, suc}
use Rattle.std.specs.List.{AllByRecursion}
use Rattle.pg_cert.proofs.certificate.lend.Goals as goal

each : (xs : List ℕ) → ((i : ℕ) → get_or xs i 0 < 2 ^ 8) → AllByRecursion (λ x. x < 2 ^ 8) xs
each [] h = tt
each (x ∷ xs) h = (h zero, each xs (λ i. h (suc i)))

pub returns-clause-bytes : goal.returns-clause-bytes
returns-clause-bytes c = each c.args.bytes.now (λ i. (c.type_inv.bytes i).fits)
