use Rattle.std.proofs.Common.{◌≡◌, Some, ap}
use Rattle.pg_cert.specs.Text.{names_of}
use Rattle.pg_cert.proofs.Plain.{name_lacks}
use Rattle.pg_cert.proofs.Cuts.{some_is, none_lost}
use Rattle.pg_cert.proofs.reading.read_name.Goals as goal

pub returns-in_err-word-clause-found : goal.returns-in_err-word-clause-found
returns-in_err-word-clause-found c =
    λ id rest there is.
    none_lost _ c.cut.result _ (c.cut.ensures.found (names_of c.args.schema.now id) rest (name_lacks c.args.schema.now id c.args.blank c.parts.ensures.checked there c.requires) is) c.in_err-word.was

pub returns-in_err-id-clause-found : goal.returns-in_err-id-clause-found
returns-in_err-id-clause-found c =
    λ id rest there is.
    let parts = some_is _ c.cut.result _ _ (c.cut.ensures.found (names_of c.args.schema.now id) rest (name_lacks c.args.schema.now id c.args.blank c.parts.ensures.checked there c.requires) is) c.in_ok-word.was in
    let found = c.named.ensures.found id there (ap (λ p. p.0) parts) in
    absurd (let lost = c.in_err-id.was in cc)

pub returns-clause-found : goal.returns-clause-found
returns-clause-found c =
    λ id rest there is.
    let parts = some_is _ c.cut.result _ _ (c.cut.ensures.found (names_of c.args.schema.now id) rest (name_lacks c.args.schema.now id c.args.blank c.parts.ensures.checked there c.requires) is) c.in_ok-word.was in
    let found = c.named.ensures.found id there (ap (λ p. p.0) parts) in
    let same : c.in_ok-id.id ≡ id = let was = c.in_ok-id.was in cc in
    λ j. Some (same j, (parts j).1)
