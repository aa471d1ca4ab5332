use Rattle.std.proofs.Common.{◌∙◌, ap}
use Rattle.pg_cert.specs.Text.{witness_word}
use Rattle.pg_cert.proofs.Cuts.{some_is, none_lost}
use Rattle.pg_cert.proofs.WitnessRead.{witness_lacks, last-row}
use Rattle.pg_cert.proofs.reading.read_last.Goals as goal

pub returns-in-Some-cut : goal.returns-in-Some-cut
returns-in-Some-cut c =
    λ witness h is.
    let words = some_is _ c.after.result _ _ (c.after.ensures.found _ (is ∙ last-row witness)) c.in-Some.is in
    let parts = some_is _ c.cut.result _ _ (c.cut.ensures.found (witness_word witness) _ (witness_lacks witness) words) c.in-Some-cut.is in
    c.witness_of.ensures witness h (ap (λ p. p.0) parts)

pub returns-in-None : goal.returns-in-None
returns-in-None c =
    λ witness h is.
    let words = some_is _ c.after.result _ _ (c.after.ensures.found _ (is ∙ last-row witness)) c.in-Some.is in
    none_lost _ c.cut.result _ (c.cut.ensures.found (witness_word witness) _ (witness_lacks witness) words) c.in-None.is
