-- The members come after one another.
use Rattle.std.proofs.Common.{refl, sym, rules, append_assoc}
use Rattle.std.proofs.Output.{has_written_append, has_written_of_eq}
use Rattle.pg_lines.proofs.json.RefusalObjectDisplay.fmt.Goals as goal

pub returns-clause-writes : goal.returns-clause-writes
returns-clause-writes g c plain ok =
    let one = c.write.ensures.writes plain (search rules) in
    let two = c.write-2.ensures.writes one.plain (search rules) in
    let three = c.write-3.ensures.writes two.plain (search rules) in
    let four = c.write-4.ensures.writes three.plain ok in
    rw (sym c.sentence_of.ensures, sym c.spot_of-spot.ensures) (has_written_of_eq _ _ _ _ _ (simp append_assoc refl) (has_written_append _ _ _ _ _ _ (has_written_append _ _ _ _ _ _ (has_written_append _ _ _ _ _ _ one two) three) four))
