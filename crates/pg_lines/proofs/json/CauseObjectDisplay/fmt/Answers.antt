-- The members come after one another.
use Rattle.std.proofs.Common.{refl, rules, append_assoc}
use Rattle.std.proofs.Output.{has_written_append, has_written_of_eq}
use Rattle.pg_lines.proofs.json.CauseObjectDisplay.fmt.Goals as goal

pub returns-clause-writes : goal.returns-clause-writes
returns-clause-writes g c plain ok =
    let one = c.write.ensures.writes plain (search rules) in
    let two = c.write-2.ensures.writes one.plain (search rules) in
    let three = c.write-3.ensures.writes two.plain ok in
    has_written_of_eq _ _ _ _ _ (simp append_assoc refl) (has_written_append _ _ _ _ _ _ (has_written_append _ _ _ _ _ _ one two) three)
