use Rattle.pg_dyn.proofs.PublicLaws as PublicLaws
use Rattle.pg_dyn.proofs.laws.own_parts.comparands_are_written.Goals as goal

pub returns : goal.returns
returns c = PublicLaws.comparands_are_written
