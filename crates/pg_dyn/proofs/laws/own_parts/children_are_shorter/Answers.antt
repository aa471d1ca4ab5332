use Rattle.pg_dyn.proofs.PublicLaws as PublicLaws
use Rattle.pg_dyn.proofs.laws.own_parts.children_are_shorter.Goals as goal

pub returns : goal.returns
returns c = PublicLaws.children_are_shorter
