use Rattle.pg_least.proofs.PublicLaws as PublicLaws
use Rattle.pg_least.proofs.laws.tables_by_lines.Goals as goal

pub returns : goal.returns
returns c = PublicLaws.tables_by_lines
