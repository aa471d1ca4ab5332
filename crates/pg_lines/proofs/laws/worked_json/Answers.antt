use Rattle.pg_lines.proofs.lemmas.WorkedJson as Worked
use Rattle.pg_lines.proofs.laws.worked_json.Goals as goal

pub returns : goal.returns
returns c = Worked.worked_json
