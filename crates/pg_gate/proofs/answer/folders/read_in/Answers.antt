use Rattle.pg_gate.proofs.lemmas.answer.FolderLemmas.{same_give, same_lack}
use Rattle.pg_gate.proofs.answer.folders.read_in.Goals as goal

pub returns-clause-reads : goal.returns-clause-reads
returns-clause-reads g c = record {
  counted = c.read_file.ensures.counted;
  same_given = same_give g.S.Sources c.args.folders.now c.read_file.new.source c.read_file.ensures.same_given;
  same_lacked = same_lack g.S.Sources c.args.folders.now c.read_file.new.source c.read_file.ensures.same_given;
}
