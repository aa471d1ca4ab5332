use Rattle.pg_gate.proofs.lemmas.answer.FolderLemmas as Folders
use Rattle.pg_gate.proofs.laws.folders_in_turn.Goals as goal

pub returns : goal.returns
returns c = Folders.folders_in_turn
