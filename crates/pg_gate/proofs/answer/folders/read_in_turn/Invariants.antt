-- what the folders that are left may give and lack, all of them may
use Rattle.std.proofs.Common.{IsTrue, ℕ, List, drop}
use Rattle.pg_call.specs.Paths.{paths_of}
use Rattle.pg_link.specs.walk.Reads.{Reads}
use Rattle.pg_gate.specs.answer.Folders.{given_in, lacked_in}
use Rattle.pg_gate.proofs.answer.folders.read_in_turn.Given as goal

abbrev pub invariant-loop-folder : goal.invariant-loop-folder
invariant-loop-folder g l =
    let give = g.S.Sources.may_give l.fn.source in
    let lack = g.S.Sources.may_lack l.fn.source in
    let left = drop l.folder-index l.folders in
    Reads g.S.Sources l.fn.source l.source 0
    × ((bytes : List ℕ) → IsTrue (given_in give lack (paths_of left) l.path bytes) → IsTrue (given_in give lack (paths_of l.folders) l.path bytes))
    × (IsTrue (lacked_in lack (paths_of left) l.path) → IsTrue (lacked_in lack (paths_of l.folders) l.path))
