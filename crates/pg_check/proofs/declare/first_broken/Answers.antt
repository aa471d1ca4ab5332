use Rattle.pg_check.proofs.lemmas.rules.FileFaults.{found_fault, next_file}
use Rattle.pg_check.proofs.declare.first_broken.Goals as goal

pub returns-in-Some : goal.returns-in-Some
returns-in-Some c =
    found_fault c.loop-index.left c.loop-index.index c.args.files.now c.loop-index.index c.index-files-index.result c.in_ok-found.found.fault c.in-Some.fault _
    c.loop-index-test.true c.index-files-index.is c.in_ok-found.ensures.fault c.in-Some.is c.loop-index.invariant

pub loop-index-preserved : goal.loop-index-preserved
loop-index-preserved c =
    next_file c.loop-index.left c.loop-index.index c.in_ok-found.found.left c.args.files.now c.loop-index.index c.index-files-index.result c.in_ok-found.found.fault _
    c.loop-index-test.true c.index-files-index.is c.in_ok-found.ensures.fault c.in_default.is c.in_ok-found.ensures.left c.loop-index.invariant
