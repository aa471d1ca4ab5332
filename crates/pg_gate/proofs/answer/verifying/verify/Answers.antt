use Rattle.std.proofs.Common.{Bool, subst}
use Rattle.std.proofs.lemmas.Result.{IfErr-weaker, IfOk-weaker}
use Rattle.std.specs.Prelude.{IfErr, IfOk}
use Rattle.pg_link.specs.names.Names.{Text}
use Rattle.pg_gate.specs.Failures.{call_failures_at}
use Rattle.pg_call.specs.Paths.{paths_in}
use Rattle.pg_gate.specs.inner.Sources.{world_of}
use Rattle.pg_gate.specs.answer.Grants.{as_given}
use Rattle.pg_gate.specs.inner.Claims.{IsFound, IsUntaken}
use Rattle.pg_lines.specs.declared.side.Side.TheVariants as sides
use Rattle.pg_gate.proofs.lemmas.ErrorLemmas.{none_counted}
use Rattle.pg_gate.proofs.lemmas.answer.SourceLemmas.{no_more, then}
use Rattle.pg_gate.proofs.lemmas.answer.VerifyLemmas.{found_of_files, untaken_of_files, untaken_uncounted}
use Rattle.pg_gate.proofs.answer.verifying.verify.Goals as goal

pub returns-in-Err-clause-refused : goal.returns-in-Err-clause-refused
returns-in-Err-clause-refused g c = c.in-Err.ensures.refused

pub returns-in-Err-clause-old_reads : goal.returns-in-Err-clause-old_reads
returns-in-Err-clause-old_reads g c = c.in-Err.ensures.old_reads

pub returns-in-Err-clause-new_reads : goal.returns-in-Err-clause-new_reads
returns-in-Err-clause-new_reads g c = c.in-Err.ensures.new_reads

pub returns-in-Ok-clause-found : goal.returns-in-Ok-clause-found
returns-in-Ok-clause-found g c =
    let old = world_of g.S.Sources c.args.old.now (paths_in c.args.files.now.old) in
    let new = world_of g.T.Sources c.args.new.now (paths_in c.args.files.now.new) in
    let path = c.args.certificate.now in
    let a = c.in-Ok.both.old.schema in
    let b = c.in-Ok.both.new.schema in
    let lack = g.S.Sources.may_lack c.compile_both.new.old in
    let reads = c.in-Ok.ensures.old_reads in
    let asked = subst (λ (give : Text → Text → Bool). IfOk c.verify_between.result (IsFound (as_given give lack) path a b)) reads.same_given c.verify_between.ensures.found in
    let give = g.S.Sources.may_give c.args.old.now in
    let found = subst (λ (lack : Text → Bool). IfOk c.verify_between.result (IsFound (as_given give lack) path a b)) reads.same_lacked asked in
    let source = as_given give (g.S.Sources.may_lack c.args.old.now) in
    IfOk-weaker c.verify_between.result _ _ (λ finding is. found_of_files path source old new a b c.in-Ok.ensures.old_compiled c.in-Ok.ensures.new_compiled finding is) found

pub returns-in-Ok-clause-refused : goal.returns-in-Ok-clause-refused
returns-in-Ok-clause-refused g c =
    let old = world_of g.S.Sources c.args.old.now (paths_in c.args.files.now.old) in
    let new = world_of g.T.Sources c.args.new.now (paths_in c.args.files.now.new) in
    let path = c.args.certificate.now in
    let a = c.in-Ok.both.old.schema in
    let b = c.in-Ok.both.new.schema in
    let reads = c.in-Ok.ensures.old_reads in
    let asked = subst (λ (give : Text → Text → Bool). IfErr c.verify_between.result (IsUntaken (as_given give (g.S.Sources.may_lack c.compile_both.new.old)) path a b)) reads.same_given c.verify_between.ensures.refused in
    let refused = subst (λ (lack : Text → Bool). IfErr c.verify_between.result (IsUntaken (as_given (g.S.Sources.may_give c.args.old.now) lack) path a b)) reads.same_lacked asked in
    let source = as_given (g.S.Sources.may_give c.args.old.now) (g.S.Sources.may_lack c.args.old.now) in
    IfErr-weaker c.verify_between.result _ _ (λ error is. untaken_of_files path source old new a b c.in-Ok.ensures.old_compiled c.in-Ok.ensures.new_compiled error is) refused

pub returns-in-Ok-clause-old_reads : goal.returns-in-Ok-clause-old_reads
returns-in-Ok-clause-old_reads g c =
    then g.S.Sources c.args.old.now _ _ _ c.in-Ok.ensures.old_reads c.verify_between.ensures.reads

pub returns-in-Ok-clause-new_reads : goal.returns-in-Ok-clause-new_reads
returns-in-Ok-clause-new_reads g c =
    let give = g.S.Sources.may_give c.compile_both.new.old in
    let lack = g.S.Sources.may_lack c.compile_both.new.old in
    let path = c.args.certificate.now in
    let a = c.in-Ok.both.old.schema in
    let b = c.in-Ok.both.new.schema in
    let none = none_counted c.verify_between.result (λ e. IsUntaken (as_given give lack) path a b e) (call_failures_at sides.New) (λ e is. untaken_uncounted give lack path a b e is) c.verify_between.ensures.refused in
    no_more g.T.Sources c.args.new.now _ _ none c.in-Ok.ensures.new_reads
