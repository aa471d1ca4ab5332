use Rattle.std.proofs.Common.{◌≡◌, subst, sym}
use Rattle.std.proofs.lemmas.Result.{IfErr-weaker, IfOk-weaker}
use Rattle.pg_call.specs.Call.{gate_request}
use Rattle.pg_gate.specs.Failures.{failures_at}
use Rattle.pg_gate.specs.answer.Grants.{IsGateError}
use Rattle.pg_call.specs.Paths.{paths_in}
use Rattle.pg_gate.specs.inner.Sources.{world_of}
use Rattle.pg_gate.specs.declared.error.GateError.{GateError}
use Rattle.pg_lines.specs.declared.side.Side.TheVariants as sides
use Rattle.pg_gate.proofs.lemmas.answer.AnswerLemmas.{of_sides, refused_of_files, reply_of_files, root_uncounted}
use Rattle.pg_gate.proofs.lemmas.ErrorLemmas.{IfErr-IsErrAnd}
use Rattle.pg_gate.proofs.lemmas.answer.SourceLemmas.{no_more, passed}
use Rattle.pg_gate.proofs.answer.dispatch.find.Goals as goal

pub returns-in_err-both-clause-refused : goal.returns-in_err-both-clause-refused
returns-in_err-both-clause-refused g c =
    let asked = c.args.asked.now in
    let old = world_of g.S.Sources c.args.old.now (paths_in asked.files.old) in
    let new = world_of g.T.Sources c.args.new.now (paths_in asked.files.new) in
    let error : GateError = c.in_err-both.field-0.0 in
    IfErr-IsErrAnd c.from_residual.result (λ e. e ≡ error) (λ e. IsGateError asked.root.now old new e) c.from_residual.ensures.1
    (λ e same. subst (λ e. IsGateError asked.root.now old new e) (sym same) (of_sides asked.root.now old new error c.in_err-both.ensures.refused))

pub returns-in_err-both-clause-old_reads : goal.returns-in_err-both-clause-old_reads
returns-in_err-both-clause-old_reads g c =
    passed g.S.Sources c.args.old.now _ c.from_residual.result (failures_at sides.Old) c.in_err-both.field-0.0 c.from_residual.ensures.1 c.in_err-both.ensures.old_reads

pub returns-in_err-both-clause-new_reads : goal.returns-in_err-both-clause-new_reads
returns-in_err-both-clause-new_reads g c =
    passed g.T.Sources c.args.new.now _ c.from_residual.result (failures_at sides.New) c.in_err-both.field-0.0 c.from_residual.ensures.1 c.in_err-both.ensures.new_reads

pub returns-clause-found : goal.returns-clause-found
returns-clause-found g c =
    let asked = c.args.asked.now in
    let old = world_of g.S.Sources c.args.old.now (paths_in asked.files.old) in
    let new = world_of g.T.Sources c.args.new.now (paths_in asked.files.new) in
    let both = c.in_ok-both.both in
    IfOk-weaker c.between.result _ _
    (λ reply is. reply_of_files asked.root.now old new both.old.schema both.new.schema c.in_ok-both.ensures.old_compiled c.in_ok-both.ensures.new_compiled (gate_request asked) reply is)
    c.between.ensures.found

pub returns-clause-refused : goal.returns-clause-refused
returns-clause-refused g c =
    let asked = c.args.asked.now in
    let old = world_of g.S.Sources c.args.old.now (paths_in asked.files.old) in
    let new = world_of g.T.Sources c.args.new.now (paths_in asked.files.new) in
    let both = c.in_ok-both.both in
    IfErr-weaker c.between.result _ _
    (λ error is. refused_of_files asked.root.now old new both.old.schema both.new.schema c.in_ok-both.ensures.old_compiled c.in_ok-both.ensures.new_compiled error is)
    c.between.ensures.refused

pub returns-clause-old_reads : goal.returns-clause-old_reads
returns-clause-old_reads g c =
    let both = c.in_ok-both.both in
    let none = root_uncounted both.old.schema both.new.schema c.args.asked.now.root.now sides.Old c.between.result c.between.ensures.refused in
    no_more g.S.Sources c.args.old.now _ _ none c.in_ok-both.ensures.old_reads

pub returns-clause-new_reads : goal.returns-clause-new_reads
returns-clause-new_reads g c =
    let both = c.in_ok-both.both in
    let none = root_uncounted both.old.schema both.new.schema c.args.asked.now.root.now sides.New c.between.result c.between.ensures.refused in
    no_more g.T.Sources c.args.new.now _ _ none c.in_ok-both.ensures.new_reads
