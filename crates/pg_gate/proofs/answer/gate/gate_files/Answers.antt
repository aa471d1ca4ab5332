use Rattle.std.proofs.Common.{◌≡◌, codes, subst, sym}
use Rattle.std.proofs.lemmas.Result.{IfErr-weaker}
use Rattle.pg_link.specs.walk.Walk.{world}
use Rattle.pg_gate.specs.Failures.{failures_at}
use Rattle.pg_call.specs.Paths.{paths_of}
use Rattle.pg_gate.specs.answer.Grants.{IsGateError}
use Rattle.pg_gate.specs.declared.error.GateError.{GateError}
use Rattle.pg_lines.specs.declared.side.Side.TheVariants as sides
use Rattle.pg_gate.proofs.lemmas.answer.AnswerLemmas.{answer_of_files, both_ok, of_sides, refused_of_files, root_uncounted}
use Rattle.pg_gate.proofs.lemmas.ErrorLemmas.{IfErr-IsErrAnd}
use Rattle.pg_gate.proofs.lemmas.answer.SourceLemmas.{no_more, passed}
use Rattle.pg_gate.proofs.answer.gate.gate_files.Goals as goal

pub returns-in_err-both-clause-refused : goal.returns-in_err-both-clause-refused
returns-in_err-both-clause-refused g c =
    let old = world (g.S.Sources.may_give c.args.old.now) (g.S.Sources.may_lack c.args.old.now) (codes ".") (paths_of c.args.old_roots.now) in
    let new = world (g.T.Sources.may_give c.args.new.now) (g.T.Sources.may_lack c.args.new.now) (codes ".") (paths_of c.args.new_roots.now) in
    let error : GateError = c.in_err-both.field-0.0 in
    IfErr-IsErrAnd c.from_residual.result (λ e. e ≡ error) (λ e. IsGateError c.args.root.now old new e) c.from_residual.ensures.1
    (λ e same. subst (λ e. IsGateError c.args.root.now old new e) (sym same) (of_sides c.args.root.now old new error c.in_err-both.ensures.refused))

pub returns-in_err-both-clause-old_counted : goal.returns-in_err-both-clause-old_counted
returns-in_err-both-clause-old_counted g c =
    (passed g.S.Sources c.args.old.now _ c.from_residual.result (failures_at sides.Old) c.in_err-both.field-0.0 c.from_residual.ensures.1 c.in_err-both.ensures.old_reads).counted

pub returns-in_err-both-clause-new_counted : goal.returns-in_err-both-clause-new_counted
returns-in_err-both-clause-new_counted g c =
    (passed g.T.Sources c.args.new.now _ c.from_residual.result (failures_at sides.New) c.in_err-both.field-0.0 c.from_residual.ensures.1 c.in_err-both.ensures.new_reads).counted

pub returns-clause-answer : goal.returns-clause-answer
returns-clause-answer g c =
    let old = world (g.S.Sources.may_give c.args.old.now) (g.S.Sources.may_lack c.args.old.now) (codes ".") (paths_of c.args.old_roots.now) in
    let new = world (g.T.Sources.may_give c.args.new.now) (g.T.Sources.may_lack c.args.new.now) (codes ".") (paths_of c.args.new_roots.now) in
    let both = c.in_ok-both.both in
    both_ok c.gate.result _ _ _ (λ answer is carried. answer_of_files c.args.root.now old new both.old.schema both.new.schema c.in_ok-both.ensures.old_compiled c.in_ok-both.ensures.new_compiled answer is carried) c.gate.ensures.answer c.gate.ensures.carried

pub returns-clause-refused : goal.returns-clause-refused
returns-clause-refused g c =
    let old = world (g.S.Sources.may_give c.args.old.now) (g.S.Sources.may_lack c.args.old.now) (codes ".") (paths_of c.args.old_roots.now) in
    let new = world (g.T.Sources.may_give c.args.new.now) (g.T.Sources.may_lack c.args.new.now) (codes ".") (paths_of c.args.new_roots.now) in
    let both = c.in_ok-both.both in
    IfErr-weaker c.gate.result _ _ (λ error is. refused_of_files c.args.root.now old new both.old.schema both.new.schema c.in_ok-both.ensures.old_compiled c.in_ok-both.ensures.new_compiled error is) c.gate.ensures.refused

pub returns-clause-old_counted : goal.returns-clause-old_counted
returns-clause-old_counted g c =
    let both = c.in_ok-both.both in
    let none = root_uncounted both.old.schema both.new.schema c.args.root.now sides.Old c.gate.result c.gate.ensures.refused in
    (no_more g.S.Sources c.args.old.now _ _ none c.in_ok-both.ensures.old_reads).counted

pub returns-clause-new_counted : goal.returns-clause-new_counted
returns-clause-new_counted g c =
    let both = c.in_ok-both.both in
    let none = root_uncounted both.old.schema both.new.schema c.args.root.now sides.New c.gate.result c.gate.ensures.refused in
    (no_more g.T.Sources c.args.new.now _ _ none c.in_ok-both.ensures.new_reads).counted
