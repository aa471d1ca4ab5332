use Rattle.std.proofs.Common.{◌≡◌, subst, sym}
use Rattle.pg_gate.specs.Failures.{failures_at}
use Rattle.pg_call.specs.Paths.{paths_in}
use Rattle.pg_gate.specs.answer.Files.{IsFaultOfSide, IsSide}
use Rattle.pg_gate.specs.answer.Grants.{IsSidesError}
use Rattle.pg_gate.specs.inner.Sources.{world_of}
use Rattle.pg_gate.specs.declared.error.GateError.{GateError}
use Rattle.pg_lines.specs.declared.side.Side.TheVariants as sides
use Rattle.pg_gate.proofs.lemmas.answer.AnswerLemmas.{of_new_side, of_old_side}
use Rattle.pg_gate.proofs.lemmas.ErrorLemmas.{IfErr-IsErrAnd, new_alone, old_alone}
use Rattle.pg_gate.proofs.lemmas.answer.SourceLemmas.{no_more, passed, unasked}
use Rattle.pg_gate.proofs.answer.both_sides.compile_both.Goals as goal

pub returns-in_err-compiled-clause-refused : goal.returns-in_err-compiled-clause-refused
returns-in_err-compiled-clause-refused g c =
    let old = world_of g.S.Sources c.args.old.now (paths_in c.args.files.now.old) in
    let new = world_of g.T.Sources c.args.new.now (paths_in c.args.files.now.new) in
    let error : GateError = c.in_err-compiled.field-0.0 in
    IfErr-IsErrAnd c.from_residual.result (λ e. e ≡ error) (λ e. IsSidesError old new e) c.from_residual.ensures.1
    (λ e same. subst (λ e. IsSidesError old new e) (sym same) (of_old_side old new error c.in_err-compiled.ensures.refused))

pub returns-in_err-compiled-clause-old_reads : goal.returns-in_err-compiled-clause-old_reads
returns-in_err-compiled-clause-old_reads g c =
    passed g.S.Sources c.args.old.now _ c.from_residual.result (failures_at sides.Old) c.in_err-compiled.field-0.0 c.from_residual.ensures.1 c.in_err-compiled.ensures.reads

pub returns-in_err-compiled-clause-new_reads : goal.returns-in_err-compiled-clause-new_reads
returns-in_err-compiled-clause-new_reads g c =
    let old = world_of g.S.Sources c.args.old.now (paths_in c.args.files.now.old) in
    let error : GateError = c.in_err-compiled.field-0.0 in
    let none = new_alone ⊥ ⊥ ⊥ (IsFaultOfSide old) error c.in_err-compiled.ensures.refused in
    passed g.T.Sources c.args.new.now _ c.from_residual.result (failures_at sides.New) error c.from_residual.ensures.1
    (no_more g.T.Sources c.args.new.now _ _ none (unasked g.T.Sources c.args.new.now))

pub returns-in_err-new_side-clause-refused : goal.returns-in_err-new_side-clause-refused
returns-in_err-new_side-clause-refused g c =
    let old = world_of g.S.Sources c.args.old.now (paths_in c.args.files.now.old) in
    let new = world_of g.T.Sources c.args.new.now (paths_in c.args.files.now.new) in
    let error : GateError = c.in_err-new_side.field-0.0 in
    IfErr-IsErrAnd c.from_residual-in_err-new_side.result (λ e. e ≡ error) (λ e. IsSidesError old new e) c.from_residual-in_err-new_side.ensures.1
    (λ e same. subst (λ e. IsSidesError old new e) (sym same) (of_new_side old new c.in_ok-compiled.compiled.schema c.in_ok-compiled.ensures.compiled error c.in_err-new_side.ensures.refused))

pub returns-in_err-new_side-clause-old_reads : goal.returns-in_err-new_side-clause-old_reads
returns-in_err-new_side-clause-old_reads g c =
    let new = world_of g.T.Sources c.args.new.now (paths_in c.args.files.now.new) in
    let error : GateError = c.in_err-new_side.field-0.0 in
    let none = old_alone ⊥ ⊥ ⊥ (IsFaultOfSide new) error c.in_err-new_side.ensures.refused in
    passed g.S.Sources c.args.old.now _ c.from_residual-in_err-new_side.result (failures_at sides.Old) error c.from_residual-in_err-new_side.ensures.1
    (no_more g.S.Sources c.args.old.now _ _ none c.in_ok-compiled.ensures.reads)

pub returns-in_err-new_side-clause-new_reads : goal.returns-in_err-new_side-clause-new_reads
returns-in_err-new_side-clause-new_reads g c =
    passed g.T.Sources c.args.new.now _ c.from_residual-in_err-new_side.result (failures_at sides.New) c.in_err-new_side.field-0.0 c.from_residual-in_err-new_side.ensures.1
    c.in_err-new_side.ensures.reads

pub returns-clause-old_compiled : goal.returns-clause-old_compiled
returns-clause-old_compiled g c =
    let old = world_of g.S.Sources c.args.old.now (paths_in c.args.files.now.old) in
    subst (λ parts. IsSide old parts) (sym c.with_files-old_side.ensures) c.in_ok-compiled.ensures.compiled

pub returns-clause-new_compiled : goal.returns-clause-new_compiled
returns-clause-new_compiled g c =
    let new = world_of g.T.Sources c.args.new.now (paths_in c.args.files.now.new) in
    subst (λ parts. IsSide new parts) (sym c.with_files.ensures) c.in_ok-new_side.ensures.compiled
