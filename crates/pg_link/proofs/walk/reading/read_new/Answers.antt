use Rattle.std.proofs.Common.{ℕ, List, subst}
use Rattle.std.proofs.lemmas.Result.{err_from_is_err_and}
use Rattle.pg_link.specs.inner.Walking.{IsTextFault}
use Rattle.pg_link.proofs.lemmas.walk.WalkLaws.{read_fault, text_fault}
use Rattle.pg_link.proofs.walk.reading.read_new.Goals as goal

pub returns-in_err-bytes-clause-fault : goal.returns-in_err-bytes-clause-fault
returns-in_err-bytes-clause-fault g c =
    let p = err_from_is_err_and c.from_residual.result c.from_residual.ensures.1 in
    rw (p.1, p.2) (read_fault (g.S.Sources.may_give c.args.source.now) (g.S.Sources.may_lack c.args.source.now) c.args.folder.now c.args.others c.args.asking c.args.path.now
    c.in_err-bytes.field-0.0 c.in_err-bytes.ensures.fault)

pub returns-in_err-tree-clause-fault : goal.returns-in_err-tree-clause-fault
returns-in_err-tree-clause-fault g c =
    let p = err_from_is_err_and c.from_residual-in_err-tree.result c.from_residual-in_err-tree.ensures.1 in
    let fault : IsTextFault c.args.path.now c.in_ok-bytes.bytes.items c.in_err-tree.field-0.0 =
    subst (λ (t : List ℕ). IsTextFault c.args.path.now t c.in_err-tree.field-0.0) c.deref.ensures.value c.in_err-tree.ensures.fault in
    rw (p.1, p.2) (text_fault (g.S.Sources.may_give c.args.source.now) (g.S.Sources.may_lack c.args.source.now) c.args.folder.now c.args.others c.args.asking c.args.path.now
    c.in_ok-bytes.bytes.items c.in_err-tree.field-0.0 c.in_ok-bytes.ensures.given fault)
