use Rattle.std.proofs.Common.{subst, sym}
use Rattle.std.proofs.lemmas.Result.{IfErr-weaker}
use Rattle.std.specs.Prelude.{IsTrue}
use Rattle.pg_gate.specs.answer.Lists.{IsUnreadable}
use Rattle.pg_gate.specs.inner.Lists.{IsNoText}
use Rattle.pg_gate.proofs.lemmas.answer.ListLemmas.{error_of-weaker, unreadable}
use Rattle.pg_gate.proofs.answer.lists.list_at.Goals as goal

pub returns-clause-refused : goal.returns-clause-refused
returns-clause-refused g c =
    let path = c.args.path.now in
    let bytes = c.deref.result.now in
    let give = g.S.Sources.may_give c.args.source.now in
    let lack = g.S.Sources.may_lack c.args.source.now in
    let given = subst (λ b. IsTrue (give path b)) (sym c.deref.ensures.value) c.in_ok-bytes.ensures.given in
    IfErr-weaker c.text_of.result _ _
    (λ error is. error_of-weaker (IsNoText path bytes) (IsUnreadable give lack path) c.args.side (unreadable give lack path bytes given) error is)
    c.text_of.ensures.refused
