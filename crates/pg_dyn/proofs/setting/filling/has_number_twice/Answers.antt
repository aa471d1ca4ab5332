use Rattle.std.proofs.Common.{◌≡◌, ◌-◌, get_or, suc, ap, sym, ◌∙◌, arith, add-one, eq-eqb}
use Rattle.pg_dyn.proofs.lemmas.setting.WholeSteps.{of_field, pass_twice, rises_from}
use Rattle.pg_dyn.proofs.setting.filling.has_number_twice.Goals as goal

pub returns-then-contents-next-clause-twice : goal.returns-then-contents-next-clause-twice
returns-then-contents-next-clause-twice c =
    λ e.
    let l = c.loop-next in
    let next : suc (l.next - 1) ≡ l.next = omega (arith, l.auto.next) in
    let d = c.index-contents-next.result in
    let f = c.index-contents-next-in-loop-next.result in
    let number = (get_or c.args.contents.now l.next f).0 in
    let same : (get_or c.args.contents.now (suc (l.next - 1)) f).0 ≡ number = ap (λ i. (get_or c.args.contents.now i f).0) next in (
      number,
      pass_twice (of_field number) c.args.contents.now (l.next - 1) d f (omega (arith, c.loop-next-test.true, l.auto.next)) (eq-eqb (get_or c.args.contents.now (l.next - 1) d).0 number c.if-contents-next.true)
          (eq-eqb (get_or c.args.contents.now (suc (l.next - 1)) f).0 number same),
    )

pub returns-clause-rises : goal.returns-clause-rises
returns-clause-rises c =
    λ e. rises_from c.args.contents.now c.requires (λ k d inside same. c.loop-next.invariant k d (omega arith) (same ∙ ap (λ i. (get_or c.args.contents.now i d).0) (sym (add-one k))))
