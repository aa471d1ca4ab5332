use Rattle.std.proofs.Common.{◌≡◌, ◌∙◌, ◌+◌, ◌-◌, ◌<◌, ◌≤◌, false, take, length, sym, subst, arith}
use Rattle.pg_check.specs.rules.KeepsRules.{are_apart}
use Rattle.pg_check.specs.inner.ItemFaults.{at}
use Rattle.pg_check.specs.rules.ReservedItems.{overlap}
use Rattle.pg_check.proofs.lemmas.rules.InARow.{first_is}
use Rattle.pg_check.proofs.lemmas.rules.NoneLaws.{none_again}
use Rattle.pg_check.proofs.rules.overlaps.first_overlapping.Goals as goal

pub returns-then-branch : goal.returns-then-branch
returns-then-branch c = sym ((none_again overlap at c.args.items.now).1 (sym c.in_ok-are_apart.ensures ∙ c.if-branch.true))

pub returns : goal.returns
returns c =
    let l = c.loop-high in
    let less : l.low < l.high = l.invariant.rises in
    let bound : l.high ≤ length c.args.items.now = l.invariant.within in
    let near : l.high - l.low ≤ 1 = c.loop-high-test.false in
    let next : l.high ≡ l.low + 1 = omega (arith, less, near) in
    first_is overlap at c.args.items.now l.low (record { first = 0; last = 0; at = 0 }) (omega (arith, less, bound)) l.invariant.apart
    (subst (λ n. are_apart overlap (take n c.args.items.now) ≡ false) next l.invariant.again)
