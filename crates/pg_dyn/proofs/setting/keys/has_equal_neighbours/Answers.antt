-- Neighbours that rank alike have one key, and where there are none the keys rise.
use Rattle.std.proofs.Common.{◌≡◌, suc, ◌-◌, get_or, true≢false, sym, subst, ◌∙◌, arith}
use Rattle.std.specs.declared.cmp.Ordering.TheVariants.{Equal}
use Rattle.pg_dyn.specs.message.KeyOrder.{rank_cmp}
use Rattle.pg_dyn.specs.message.Seen.{leaf_of}
use Rattle.pg_dyn.proofs.lemmas.message.KeyLaws.{equal_behind, once_behind}
use Rattle.pg_dyn.proofs.setting.keys.has_equal_neighbours.Goals.{in-Equal, in_default}
use Rattle.pg_dyn.proofs.setting.keys.has_equal_neighbours.Goals as goal

pub returns-then-matches-clause-twice : goal.returns-then-matches-clause-twice
returns-then-matches-clause-twice c =
    λ e.
    let bs = c.args.sorted.now in
    let l = c.loop-next in
    let next : suc (l.next - 1) ≡ l.next = omega (arith, l.auto.next) in
    let first = c.index-sorted-next.result in
    let second = c.index-sorted-next-in-loop-next.result in
    let equal : rank_cmp (leaf_of (get_or bs (l.next - 1) first).now.0) (leaf_of (get_or bs l.next second).now.0) ≡ Equal =
    elim c.match-matches.branch [
      | in-Equal w ↦ sym c.rank.ensures ∙ w.in-Equal.is
      | in_default w ↦ absurd (true≢false (sym c.if-matches.true ∙ w.matches-is))
    ] in
    equal_behind bs (l.next - 1) first second (omega (arith, c.loop-next-test.true, l.auto.next)) c.requires.alike
    (subst (λ i. rank_cmp (leaf_of (get_or c.args.sorted.now (c.loop-next.next - 1) c.index-sorted-next.result).now.0) (leaf_of (get_or c.args.sorted.now i c.index-sorted-next-in-loop-next.result).now.0) ≡ Equal) (sym next) equal)

pub returns-clause-once : goal.returns-clause-once
returns-clause-once c =
    λ e. once_behind c.args.sorted.now c.requires.alike c.requires.sorted (λ k d e inside. c.loop-next.invariant k d e (omega (arith, inside, c.loop-next-test.false)))
