use Rattle.std.proofs.Common.{◌≡◌, ℕ, ◌+◌, ◌<◌, ⊎_elim, List, Option, Some, None, true, ap, sym, ◌∙◌, subst, subst₂, arith, heap_items}
use Rattle.std.specs.declared.cmp.Reverse.{Reverse}
use Rattle.pg_least.specs.inner.Queues.{IsOneMore}
use Rattle.pg_least.specs.inner.Relaxing.{cost_at, waits}
use Rattle.pg_least.proofs.Steps.{inside, pushed_waits, pushed_itself, place_cases}
use Rattle.pg_least.proofs.relaxing.waiting.Goals as goal
use Rattle.pg_least.proofs.relaxing.waiting.Goals.{in-Some+in_ok-push, in_default}

Waits : List (Option ℕ) → ℕ → List (Reverse (ℕ × ℕ)) → Type 0
Waits costs at heap = (i c : ℕ) → i < at → cost_at costs i ≡ Some c → waits heap c i ≡ true

one_more : (costs : List (Option ℕ)) (at cost : ℕ) (heap more : List (Reverse (ℕ × ℕ))) → cost_at costs at ≡ Some cost → IsOneMore heap cost at more → Waits costs at heap → Waits costs (at + 1) more
unfolding Waits
one_more costs at cost heap more here pushed before i c below is =
    ⊎_elim (λ same. let costs_same : cost ≡ c = (let both : Some cost ≡ Some c = sym here ∙ ap (cost_at costs) (sym same) ∙ is in cc) in subst₂ (λ k d. waits more d k ≡ true) (sym same) costs_same (pushed_itself heap more cost at pushed))
    (λ apart. pushed_waits heap more cost at pushed c i (before i c (omega arith) is)) (place_cases i at)

none_more : (costs : List (Option ℕ)) (at : ℕ) (heap : List (Reverse (ℕ × ℕ))) → cost_at costs at ≡ None → Waits costs at heap → Waits costs (at + 1) heap
unfolding Waits
none_more costs at heap none before i c below is =
    ⊎_elim (λ same. absurd (let both : None ≡ Some c = sym none ∙ ap (cost_at costs) (sym same) ∙ is in cc)) (λ apart. before i c (omega arith) is) (place_cases i at)

pub loop-at-preserved : goal.loop-at-preserved
unfolding Waits
loop-at-preserved c =
    let costs = c.args.costs.now in
    let at = c.loop-at.at in
    elim c.match-costs-at.branch [
      | in-Some+in_ok-push w ↦ subst (λ q. Waits costs (at + 1) (heap_items q.heap)) (sym w.queue-is) (one_more costs at w.in-Some.cost (heap_items c.loop-at.queue.heap) (heap_items w.push.new.self.heap) w.in-Some.is w.in_ok-push.ensures c.loop-at.invariant)
      | in_default w ↦ subst (λ q. Waits costs (at + 1) (heap_items q.heap)) (sym w.queue-is) (none_more costs at (heap_items c.loop-at.queue.heap) w.in_default.is c.loop-at.invariant)
    ]

pub returns : goal.returns
returns c i cost is = let within = inside c.args.costs.now i cost is in let end = c.loop-at-test.false in c.loop-at.invariant i cost (omega arith) is
