use Rattle.std.proofs.Common.{◌≡◌, ◌+◌, ℕ, ◌∷◌, [], ◌++◌, List, Option, map, take, get_or, ap, sym, ◌∙◌, arith}
use Rattle.pg_pairs.specs.declared.choices.choice.Pair.{Pair}
use Rattle.pg_pairs.specs.declared.graph.work.Work.{Work}
use Rattle.pg_pairs.specs.graph.Works.{opened_more}
use Rattle.pg_least.specs.inner.Graphs.{opened_by}
use Rattle.pg_pairs.proofs.lemmas.graph.Grown.{take_more}
use Rattle.pg_least.proofs.Tables.{map-end}
use Rattle.pg_least.proofs.least_bounds.bases_of.Goals as goal

unset : Pair
unset = record { old = record { index = 0 }; new = record { index = 0 } }

one_more : (k : ℕ) (work : Work) → opened_more (opened_by k work) ≡ opened_by (k + 1) work
one_more k work = let sum : work.opened + k + 1 ≡ work.opened + (k + 1) = omega arith in ap (λ r. record { settled = work.settled; relaxed = work.relaxed; opened = r }) sum

pub loop-pair-preserved : goal.loop-pair-preserved
unfolding unset
loop-pair-preserved g c =
    let base = g.G.Prices.base_of c.args.graph.now in
    let ps = c.args.pairs.now in
    let k = c.loop-pair.pair-index in
    record {
      bases =
          c.in_ok-add_base.ensures.base ∙ ap (λ (os : List (Option ℕ)). os ++ base (get_or ps k unset) ∷ []) c.loop-pair.invariant.bases
          ∙ sym (map-end base (take k ps) (get_or ps k unset)) ∙ ap (map base) (sym (take_more ps k unset c.loop-pair-test.true));
      counted = c.in_ok-add_base.ensures.counted ∙ ap opened_more c.loop-pair.invariant.counted ∙ one_more k c.args.work.now;
    }
