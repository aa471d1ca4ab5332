use Rattle.std.proofs.Common.{◌≡◌, true, false, List, get_or, ap, sym, ◌∙◌, subst}
use Rattle.std.proofs.lemmas.Bool.{not-true, not-false}
use Rattle.pg_pairs.specs.declared.choices.choice.Pair.{Pair}
use Rattle.pg_pairs.specs.inner.Seen.{AreSeen, has_pair}
use Rattle.pg_pairs.proofs.lemmas.graph.Grown.{grown_new, grown_again, one_more, seen_new, seen_again}
use Rattle.pg_pairs.proofs.graph.walking.add_unseen.Goals as goal
use Rattle.pg_pairs.proofs.graph.walking.add_unseen.Goals.{then-branch+in_ok-push, else-branch}

unset : Pair
unset = record { old = record { index = 0 }; new = record { index = 0 } }

pub loop-pair-preserved : goal.loop-pair-preserved
unfolding unset
loop-pair-preserved c =
    let ps = c.loop-pair.pairs.items in
    let x = get_or c.args.found.now c.loop-pair.pair-index unset in
    let (so_far, agrees) = c.loop-pair.invariant in
    let whole = one_more c.args.pairs.now.items c.args.found.now c.loop-pair.pair-index unset c.loop-pair-test.true ps so_far in
    elim c.if-branch.branch [
      | then-branch+in_ok-push w ↦
          let absent : has_pair ps x ≡ false = sym (agrees x) ∙ not-true _ (sym c.in_ok-insert.ensures.added ∙ w.if-branch.true) in
          let items = ap (λ v. v.items) w.pairs-is ∙ w.in_ok-push.ensures.items in (
            items ∙ sym (whole ∙ grown_new ps x absent),
            subst (λ (qs : List Pair). AreSeen qs c.insert.new.self) (sym items) (seen_new ps x c.loop-pair.seen c.insert.new.self agrees c.in_ok-insert.ensures.updates),
          )
      | else-branch w ↦
          let there : has_pair ps x ≡ true = sym (agrees x) ∙ not-false _ (sym c.in_ok-insert.ensures.added ∙ w.if-branch.false) in
          let items = ap (λ v. v.items) w.pairs-is in (
            items ∙ sym (whole ∙ grown_again ps x there),
            subst (λ (qs : List Pair). AreSeen qs c.insert.new.self) (sym items) (seen_again ps x c.loop-pair.seen c.insert.new.self agrees c.in_ok-insert.ensures.updates there),
          )
    ]
