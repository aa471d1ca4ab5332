use Rattle.std.proofs.Common.{◌++◌, ◌∷◌, [], List, None, take, get_or, ap, ap₂, sym, ◌∙◌, arith, true≢false}
use Rattle.std.proofs.lemmas.List.{take_all}
use Rattle.pg_pairs.specs.declared.choices.choice.Pair.{Pair}
use Rattle.pg_cert.specs.declared.bounds.PairBound.{PairBound}
use Rattle.pg_cert.specs.Certificate.{are_bounds}
use Rattle.pg_least.specs.inner.Graphs.{lines}
use Rattle.pg_least.proofs.Bounding.{lines_more, once_lines, takes_long}
use Rattle.pg_pairs.proofs.lemmas.graph.Grown.{take_more}
use Rattle.pg_least.proofs.least_bounds.table_of.Goals as goal

unset : Pair
unset = record { old = record { index = 0 }; new = record { index = 0 } }

pub loop-at-preserved : goal.loop-at-preserved
unfolding unset
loop-at-preserved c =
    let ps = c.args.pairs.now in
    let cs = c.args.costs.now in
    let at = c.loop-at.at in
    c.in_ok-push.ensures.items ∙ ap (λ (bs : List PairBound). bs ++ record { pair = get_or ps at unset; bound = get_or cs at None } ∷ []) c.loop-at.invariant
    ∙ sym (lines_more (take at ps) (take at cs) (get_or ps at unset) (get_or cs at None) (takes_long at ps cs c.requires.long))
    ∙ ap₂ lines (sym (take_more ps at unset c.loop-at-test.true)) (sym (take_more cs at None (let inside = c.loop-at-test.true in let long = c.requires.long in omega arith)))

pub unreachable-requires : goal.unreachable-requires
unreachable-requires c =
    let items = c.loop-at.invariant ∙ ap₂ lines (take_all c.loop-at.at c.args.pairs.now c.loop-at-test.false) (take_all c.loop-at.at c.args.costs.now (let end = c.loop-at-test.false in let long = c.requires.long in omega arith)) in
    let broken = c.in-Err-Invariant-default.ensures.broken c.in-Err-Invariant-default.field-0-0-is in
    true≢false (sym (once_lines c.args.pairs.now c.args.costs.now c.requires.once c.requires.long c.requires.bounds) ∙ ap are_bounds (sym items) ∙ broken)

pub returns-in-Ok : goal.returns-in-Ok
returns-in-Ok c =
    c.in-Ok.ensures.table ∙ c.loop-at.invariant
    ∙ ap₂ lines (take_all c.loop-at.at c.args.pairs.now c.loop-at-test.false) (take_all c.loop-at.at c.args.costs.now (let end = c.loop-at-test.false in let long = c.requires.long in omega arith))
