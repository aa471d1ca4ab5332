use Rattle.std.proofs.Common.{◌≡◌, ◌∙◌, ◌<◌, ◌++◌, ap, ap₂, map, subst, sym, Some}
use Rattle.std.proofs.lemmas.List.{map-append}
use Rattle.std.specs.List.{AllByRecursion}
use Rattle.pg_schema.specs.Parts.{shape_of}
use Rattle.pg_dyn.proofs.Lists.{each-append}
use Rattle.pg_pairs.specs.graph.GraphView.{seen}
use Rattle.pg_cert.specs.declared.bounds.PairBound.{PairBound}
use Rattle.pg_least.proofs.PublicLaws.{tables_by_lines}
use Rattle.pg_causes.specs.Causes.{IsCause, causes_at, told_in}
use Rattle.pg_causes.proofs.Going.{flat_more, nothing_at}
use Rattle.pg_causes.proofs.causing.causes_in.Goals.{in-Some+in_ok-more+in_ok-append, in_default}
use Rattle.pg_causes.proofs.causing.causes_in.Goals as goal

pub causes_of_line-requires : goal.causes_of_line-requires
causes_of_line-requires c none =
    let line = c.in-Some.line in
    let found = tables_by_lines.by_line c.args.bounds.now c.loop-index.index line c.len-index-end.ensures.checked (sym c.get.ensures ∙ c.in-Some.is) in
    c.requires line.pair (found ∙ ap Some none)

pub loop-index-preserved : goal.loop-index-preserved
loop-index-preserved c =
    elim c.match-get.branch [
      | in-Some+in_ok-more+in_ok-append w ↦
          let causes = causes_at (seen c.args.graph.now) (shape_of c.args.graph.now.old.now) (shape_of c.args.graph.now.new.now) in
          let holds = IsCause (seen c.args.graph.now) c.args.graph.now.old.now c.args.graph.now.new.now in
          let before = c.loop-index.told.items in
          let more = w.in_ok-more.more.items in
          let all : c.match-get.told.items ≡ before ++ more = ap (λ (v : _). v.items) w.told-is ∙ w.in_ok-append.ensures.items in
          let step = flat_more causes (λ (b : PairBound). b.pair) c.args.bounds.now c.loop-index.index w.in-Some.line (sym c.get.ensures ∙ w.in-Some.is) in
          record {
            are =
                ap (map told_in) all ∙ (map-append told_in before more
                ∙ (ap₂ (λ xs ys. xs ++ ys) c.loop-index.invariant.are w.in_ok-more.ensures.are ∙ sym step));
            each = subst (AllByRecursion holds) (sym all) (each-append holds before more c.loop-index.invariant.each w.in_ok-more.ensures.each);
          }
      | in_default w ↦
          absurd (nothing_at c.args.bounds.now c.loop-index.index (subst (λ n. c.loop-index.index < n) c.len-index-end.ensures.len c.loop-index-test.true) (λ x is. w.in_default.not-Some x (c.get.ensures ∙ is)))
    ]
