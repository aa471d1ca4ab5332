use Rattle.std.proofs.Common.{◌≡◌, Some, ap, sym, ◌∙◌, subst}
use Rattle.pg_schema.specs.Parts.{shape_of}
use Rattle.pg_pairs.specs.witness.Carried.{choice_child}
use Rattle.pg_pairs.specs.graph.GraphView.{seen}
use Rattle.pg_cert.specs.Certificate.{bound_in}
use Rattle.pg_least.specs.inner.Descent.{IsPathDown, first_step}
use Rattle.pg_least.proofs.Descents.{child_number, costs_less, first_on, last_step, number_of, path_on}
use Rattle.pg_least.proofs.witness.steps_down.Goals as goal

pub step_at-requires-in-Some-clause-number : goal.step_at-requires-in-Some-clause-number
step_at-requires-in-Some-clause-number c =
    let enum_view = seen c.args.graph.now in
    let old = shape_of c.args.graph.now.old.now in
    let new = shape_of c.args.graph.now.new.now in
    let table = bound_in c.args.bounds.now in
    let last = c.loop-child.last in
    let step = last_step enum_view old new table c.loop-child.steps.items last c.loop-child.invariant.0 in
    let there = c.each_child_costs_less.ensures enum_view old new table c.sees.ensures c.parts.ensures.checked.shape c.parts-2.ensures.checked.shape last.pair last.choice step.among in
    let (n, bound, less) = child_number enum_view old new table c.in-Some.child last.choice (choice_child old new last.pair last.choice) (sym c.in-Some.ensures) there in
    number_of table c.in-Some.child n bound

pub loop-child-smaller : goal.loop-child-smaller
loop-child-smaller c =
    let enum_view = seen c.args.graph.now in
    let old = shape_of c.args.graph.now.old.now in
    let new = shape_of c.args.graph.now.new.now in
    let table = bound_in c.args.bounds.now in
    let last = c.loop-child.last in
    let step = last_step enum_view old new table c.loop-child.steps.items last c.loop-child.invariant.0 in
    let there = c.each_child_costs_less.ensures enum_view old new table c.sees.ensures c.parts.ensures.checked.shape c.parts-2.ensures.checked.shape last.pair last.choice step.among in
    costs_less enum_view old new table c.in-Some.child last.choice (choice_child old new last.pair last.choice) c.in_ok-last-2.last (sym c.in-Some.ensures) there c.in_ok-last-2.ensures.pair c.in_ok-last-2.ensures.step

pub loop-child-preserved : goal.loop-child-preserved
loop-child-preserved c =
    let enum_view = seen c.args.graph.now in
    let old = shape_of c.args.graph.now.old.now in
    let new = shape_of c.args.graph.now.new.now in
    let table = bound_in c.args.bounds.now in
    let last = c.loop-child.last in
    let next = c.in_ok-last-2.last in
    let more = sym c.in_ok-push.ensures.items in (
      subst (λ steps. IsPathDown enum_view old new table steps next) more
          (path_on enum_view old new table c.loop-child.steps.items last next c.loop-child.invariant.0 (sym c.in-Some.ensures ∙ ap Some (sym c.in_ok-last-2.ensures.pair)) c.in_ok-last-2.ensures.step),
      subst (λ steps. (first_step steps next).pair ≡ c.args.pair) more (ap (λ s. s.pair) (first_on c.loop-child.steps.items last next) ∙ c.loop-child.invariant.1),
    )
