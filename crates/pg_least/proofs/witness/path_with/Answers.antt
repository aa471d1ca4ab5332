use Rattle.std.proofs.Common.{◌≡◌, ◌∙◌, List, [], ◌∷◌, ◌++◌, true, ap, is_some, subst, sym}
use Rattle.pg_schema.specs.Parts.{shape_of}
use Rattle.pg_pairs.specs.declared.choices.choice.Pair.{Pair}
use Rattle.pg_pairs.specs.choices.Choices.{number_for}
use Rattle.pg_pairs.specs.graph.GraphView.{seen}
use Rattle.pg_cert.specs.Certificate.{bound_in}
use Rattle.pg_cert.specs.declared.bounds.PairBound.{PairBound}
use Rattle.pg_least.specs.declared.witness.PairChoice.{PairChoice}
use Rattle.pg_least.specs.From.{IsExactTable}
use Rattle.pg_least.specs.inner.Descent.{first_step}
use Rattle.pg_least.specs.Searched.{IsPath}
use Rattle.pg_least.proofs.Descents.{whole_is_path}
use Rattle.pg_least.proofs.witness.path_with.Goals as goal

pub steps_down-requires-clause-exact : goal.steps_down-requires-clause-exact
steps_down-requires-clause-exact c =
    let enum_view = seen c.args.graph.now in
    subst (λ (bounds : List PairBound). IsExactTable enum_view (shape_of c.args.graph.now.old.now) (shape_of c.args.graph.now.new.now) (bound_in bounds)) (sym c.bounds.ensures) c.requires.searched.exact

pub steps_down-requires-clause-number : goal.steps_down-requires-clause-number
steps_down-requires-clause-number c =
    subst (λ (bounds : List PairBound). is_some (number_for (bound_in bounds) c.root-root.result) ≡ true) (sym c.bounds.ensures)
    (ap (λ (pair : Pair). is_some (number_for (bound_in c.args.certificate.now.bounds) pair)) c.root-root.ensures.root ∙ sym c.requires.searched.witness_where_it_breaks ∙ c.requires.breaks)

pub returns : goal.returns
returns c =
    let enum_view = seen c.args.graph.now in
    let old = shape_of c.args.graph.now.old.now in
    let new = shape_of c.args.graph.now.new.now in
    let steps = c.in_ok-steps.steps.items in
    let last = c.in_ok-steps.last in
    let all = c.push.new.self.items in
    let table = bound_in c.bounds.result.now in
    let whole = c.in_ok-steps.ensures.whole in
    let made : IsPath enum_view old new table (first_step steps last).pair (steps ++ last ∷ []) = whole_is_path enum_view old new table steps last whole.path whole.ends in
    let joined : IsPath enum_view old new table (first_step steps last).pair all =
    subst (λ (ss : List PairChoice). IsPath enum_view old new table (first_step steps last).pair ss) (sym c.in_ok-push.ensures.items) made in
    let rooted : IsPath enum_view old new table c.args.certificate.now.root all =
    subst (λ (pair : Pair). IsPath enum_view old new table pair all) (c.in_ok-steps.ensures.first ∙ c.root-root.ensures.root) joined in
    subst (λ (bounds : List PairBound). IsPath enum_view old new (bound_in bounds) c.args.certificate.now.root all) c.bounds.ensures rooted
