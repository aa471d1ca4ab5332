use Rattle.std.proofs.Common.{◌≡◌, false, refl, ap, sym, ◌∙◌, subst}
use Rattle.std.specs.List.{list_any}
use Rattle.pg_schema.specs.declared.parts.Parts.{Parts}
use Rattle.pg_schema.specs.Parts.{shape_of}
use Rattle.pg_pairs.specs.bounds.Covering.{children}
use Rattle.pg_pairs.specs.graph.Edges.{is_pair}
use Rattle.pg_pairs.specs.graph.Reached.{IsReachedInOrder}
use Rattle.pg_pairs.specs.home.Returns.{packs}
use Rattle.pg_pairs.proofs.lemmas.home.ReturnSteps.{answers, unknown_returns}
use Rattle.pg_pairs.proofs.home.returning.returns.Goals as goal

pub returns-then-not-knows : goal.returns-then-not-knows
returns-then-not-knows c =
    let known : is_pair (shape_of c.new-graph.result.old.now) (shape_of c.new-graph.result.new.now) c.args.pair ≡ false = sym c.knows.ensures ∙ c.if-not-knows.true in
    let here : is_pair (shape_of c.args.old.now) (shape_of c.args.new.now) c.args.pair ≡ false =
    subst (λ (old : Parts). is_pair (shape_of old) (shape_of c.args.new.now) c.args.pair ≡ false) c.new-graph.ensures.old
    (subst (λ (new : Parts). is_pair (shape_of c.new-graph.result.old.now) (shape_of new) c.args.pair ≡ false) c.new-graph.ensures.new known) in
    ((λ is. unknown_returns (shape_of c.args.old.now) (shape_of c.args.new.now) c.args.pair here), (λ returns. refl))

pub returns : goal.returns
returns c =
    let walked : IsReachedInOrder (children (shape_of c.args.old.now) (shape_of c.args.new.now)) c.args.pair c.in_ok-pairs.pairs.items =
    subst (λ (old : Parts). IsReachedInOrder (children (shape_of old) (shape_of c.args.new.now)) c.args.pair c.in_ok-pairs.pairs.items) c.new-graph.ensures.old
    (subst (λ (new : Parts). IsReachedInOrder (children (shape_of c.new-graph.result.old.now) (shape_of new)) c.args.pair c.in_ok-pairs.pairs.items) c.new-graph.ensures.new c.in_ok-pairs.ensures.in_order) in
    answers (shape_of c.args.old.now) (shape_of c.args.new.now) c.args.pair c.in_ok-pairs.pairs.items walked c.one_packs.result
    (c.one_packs.ensures ∙ ap (list_any (packs (shape_of c.args.old.now) (shape_of c.args.new.now))) c.deref.ensures.value)
