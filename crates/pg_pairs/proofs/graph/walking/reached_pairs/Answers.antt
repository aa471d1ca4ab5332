use Rattle.std.proofs.Common.{◌∷◌, [], Ok, Err, IfOk, Result}
use Rattle.pg_pairs.specs.graph.Reached.{IsReachedFrom, IsReachedInOrder}
use Rattle.pg_pairs.proofs.lemmas.graph.Reaching.{from_one_root}
use Rattle.pg_pairs.proofs.graph.walking.reached_pairs.Goals as goal

if_ok_so : {A E : Type 0} (P Q : A → Type 0) → ((x : A) → P x → Q x) → (r : Result A E) → IfOk r P → IfOk r Q
if_ok_so P Q so (Ok x) h = so x h
if_ok_so P Q so (Err e) h = tt

pub returns-clause-in_order : goal.returns-clause-in_order
returns-clause-in_order g c =
    let kids = g.G.Prices.children_of c.args.graph.now in
    if_ok_so (λ pairs. IsReachedFrom kids (c.args.root ∷ []) pairs.items) (λ pairs. IsReachedInOrder kids c.args.root pairs.items)
    (λ pairs reached. from_one_root kids c.args.root pairs.items reached) c.reached_from.result c.reached_from.ensures.in_order
