use Rattle.std.proofs.Common.{◌≡◌, ◌-◌, ◌∙◌, List, true, false, ltb, leb, take, drop, length, length-drop, ap, subst, arith, rules}
use Rattle.std.specs.List.Sorted.{IsPartitionPoint}
use Rattle.std.proofs.lemmas.List.{take_all}
use Rattle.std.proofs.lemmas.List.Sorted.{IsNonDecreasingBy-drop, IsNonDecreasingBy-take, IsPartitionPoint-from_clause, IsPartitionedBy-leb, IsPartitionedBy-ltb}
use Rattle.pg_least.specs.declared.arcs.Arc.{Arc}
use Rattle.pg_least.proofs.ByChild.{cut}
use Rattle.pg_least.proofs.arcs.arcs_to.Goals as goal

pub returns : goal.returns
returns c =
    let arcs = c.args.arcs.now in
    let at = c.args.at in
    let start = c.partition_point-start.result in
    let count = c.partition_point-count.result in
    let rest = take (length arcs - start) (drop start arcs) in
    let same : rest ≡ drop start arcs = take_all (length arcs - start) (drop start arcs) (let long = length-drop start arcs in omega arith) in
    let lower : IsPartitionPoint (λ (y : Arc). ltb y.child at ≡ true) (λ (y : Arc). ltb y.child at ≡ false) arcs start =
    IsPartitionPoint-from_clause (λ (y : Arc). ltb y.child at) arcs start c.partition_point-start.ensures.partitioned (IsPartitionedBy-ltb (λ (y : Arc). y.child) arcs at c.requires) (λ a r f h. search rules) in
    let upper : IsPartitionPoint (λ (y : Arc). leb y.child at ≡ true) (λ (y : Arc). leb y.child at ≡ false) rest count =
    IsPartitionPoint-from_clause (λ (y : Arc). leb y.child at) rest count c.partition_point-count.ensures.partitioned
    (IsPartitionedBy-leb (λ (y : Arc). y.child) rest at (IsNonDecreasingBy-take (λ (y : Arc). y.child) (length arcs - start) (drop start arcs) (IsNonDecreasingBy-drop (λ (y : Arc). y.child) start arcs c.requires))) (λ a r f h. search rules) in
    ap (take count) same
    ∙ cut arcs at start count c.partition_point-start.ensures.bound (let k = ap length same in let le = c.partition_point-count.ensures.bound in omega arith) lower
    (subst (λ (ys : List Arc). IsPartitionPoint (λ (y : Arc). leb y.child at ≡ true) (λ (y : Arc). leb y.child at ≡ false) ys count) same upper)
