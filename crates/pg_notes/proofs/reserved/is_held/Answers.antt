use Rattle.std.proofs.Common.{rules, nat_le, length, ap, arith, ◌≡◌, ◌∙◌, ◌-◌}
use Rattle.std.proofs.lemmas.List.Sorted.{IsPartitionPoint-from_clause}
use Rattle.pg_schema.specs.declared.parts.message_type.ReservedFields.{ReservedFields}
use Rattle.pg_notes.proofs.Reach.{IsPoint, none_held, partitioned, some_held, tops_length}
use Rattle.pg_notes.proofs.reserved.is_held.Goals as goal

pub returns-then-count-eq0 : goal.returns-then-count-eq0
returns-then-count-eq0 c =
    let rs = c.args.sorted.now in
    let count = c.partition_point-count in
    let point : IsPoint c.args.number rs count.result = IsPartitionPoint-from_clause (λ (r : ReservedFields). nat_le r.first c.args.number) rs count.result
    count.ensures.partitioned (partitioned c.args.number rs c.requires.order) (λ a r q k. search rules) in
    none_held c.args.number rs count.result point c.if-count-eq0.true

pub bounds-tops-count : goal.bounds-tops-count
bounds-tops-count c =
    let same : length c.args.tops.now ≡ length c.args.sorted.now = ap length c.requires.tops ∙ tops_length 0 c.args.sorted.now in
    omega (arith, same, c.partition_point-count.ensures.bound, c.if-count-eq0.false)

pub returns : goal.returns
returns c =
    let rs = c.args.sorted.now in
    let count = c.partition_point-count in
    let point : IsPoint c.args.number rs count.result = IsPartitionPoint-from_clause (λ (r : ReservedFields). nat_le r.first c.args.number) rs count.result
    count.ensures.partitioned (partitioned c.args.number rs c.requires.order) (λ a r q k. search rules) in
    some_held c.args.number rs c.args.tops.now count.result (count.result - 1) point count.ensures.bound (omega (arith, c.if-count-eq0.false)) c.requires.tops
