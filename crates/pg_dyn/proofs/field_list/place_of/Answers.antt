-- The numbers rise, so those below the given one are in front.
use Rattle.std.proofs.Common.{◌<◌, ◌≤◌, ltb, sym, rules}
use Rattle.std.proofs.lemmas.List.Sorted.{IsPartitionPoint-from_clause, IsPartitionedBy-ltb}
use Rattle.pg_dyn.proofs.lemmas.message.FieldListLaws.{non_decreasing, take_all_within, drop_all_within, all_below_last, ltb-less, ltb-not_less}
use Rattle.pg_dyn.proofs.field_list.place_of.Goals as goal

pub returns-in_default-clause-below : goal.returns-in_default-clause-below
returns-in_default-clause-below g c =
    let parted = IsPartitionedBy-ltb (λ f. f.0) _ c.args.number (non_decreasing _ c.requires) in
    let point = IsPartitionPoint-from_clause (λ f. ltb f.0 c.args.number) _ _ c.partition_point.ensures.partitioned parted (λ a r q k. search rules) in
    take_all_within (λ f. f.0 < c.args.number) _ _ c.partition_point.ensures.bound (λ k d low high. ltb-less _ _ (point.0 k d low high))

pub returns-in_default-clause-from_there : goal.returns-in_default-clause-from_there
returns-in_default-clause-from_there g c =
    let parted = IsPartitionedBy-ltb (λ f. f.0) _ c.args.number (non_decreasing _ c.requires) in
    let point = IsPartitionPoint-from_clause (λ f. ltb f.0 c.args.number) _ _ c.partition_point.ensures.partitioned parted (λ a r q k. search rules) in
    drop_all_within (λ f. c.args.number ≤ f.0) _ _ (λ k d low high. ltb-not_less _ _ (point.1 k d low high))

pub returns-in-Some-clause-below : goal.returns-in-Some-clause-below
returns-in-Some-clause-below g c =
    all_below_last _ c.args.number c.in-Some.last.now c.requires (λ d. sym (c.in-Some.ensures.item.3.1 d)) c.if-last-number.true
