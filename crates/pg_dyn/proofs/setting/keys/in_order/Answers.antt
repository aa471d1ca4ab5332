-- The references are sorted by what they refer to.
use Rattle.std.proofs.Common.{◌≡◌, List, subst, ◌∙◌, rules}
use Rattle.std.specs.List.Sorted.{IsPermutation}
use Rattle.std.specs.Ordering.{is_lt}
use Rattle.std.proofs.lemmas.List.{take_all}
use Rattle.std.proofs.lemmas.List.MinMax.{ranks_by}
use Rattle.std.proofs.lemmas.List.Sorted.{answers_always, IsPermutation-map}
use Rattle.pg_dyn.specs.declared.message.Value.{Value}
use Rattle.pg_dyn.specs.message.KeyOrder.{ranks_below}
use Rattle.pg_dyn.specs.message.Seen.{leaf_of}
use Rattle.pg_dyn.proofs.lemmas.message.KeyLaws.{Behind, rank_total, shown, sorted_shown}
use Rattle.pg_dyn.proofs.setting.keys.in_order.Goals as goal

pub returns-clause-moved : goal.returns-clause-moved
returns-clause-moved c =
    let all : shown c.loop-entry.sorted.items ≡ c.args.entries.now = c.loop-entry.invariant ∙ take_all c.loop-entry.entry-index c.args.entries.now c.loop-entry-test.false in
    subst (λ (es : List (Value × Value)). IsPermutation es (shown c.sort_unstable_by.new.self.items)) all
    (IsPermutation-map (λ (b : Behind). b.now) c.loop-entry.sorted.items c.sort_unstable_by.new.self.items c.sort_unstable_by.ensures.permutation)

pub returns-clause-sorted : goal.returns-clause-sorted
returns-clause-sorted c =
    sorted_shown c.sort_unstable_by.new.self.items
    (c.sort_unstable_by.ensures.sorted (λ (a : Behind) (b : Behind). ranks_below a.now b.now) (ranks_by rank_total (λ (b : Behind). leaf_of b.now.0)) (answers_always _ (λ a r. is_lt r ≡ ranks_below a.0.now.now a.1.0.now.now) _ (λ f a r g k. search rules)))
