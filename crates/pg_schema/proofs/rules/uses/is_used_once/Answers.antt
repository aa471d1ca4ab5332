use Rattle.std.proofs.Common.{◌∙◌, ap, rules}
use Rattle.std.proofs.lemmas.List.Sorted.{IsNonDecreasingBy-from_sort_by_key}
use Rattle.pg_schema.specs.declared.rules.uses.Use.{Use}
use Rattle.pg_schema.specs.inner.Steps.{all_neighbours}
use Rattle.pg_schema.specs.inner.Steps.{comes_before}
use Rattle.pg_schema.proofs.lemmas.rules.UseLemmas.{used_once_is}
use Rattle.pg_schema.proofs.rules.uses.is_used_once.Goals as goal

pub returns : goal.returns
returns c =
    let sorted = c.sort_unstable_by_key.new.self.items in
    c.are_in_order.ensures ∙ (ap (all_neighbours (comes_before c.args.aliases)) c.deref.ensures.value
    ∙ used_once_is c.args.aliases c.args.uses.items sorted c.requires c.sort_unstable_by_key.ensures.permutation
    (IsNonDecreasingBy-from_sort_by_key (λ (u : Use). u.first) sorted c.sort_unstable_by_key.ensures.sorted (λ a r q k. search rules)))
