use Rattle.std.proofs.Common.{rules, subst}
use Rattle.std.proofs.lemmas.List.Sorted.{IsNonDecreasingBy-from_sort_by_key}
use Rattle.std.specs.List.Sorted.{IsPermutation}
use Rattle.pg_schema.specs.declared.parts.message_type.ReservedFields.{ReservedFields}
use Rattle.pg_notes.proofs.reserved.by_first.Goals as goal

pub returns : goal.returns
returns c =
    let sorted = c.sort_unstable_by_key.new.self.items in
    record {
      same = subst (λ xs. IsPermutation xs sorted) c.in_ok-sorted.ensures.items c.sort_unstable_by_key.ensures.permutation;
      order = IsNonDecreasingBy-from_sort_by_key (λ (r : ReservedFields). r.first) sorted c.sort_unstable_by_key.ensures.sorted (λ a r q k. search rules);
    }
